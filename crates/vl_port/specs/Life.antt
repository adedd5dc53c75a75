-- The life of a shard session: opened by its first act, lost or not, and ended by a commit or a close;
-- and of a shard: up or down, and what it becomes when it goes down and comes up.
use Rattle.std.specs.Prelude.{◌≡◌, ◌≤◌, ◌+◌, ◌⊎◌, ℕ, Bool, true, false, ◌==◌, ◌&&◌, if◌then◌else◌, Option, Some, None}
use Rattle.vl_values.specs.declared.lost_why.LostWhy.{LostWhy}
use Rattle.vl_values.specs.declared.lost_why.LostWhy.TheVariants as why
use Rattle.vl_port.specs.declared.change.Change.{Change}
use Rattle.vl_port.specs.declared.fate.Fate.{Fate}
use Rattle.vl_port.specs.declared.fate.Fate.TheVariants as fates
use Rattle.vl_port.specs.declared.opened.Opened.{Opened}
use Rattle.vl_port.specs.declared.who.Who.{Who}
use Rattle.vl_port.specs.View.{View, Values, is_who, has_group}

-- ---- whether a session is lost

-- why a session is lost that was opened at the incarnation it had. A Drop is told before a restart,
-- since the fate is looked at first
abbrev pub why_lost : Fate → ℕ → ℕ → Option LostWhy
why_lost fates.Live had current = if had == current then None else Some (why.Restarted had current)
why_lost fates.Dropped had current = Some why.Dropped
why_lost fates.Cut had current = Some why.Link

abbrev pub loss_in : ℕ → Option Opened → Option LostWhy
loss_in current None = None
loss_in current (Some session) = why_lost session.fate session.incarnation current

-- a session that isn't there isn't lost
abbrev pub loss_of : View → Who → Option LostWhy
loss_of view who = loss_in view.incarnation (view.sessions who)

abbrev pub is_alive : Fate → Bool
is_alive fates.Live = true
is_alive fates.Dropped = false
is_alive fates.Cut = false

abbrev pub lives_in : ℕ → Option Opened → Bool
lives_in current None = false
lives_in current (Some session) = is_alive session.fate && (session.incarnation == current)

-- a session that was opened, isn't lost, and whose shard is up
abbrev pub is_live : View → Who → Bool
is_live view who = view.up && lives_in view.incarnation (view.sessions who)

-- ---- opening, losing and ending a session

-- a session opens with its first act, at the shard's incarnation, and stays as it was opened
abbrev pub opened_at : ℕ → Option Opened → Option Opened
opened_at incarnation None = Some (record { incarnation = incarnation; fate = fates.Live })
opened_at incarnation (Some session) = Some session

abbrev pub opened : Who → View → View
opened who view = record view { sessions = λ w. if has_group who.group && is_who who w then opened_at view.incarnation (view.sessions w) else view.sessions w }

-- what a session held and changed falls away
abbrev pub without : Who → Option Who → Option Who
without who None = None
without who (Some holder) = if is_who holder who then None else Some holder

abbrev pub dropped : Who → Option Change → Option Change
dropped who None = None
dropped who (Some change) = if is_who change.who who then None else Some change

-- the session ends: its locks end and its pending versions fall away
abbrev pub closed : Who → View → View
closed who view = record view {
  pending = λ k. dropped who (view.pending k);
  holder = λ k. without who (view.holder k);
  sessions = λ w. if is_who who w then None else view.sessions w;
}

abbrev pub marked : Fate → Option Opened → Option Opened
marked fate None = None
marked fate (Some session) = Some (record session { fate = fate })

-- the session is lost: its locks end and its pending versions fall away at once, and it stays listed
-- with its fate. A read without a group has no session, and nothing to lose
abbrev pub lost_as : Fate → Who → View → View
lost_as fate who view = record view {
  pending = λ k. if has_group who.group then dropped who (view.pending k) else view.pending k;
  holder = λ k. if has_group who.group then without who (view.holder k) else view.holder k;
  sessions = λ w. if has_group who.group && is_who who w then marked fate (view.sessions w) else view.sessions w;
}

-- the session is lost by an act that it opened for
abbrev pub cut : Who → View → View
cut who view = lost_as fates.Cut who (opened who view)

-- ---- a shard that goes down and comes up

-- the shard goes down: no lock and no pending version outlives it. Its sessions stay listed, and are
-- lost by their incarnation
abbrev pub downed : View → View
downed view = record view {
  up = false;
  incarnation = view.incarnation + 1;
  pending = λ k. None;
  holder = λ k. None;
}

abbrev pub doubted : Who → Option Change → Option (Option Values)
doubted who None = None
doubted who (Some change) = if is_who change.who who then Some change.row else None

-- the shard goes down within the commit of a session: whether the session's changes are on its disk is
-- in doubt until it comes up
abbrev pub downed_in : Who → View → View
downed_in who view = record (downed view) { doubt = λ k. doubted who (view.pending k) }

abbrev pub decided : Option (Option Values) → Option Values → Option Values
decided None committed = committed
decided (Some row) committed = row

-- the shard comes up: what was in doubt shows in the committed versions, all of it or nothing
abbrev pub raised : Bool → View → View
raised shown view = record view {
  up = true;
  committed = λ k. if shown then decided (view.doubt k) (view.committed k) else view.committed k;
  doubt = λ k. None;
}

-- an act reaches a shard that is up, or opens one that is down
abbrev pub Reaches : View → View → Type 0
Reaches old new = ((old.up ≡ true) × (new ≡ old)) ⊎ ((old.up ≡ false) × ((shown : Bool) × (new ≡ raised shown old)))

-- the shard went down in this call
abbrev pub WentDown : View → View → Type 0
WentDown old new = old.incarnation + 1 ≤ new.incarnation
