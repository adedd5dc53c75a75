-- Sessions that end: by a commit, by a kill, or all of a transaction's at once.
use Rattle.std.proofs.Common.{◌≡◌, ◌≢◌, ◌==◌, ◌++◌, ◌<◌, if◌then◌else◌, ℕ, Bool, true, false, [], ◌∷◌, Option, Some, None, refl, sym, ap, subst, ◌∙◌, inl, inr}
use Rattle.std.proofs.lemmas.Bool.{cases_Bool, eq-eqb, eqb-true, ne_eqb}
use Rattle.vl_values.specs.declared.group.Group.{Group}
use Rattle.vl_values.specs.declared.group.Group.TheVariants.{Pre, Main, Post}
use Rattle.vl_values.specs.declared.key.Key.{Key}
use Rattle.vl_values.specs.declared.lost_why.LostWhy.{LostWhy}
use Rattle.vl_catalog.specs.declared.catalog.Catalog.{Catalog}
use Rattle.vl_port.specs.declared.carried.Carried.{Carried}
use Rattle.vl_port.specs.declared.carried.Carried.TheVariants.{Passed, LostBefore, LostAfter}
use Rattle.vl_port.specs.declared.change.Change.{Change}
use Rattle.vl_port.specs.declared.committed.Committed.{Committed}
use Rattle.vl_port.specs.declared.committed.Committed.TheVariants as outcome
use Rattle.vl_port.specs.declared.fate.Fate.{Fate}
use Rattle.vl_port.specs.declared.who.Who.{Who}
use Rattle.vl_port.specs.Acting.{settled}
use Rattle.vl_port.specs.Calls.{HasCommitted, PortView}
use Rattle.vl_port.specs.Carrying.{CommitCarries, CommitUses, Commits}
use Rattle.vl_port.specs.Life.{closed, dropped, loss_of, lost_as, without}
use Rattle.vl_port.specs.Serving.{Shards}
use Rattle.vl_port.specs.View.{View, has_group}
use Rattle.vl_port.proofs.Naming.{is_who-true}
use Rattle.vl_replay.specs.Ending.{CommitLeaves, EndsWhole, IsNoAct, committed_deed, committed_ends, was_done}
use Rattle.vl_replay.specs.Lanes.{IsLane}
use Rattle.vl_replay.specs.Showing.{Shows}
use Rattle.vl_run.specs.declared.deed.Deed.{Deed}
use Rattle.vl_run.specs.declared.deed.Deed.TheVariants as deeds
use Rattle.vl_run.specs.declared.ends.Ends.{Ends}
use Rattle.vl_run.specs.declared.ends.Ends.TheVariants as ends
use Rattle.vl_run.specs.declared.event.Event.{Event}
use Rattle.vl_run.specs.Allowed.{HasNothing}
use Rattle.vl_run.specs.Deeds.{commit_steps, deed_steps, steps_of}
use Rattle.vl_run.specs.Machine.{CanStepAll, Machine, after, after_all, ended_change, ended_holder, is_entry, is_on, key_place}
use Rattle.vl_run.specs.Machine.Step.{LetGo}
use Rattle.vl_run.specs.Replays.{Replays, cell_of, shards_cells}
use Rattle.vl_run.specs.Run.{Run, cells, is_broken, state}
use Rattle.vl_run.specs.Run.Point.{Happened}
use Rattle.vl_run.proofs.Laws.{nobody_goes}
use Rattle.vl_run.proofs.Replaying.{close_replays, settle_replays}
use Rattle.vl_replay.proofs.Blanks.{IsDeedInLane}
use Rattle.vl_replay.proofs.Moves.{all_then, moved, replays_by}

never : true ≡ false → ⊥
never same = cc

-- ---- a commit on a shard that stays up

up_by : (v w : View) → v ≡ w → w.up ≡ false → v.up ≡ true → ⊥
up_by v w is down up = never (sym up ∙ ap (λ (x : View). x.up) is ∙ down)

commits_leave : (old new : View) (who : Who) (told : Committed) → new.up ≡ true → Commits old who told new → new ≡ settled who old
commits_leave old new who outcome.Done up commits = commits
commits_leave old new who (outcome.Lost why) up commits = absurd commits
commits_leave old new who outcome.Device up commits = absurd (up_by new _ commits.1 refl up)

uses_leave : (old new : View) (who : Who) (told : Committed) (loss : Option LostWhy) → new.up ≡ true → CommitUses loss old who told new → CommitLeaves (was_done Passed loss) who old new
uses_leave old new who told None up uses = commits_leave old new who told up uses
uses_leave old new who told (Some loss) up uses = uses.1

before_leaves : (old new : View) (who : Who) (loss : Option LostWhy) → new ≡ closed who old → CommitLeaves (was_done LostBefore loss) who old new
before_leaves old new who None is = is
before_leaves old new who (Some loss) is = is

after_leaves : (old new : View) (who : Who) (told : Committed) (loss : Option LostWhy) → new.up ≡ true → CommitUses loss old who told new → CommitLeaves (was_done LostAfter loss) who old new
after_leaves old new who told None up uses = commits_leave old new who told up uses
after_leaves old new who told (Some loss) up uses = uses.1

pub commit_leaves : (way : Carried) (old new : View) (who : Who) (told : Committed) → new.up ≡ true → CommitCarries way old who told new → CommitLeaves (was_done way (loss_of old who)) who old new
commit_leaves Passed old new who told up carried = uses_leave old new who told (loss_of old who) up carried
commit_leaves LostBefore old new who told up carried = before_leaves old new who (loss_of old who) carried.1
commit_leaves LostAfter old new who told up carried = after_leaves old new who carried.1.0 (loss_of old who) up carried.1.1

-- a commit that is told as done was done
told_done : (loss : Option LostWhy) (old new : View) (who : Who) → CommitUses loss old who outcome.Done new → was_done Passed loss ≡ true
told_done None old new who uses = refl
told_done (Some loss) old new who uses = absurd (cc (uses.0))

pub done_was_done : (way : Carried) (old new : View) (who : Who) → CommitCarries way old who outcome.Done new → was_done way (loss_of old who) ≡ true
done_was_done Passed old new who carried = told_done (loss_of old who) old new who carried
done_was_done LostBefore old new who carried = absurd (cc (carried.0))
done_was_done LostAfter old new who carried = absurd (cc (carried.0))

-- ---- a shard on which all sessions of a transaction end

module _ (catalog : Catalog) (tx : ℕ) (mid new : Shards) (whole : EndsWhole tx mid new) where
  pub whole_cells : (k : Key) → shards_cells catalog new k ≡ after catalog (LetGo (ends.Whole tx)) (shards_cells catalog mid) k
  whole_cells k = λ i. record { row = (whole (key_place catalog k)).committed k i; change = (whole (key_place catalog k)).pending k i; holder = (whole (key_place catalog k)).holder k i }

-- nothing is left of a transaction that is over
holder_over : (tx place : ℕ) (h : Option Who) (who : Who) → ended_holder (ends.Whole tx) place h ≡ Some who → who.tx ≡ tx → ⊥
holder_over tx place None who held same = absurd (cc)
holder_over tx place (Some holder) who held same = by_tx (holder.tx == tx) refl held
  where
    by_tx : (b : Bool) → (holder.tx == tx) ≡ b → (if b then None else Some holder) ≡ Some who → ⊥
    by_tx true is held = absurd (cc (held))
    by_tx false is held = never (sym (eq-eqb who.tx tx same) ∙ ap (λ (o : Option Who). tx_in o) (sym held) ∙ is)
      where
        tx_in : Option Who → Bool
        tx_in None = false
        tx_in (Some w) = w.tx == tx

change_over : (tx place : ℕ) (c : Option Change) (change : Change) → ended_change (ends.Whole tx) place c ≡ Some change → change.who.tx ≡ tx → ⊥
change_over tx place None change changed same = absurd (cc)
change_over tx place (Some other) change changed same = by_tx (other.who.tx == tx) refl changed
  where
    by_tx : (b : Bool) → (other.who.tx == tx) ≡ b → (if b then None else Some other) ≡ Some change → ⊥
    by_tx true is changed = absurd (cc (changed))
    by_tx false is changed = never (sym (eq-eqb change.who.tx tx same) ∙ ap (λ (o : Option Change). tx_in o) (sym changed) ∙ is)
      where
        tx_in : Option Change → Bool
        tx_in None = false
        tx_in (Some c) = c.who.tx == tx

module _ (catalog : Catalog) (past : Run) (e : Event) (tx : ℕ) (is : e.ends ≡ ends.Whole tx) where
  ended_state : state catalog (Happened e ∷ past) ≡ after catalog (LetGo (ends.Whole tx)) (after_all catalog (deed_steps catalog (cells catalog past) e.deed) (state catalog past))
  ended_state = ap (λ (g : Ends). after_all catalog (deed_steps catalog (cells catalog past) e.deed ++ LetGo g ∷ []) (state catalog past)) is ∙ all_then catalog (deed_steps catalog (cells catalog past) e.deed) (LetGo (ends.Whole tx)) (state catalog past)

  pub whole_has_nothing : HasNothing (state catalog (Happened e ∷ past)) tx
  whole_has_nothing = record {
    hand = λ k who held same. holder_over tx (key_place catalog k) (after_all catalog (deed_steps catalog (cells catalog past) e.deed) (state catalog past) k).holder who (ap (λ (u : Machine). (u k).holder) (sym ended_state) ∙ held) same;
    own = λ k change changed same. change_over tx (key_place catalog k) (after_all catalog (deed_steps catalog (cells catalog past) e.deed) (state catalog past) k).change change (ap (λ (u : Machine). (u k).change) (sym ended_state) ∙ changed) same;
  }

-- ---- steps without an act

-- a commit and an end may always be made
commit_can : (catalog : Catalog) (broken : ℕ → Bool) (u : Machine) (group : Option Group) (who : Who) (shard : ℕ) (gone : Ends) → CanStepAll catalog broken u (commit_steps group who shard ++ LetGo gone ∷ [])
commit_can catalog broken u None who shard gone = (tt, tt)
commit_can catalog broken u (Some Pre) who shard gone = (tt, (tt, tt))
commit_can catalog broken u (Some Main) who shard gone = (tt, (tt, tt))
commit_can catalog broken u (Some Post) who shard gone = (tt, (tt, tt))

deed_can : (catalog : Catalog) (broken : ℕ → Bool) (u seen : Machine) (deed : Deed) (gone : Ends) → IsNoAct deed → CanStepAll catalog broken u (deed_steps catalog seen deed ++ LetGo gone ∷ [])
deed_can catalog broken u seen deeds.Nothing gone no_act = (tt, tt)
deed_can catalog broken u seen (deeds.Acts who shard act mark) gone no_act = absurd no_act
deed_can catalog broken u seen (deeds.Commits who shard) gone no_act = commit_can catalog broken u who.group who shard gone
deed_can catalog broken u seen (deeds.Fails who shard) gone no_act = (tt, tt)

pub ended_steps : (catalog : Catalog) (past : Run) (e : Event) → IsNoAct e.deed → CanStepAll catalog (is_broken past) (state catalog past) (steps_of catalog (cells catalog past) e)
ended_steps catalog past e no_act = deed_can catalog (is_broken past) (state catalog past) (cells catalog past) e.deed e.ends no_act

-- ---- the shards replay the run with the event

module _ (catalog : Catalog) (past : Run) (count : ℕ) (old : Shards) (shows : Shows catalog past count old) where
  -- all of a transaction ended, and nothing else was done
  pub nothing_replays : (tx : ℕ) (new : Shards) (e : Event) → EndsWhole tx old new → e.deed ≡ deeds.Nothing → e.ends ≡ ends.Whole tx → Replays catalog (Happened e ∷ past) new
  nothing_replays tx new e whole is gone = replays_by catalog past old shows.replays new e deeds.Nothing (ends.Whole tx) is gone tt (whole_cells catalog tx old new whole)

  pub failed_replays : (tx : ℕ) (who : Who) (shard : ℕ) (new : Shards) (e : Event) → EndsWhole tx old new → e.deed ≡ deeds.Fails who shard → e.ends ≡ ends.Whole tx → Replays catalog (Happened e ∷ past) new
  failed_replays tx who shard new e whole is gone = replays_by catalog past old shows.replays new e (deeds.Fails who shard) (ends.Whole tx) is gone tt (whole_cells catalog tx old new whole)

  module _ (who : Who) (shard : ℕ) (within : shard < count) (grouped : has_group who.group ≡ true) where
    ungrouped : who.group ≡ None → ⊥
    ungrouped none = never (sym grouped ∙ ap (λ (g : Option Group). has_group g) none)

    -- what the session has changed on its shard is in its lane
    commit_lane : IsDeedInLane catalog (shards_cells catalog old) (deeds.Commits who shard)
    commit_lane = (
      ungrouped,
      λ k change on changed own.
          subst (λ (w : Who). IsLane w.group (is_entry catalog k)) (is_who-true change.who who own)
          (shows.lanes.changes shard k change within (ap (λ (t : ℕ). (old t).pending k) (sym (eqb-true (key_place catalog k) shard on)) ∙ changed)),
    )

    -- a commit that was done
    pub settled_replays : (new : Shards) (e : Event) → ((t : ℕ) → t ≢ shard → new t ≡ old t) → new shard ≡ settled who (old shard) → e.deed ≡ deeds.Commits who shard → e.ends ≡ ends.Nobody → Replays catalog (Happened e ∷ past) new
    settled_replays new e others is deed gone = replays_by catalog past old shows.replays new e (deeds.Commits who shard) ends.Nobody deed gone commit_lane
        (λ k. settle_replays catalog shard old new others who is k ∙ sym (nobody_goes catalog (moved catalog past old shows.replays (deeds.Commits who shard)) k))

    -- and all sessions behind it ended
    pub settled_whole_replays : (tx : ℕ) (mid new : Shards) (e : Event) → ((t : ℕ) → t ≢ shard → mid t ≡ old t) → mid shard ≡ settled who (old shard) → EndsWhole tx mid new → e.deed ≡ deeds.Commits who shard → e.ends ≡ ends.Whole tx
        → Replays catalog (Happened e ∷ past) new
    settled_whole_replays tx mid new e others is whole deed gone = replays_by catalog past old shows.replays new e (deeds.Commits who shard) (ends.Whole tx) deed gone commit_lane
        (λ k. whole_cells catalog tx mid new whole k ∙ ap (λ (u : Machine). after catalog (LetGo (ends.Whole tx)) u k) (λ i j. settle_replays catalog shard old mid others who is j i))

    -- a commit that wasn't
    pub closed_replays : (new : Shards) (e : Event) → ((t : ℕ) → t ≢ shard → new t ≡ old t) → new shard ≡ closed who (old shard) → e.deed ≡ deeds.Fails who shard → e.ends ≡ ends.One who shard → Replays catalog (Happened e ∷ past) new
    closed_replays new e others is deed gone = replays_by catalog past old shows.replays new e (deeds.Fails who shard) (ends.One who shard) deed gone tt (λ k. close_replays catalog shard old new others who is k)

    -- a session that was killed: what it held and changed is gone as if it were closed
    pub killed_replays : (fate : Fate) (new : Shards) (e : Event) → ((t : ℕ) → t ≢ shard → new t ≡ old t) → new shard ≡ lost_as fate who (old shard) → e.deed ≡ deeds.Nothing → e.ends ≡ ends.One who shard → Replays catalog (Happened e ∷ past) new
    killed_replays fate new e others is deed gone = replays_by catalog past old shows.replays new e deeds.Nothing (ends.One who shard) deed gone tt (λ k. killed_cells k)
      where
        closing : Shards
        closing = λ t. if t == shard then closed who (old shard) else old t

        here : (b : Bool) → b ≡ true → (if b then closed who (old shard) else old shard) ≡ closed who (old shard)
        here b is = ap (λ (c : Bool). if c then closed who (old shard) else old shard) is

        closes : closing shard ≡ closed who (old shard)
        closes = here (shard == shard) (eq-eqb shard shard refl)

        apart : (t : ℕ) → t ≢ shard → closing t ≡ old t
        apart t other = ap (λ (c : Bool). if c then closed who (old shard) else old t) (ne_eqb t shard other)

        same_cell : (k : Key) (b : Bool) → has_group who.group ≡ b → b ≡ true → cell_of (lost_as fate who (old shard)) k ≡ cell_of (closed who (old shard)) k
        same_cell k b is yes_ = ap (λ (g : Bool). record { row = (old shard).committed k; change = if g then dropped who ((old shard).pending k) else (old shard).pending k; holder = if g then without who ((old shard).holder k) else (old shard).holder k }) (is ∙ yes_)

        killed_cells : (k : Key) → shards_cells catalog new k ≡ after catalog (LetGo (ends.One who shard)) (shards_cells catalog old) k
        killed_cells k = elim (cases_Bool (is_on catalog shard k)) [
          | inl on ↦ let at : key_place catalog k ≡ shard = eqb-true (key_place catalog k) shard on in
              ap (λ (t : ℕ). cell_of (new t) k) at ∙ ap (λ (v : View). cell_of v k) is ∙ same_cell k (has_group who.group) refl grouped
              ∙ ap (λ (v : View). cell_of v k) (sym closes) ∙ ap (λ (t : ℕ). cell_of (closing t) k) (sym at) ∙ close_replays catalog shard old closing apart who closes k
          | inr off ↦ let other : key_place catalog k ≢ shard = λ same. never (sym (eq-eqb (key_place catalog k) shard same) ∙ off) in
              ap (λ (v : View). cell_of v k) (others (key_place catalog k) other ∙ sym (apart (key_place catalog k) other)) ∙ close_replays catalog shard old closing apart who closes k
        ]

-- a commit, by whether it was done
module _ (catalog : Catalog) (past : Run) (count : ℕ) (old new : PortView) (who : Who) (shard : ℕ) (shows : Shows catalog past count old.shards) (within : shard < count) (grouped : has_group who.group ≡ true)
    (told : Committed) (commits : HasCommitted old who shard told new) (up : (new.shards shard).up ≡ true) where
  leaves_replay : (b : Bool) (e : Event) → CommitLeaves b who (old.shards shard) (new.shards shard) → e.deed ≡ committed_deed b who shard → e.ends ≡ committed_ends b who shard → Replays catalog (Happened e ∷ past) new.shards
  leaves_replay true e left deed gone = settled_replays catalog past count old.shards shows who shard within grouped new.shards e commits.others left deed gone
  leaves_replay false e left deed gone = closed_replays catalog past count old.shards shows who shard within grouped new.shards e commits.others left deed gone

  pub committed_replays : (e : Event) → e.deed ≡ committed_deed (was_done new.way (loss_of (old.shards shard) who)) who shard → e.ends ≡ committed_ends (was_done new.way (loss_of (old.shards shard) who)) who shard
      → Replays catalog (Happened e ∷ past) new.shards
  committed_replays e deed gone = leaves_replay (was_done new.way (loss_of (old.shards shard) who)) e (commit_leaves new.way (old.shards shard) (new.shards shard) who told up commits.settled) deed gone
