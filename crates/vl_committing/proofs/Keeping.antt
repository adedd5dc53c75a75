-- What the next call asks for: a step opens no session, so each that is there was there before.
use Rattle.std.proofs.Common.{[], ◌≡◌, ◌∙◌, ◌==◌, ◌≤◌, ◌+◌, ◌-◌, if◌then◌else◌, nat_lt, ℕ, zero, suc, Bool, true, false, length, Option, Some, None, refl, sym, ap, subst, inl, inr, arith}
use Rattle.std.specs.Prelude.{slice_get}
use Rattle.std.specs.Option.{is_some}
use Rattle.std.proofs.lemmas.Bool.{ltb-false}
use Rattle.vl_values.specs.declared.group.Group.{Group}
use Rattle.vl_values.specs.declared.group.Group.TheVariants.{Pre, Main, Post}
use Rattle.vl_values.specs.declared.reply.Reply.{Reply}
use Rattle.vl_catalog.specs.declared.catalog.Catalog.{Catalog}
use Rattle.vl_port.specs.declared.committed.Committed.{Committed}
use Rattle.vl_port.specs.declared.committed.Committed.TheVariants as outcomes
use Rattle.vl_port.specs.declared.opened.Opened.{Opened}
use Rattle.vl_port.specs.declared.tx_state.TxState.{TxState}
use Rattle.vl_port.specs.declared.who.Who.{Who}
use Rattle.vl_port.specs.Calls.{PortView}
use Rattle.vl_port.specs.Life.{closed}
use Rattle.vl_port.specs.Serving.{Shards}
use Rattle.vl_port.specs.Transaction.{last_tx, listed, session_of}
use Rattle.vl_port.specs.View.{View, is_who}
use Rattle.vl_port.proofs.Enlisting.{in_new}
use Rattle.vl_port.proofs.Leaving.{same_or_other}
use Rattle.vl_port.proofs.Naming.{is_who-true}
use Rattle.vl_commit.specs.declared.commit_told.CommitTold.{CommitTold}
use Rattle.vl_commit.specs.declared.commit_told.CommitTold.TheVariants as told
use Rattle.vl_commit.specs.declared.failure.Failure.{Failure}
use Rattle.vl_commit.specs.declared.failure.Failure.TheVariants as failures
use Rattle.vl_commit.specs.Closing.{with_all_closed, with_closed}
use Rattle.vl_commit.specs.Sessions.{AreLeft, Session, sessions}
use Rattle.vl_commit.specs.Stepping.{CommitStepped, Committing, DealsWith, EndsAt, FailsIn, Goes}
use Rattle.vl_commit.specs.Stepping.CommitStepped.{Dealt, Idle}
use Rattle.vl_commit.proofs.Endings.{EndsOne, committed_ends}
use Rattle.vl_replay.specs.Showing.{IsOwned}
use Rattle.vl_replay.proofs.Refusals.{owned_less}
use Rattle.vl_session.specs.declared.purpose.Purpose.{Purpose}
use Rattle.vl_session.specs.declared.purpose.Purpose.TheVariants as purposes
use Rattle.vl_session.specs.declared.turn.Turn.{Turn}
use Rattle.vl_session.specs.Ready.{IsReady, IsTxIn}
use Rattle.vl_committing.specs.declared.dealt.Dealt.{Dealt as ADealt}
use Rattle.vl_committing.specs.Telling.{begins, counted, ended, next_of, told_as}

never : true ≡ false → ⊥
never same = cc

none_open : {X : Type 0} (o : Option X) → o ≡ None → is_some o ≡ true → ⊥
none_open None is some = never (sym some)
none_open (Some x) is some = cc

closed_or : {X : Type 0} (o : Option X) → (is_some o ≡ true → ⊥) → o ≡ None
closed_or None none = refl
closed_or (Some x) none = absurd (none refl)

-- each session that is there now was there before
abbrev pub Fewer : Shards → Shards → Type 0
Fewer old new = (t : ℕ) (w : Who) → is_some ((new t).sessions w) ≡ true → is_some ((old t).sessions w) ≡ true

-- ---- by a commit

fewer_by_end : (old new : Shards) (who : Who) (shard : ℕ) → EndsOne old new who shard → Fewer old new
fewer_by_end old new who shard ends t w there = elim (same_or_other t shard) [
  | inl here ↦ subst (λ (n : ℕ). is_some ((old n).sessions w) ≡ true) (sym here) (at_shard (is_who who w) refl (subst (λ (n : ℕ). is_some ((new n).sessions w) ≡ true) here there))
  | inr apart ↦ ap (λ (v : View). is_some (v.sessions w)) (sym (ends.others t apart)) ∙ there
]
  where
    at_shard : (b : Bool) → is_who who w ≡ b → is_some ((new shard).sessions w) ≡ true → is_some ((old shard).sessions w) ≡ true
    at_shard true is some = absurd (none_open ((new shard).sessions w) (subst (λ (x : Who). (new shard).sessions x ≡ None) (is_who-true who w is) ends.ended) some)
    at_shard false is some = ap (λ (o : Option Opened). is_some o) (sym (ends.strangers w is)) ∙ some

-- ---- by closes

gone_some : (b : Bool) (o : Option Opened) → is_some (if b then None else o) ≡ true → is_some o ≡ true
gone_some true o there = absurd (never (sym there))
gone_some false o there = there

one_less : (tx : TxState) (o : Option Session) (seen : Shards) → Fewer seen (with_closed tx o seen)
one_less tx None seen t w there = there
one_less tx (Some session) seen t w there = by_shard (t == session.1) there
  where
    by_shard : (b : Bool) → is_some ((if b then closed (session_of tx session.0) (seen t) else seen t).sessions w) ≡ true → is_some ((seen t).sessions w) ≡ true
    by_shard true there = gone_some (is_who (session_of tx session.0) w) ((seen t).sessions w) there
    by_shard false there = there

all_less : (tx : TxState) (from n : ℕ) (seen : Shards) → Fewer seen (with_all_closed tx from n seen)
all_less tx from zero seen t w there = there
all_less tx from (suc n) seen t w there = all_less tx from n seen t w (one_less tx (slice_get (sessions tx) (from + n)) (with_all_closed tx from n seen) t w there)

-- ---- by a step

module _ (c new : Committing) (tells : CommitTold) (mid : PortView) where
  fewer_goes : (next : Committing) (between : PortView) → Goes next tells new between mid → Fewer between.shards mid.shards
  fewer_goes next between goes t w there = ap (λ (p : PortView). is_some ((p.shards t).sessions w)) (sym goes.same) ∙ there

  fewer_ended : (it : Session) (why : Failure) (between : PortView) → EndsAt c it why between tells new mid → Fewer between.shards mid.shards
  fewer_ended it why between ended t w there =
      all_less c.tx (c.at + 1) (length (sessions c.tx) - (c.at + 1)) between.shards t w (ap (λ (v : View). is_some (v.sessions w)) (sym (ended.closed.closed t)) ∙ there)

  fewer_fails : (group : Group) (it : Session) (why : Failure) (between : PortView) → FailsIn group c it why between tells new mid → Fewer between.shards mid.shards
  fewer_fails Pre it why between fails = fewer_ended it why between fails
  fewer_fails Main it why between fails = fewer_ended it why between fails
  fewer_fails Post it why between goes = fewer_goes _ between goes

  fewer_deals : (outcome : Committed) (it : Session) (between : PortView) → DealsWith outcome c it between tells new mid → Fewer between.shards mid.shards
  fewer_deals outcomes.Done it between goes = fewer_goes _ between goes
  fewer_deals (outcomes.Lost why) it between fails = fewer_fails it.0 it (failures.Lost why) between fails
  fewer_deals outcomes.Device it between fails = fewer_fails it.0 it failures.Device between fails

  pub fewer_stepped : (old : PortView) → CommitStepped c old tells new mid → Fewer old.shards mid.shards
  fewer_stepped old (Idle none goes) = fewer_goes c old goes
  fewer_stepped old (Dealt it outcome between is commits deals) = λ t w there.
      fewer_by_end old.shards between.shards (session_of c.tx it.0) it.1 (committed_ends old between (session_of c.tx it.0) it.1 outcome commits) t w (fewer_deals outcome it between deals t w there)

pub unopened_stays : (old new : Shards) (next : ℕ) → Fewer old new → ((shard : ℕ) (who : Who) → who.tx ≡ next → (old shard).sessions who ≡ None) → (shard : ℕ) (who : Who) → who.tx ≡ next → (new shard).sessions who ≡ None
unopened_stays old new next fewer none shard who same = closed_or ((new shard).sessions who) (λ some. none_open ((old shard).sessions who) (none shard who same) (fewer shard who some))

-- ---- what the next call asks for

pub none_listed : (tx : TxState) (next : ℕ) (group : Group) → listed (next_of tx next) group ≡ []
none_listed tx next Pre = refl
none_listed tx next Main = refl
none_listed tx next Post = refl

module _ (catalog : Catalog) (count next : ℕ) (reply : Reply) (dealt : ADealt) (seen : Shards) (unopened : (shard : ℕ) (who : Who) → who.tx ≡ next → (seen shard).sessions who ≡ None) where
  begun_in : (tx : TxState) → next ≤ last_tx → IsTxIn count (next_of tx next) seen
  begun_in tx within = record {
    number = within;
    sessions = in_new (next_of tx next) count seen (none_listed tx next) (λ group shard below. unopened shard (session_of (next_of tx next) group) refl);
    owned = record { own = λ shard who below some same. absurd (none_open ((seen shard).sessions who) (unopened shard who same) some) };
  }

  begins_ready : (b : Bool) (tx : TxState) (n : ℕ) → nat_lt last_tx next ≡ b → IsReady catalog count seen (begins b dealt tx next n reply).work
  begins_ready true tx n is = tt
  begins_ready false tx n is = begun_in tx (omega (arith, ltb-false last_tx next is))

  ended_ready : (purpose : Purpose) (tx : TxState) (n : ℕ) → IsReady catalog count seen (ended purpose dealt tx next n reply).work
  ended_ready purposes.Statement tx n = tt
  ended_ready purposes.Commit tx n = tt
  ended_ready purposes.Begin tx n = begins_ready (nat_lt last_tx next) tx n refl
  ended_ready purposes.Autocommit tx n = tt

  pub told_ready : (purpose : Purpose) (c new : Committing) (tells : CommitTold) → new.tx ≡ c.tx → c.tx.number ≤ last_tx → IsOwned c.tx.number c.tx.session count seen → (tells ≡ told.More → AreLeft new.tx new.at count seen)
      → IsReady catalog count seen (told_as catalog next reply purpose dealt new tells).work
  told_ready purpose c new told.More same number owned left = record {
    number = subst (λ (t : TxState). t.number ≤ last_tx) (sym same) number;
    left = left refl;
    owned = subst (λ (t : TxState). IsOwned t.number t.session count seen) (sym same) owned;
  }
  told_ready purpose c new (told.Ok warnings) same number owned left = ended_ready purpose new.tx (counted (length warnings))
  told_ready purpose c new (told.Failed group done of_ shard why) same number owned left = tt

pub owned_stepped : (number session count : ℕ) (old new : Shards) → Fewer old new → IsOwned number session count old → IsOwned number session count new
owned_stepped number session count old new fewer owned = owned_less number session count old new fewer owned

-- so it is behind what else the function calls
pub ready_by : (catalog : Catalog) (count count_new : ℕ) (port port_new : PortView) (made turn : Turn) → count_new ≡ count → port_new ≡ port → turn ≡ made → IsReady catalog count port.shards made.work → IsReady catalog count_new port_new.shards turn.work
ready_by catalog count count_new port port_new made turn counts same is ready =
    subst (λ (t : Turn). IsReady catalog count_new port_new.shards t.work) (sym is)
    (subst (λ (n : ℕ). IsReady catalog n port_new.shards made.work) (sym counts) (subst (λ (p : PortView). IsReady catalog count p.shards made.work) (sym same) ready))
