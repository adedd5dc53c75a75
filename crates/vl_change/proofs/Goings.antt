-- A program goes on after a write that was done, after a read, or after a try.
use Rattle.std.proofs.Common.{◌≡◌, ℕ, ◌+◌, ◌<◌, inl, inr, Bool, true, false, List, length, Option, Some, None, refl, subst, arith, ltb-true}
use Rattle.std.specs.Prelude.{nat_lt}
use Rattle.vl_values.specs.declared.key.Key.{Key}
use Rattle.vl_values.specs.declared.limit.Limit.{Limit as Quantity}
use Rattle.vl_values.specs.declared.cause.Cause.TheVariants.{OutOfMemory}
use Rattle.vl_catalog.specs.declared.catalog.Catalog.{Catalog}
use Rattle.vl_port.specs.declared.answer.Answer.{Answer}
use Rattle.vl_port.specs.declared.answer.Answer.TheVariants.{Done, Unchanged, Rows, Found, Held, Lost, Device, Limit, Memory}
use Rattle.vl_port.specs.declared.tx_state.TxState.{TxState}
use Rattle.vl_port.specs.View.{Values}
use Rattle.vl_change.specs.declared.action.Action.{Action}
use Rattle.vl_statement.specs.declared.program_told.ProgramTold.{ProgramTold}
use Rattle.vl_statement.specs.Effects.{IsWell}
use Rattle.vl_statement.specs.Refusing.{OrNoMemory}
use Rattle.vl_statement.specs.Tallies.{first_over}
use Rattle.vl_statement.specs.Waiting.{WaitsOn}
use Rattle.vl_change.specs.Answering.{Answered, Takes, refused}
use Rattle.vl_change.specs.Progress.{IsNearer, Progress, acts_done, with_rows, with_try, with_write}
use Rattle.vl_statement.proofs.Reached.{IsOfAct}

pub data Went (old : Progress) (action : Action) (limit : ℕ) (new : Progress) : Answer → Type 0 where
  Wrote : new ≡ with_write old → Went old action limit new Done
  Read : (rows : List (Key × Values)) → new ≡ with_rows action.shard rows old → Went old action limit new (Rows rows)
  Waited : (by : ℕ) (key : Key) → new ≡ with_try old → old.tries + 1 < limit → Went old action limit new (Held by key)

pub ended : {X : Type 0} (tells other : ProgramTold) → tells ≡ other → (IsWell other → ⊥) → IsWell tells → X
ended tells other is over going = absurd (over (subst IsWell is going))

or_ended : {X right : Type 0} (tx : TxState) (old : Progress) (tells : ProgramTold) → OrNoMemory tx old.wrote tells right → (right → X) → IsWell tells → X
or_ended tx old tells (inl none) next going = ended tells (refused tx old OutOfMemory) none (λ it. it) going
or_ended tx old tells (inr it) next going = next it

waits_on : (catalog : Catalog) (tx : TxState) (b : Bool) (old : Progress) (action : Action) (by : ℕ) (key : Key) (tells : ProgramTold) (new : Progress) → nat_lt (old.tries + 1) tx.limits.tries ≡ b
    → WaitsOn catalog tx b old.wrote old.tries by key tells (with_try old) new → IsWell tells → Went old action tx.limits.tries new (Held by key)
waits_on catalog tx true old action by key tells new below h going = Waited by key h.1 (ltb-true (old.tries + 1) tx.limits.tries below)
waits_on catalog tx false old action by key tells new below h going = or_ended tx old tells h (λ is. ended tells _ is (λ it. it) going) going

takes : (tx : TxState) (o : Option (Quantity × ℕ)) (old : Progress) (action : Action) (rows : List (Key × Values)) (tells : ProgramTold) (new : Progress) → Takes tx o old action.shard rows tells new → IsWell tells
    → Went old action tx.limits.tries new (Rows rows)
takes tx None old action rows tells new h going = or_ended tx old tells h (λ it. Read rows it.1) going
takes tx (Some limit) old action rows tells new h going = ended tells _ h (λ it. it) going

pub went : (catalog : Catalog) (tx : TxState) (old : Progress) (action : Action) (answer : Answer) (tells : ProgramTold) (new : Progress) → Answered catalog tx old action answer tells new → IsWell tells
    → Went old action tx.limits.tries new answer
went catalog tx old action Done tells new h going = Wrote h.1
went catalog tx old action (Rows rows) tells new h going = takes tx (first_over tx.limits old.search.tally rows) old action rows tells new h going
went catalog tx old action (Held by key) tells new h going = waits_on catalog tx (nat_lt (old.tries + 1) tx.limits.tries) old action by key tells new refl h going
went catalog tx old action (Found key row) tells new h going = absurd h
went catalog tx old action (Limit what count) tells new h going = ended tells _ h (λ it. it) going
went catalog tx old action (Lost why) tells new h going = ended tells _ h (λ it. it) going
went catalog tx old action Device tells new h going = ended tells _ h (λ it. it) going
went catalog tx old action Unchanged tells new h going = absurd h
went catalog tx old action Memory tells new h going = ended tells _ h (λ it. it) going

-- the answers after which it goes on are those of an act that was done
pub went_of_act : (old new : Progress) (action : Action) (limit : ℕ) (answer : Answer) → Went old action limit new answer → IsOfAct answer
went_of_act old new action limit answer (Wrote is) = tt
went_of_act old new action limit answer (Read rows is) = tt
went_of_act old new action limit answer (Waited by key is below) = tt

-- ---- nearer to the end, by one action

pub read_counts : (p : Progress) (shard : ℕ) (rows : List (Key × Values)) → acts_done (with_rows shard rows p) ≡ acts_done p + 1
read_counts p shard rows = omega arith

pub write_counts : (p : Progress) → acts_done (with_write p) ≡ acts_done p + 1
write_counts p = omega arith

pub reads_end : (p : Progress) (shard : ℕ) (rows : List (Key × Values)) → p.search.read < length p.search.shards → IsNearer p (with_rows shard rows p)
reads_end p shard rows within = inl (omega (arith, within))

pub writes_end : (p : Progress) → p.done < length p.writes → IsNearer p (with_write p)
writes_end p within = inr (refl, omega (arith, within))
