-- The read that a step asks a port for is the one that is due.
use Rattle.std.proofs.Common.{◌≡◌, ◌↔◌, ◌⊎◌, ℕ, ◌+◌, inl, inr, Bool, true, false, List, length, Option, Some, None, refl, sym, ap, ◌∙◌, subst}
use Rattle.std.specs.Prelude.{Contains, IsTrue, nat_lt}
use Rattle.vl_values.specs.declared.cause.Cause.TheVariants as causes
use Rattle.vl_values.specs.declared.group.Group.{Group}
use Rattle.vl_values.specs.declared.key.Key.{Key}
use Rattle.vl_values.specs.declared.limit.Limit.{Limit as Quantity}
use Rattle.vl_catalog.specs.declared.catalog.Catalog.{Catalog}
use Rattle.vl_port.specs.declared.act.Act.{Act}
use Rattle.vl_port.specs.declared.answer.Answer.{Answer}
use Rattle.vl_port.specs.declared.answer.Answer.TheVariants.{Done, Unchanged, Rows, Found, Held, Lost, Device, Limit, Memory}
use Rattle.vl_port.specs.declared.tx_state.TxState.{TxState}
use Rattle.vl_port.specs.Asking.{HasAnswered, IsSameTx, IsUnasked, reader_in}
use Rattle.vl_port.specs.Calls.{HasActed, PortView}
use Rattle.vl_port.specs.Taking.{takes_keys}
use Rattle.vl_port.specs.Transaction.{listed}
use Rattle.vl_port.specs.View.{Values}
use Rattle.vl_statement.specs.declared.program_told.ProgramTold.{ProgramTold}
use Rattle.vl_statement.specs.Refusing.{refused}
use Rattle.vl_statement.proofs.Waited.{told_alike, told_by, waits_for}
use Rattle.vl_select.specs.Answering.{Answered, Goes, GoesTo, Takes, TakesOf}
use Rattle.vl_select.specs.Progress.{Action, Progress, due, passed, with_entries, with_rows, with_try}
use Rattle.vl_select.specs.Stepping.{Locked, Looked, NoRoom, Stepped}
use Rattle.vl_select.proofs.Dues.{IsAt}

-- ---- the transaction is the same but for its list of sessions

goes_for : (catalog : Catalog) (tx new : TxState) (o : Option Action) (p : Progress) (tells : ProgramTold) (after : Progress) → GoesTo catalog new o p tells after → GoesTo catalog (told_by tx new) o p tells after
goes_for catalog tx new None p tells after h = h
goes_for catalog tx new (Some action) p tells after h = h

or_goes_for : (catalog : Catalog) (tx new : TxState) (p : Progress) (tells : ProgramTold) (after : Progress) → (tells ≡ refused new false causes.OutOfMemory) ⊎ Goes catalog new p tells after → (tells ≡ refused (told_by tx new) false causes.OutOfMemory) ⊎ Goes catalog (told_by tx new) p tells after
or_goes_for catalog tx new p tells after (inl h) = inl h
or_goes_for catalog tx new p tells after (inr h) = inr (goes_for catalog tx new (due p) p tells after h)

takes_for : (catalog : Catalog) (tx new : TxState) (o : Option (Quantity × ℕ)) (old : Progress) (rows : List (Key × Values)) (tells : ProgramTold) (after : Progress) → Takes catalog new o old rows tells after → Takes catalog (told_by tx new) o old rows tells after
takes_for catalog tx new None old rows tells after h = or_goes_for catalog tx new (with_rows rows old) tells after h
takes_for catalog tx new (Some limit) old rows tells after h = h

takes_of_for : (catalog : Catalog) (tx new : TxState) (b : Bool) (old : Progress) (rows : List (Key × Values)) (tells : ProgramTold) (after : Progress) → TakesOf catalog new b old rows tells after → TakesOf catalog (told_by tx new) b old rows tells after
takes_of_for catalog tx new true old rows tells after h = or_goes_for catalog tx new (with_entries catalog rows old) tells after h
takes_of_for catalog tx new false old rows tells after h = takes_for catalog tx new (passed old.what new.limits old.tally rows) old rows tells after h

answer_for : (catalog : Catalog) (tx new : TxState) (old : Progress) (action : Action) (session : Bool) (answer : Answer) (tells : ProgramTold) (after : Progress) → Answered catalog new old action session answer tells after
    → Answered catalog (told_by tx new) old action session answer tells after
answer_for catalog tx new old action session (Rows rows) tells after h = takes_of_for catalog tx new (nat_lt old.looked (length old.entries)) old rows tells after h
answer_for catalog tx new old action session (Held by key) tells after h = waits_for catalog tx new (nat_lt (old.tries + 1) new.limits.tries) false old.tries by key tells (with_try old) after h
answer_for catalog tx new old action session (Limit what count) tells after h = h
answer_for catalog tx new old action session (Lost why) tells after h = h
answer_for catalog tx new old action session Device tells after h = h
answer_for catalog tx new old action session Memory tells after h = h
answer_for catalog tx new old action session Done tells after h = h
answer_for catalog tx new old action session Unchanged tells after h = h
answer_for catalog tx new old action session (Found key row) tells after h = h

-- an answer means the same for the transaction as it was before
answered_for : (catalog : Catalog) (tx new : TxState) (old : Progress) (action : Action) (session : Bool) (answer : Answer) (tells : ProgramTold) (after : Progress) → IsSameTx tx new → Answered catalog new old action session answer tells after
    → Answered catalog tx old action session answer tells after
answered_for catalog tx new old action session answer tells after same answered =
    subst (λ (t : TxState). Answered catalog t old action session answer tells after) (told_alike tx new same.limits same.auto same.single) (answer_for catalog tx new old action session answer tells after answered)

-- ---- the step

module _ (catalog : Catalog) (p new : Progress) (tx tx_new : TxState) (port after : PortView) (tells : ProgramTold) (group : Group) (shard : ℕ) (act : Act) (at : IsAt (due p) group shard act) where
  taken_at : (b : Bool) → takes_keys act ≡ b → takes_keys at.action.act ≡ b
  taken_at b is = ap takes_keys at.act_is ∙ is

  pub locked_at : (answer : Answer) → takes_keys act ≡ true → IsSameTx tx tx_new → HasAnswered port tx group shard act answer tx_new after
      → ((action : Action) → action.group ≡ group → action.shard ≡ shard → Answered catalog tx_new p action true answer tells new) → Stepped catalog p tx port tells new tx_new after
  locked_at answer takes same asked answered =
      Locked at.action answer at.is (taken_at true takes)
      (subst (λ (g : Group). HasAnswered port tx g at.action.shard at.action.act answer tx_new after) (sym at.group_is)
      (subst (λ (s : ℕ). HasAnswered port tx group s at.action.act answer tx_new after) (sym at.shard_is)
      (subst (λ (a : Act). HasAnswered port tx group shard a answer tx_new after) (sym at.act_is) asked)))
      (answered_for catalog tx tx_new p at.action true answer tells new same (answered at.action at.group_is at.shard_is))

  pub no_room_at : takes_keys act ≡ true → IsUnasked port tx tx_new after → tells ≡ refused tx_new false causes.OutOfMemory → Stepped catalog p tx port tells new tx_new after
  no_room_at takes none told_is = NoRoom at.action at.is (taken_at true takes) (told_is ∙ ap (λ (t : TxState). refused t false causes.OutOfMemory) none.same) none

-- the session is listed, or it isn't
same_bool : {P : Type 0} (a b : Bool) → (IsTrue a ↔ P) → (IsTrue b ↔ P) → a ≡ b
same_bool true true f g = refl
same_bool true false f g = sym (g.1 (f.0 refl))
same_bool false true f g = f.1 (g.0 refl)
same_bool false false f g = refl

pub looked_at : (catalog : Catalog) (p new : Progress) (tx : TxState) (port after : PortView) (tells : ProgramTold) (group : Group) (shard : ℕ) (act : Act) (at : IsAt (due p) group shard act) (session : Bool) (answer : Answer) → takes_keys act ≡ false
    → (IsTrue session ↔ Contains (listed tx group) shard) → ((there : Bool) × (IsTrue there ↔ Contains (listed tx group) shard) × HasActed port (reader_in tx group there) shard act answer after)
    → ((action : Action) → action.group ≡ group → action.shard ≡ shard → Answered catalog tx p action session answer tells new) → Stepped catalog p tx port tells new tx after
looked_at catalog p new tx port after tells group shard act at session answer plain is acts answered =
    let acts_by = subst (λ (b : Bool). HasActed port (reader_in tx group b) shard act answer after) (same_bool acts.0 session acts.1 is) acts.2 in
    Looked at.action session answer at.is (ap takes_keys at.act_is ∙ plain)
    (subst (λ (g : Group). IsTrue session ↔ Contains (listed tx g) at.action.shard) (sym at.group_is) (subst (λ (s : ℕ). IsTrue session ↔ Contains (listed tx group) s) (sym at.shard_is) is))
    (subst (λ (g : Group). HasActed port (reader_in tx g session) at.action.shard at.action.act answer after) (sym at.group_is)
    (subst (λ (s : ℕ). HasActed port (reader_in tx group session) s at.action.act answer after) (sym at.shard_is)
    (subst (λ (a : Act). HasActed port (reader_in tx group session) shard a answer after) (sym at.act_is) acts_by)))
    refl (answered at.action at.group_is at.shard_is)
