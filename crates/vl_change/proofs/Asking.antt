-- The action that a step asks a port for is the one that is due.
use Rattle.std.proofs.Common.{◌≡◌, ℕ, ◌+◌, ◌<◌, inl, inr, Bool, true, false, List, length, Option, Some, None, sym, ap, ◌∙◌, subst}
use Rattle.std.specs.Prelude.{nat_lt}
use Rattle.std.proofs.lemmas.Option.{slice_get_within}
use Rattle.vl_values.specs.declared.cause.Cause.TheVariants.{OutOfMemory}
use Rattle.vl_values.specs.declared.group.Group.{Group}
use Rattle.vl_values.specs.declared.key.Key.{Key}
use Rattle.vl_values.specs.declared.limit.Limit.{Limit as Quantity}
use Rattle.vl_catalog.specs.declared.catalog.Catalog.{Catalog}
use Rattle.vl_port.specs.declared.act.Act.{Act}
use Rattle.vl_port.specs.declared.answer.Answer.{Answer}
use Rattle.vl_port.specs.declared.answer.Answer.TheVariants.{Done, Unchanged, Rows, Found, Held, Lost, Device, Limit, Memory}
use Rattle.vl_port.specs.declared.limits.Limits.{Limits}
use Rattle.vl_port.specs.declared.tx_state.TxState.{TxState}
use Rattle.vl_port.specs.Acting.{Acted}
use Rattle.vl_port.specs.Asking.{HasAnswered, IsSameTx, IsUnasked}
use Rattle.vl_port.specs.Calls.{PortView}
use Rattle.vl_port.specs.Placing.{IsActOn}
use Rattle.vl_port.specs.Transaction.{session_of}
use Rattle.vl_port.specs.View.{Values}
use Rattle.vl_change.specs.declared.action.Action.{Action}
use Rattle.vl_statement.specs.declared.program_told.ProgramTold.{ProgramTold}
use Rattle.vl_port.specs.Limiting.{is_full}
use Rattle.vl_statement.specs.Refusing.{limit_of_changes}
use Rattle.vl_statement.specs.Tallies.{first_over}
use Rattle.vl_change.specs.Answering.{Answered, Takes, TellsNext, refused}
use Rattle.vl_change.specs.Making.{IsMade}
use Rattle.vl_change.specs.Progress.{Progress, due, with_rows, with_try, with_write}
use Rattle.vl_change.specs.Stepping.{Did, Full, NoRoom, Stepped}
use Rattle.vl_change.proofs.Dues.{IsAt, done_writes, due_fits, due_is, never_found, never_unchanged, rows_read}
use Rattle.vl_statement.proofs.Reached.{done_there}
use Rattle.vl_statement.proofs.Waited.{told_alike, told_by, waits_for}

-- ---- the transaction is the same but for its list of sessions and its count of changes

pub limits_kept : (tx new : TxState) → IsSameTx tx new → new.limits.tries ≡ tx.limits.tries
limits_kept tx new same = ap (λ (l : Limits). l.tries) same.limits

next_for : (tx new : TxState) (o : Option Action) (p : Progress) (tells : ProgramTold) → TellsNext new o p tells → TellsNext (told_by tx new) o p tells
next_for tx new None p tells h = h
next_for tx new (Some action) p tells h = h

takes_for : (tx new : TxState) (o : Option (Quantity × ℕ)) (old : Progress) (shard : ℕ) (rows : List (Key × Values)) (tells : ProgramTold) (after : Progress) → Takes new o old shard rows tells after → Takes (told_by tx new) o old shard rows tells after
takes_for tx new None old shard rows tells after (inl h) = inl h
takes_for tx new None old shard rows tells after (inr h) = inr (next_for tx new (due (with_rows shard rows old)) (with_rows shard rows old) tells h.0, h.1)
takes_for tx new (Some limit) old shard rows tells after h = h

answer_for : (catalog : Catalog) (tx new : TxState) (old : Progress) (action : Action) (answer : Answer) (tells : ProgramTold) (after : Progress) → Answered catalog new old action answer tells after
    → Answered catalog (told_by tx new) old action answer tells after
answer_for catalog tx new old action Done tells after h = (next_for tx new (due (with_write old)) (with_write old) tells h.0, h.1)
answer_for catalog tx new old action (Rows rows) tells after h = takes_for tx new (first_over new.limits old.search.tally rows) old action.shard rows tells after h
answer_for catalog tx new old action (Held by key) tells after h = waits_for catalog tx new (nat_lt (old.tries + 1) new.limits.tries) old.wrote old.tries by key tells (with_try old) after h
answer_for catalog tx new old action (Found key row) tells after h = h
answer_for catalog tx new old action (Limit what count) tells after h = h
answer_for catalog tx new old action (Lost why) tells after h = h
answer_for catalog tx new old action Device tells after h = h
answer_for catalog tx new old action Unchanged tells after h = h
answer_for catalog tx new old action Memory tells after h = h

-- an answer means the same for the transaction as it was before
answered_for : (catalog : Catalog) (tx new : TxState) (old : Progress) (action : Action) (answer : Answer) (tells : ProgramTold) (after : Progress) → IsSameTx tx new → Answered catalog new old action answer tells after
    → Answered catalog tx old action answer tells after
answered_for catalog tx new old action answer tells after same answered = subst (λ (t : TxState). Answered catalog t old action answer tells after) (told_alike tx new same.limits same.auto same.single) (answer_for catalog tx new old action answer tells after answered)

-- ---- the action that is due

pub asked_fits : (catalog : Catalog) (count limit : ℕ) (p : Progress) (group : Group) (shard : ℕ) (act : Act) → IsMade catalog count limit p → IsAt (due p) group shard act → (shard < count) × IsActOn catalog shard act
asked_fits catalog count limit p group shard act made at =
    let fits = due_fits catalog count limit p at.action made (due_is p at.action at.is) in (
      subst (λ (s : ℕ). s < count) at.shard_is fits.0,
      subst (λ (s : ℕ). IsActOn catalog s act) at.shard_is (subst (λ (a : Act). IsActOn catalog at.action.shard a) at.act_is fits.1),
    )

-- a port answers `Done` to a write alone, which is one of those that are still to be done
pub done_within : (catalog : Catalog) (count limit : ℕ) (p : Progress) (group : Group) (shard : ℕ) (act : Act) (tx tx_new : TxState) (answer : Answer) (port after : PortView) → IsMade catalog count limit p → IsAt (due p) group shard act
    → HasAnswered port tx group shard act answer tx_new after → answer ≡ Done → p.done < length p.writes
done_within catalog count limit p group shard act tx tx_new answer port after made at asked is =
    let acts = subst (λ (it : Answer). HasAnswered port tx group shard act it tx_new after) is asked in
    let done = done_there port after (session_of tx group) shard act Done tt acts.acts in
    slice_get_within p.writes p.done at.action
    (done_writes catalog count limit p at.action (session_of tx group) done.there (after.shards shard) made (due_is p at.action at.is) (subst (λ (a : Act). Acted done.there (session_of tx group) a Done (after.shards shard)) (sym at.act_is) done.acted))

pub unchanged_never : (catalog : Catalog) (count limit : ℕ) (p : Progress) (group : Group) (shard : ℕ) (act : Act) (tx tx_new : TxState) (answer : Answer) (port after : PortView) → IsMade catalog count limit p → IsAt (due p) group shard act
    → HasAnswered port tx group shard act answer tx_new after → answer ≡ Unchanged → ⊥
unchanged_never catalog count limit p group shard act tx tx_new answer port after made at asked is =
    let acts = subst (λ (it : Answer). HasAnswered port tx group shard act it tx_new after) is asked in
    let done = done_there port after (session_of tx group) shard act Unchanged tt acts.acts in
    never_unchanged catalog count limit p at.action (session_of tx group) done.there (after.shards shard) made (due_is p at.action at.is)
    (subst (λ (a : Act). Acted done.there (session_of tx group) a Unchanged (after.shards shard)) (sym at.act_is) done.acted)

pub found_never : (catalog : Catalog) (count limit : ℕ) (p : Progress) (group : Group) (shard : ℕ) (act : Act) (tx tx_new : TxState) (answer : Answer) (port after : PortView) (key : Key) (row : Values) → IsMade catalog count limit p → IsAt (due p) group shard act
    → HasAnswered port tx group shard act answer tx_new after → answer ≡ Found key row → ⊥
found_never catalog count limit p group shard act tx tx_new answer port after key row made at asked is =
    let acts = subst (λ (it : Answer). HasAnswered port tx group shard act it tx_new after) is asked in
    let done = done_there port after (session_of tx group) shard act (Found key row) tt acts.acts in
    never_found catalog count limit p at.action (session_of tx group) done.there (after.shards shard) key row made (due_is p at.action at.is)
    (subst (λ (a : Act). Acted done.there (session_of tx group) a (Found key row) (after.shards shard)) (sym at.act_is) done.acted)

-- rows are given by a read, of a shard that is still to be read
pub read_within : (catalog : Catalog) (count limit : ℕ) (p : Progress) (group : Group) (shard : ℕ) (act : Act) (tx tx_new : TxState) (answer : Answer) (port after : PortView) (rows : List (Key × Values)) → IsMade catalog count limit p → IsAt (due p) group shard act
    → HasAnswered port tx group shard act answer tx_new after → answer ≡ Rows rows → p.search.read < length p.search.shards
read_within catalog count limit p group shard act tx tx_new answer port after rows made at asked is =
    let acts = subst (λ (it : Answer). HasAnswered port tx group shard act it tx_new after) is asked in
    let done = done_there port after (session_of tx group) shard act (Rows rows) tt acts.acts in
    let read = rows_read catalog count limit p at.action (session_of tx group) done.there (after.shards shard) rows made (due_is p at.action at.is)
    (subst (λ (a : Act). Acted done.there (session_of tx group) a (Rows rows) (after.shards shard)) (sym at.act_is) done.acted) in
    slice_get_within p.search.shards p.search.read at.action.shard read.at

-- ---- the step

full_at : (p : Progress) (tx : TxState) (group : Group) (shard : ℕ) (act : Act) (b : Bool) → (at : IsAt (due p) group shard act) → is_full tx act ≡ b → is_full tx at.action.act ≡ b
full_at p tx group shard act b at is = ap (is_full tx) at.act_is ∙ is

pub did_at : (catalog : Catalog) (p new : Progress) (tx tx_new : TxState) (port after : PortView) (tells : ProgramTold) (group : Group) (shard : ℕ) (act : Act) (answer : Answer) → IsAt (due p) group shard act → is_full tx act ≡ false
    → IsSameTx tx tx_new → HasAnswered port tx group shard act answer tx_new after → ((action : Action) → action.group ≡ group → action.shard ≡ shard → Answered catalog tx_new p action answer tells new)
    → Stepped catalog p tx port tells new tx_new after
did_at catalog p new tx tx_new port after tells group shard act answer at within same asked answered =
    Did at.action answer at.is (full_at p tx group shard act false at within)
    (subst (λ (g : Group). HasAnswered port tx g at.action.shard at.action.act answer tx_new after) (sym at.group_is)
    (subst (λ (s : ℕ). HasAnswered port tx group s at.action.act answer tx_new after) (sym at.shard_is)
    (subst (λ (a : Act). HasAnswered port tx group shard a answer tx_new after) (sym at.act_is) asked)))
    (answered_for catalog tx tx_new p at.action answer tells new same (answered at.action at.group_is at.shard_is))

pub no_room_at : (catalog : Catalog) (p new : Progress) (tx tx_new : TxState) (port after : PortView) (tells : ProgramTold) (group : Group) (shard : ℕ) (act : Act) → IsAt (due p) group shard act → is_full tx act ≡ false
    → IsUnasked port tx tx_new after → tells ≡ refused tx_new p OutOfMemory → Stepped catalog p tx port tells new tx_new after
no_room_at catalog p new tx tx_new port after tells group shard act at within none told_is =
    NoRoom at.action at.is (full_at p tx group shard act false at within) (told_is ∙ ap (λ (t : TxState). refused t p OutOfMemory) none.same) none

pub full_now : (catalog : Catalog) (p new : Progress) (tx tx_new : TxState) (port after : PortView) (tells : ProgramTold) (group : Group) (shard : ℕ) (act : Act) → IsAt (due p) group shard act → is_full tx act ≡ true
    → tells ≡ refused tx p (limit_of_changes tx) → tx_new ≡ tx → after ≡ port → Stepped catalog p tx port tells new tx_new after
full_now catalog p new tx tx_new port after tells group shard act at full told_is same shown = Full at.action at.is (full_at p tx group shard act true at full) told_is same shown
