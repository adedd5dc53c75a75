-- What a step keeps and changes, by what it did.
use Rattle.std.proofs.Common.{◌≡◌, ◌⊎◌, ◌<◌, ℕ, ◌+◌, ◌∙◌, inl, inr, Bool, true, false, Option, Some, None, sym, ap, subst}
use Rattle.std.specs.Prelude.{nat_lt}
use Rattle.std.proofs.lemmas.Option.{slice_get_within}
use Rattle.vl_values.specs.declared.cause.Cause.{Cause}
use Rattle.vl_values.specs.declared.cause.Cause.TheVariants.{OutOfMemory}
use Rattle.vl_values.specs.declared.group.Group.{Group}
use Rattle.vl_values.specs.declared.group.Group.TheVariants.{Main}
use Rattle.vl_values.specs.declared.key.Key.{Key}
use Rattle.vl_catalog.specs.declared.catalog.Catalog.{Catalog}
use Rattle.vl_rules.specs.Order.{Checked}
use Rattle.vl_port.specs.declared.answer.Answer.{Answer}
use Rattle.vl_port.specs.declared.answer.Answer.TheVariants.{Done, Unchanged, Rows, Found, Held, Lost, Device, Limit, Memory}
use Rattle.vl_port.specs.declared.tx_state.TxState.{TxState}
use Rattle.vl_port.specs.declared.who.Who.{Who}
use Rattle.vl_port.specs.Acting.{Acted}
use Rattle.vl_port.specs.Asking.{HasAnswered, IsSameTx}
use Rattle.vl_port.specs.Calls.{HasActed, PortView}
use Rattle.vl_port.specs.Placing.{ArePlaced}
use Rattle.vl_port.specs.Serving.{Serves, Shards}
use Rattle.vl_port.specs.Transaction.{session_of}
use Rattle.vl_port.specs.View.{View}
use Rattle.vl_change.specs.declared.action.Action.{Action}
use Rattle.vl_statement.specs.declared.program_told.ProgramTold.{ProgramTold}
use Rattle.vl_statement.specs.declared.program_told.ProgramTold.TheVariants as told
use Rattle.vl_statement.specs.Refusing.{device_failed, limit_of_changes, refused_whole, session_lost}
use Rattle.vl_statement.specs.Effects.{HasLocksOf, HasPendingOf, IsWell, LeavesOpen}
use Rattle.vl_statement.specs.Waiting.{WaitsOn}
use Rattle.vl_change.specs.Answering.{Answered, TellsNext, refused}
use Rattle.vl_change.specs.Effects.{AreOwed, HasWritten, IsOwed}
use Rattle.vl_change.specs.Making.{IsMade}
use Rattle.vl_change.specs.Progress.{IsNearer, Progress, acts_done, due, with_try, with_write}
use Rattle.vl_change.specs.Stepping.{Did, Full, Idle, NoRoom, Stepped}
use Rattle.vl_change.proofs.Asking.{limits_kept}
use Rattle.vl_change.proofs.Dues.{IsDue, done_writes, due_fits, due_is, due_main, rows_read}
use Rattle.vl_change.proofs.Goings.{Read, Waited, Went, Wrote, ended, read_counts, reads_end, went, went_of_act, write_counts, writes_end}
use Rattle.vl_change.proofs.Keeping.{went_keeps}
use Rattle.vl_change.proofs.Owing.{IsUpFor, went_owes}
use Rattle.vl_statement.proofs.Leaving.{act_holds, act_pends}
use Rattle.vl_statement.proofs.Reached.{IsDone, done_there, held_up, reached_placed}
use Rattle.vl_change.proofs.Writings.{same_tx, went_written}

-- what a step asks for
pub record IsReady (catalog : Catalog) (count : ℕ) (seen : Shards) (tx : TxState) (p : Progress) : Type 0 where
  pub checked : Checked catalog
  pub serves : Serves catalog count seen
  pub made : IsMade catalog count tx.limits.tries p

-- ---- the action that was done

-- the session that acted is the transaction's main one
by_main : (catalog : Catalog) (count : ℕ) (p : Progress) (tx tx_new : TxState) (port after : PortView) (action : Action) (answer : Answer) → IsMade catalog count tx.limits.tries p → due p ≡ Some action
    → HasAnswered port tx action.group action.shard action.act answer tx_new after → HasActed port (session_of tx Main) action.shard action.act answer after
by_main catalog count p tx tx_new port after action answer made is asked =
    subst (λ (g : Group). HasActed port (session_of tx g) action.shard action.act answer after) (due_main catalog count tx.limits.tries p action made (due_is p action is)) asked.acts

within_count : (catalog : Catalog) (count : ℕ) (p : Progress) (tx : TxState) (action : Action) → IsMade catalog count tx.limits.tries p → due p ≡ Some action → action.shard < count
within_count catalog count p tx action made is = (due_fits catalog count tx.limits.tries p action made (due_is p action is)).0

-- a step after which the program goes on did its action, and how
pub record WentOn (catalog : Catalog) (count : ℕ) (old new : Progress) (tx : TxState) (port after : PortView) (action : Action) (answer : Answer) : Type 0 where
  pub goes : Went old action tx.limits.tries new answer
  pub due : IsDue old action
  pub done : IsDone port.shards after.shards (session_of tx Main) action.shard action.act answer
  pub up : IsUpFor (port.shards action.shard) (session_of tx Main)
  pub placed : ArePlaced catalog action.shard done.there

went_on : (catalog : Catalog) (count : ℕ) (old new : Progress) (tx tx_new : TxState) (port after : PortView) (tells : ProgramTold) (action : Action) (answer : Answer) → IsReady catalog count port.shards tx old → due old ≡ Some action
    → HasAnswered port tx action.group action.shard action.act answer tx_new after → Answered catalog tx old action answer tells new → IsWell tells → WentOn catalog count old new tx port after action answer
went_on catalog count old new tx tx_new port after tells action answer ready is asked answered well =
    let goes = went catalog tx old action answer tells new answered well in
    let done = done_there port after (session_of tx Main) action.shard action.act answer (went_of_act old new action tx.limits.tries answer goes) (by_main catalog count old tx tx_new port after action answer ready.made is asked) in
    let served = ready.serves.each action.shard (within_count catalog count old tx action ready.made is) in
    record {
      goes = goes;
      due = due_is old action is;
      done = done;
      up = λ key held. held_up (port.shards action.shard) (session_of tx Main) key served.kept held;
      placed = reached_placed catalog action.shard (port.shards action.shard) done.there done.reached served.placed;
    }

-- ---- a step after which no shard shows anything else

written_same : (seen after : Shards) (tx : TxState) (p : Progress) (shard : ℕ) → after ≡ seen → HasWritten seen tx p shard → HasWritten after tx p shard
written_same seen after tx p shard same before = subst (λ (s : Shards). HasWritten s tx p shard) (sym same) before

owed_same : (seen after : Shards) (tx : TxState) (p : Progress) (shard : ℕ) → after ≡ seen → AreOwed seen tx p shard → AreOwed after tx p shard
owed_same seen after tx p shard same before = subst (λ (s : Shards). AreOwed s tx p shard) (sym same) before

unmoved : (port after : PortView) → after ≡ port → after.shards ≡ port.shards
unmoved port after is = ap (λ (v : PortView). v.shards) is

-- ---- the statement's writes stand

session_kept : (tx new : TxState) (group : Group) → IsSameTx tx new → session_of new group ≡ session_of tx group
session_kept tx new group same = λ i. record { session = same.session i; tx = same.number i; group = Some group }

pub stepped_written : (catalog : Catalog) (count : ℕ) (old new : Progress) (tx tx_new : TxState) (port after : PortView) (tells : ProgramTold) → IsReady catalog count port.shards tx old → IsSameTx tx tx_new
    → Stepped catalog old tx port tells new tx_new after → (shard : ℕ) → HasWritten port.shards tx old shard → IsWell tells → HasWritten after.shards tx_new new shard
stepped_written catalog count old new tx tx_new port after tells ready same_tx_is (Idle none replied same unchanged shown) shard before well =
    same_tx after.shards tx tx_new new shard (session_kept tx tx_new Main same_tx_is)
    (subst (λ (p : Progress). HasWritten after.shards tx p shard) (sym same) (written_same port.shards after.shards tx old shard (unmoved port after shown) before))
stepped_written catalog count old new tx tx_new port after tells ready same_tx_is (Full action is full replied unchanged shown) shard before well = ended tells (refused tx old (limit_of_changes tx)) replied (λ it. it) well
stepped_written catalog count old new tx tx_new port after tells ready same_tx_is (NoRoom action is within replied unasked) shard before well = ended tells (refused tx old OutOfMemory) replied (λ it. it) well
stepped_written catalog count old new tx tx_new port after tells ready same_tx_is (Did action answer is within asked answered) shard before well =
    let on = went_on catalog count old new tx tx_new port after tells action answer ready is asked answered well in
    same_tx after.shards tx tx_new new shard (session_kept tx tx_new Main same_tx_is)
    (went_written catalog count tx.limits.tries old new action answer tx shard port.shards after.shards ready.made on.due on.done on.goes before)

-- ---- the rows that were found stand

owed_by_session : (seen : Shards) (tx tx_new : TxState) (p : Progress) (shard : ℕ) → session_of tx_new Main ≡ session_of tx Main → AreOwed seen tx p shard → AreOwed seen tx_new p shard
owed_by_session seen tx tx_new p shard same before = λ n action from at on. subst (λ (w : Who). IsOwed p.search (seen shard) w action) (sym same) (before n action from at on)

pub stepped_owed : (catalog : Catalog) (count : ℕ) (old new : Progress) (tx tx_new : TxState) (port after : PortView) (tells : ProgramTold) → IsReady catalog count port.shards tx old → IsSameTx tx tx_new
    → Stepped catalog old tx port tells new tx_new after → (shard : ℕ) → AreOwed port.shards tx old shard → IsWell tells → AreOwed after.shards tx_new new shard
stepped_owed catalog count old new tx tx_new port after tells ready same_tx_is (Idle none replied same unchanged shown) shard before well =
    owed_by_session after.shards tx tx_new new shard (session_kept tx tx_new Main same_tx_is)
    (subst (λ (p : Progress). AreOwed after.shards tx p shard) (sym same) (owed_same port.shards after.shards tx old shard (unmoved port after shown) before))
stepped_owed catalog count old new tx tx_new port after tells ready same_tx_is (Full action is full replied unchanged shown) shard before well = ended tells (refused tx old (limit_of_changes tx)) replied (λ it. it) well
stepped_owed catalog count old new tx tx_new port after tells ready same_tx_is (NoRoom action is within replied unasked) shard before well = ended tells (refused tx old OutOfMemory) replied (λ it. it) well
stepped_owed catalog count old new tx tx_new port after tells ready same_tx_is (Did action answer is within asked answered) shard before well =
    let on = went_on catalog count old new tx tx_new port after tells action answer ready is asked answered well in
    owed_by_session after.shards tx tx_new new shard (session_kept tx tx_new Main same_tx_is)
    (went_owes catalog count tx.limits.tries old new action answer tx shard port.shards after.shards ready.made on.due on.up on.done on.goes before)

-- ---- before the first write

next_stays : (tx : TxState) (o : Option Action) (p : Progress) (tells : ProgramTold) → TellsNext tx o p tells → LeavesOpen tells → ⊥
next_stays tx None p tells is leaves = subst LeavesOpen is leaves
next_stays tx (Some action) p tells is leaves = subst LeavesOpen is leaves

-- the reply leaves the transaction open, or the program goes on and has written nothing
abbrev pub IsUnwritten : ProgramTold → Progress → Type 0
IsUnwritten tells new = LeavesOpen tells ⊎ (IsWell tells × (new.wrote ≡ false))

pending_same : (tx : TxState) (old new : Shards) → ((shard : ℕ) (key : Key) → (new shard).pending key ≡ (old shard).pending key) → HasPendingOf tx old new
pending_same tx old new same shard group key row = (λ h. same shard key ∙ h, λ h. sym (same shard key) ∙ h)

wrote_none : (old new : Progress) → new ≡ with_write old → new.wrote ≡ false → ⊥
wrote_none old new is unwritten = cc (ap (λ (p : Progress). p.wrote) is, unwritten)

-- a reply that ends the transaction leaves nothing open
whole_ends : {X : Type 0} (tells : ProgramTold) (cause : Cause) (new : Progress) → tells ≡ refused_whole cause → IsUnwritten tells new → X
whole_ends tells cause new is (inl leaves) = absurd (cc (subst LeavesOpen is leaves))
whole_ends tells cause new is (inr goes) = ended tells (refused_whole cause) is (λ it. it) goes.0

-- only `Done` of a write changes a pending version, and then something was written; a lost session and a
-- failed device leave no transaction open
answer_keeps : (catalog : Catalog) (tx : TxState) (old new : Progress) (port after : PortView) (who : Who) (action : Action) (answer : Answer) (tells : ProgramTold) (s : ℕ) (key : Key) → HasActed port who action.shard action.act answer after
    → Answered catalog tx old action answer tells new → IsUnwritten tells new → (after.shards s).pending key ≡ (port.shards s).pending key
answer_keeps catalog tx old new port after who action Done tells s key acts answered (inl leaves) = absurd (next_stays tx (due (with_write old)) (with_write old) tells answered.0 leaves)
answer_keeps catalog tx old new port after who action Done tells s key acts answered (inr goes) = absurd (wrote_none old new answered.1 goes.1)
answer_keeps catalog tx old new port after who action Unchanged tells s key acts answered open_ = absurd answered
answer_keeps catalog tx old new port after who action (Rows rows) tells s key acts answered open_ = act_pends port after who action.shard action.act (Rows rows) s key tt (λ e. absurd (cc (e))) acts
answer_keeps catalog tx old new port after who action (Found k row) tells s key acts answered open_ = absurd answered
answer_keeps catalog tx old new port after who action (Held by k) tells s key acts answered open_ = act_pends port after who action.shard action.act (Held by k) s key tt (λ e. absurd (cc (e))) acts
answer_keeps catalog tx old new port after who action (Limit what count) tells s key acts answered open_ = act_pends port after who action.shard action.act (Limit what count) s key tt (λ e. absurd (cc (e))) acts
answer_keeps catalog tx old new port after who action (Lost why) tells s key acts answered open_ = whole_ends tells (session_lost catalog action.group action.shard why) new answered open_
answer_keeps catalog tx old new port after who action Device tells s key acts answered open_ = whole_ends tells (device_failed catalog action.shard) new answered open_
answer_keeps catalog tx old new port after who action Memory tells s key acts answered open_ = act_pends port after who action.shard action.act Memory s key tt (λ e. absurd (cc (e))) acts

pub stepped_kept : (catalog : Catalog) (old new : Progress) (tx tx_new : TxState) (port after : PortView) (tells : ProgramTold) → Stepped catalog old tx port tells new tx_new after → IsUnwritten tells new
    → HasPendingOf tx port.shards after.shards
stepped_kept catalog old new tx tx_new port after tells (Idle none replied same unchanged shown) open_ = pending_same tx port.shards after.shards (λ shard key. ap (λ (v : PortView). (v.shards shard).pending key) shown)
stepped_kept catalog old new tx tx_new port after tells (Full action is full replied unchanged shown) open_ = pending_same tx port.shards after.shards (λ shard key. ap (λ (v : PortView). (v.shards shard).pending key) shown)
stepped_kept catalog old new tx tx_new port after tells (NoRoom action is within replied unasked) open_ = pending_same tx port.shards after.shards (λ shard key. ap (λ (v : PortView). (v.shards shard).pending key) unasked.shown)
stepped_kept catalog old new tx tx_new port after tells (Did action answer is within asked answered) open_ =
    pending_same tx port.shards after.shards (λ shard key. answer_keeps catalog tx old new port after (session_of tx action.group) action answer tells shard key asked.acts answered open_)

-- ---- locks

-- the reply leaves the transaction open, or the program goes on
abbrev pub IsOn : ProgramTold → Type 0
IsOn tells = LeavesOpen tells ⊎ IsWell tells

whole_is_off : {X : Type 0} (tells : ProgramTold) (cause : Cause) → tells ≡ refused_whole cause → IsOn tells → X
whole_is_off tells cause is (inl leaves) = absurd (cc (subst LeavesOpen is leaves))
whole_is_off tells cause is (inr well) = ended tells (refused_whole cause) is (λ it. it) well

answer_holds : (catalog : Catalog) (tx : TxState) (old new : Progress) (port after : PortView) (who other : Who) (action : Action) (answer : Answer) (tells : ProgramTold) (s : ℕ) (key : Key) → HasActed port who action.shard action.act answer after
    → Answered catalog tx old action answer tells new → IsOn tells → (port.shards s).holder key ≡ Some other → (after.shards s).holder key ≡ Some other
answer_holds catalog tx old new port after who other action Done tells s key acts answered on held = act_holds port after who other action.shard action.act Done s key tt acts held
answer_holds catalog tx old new port after who other action Unchanged tells s key acts answered on held = act_holds port after who other action.shard action.act Unchanged s key tt acts held
answer_holds catalog tx old new port after who other action (Rows rows) tells s key acts answered on held = act_holds port after who other action.shard action.act (Rows rows) s key tt acts held
answer_holds catalog tx old new port after who other action (Found k row) tells s key acts answered on held = act_holds port after who other action.shard action.act (Found k row) s key tt acts held
answer_holds catalog tx old new port after who other action (Held by k) tells s key acts answered on held = act_holds port after who other action.shard action.act (Held by k) s key tt acts held
answer_holds catalog tx old new port after who other action (Limit what count) tells s key acts answered on held = act_holds port after who other action.shard action.act (Limit what count) s key tt acts held
answer_holds catalog tx old new port after who other action Memory tells s key acts answered on held = act_holds port after who other action.shard action.act Memory s key tt acts held
answer_holds catalog tx old new port after who other action (Lost why) tells s key acts answered on held = whole_is_off tells (session_lost catalog action.group action.shard why) answered on
answer_holds catalog tx old new port after who other action Device tells s key acts answered on held = whole_is_off tells (device_failed catalog action.shard) answered on

pub stepped_locked : (catalog : Catalog) (old new : Progress) (tx tx_new : TxState) (port after : PortView) (tells : ProgramTold) → Stepped catalog old tx port tells new tx_new after → IsOn tells → HasLocksOf tx port.shards after.shards
stepped_locked catalog old new tx tx_new port after tells (Idle none replied same unchanged shown) on shard group key held = ap (λ (v : PortView). (v.shards shard).holder key) shown ∙ held
stepped_locked catalog old new tx tx_new port after tells (Full action is full replied unchanged shown) on shard group key held = ap (λ (v : PortView). (v.shards shard).holder key) shown ∙ held
stepped_locked catalog old new tx tx_new port after tells (NoRoom action is within replied unasked) on shard group key held = ap (λ (v : PortView). (v.shards shard).holder key) unasked.shown ∙ held
stepped_locked catalog old new tx tx_new port after tells (Did action answer is within asked answered) on shard group key held =
    answer_holds catalog tx old new port after (session_of tx action.group) (session_of tx group) action answer tells shard key asked.acts answered on held

-- ---- nearer to the end

more_is_well : (tells : ProgramTold) → tells ≡ told.More → IsWell tells
more_is_well tells is = subst IsWell (sym is) tt

waits_no_more : (catalog : Catalog) (tx : TxState) (b wrote : Bool) (tries by : ℕ) (key : Key) (tells : ProgramTold) (again new : Progress) → WaitsOn catalog tx b wrote tries by key tells again new → tells ≡ told.More → ⊥
waits_no_more catalog tx true wrote tries by key tells again new h more = cc (h.0, more)
waits_no_more catalog tx false wrote tries by key tells again new (inl h) more = cc (h, more)
waits_no_more catalog tx false wrote tries by key tells again new (inr h) more = cc (h, more)

went_nearer : (catalog : Catalog) (count : ℕ) (old new : Progress) (tx : TxState) (action : Action) (answer : Answer) (who : Who) (view after : View) (tells : ProgramTold) → IsMade catalog count tx.limits.tries old → IsDue old action
    → Acted view who action.act answer after → Answered catalog tx old action answer tells new → Went old action tx.limits.tries new answer → tells ≡ told.More → IsNearer old new
went_nearer catalog count old new tx action answer who view after tells made is_due acted answered (Wrote is) more =
    let at = done_writes catalog count tx.limits.tries old action who view after made is_due acted in
    subst (IsNearer old) (sym is) (writes_end old (slice_get_within old.writes old.done action at))
went_nearer catalog count old new tx action answer who view after tells made is_due acted answered (Read rows is) more =
    let read = rows_read catalog count tx.limits.tries old action who view after rows made is_due acted in
    subst (IsNearer old) (sym is) (reads_end old action.shard rows (slice_get_within old.search.shards old.search.read action.shard read.at))
went_nearer catalog count old new tx action answer who view after tells made is_due acted answered (Waited by key is below) more =
    absurd (waits_no_more catalog tx (nat_lt (old.tries + 1) tx.limits.tries) old.wrote old.tries by key tells (with_try old) new answered more)

pub stepped_nearer : (catalog : Catalog) (count : ℕ) (old new : Progress) (tx tx_new : TxState) (port after : PortView) (tells : ProgramTold) → IsReady catalog count port.shards tx old
    → Stepped catalog old tx port tells new tx_new after → tells ≡ told.More → IsNearer old new
stepped_nearer catalog count old new tx tx_new port after tells ready (Idle none replied same unchanged shown) more = absurd (cc (replied, more))
stepped_nearer catalog count old new tx tx_new port after tells ready (Full action is full replied unchanged shown) more = absurd (cc (replied, more))
stepped_nearer catalog count old new tx tx_new port after tells ready (NoRoom action is within replied unasked) more = absurd (cc (replied, more))
stepped_nearer catalog count old new tx tx_new port after tells ready (Did action answer is within asked answered) more =
    let on = went_on catalog count old new tx tx_new port after tells action answer ready is asked answered (more_is_well tells more) in
    went_nearer catalog count old new tx action answer (session_of tx Main) on.done.there (after.shards action.shard) tells ready.made on.due on.done.acted answered on.goes more

went_counted : (catalog : Catalog) (count : ℕ) (old new : Progress) (tx : TxState) (action : Action) (answer : Answer) (who : Who) (view after : View) (tells : ProgramTold) → IsMade catalog count tx.limits.tries old → IsDue old action
    → Acted view who action.act answer after → Answered catalog tx old action answer tells new → Went old action tx.limits.tries new answer → tells ≡ told.More → acts_done new ≡ acts_done old + 1
went_counted catalog count old new tx action answer who view after tells made is_due acted answered (Wrote is) more = ap acts_done is ∙ write_counts old
went_counted catalog count old new tx action answer who view after tells made is_due acted answered (Read rows is) more =
    ap acts_done is ∙ read_counts old action.shard rows
went_counted catalog count old new tx action answer who view after tells made is_due acted answered (Waited by key is below) more =
    absurd (waits_no_more catalog tx (nat_lt (old.tries + 1) tx.limits.tries) old.wrote old.tries by key tells (with_try old) new answered more)

pub stepped_counted : (catalog : Catalog) (count : ℕ) (old new : Progress) (tx tx_new : TxState) (port after : PortView) (tells : ProgramTold) → IsReady catalog count port.shards tx old
    → Stepped catalog old tx port tells new tx_new after → tells ≡ told.More → acts_done new ≡ acts_done old + 1
stepped_counted catalog count old new tx tx_new port after tells ready (Idle none replied same unchanged shown) more = absurd (cc (replied, more))
stepped_counted catalog count old new tx tx_new port after tells ready (Full action is full replied unchanged shown) more = absurd (cc (replied, more))
stepped_counted catalog count old new tx tx_new port after tells ready (NoRoom action is within replied unasked) more = absurd (cc (replied, more))
stepped_counted catalog count old new tx tx_new port after tells ready (Did action answer is within asked answered) more =
    let on = went_on catalog count old new tx tx_new port after tells action answer ready is asked answered (more_is_well tells more) in
    went_counted catalog count old new tx action answer (session_of tx Main) on.done.there (after.shards action.shard) tells ready.made on.due on.done.acted answered on.goes more

-- ---- what the next step asks for

pub stepped_made : (catalog : Catalog) (count : ℕ) (old new : Progress) (tx tx_new : TxState) (port after : PortView) (tells : ProgramTold) → IsReady catalog count port.shards tx old → IsSameTx tx tx_new
    → Stepped catalog old tx port tells new tx_new after → IsWell tells → IsMade catalog count tx_new.limits.tries new
stepped_made catalog count old new tx tx_new port after tells ready same_tx_is (Idle none replied same unchanged shown) well =
    subst (λ (n : ℕ). IsMade catalog count n new) (sym (limits_kept tx tx_new same_tx_is)) (subst (IsMade catalog count tx.limits.tries) (sym same) ready.made)
stepped_made catalog count old new tx tx_new port after tells ready same_tx_is (Full action is full replied unchanged shown) well = ended tells (refused tx old (limit_of_changes tx)) replied (λ it. it) well
stepped_made catalog count old new tx tx_new port after tells ready same_tx_is (NoRoom action is within replied unasked) well = ended tells (refused tx old OutOfMemory) replied (λ it. it) well
stepped_made catalog count old new tx tx_new port after tells ready same_tx_is (Did action answer is within asked answered) well =
    let on = went_on catalog count old new tx tx_new port after tells action answer ready is asked answered well in
    subst (λ (n : ℕ). IsMade catalog count n new) (sym (limits_kept tx tx_new same_tx_is))
    (went_keeps catalog count tx.limits.tries old new action answer on.done.there (after.shards action.shard) (session_of tx Main) ready.checked on.placed ready.made on.due on.done.acted on.goes)
