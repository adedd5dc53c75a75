-- A statement that a program runs works on a table, and one that is told as done gives no rows.
use Rattle.std.proofs.Common.{◌≡◌, ◌∙◌, ◌+◌, inl, inr, not, nat_lt, ℕ, Bool, true, false, List, length, Option, Some, None, refl, sym, subst}
use Rattle.vl_values.specs.declared.cause.Cause.{Cause}
use Rattle.vl_values.specs.declared.cause.Cause.TheVariants as causes
use Rattle.vl_values.specs.declared.key.Key.{Key}
use Rattle.vl_values.specs.declared.limit.Limit.{Limit as Quantity}
use Rattle.vl_values.specs.declared.reply.Reply.TheVariants as replies
use Rattle.vl_values.specs.declared.reply_column.ReplyColumn.{ReplyColumn}
use Rattle.vl_catalog.specs.declared.catalog.Catalog.{Catalog}
use Rattle.vl_sql.specs.declared.stmt.Stmt.{Stmt}
use Rattle.vl_sql.specs.declared.stmt.Stmt.TheVariants as stmts
use Rattle.vl_port.specs.declared.answer.Answer.{Answer}
use Rattle.vl_port.specs.declared.answer.Answer.TheVariants.{Done, Unchanged, Rows, Found, Held, Lost, Device, Limit, Memory}
use Rattle.vl_port.specs.declared.limits.Limits.{Limits}
use Rattle.vl_port.specs.declared.tx_state.TxState.{TxState}
use Rattle.vl_port.specs.Calls.{PortView}
use Rattle.vl_port.specs.View.{Values}
use Rattle.vl_plan.specs.declared.plan.Plan.{Plan}
use Rattle.vl_plan.specs.declared.plan.Plan.TheVariants as plans
use Rattle.vl_plan.specs.Planned.{IsPlanned}
use Rattle.vl_statement.specs.declared.program_told.ProgramTold.{ProgramTold}
use Rattle.vl_statement.specs.declared.program_told.ProgramTold.TheVariants as told
use Rattle.vl_statement.specs.Refusing.{device_failed, lock_wait, refused, refused_whole}
use Rattle.vl_statement.specs.Waiting.{WaitsOn}
use Rattle.vl_select.specs.Answering.{Answered, Ends, GoesTo, Takes, TakesOf, loss}
use Rattle.vl_select.specs.Columns.{columns_of}
use Rattle.vl_select.specs.Progress.{Action as Read, Progress as Selecting, due, passed, with_entries, with_rows, with_try}
use Rattle.vl_select.specs.Stepping.{Stepped as SelectStepped}
use Rattle.vl_select.specs.Stepping.Stepped.{Idle, Locked, Looked, NoRoom}
use Rattle.vl_exec.specs.declared.program.Program.{Program}
use Rattle.vl_exec.specs.declared.program.Program.TheVariants as programs
use Rattle.vl_exec.specs.Stepping.{Stepped}
use Rattle.vl_run.specs.Allowed.{gives_rows}
use Rattle.vl_run.specs.Run.{Run}
use Rattle.vl_run.specs.Session.{kind_of}
use Rattle.vl_run.specs.Session.Kind.{Works}
use Rattle.vl_course_program.specs.Programs.{IsProgramAt}

-- ---- plans

abbrev IsChange : Plan → Type 0
IsChange (plans.Insert plan) = Unit {0}
IsChange (plans.Update plan) = Unit {0}
IsChange (plans.Delete plan) = Unit {0}
IsChange _ = ⊥

abbrev IsWork : Plan → Type 0
IsWork (plans.Insert plan) = Unit {0}
IsWork (plans.Select plan) = Unit {0}
IsWork (plans.Update plan) = Unit {0}
IsWork (plans.Delete plan) = Unit {0}
IsWork _ = ⊥

plan_works : (catalog : Catalog) (stmt : Stmt) (plan : Plan) → IsPlanned catalog stmt plan → IsWork plan → kind_of stmt ≡ Works
plan_works catalog (stmts.Insert t names rows) plan a work = refl
plan_works catalog (stmts.Select what t tests orders limit lock) plan a work = refl
plan_works catalog (stmts.Update t assignments tests) plan a work = refl
plan_works catalog (stmts.Delete t tests) plan a work = refl
plan_works catalog stmts.Begin plan a work = absurd (subst IsWork a work)
plan_works catalog stmts.StartTransaction plan a work = absurd (subst IsWork a work)
plan_works catalog stmts.Commit plan a work = absurd (subst IsWork a work)
plan_works catalog stmts.Rollback plan a work = absurd (subst IsWork a work)
plan_works catalog (stmts.SetAutocommit on) plan a work = absurd (subst IsWork a work)
plan_works catalog (stmts.SetNames charset) plan a work = absurd (subst IsWork a work)
plan_works catalog (stmts.Use name) plan a work = absurd (subst IsWork a work)
plan_works catalog stmts.ShowTables plan a work = absurd (subst IsWork a work)
plan_works catalog stmts.ShowDatabases plan a work = absurd (subst IsWork a work)
plan_works catalog stmts.ShowWarnings plan a work = absurd (subst IsWork a work)
plan_works catalog stmts.SelectVersionComment plan a work = absurd (subst IsWork a work)
plan_works catalog stmts.SelectDatabase plan a work = absurd (subst IsWork a work)

plan_rowless : (catalog : Catalog) (stmt : Stmt) (plan : Plan) → IsPlanned catalog stmt plan → IsChange plan → gives_rows stmt ≡ false
plan_rowless catalog (stmts.Insert t names rows) plan a change = refl
plan_rowless catalog (stmts.Select what t tests orders limit lock) plan a change = absurd (subst IsChange a.4 change)
plan_rowless catalog (stmts.Update t assignments tests) plan a change = refl
plan_rowless catalog (stmts.Delete t tests) plan a change = refl
plan_rowless catalog stmts.Begin plan a change = refl
plan_rowless catalog stmts.StartTransaction plan a change = refl
plan_rowless catalog stmts.Commit plan a change = refl
plan_rowless catalog stmts.Rollback plan a change = refl
plan_rowless catalog (stmts.SetAutocommit on) plan a change = refl
plan_rowless catalog (stmts.SetNames charset) plan a change = refl
plan_rowless catalog (stmts.Use name) plan a change = refl
plan_rowless catalog stmts.ShowTables plan a change = absurd (subst IsChange a change)
plan_rowless catalog stmts.ShowDatabases plan a change = absurd (subst IsChange a change)
plan_rowless catalog stmts.ShowWarnings plan a change = absurd (subst IsChange a change)
plan_rowless catalog stmts.SelectVersionComment plan a change = absurd (subst IsChange a change)
plan_rowless catalog stmts.SelectDatabase plan a change = absurd (subst IsChange a change)

module _ (catalog : Catalog) (limits : Limits) (now : Run) (n : ℕ) where
  is_work : (plan : Plan) (program : Program) → IsProgramAt catalog limits now n plan program → IsWork plan
  is_work (plans.Insert plan) (programs.Insert p) at = tt
  is_work (plans.Select plan) (programs.Select p) at = tt
  is_work (plans.Update plan) (programs.Change p) at = tt
  is_work (plans.Delete plan) (programs.Change p) at = tt
  is_work plan program at = absurd at

  pub program_works : (stmt : Stmt) (plan : Plan) (program : Program) → IsPlanned catalog stmt plan → IsProgramAt catalog limits now n plan program → kind_of stmt ≡ Works
  program_works stmt plan program planned at = plan_works catalog stmt plan planned (is_work plan program at)

-- ---- a SELECT is never told as done

module _ (catalog : Catalog) (tx : TxState) (affected found warnings : ℕ) (stays on : Bool) where
  abbrev Ok : ProgramTold
  Ok = told.Reply (replies.Ok affected found warnings stays on)

  no_refusal : (tells : ProgramTold) (written : Bool) (cause : Cause) → tells ≡ refused tx written cause → tells ≡ Ok → ⊥
  no_refusal tells written cause is also = apart (sym is ∙ also)
    where
      apart : refused tx written cause ≡ Ok → ⊥
      apart same = cc

  no_whole : (tells : ProgramTold) (cause : Cause) → tells ≡ refused_whole cause → tells ≡ Ok → ⊥
  no_whole tells cause is also = apart (sym is ∙ also)
    where
      apart : refused_whole cause ≡ Ok → ⊥
      apart same = cc

  no_more : (tells : ProgramTold) → tells ≡ told.More → tells ≡ Ok → ⊥
  no_more tells is also = apart (sym is ∙ also)
    where
      apart : told.More ≡ Ok → ⊥
      apart same = cc

  no_rows : (tells : ProgramTold) (columns : List ReplyColumn) (rows : List Values) (tx_stays auto : Bool) → tells ≡ told.Reply (replies.Rows columns rows tx_stays auto) → tells ≡ Ok → ⊥
  no_rows tells columns rows tx_stays auto is also = apart (sym is ∙ also)
    where
      apart : told.Reply (replies.Rows columns rows tx_stays auto) ≡ Ok → ⊥
      apart same = cc

  no_end : (p : Selecting) (tells : ProgramTold) → Ends catalog tx p tells → tells ≡ Ok → ⊥
  no_end p tells (inl refusal) is = no_refusal tells false causes.OutOfMemory refusal is
  no_end p tells (inr result) is = no_rows tells (columns_of catalog p.table p.what) result.0 (not tx.single) tx.auto result.2 is

  no_goes : (o : Option Read) (after new : Selecting) (tells : ProgramTold) → GoesTo catalog tx o after tells new → tells ≡ Ok → ⊥
  no_goes None after new tells ends is = no_end after tells ends is
  no_goes (Some action) after new tells goes is = no_more tells goes.0 is

  no_takes : (o : Option (Quantity × ℕ)) (old new : Selecting) (rows : List (Key × Values)) (tells : ProgramTold) → Takes catalog tx o old rows tells new → tells ≡ Ok → ⊥
  no_takes None old new rows tells (inl refusal) is = no_refusal tells false causes.OutOfMemory refusal is
  no_takes None old new rows tells (inr goes) is = no_goes (due (with_rows rows old)) (with_rows rows old) new tells goes is
  no_takes (Some limit) old new rows tells refusal is = no_refusal tells false (causes.Limit limit.0 limit.1) refusal is

  no_takes_of : (b : Bool) (old new : Selecting) (rows : List (Key × Values)) (tells : ProgramTold) → TakesOf catalog tx b old rows tells new → tells ≡ Ok → ⊥
  no_takes_of true old new rows tells (inl refusal) is = no_refusal tells false causes.OutOfMemory refusal is
  no_takes_of true old new rows tells (inr goes) is = no_goes (due (with_entries catalog rows old)) (with_entries catalog rows old) new tells goes is
  no_takes_of false old new rows tells takes is = no_takes (passed old.what tx.limits old.tally rows) old new rows tells takes is

  no_wait : (b : Bool) (tries by : ℕ) (key : Key) (again new : Selecting) (tells : ProgramTold) → WaitsOn catalog tx b false tries by key tells again new → tells ≡ Ok → ⊥
  no_wait true tries by key again new tells waits is = apart (sym waits.0 ∙ is)
    where
      apart : told.Held by key (tries + 1) ≡ Ok → ⊥
      apart same = cc
  no_wait false tries by key again new tells (inl refusal) is = no_refusal tells false causes.OutOfMemory refusal is
  no_wait false tries by key again new tells (inr refusal) is = no_refusal tells false (lock_wait catalog tx.limits.tries by key) refusal is

  no_answer : (old new : Selecting) (action : Read) (session : Bool) (answer : Answer) (tells : ProgramTold) → Answered catalog tx old action session answer tells new → tells ≡ Ok → ⊥
  no_answer old new action session (Rows rows) tells takes is = no_takes_of (nat_lt old.looked (length old.entries)) old new rows tells takes is
  no_answer old new action session (Held by key) tells waits is = no_wait (nat_lt (old.tries + 1) tx.limits.tries) old.tries by key (with_try old) new tells waits is
  no_answer old new action session (Limit what count) tells refusal is = no_refusal tells false (causes.Limit what count) refusal is
  no_answer old new action session (Lost why) tells refusal is = no_whole tells (loss catalog action session why) refusal is
  no_answer old new action session Device tells refusal is = no_whole tells (device_failed catalog action.shard) refusal is
  no_answer old new action session Memory tells refusal is = no_refusal tells false causes.OutOfMemory refusal is
  no_answer old new action session Done tells none is = absurd none
  no_answer old new action session Unchanged tells none is = absurd none
  no_answer old new action session (Found key row) tells none is = absurd none

  select_never : (p new : Selecting) (port port_new : PortView) (tx_new : TxState) (tells : ProgramTold) → SelectStepped catalog p tx port tells new tx_new port_new → tells ≡ Ok → ⊥
  select_never p new port port_new tx_new tells (Idle none ends same_tx shows) is = no_end p tells ends is
  select_never p new port port_new tx_new tells (NoRoom action at takes refusal unasked) is = no_refusal tells false causes.OutOfMemory refusal is
  select_never p new port port_new tx_new tells (Locked action answer at takes asked means) is = no_answer p new action true answer tells means is
  select_never p new port port_new tx_new tells (Looked action there answer at plain by acts same_tx means) is = no_answer p new action there answer tells means is

  pub done_rowless : (limits : Limits) (now : Run) (n : ℕ) (stmt : Stmt) (plan : Plan) (program new : Program) (port port_new : PortView) (tx_new : TxState) → IsPlanned catalog stmt plan → IsProgramAt catalog limits now n plan program
      → Stepped catalog program tx port Ok new tx_new port_new → gives_rows stmt ≡ false
  done_rowless limits now n stmt (plans.Insert plan) program new port port_new tx_new planned at stepped = plan_rowless catalog stmt (plans.Insert plan) planned tt
  done_rowless limits now n stmt (plans.Update plan) program new port port_new tx_new planned at stepped = plan_rowless catalog stmt (plans.Update plan) planned tt
  done_rowless limits now n stmt (plans.Delete plan) program new port port_new tx_new planned at stepped = plan_rowless catalog stmt (plans.Delete plan) planned tt
  done_rowless limits now n stmt (plans.Select plan) (programs.Select p) (programs.Select new) port port_new tx_new planned at stepped = absurd (select_never p new port port_new tx_new Ok stepped refl)
  done_rowless limits now n stmt (plans.Select plan) (programs.Select p) new port port_new tx_new planned at stepped = absurd stepped
  done_rowless limits now n stmt plan program new port port_new tx_new planned at stepped = absurd at
