use Rattle.std.proofs.Common.{◌≡◌, ◌<◌, ◌^◌, ℕ, None}
use Rattle.vl_catalog.specs.declared.catalog.Catalog.{Catalog}
use Rattle.vl_rules.specs.Order.{Checked}
use Rattle.vl_sql.specs.declared.stmt.Stmt.{Stmt}
use Rattle.vl_port.specs.declared.tx_state.TxState.{TxState}
use Rattle.vl_port.specs.Calls.{PortView}
use Rattle.vl_plan.specs.declared.plan.Plan.{Plan}
use Rattle.vl_exec.specs.declared.program.Program.{Program}
use Rattle.vl_exec.specs.Making.{IsMade}
use Rattle.vl_run.specs.declared.event.Event.{Event}
use Rattle.vl_run.specs.Allowed.{now_of}
use Rattle.vl_run.specs.Run.{Run}
use Rattle.vl_run.specs.Session.{Owned}
use Rattle.vl_course.specs.Answered.{AreMarked}
use Rattle.vl_course_program.proofs.Acting.{acts_once}
use Rattle.vl_course_program.proofs.Lanes.{due_fit}
use Rattle.vl_course_program.proofs.Told.{told}
use Rattle.vl_course_program.proofs.Turned.{turned}
use Rattle.vl_session.specs.Ready.{IsTxIn}
use Rattle.vl_session.specs.Standing.{IsRunningAt}
use Rattle.vl_session.specs.Turning.{IsEventOf}
use Rattle.vl_running.proofs.Answering.{AreLaws, ran_answering}
use Rattle.vl_running.proofs.Hand.{ran_opens}
use Rattle.vl_running.proofs.running.run_program.Goals as goal

-- the laws of a program's step, of this one
laws : (catalog : Catalog) (past : Run) (count : ℕ) (e : Event) (stmt : Stmt) (plan : Plan) (own : Owned) (tx : TxState) (program : Program) (port : PortView) → Checked catalog → IsEventOf catalog past count port.shards e stmt
    → IsRunningAt catalog tx.limits (now_of e past) e.session stmt plan own tx program → AreMarked past tx.number port.shards → IsTxIn count tx port.shards → IsMade catalog count tx.limits.tries program → tx.limits.changes < 2 ^ 32 → port.outcome ≡ None
    → AreLaws catalog past count e stmt plan own tx program port
laws catalog past count e stmt plan own tx program port checked event running marks ready made few none = record {
  fits = due_fit catalog tx.limits (now_of e past) e.session count tx.limits.tries plan tx program checked running.stands made;
  once = λ tx_new new port_new told stepped. acts_once catalog tx.limits (now_of e past) e.session count tx.limits.tries plan tx tx_new program new port port_new told running.stands made stepped;
  turns = λ port_new tells new tx_new stepped step. turned catalog tx.limits past e stmt plan own tx program count checked running.course running.stands made few port port_new tells new tx_new none stepped step
      (λ due answer is acted. told catalog past count tx port port_new due answer event.shows ready.owned ready.sessions running.unclaimed marks
      (due_fit catalog tx.limits (now_of e past) e.session count tx.limits.tries plan tx program checked running.stands made due is) acted);
}

pub returns-clause-answering : goal.returns-clause-answering
returns-clause-answering g c past e stmt plan own event is_turn running marks =
    ran_answering c.args.catalog.now past (g.P.ShardPort.count c.args.port.now) e stmt plan own c.args.tx c.args.program (g.P.ShardPort.told c.args.port.now)
    (laws c.args.catalog.now past (g.P.ShardPort.count c.args.port.now) e stmt plan own c.args.tx c.args.program (g.P.ShardPort.told c.args.port.now) c.requires.checked event running marks c.requires.ready.0 c.requires.ready.1 c.limit_fits.ensures c.requires.outcome)
    event running marks c.requires.ready.0 c.requires.ready.1 c.requires.outcome c.args.opens c.run.result (g.P.ShardPort.told c.run.new.port) is_turn c.run.ensures.ran

pub returns-clause-opened : goal.returns-clause-opened
returns-clause-opened g c = ran_opens c.args.catalog.now (g.P.ShardPort.count c.args.port.now) c.args.tx c.args.program c.args.opens (g.P.ShardPort.told c.args.port.now) c.run.result (g.P.ShardPort.told c.run.new.port) c.run.ensures.ran
