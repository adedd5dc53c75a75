use Rattle.std.proofs.Common.{sym, subst}
use Rattle.vl_port.specs.declared.tx_state.TxState.{TxState}
use Rattle.vl_port.specs.Transaction.{IsIn}
use Rattle.vl_lookup.proofs.Answered.{check_answer}
use Rattle.vl_lookup.proofs.Asides.{in_with, same_with}
use Rattle.vl_lookup.proofs.Stepped.{did_check}
use Rattle.vl_lookup.proofs.claim.Claim.check.Goals as goal

pub returns-in-Answered-clause-stepped : goal.returns-in-Answered-clause-stepped
returns-in-Answered-clause-stepped g c =
    did_check (g.P.ShardPort.catalog c.args.port.now) c.args.self.now c.checked.new.self c.args.tx.now c.ask-asked.new.tx c.checked.new.tx (g.P.ShardPort.told c.args.port.now) (g.P.ShardPort.told c.ask-asked.new.port) c.checked.result c.args.shard c.reading.result.now c.in-Answered.answer
    c.requires.stage c.reading.ensures c.in-Answered.ensures.asked c.in-Answered.ensures.tx c.checked.ensures.answered

pub returns-in-Answered-clause-sessions : goal.returns-in-Answered-clause-sessions
returns-in-Answered-clause-sessions g c = λ before.
    subst (λ (t : TxState). IsIn t (g.P.ShardPort.count c.ask-asked.new.port) (g.P.ShardPort.told c.ask-asked.new.port).shards) (sym c.checked.ensures.answered.1)
    (in_with c.checked.ensures.answered.0 c.ask-asked.new.tx (g.P.ShardPort.count c.ask-asked.new.port) (g.P.ShardPort.told c.ask-asked.new.port).shards (c.in-Answered.ensures.sessions before))
