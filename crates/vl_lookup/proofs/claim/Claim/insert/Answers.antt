use Rattle.std.proofs.Common.{ap, sym, subst, ◌∙◌}
use Rattle.vl_port.specs.declared.tx_state.TxState.{TxState}
use Rattle.vl_port.specs.Transaction.{IsIn}
use Rattle.vl_lookup.specs.Progress.{Progress}
use Rattle.vl_lookup.specs.Stepping.{with_claimed}
use Rattle.vl_lookup.proofs.Asides.{in_through, same_through}
use Rattle.vl_lookup.proofs.Stepped.{asked_first, did_first, free_from, full_first, unasked_first}
use Rattle.vl_lookup.proofs.claim.Claim.insert.Goals as goal

pub inserted-requires-clause-answer : goal.inserted-requires-clause-answer
inserted-requires-clause-answer g c =
    asked_first (with_claimed c.args.tx.now.claimed c.take_claims.new.tx) (with_claimed c.args.tx.now.claimed c.ask_aside-asked.new.tx) c.self.inside.shard c.insertion-act.result.now _ _ c.in-Answered.answer (g.P.ShardPort.told c.args.port.now) (g.P.ShardPort.told c.ask_aside-asked.new.port)
    c.insertion-act.ensures (c.in-Answered.ensures.asked c.args.tx.now.claimed)

pub returns-in-Answered-clause-stepped : goal.returns-in-Answered-clause-stepped
returns-in-Answered-clause-stepped g c =
    did_first c.args.catalog.now c.args.self.now c.inserted.new.self c.args.tx.now c.take_claims.new.tx c.ask_aside-asked.new.tx c.inserted.new.tx (g.P.ShardPort.told c.args.port.now) (g.P.ShardPort.told c.ask_aside-asked.new.port) c.inserted.result c.self.inside.shard c.insertion-act.result.now c.in-Answered.answer c.in-Ok-take_claims.list.items
    c.requires.stage (ap (λ (p : Progress). p.shard) c.self.view_is)
    (free_from c.as_slice.result.now c.args.tx.now.removed c.self.inside.key c.args.self.now.key c.is_among-crossed.result c.is_among-crossed.ensures c.if-crossed.false c.as_slice.ensures (ap (λ (p : Progress). p.key) c.self.view_is))
    c.insertion-act.ensures (sym c.is_full.ensures ∙ c.if-is_full.false) c.in-Ok-take_claims.ensures.taken c.in-Ok-take_claims.ensures.list c.in-Answered.ensures.asked c.inserted.ensures.answered

pub returns-in-Answered-clause-sessions : goal.returns-in-Answered-clause-sessions
returns-in-Answered-clause-sessions g c = λ before.
    subst (λ (t : TxState). IsIn t (g.P.ShardPort.count c.ask_aside-asked.new.port) (g.P.ShardPort.told c.ask_aside-asked.new.port).shards) (sym c.inserted.ensures.answered.1)
    (in_through c.inserted.ensures.answered.0 c.args.tx.now c.take_claims.new.tx c.ask_aside-asked.new.tx (g.P.ShardPort.count c.args.port.now) (g.P.ShardPort.count c.ask_aside-asked.new.port) (g.P.ShardPort.told c.args.port.now).shards (g.P.ShardPort.told c.ask_aside-asked.new.port).shards
    c.in-Ok-take_claims.ensures.taken c.in-Answered.ensures.sessions before)

pub returns-in-Unlisted-clause-stepped : goal.returns-in-Unlisted-clause-stepped
returns-in-Unlisted-clause-stepped g c =
    unasked_first c.args.catalog.now c.args.self.now c.args.tx.now c.take_claims.new.tx c.ask_aside-asked.new.tx c.give_claims.new.tx (g.P.ShardPort.told c.args.port.now) (g.P.ShardPort.told c.ask_aside-asked.new.port) c.self.inside.shard c.insertion-act.result.now c.in-Ok-take_claims.list.items
    c.in-Ok-take_claims.ensures.taken c.in-Ok-take_claims.ensures.list c.in-Unlisted.ensures.asked c.give_claims.ensures

pub returns-in-Unlisted-clause-sessions : goal.returns-in-Unlisted-clause-sessions
returns-in-Unlisted-clause-sessions g c = λ before.
    subst (λ (t : TxState). IsIn t (g.P.ShardPort.count c.ask_aside-asked.new.port) (g.P.ShardPort.told c.ask_aside-asked.new.port).shards) (sym c.give_claims.ensures)
    (in_through c.in-Ok-take_claims.list.items c.args.tx.now c.take_claims.new.tx c.ask_aside-asked.new.tx (g.P.ShardPort.count c.args.port.now) (g.P.ShardPort.count c.ask_aside-asked.new.port) (g.P.ShardPort.told c.args.port.now).shards (g.P.ShardPort.told c.ask_aside-asked.new.port).shards
    c.in-Ok-take_claims.ensures.taken c.in-Unlisted.ensures.sessions before)

pub returns-then-is_full-clause-stepped : goal.returns-then-is_full-clause-stepped
returns-then-is_full-clause-stepped g c =
    full_first c.args.catalog.now c.args.self.now c.args.tx.now (g.P.ShardPort.told c.args.port.now) c.full_told.result c.insertion-act.result.now c.requires.stage
    (free_from c.as_slice.result.now c.args.tx.now.removed c.self.inside.key c.args.self.now.key c.is_among-crossed.result c.is_among-crossed.ensures c.if-crossed.false c.as_slice.ensures (ap (λ (p : Progress). p.key) c.self.view_is))
    c.insertion-act.ensures (sym c.is_full.ensures ∙ c.if-is_full.true) c.full_told.ensures
