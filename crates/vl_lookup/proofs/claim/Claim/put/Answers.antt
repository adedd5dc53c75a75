use Rattle.std.proofs.Common.{ap, sym, ◌∙◌}
use Rattle.vl_lookup.specs.Progress.{Progress}
use Rattle.vl_lookup.proofs.Answered.{put_answer}
use Rattle.vl_lookup.proofs.Stepped.{did_put, full_put}
use Rattle.vl_lookup.proofs.claim.Claim.put.Goals as goal

pub returns-in-Answered-clause-stepped : goal.returns-in-Answered-clause-stepped
returns-in-Answered-clause-stepped g c =
    did_put (g.P.ShardPort.catalog c.args.port.now) c.args.self.now c.args.tx.now c.ask-asked.new.tx (g.P.ShardPort.told c.args.port.now) (g.P.ShardPort.told c.ask-asked.new.port) c.put_told.result c.self.inside.shard c.in-Some.act c.in-Answered.answer
    c.requires.stage c.in-Some.ensures (sym c.is_full.ensures ∙ c.if-is_full.false) (ap (λ (p : Progress). p.shard) c.self.view_is) c.in-Answered.ensures.asked c.in-Answered.ensures.tx c.put_told.ensures

pub returns-then-is_full-clause-stepped : goal.returns-then-is_full-clause-stepped
returns-then-is_full-clause-stepped g c =
    full_put (g.P.ShardPort.catalog c.args.port.now) c.args.self.now c.args.tx.now (g.P.ShardPort.told c.args.port.now) c.full_told.result c.in-Some.act c.requires.stage c.in-Some.ensures (sym c.is_full.ensures ∙ c.if-is_full.true) c.full_told.ensures
