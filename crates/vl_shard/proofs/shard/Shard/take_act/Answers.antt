use Rattle.std.proofs.Common.{refl, rules}
use Rattle.vl_shard.specs.Parts.{view_of}
use Rattle.vl_shard.proofs.Using.{uses_live}
use Rattle.vl_shard.proofs.shard.Shard.take_act.Goals as goal

pub returns-in-Ok-clause-used : goal.returns-in-Ok-clause-used
returns-in-Ok-clause-used c = uses_live (view_of c.args.self.now) (view_of c.try_act-answer.new.self) c.args.who.now c.args.act.now c.in-Ok.answer refl (search rules) c.in-Ok.ensures.ok.0
