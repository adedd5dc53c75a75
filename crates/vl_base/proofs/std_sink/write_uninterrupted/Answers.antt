use Rattle.vl_base.proofs.Known.{appends_after, keeps_itself}
use Rattle.vl_base.proofs.std_sink.write_uninterrupted.Goals as goal

pub loop-init : goal.loop-init
loop-init g c = keeps_itself _

pub returns-in-Ok-clause-bytes : goal.returns-in-Ok-clause-bytes
returns-in-Ok-clause-bytes g c = appends_after _ _ _ _ c.loop.invariant c.in-Ok.ensures.bytes
