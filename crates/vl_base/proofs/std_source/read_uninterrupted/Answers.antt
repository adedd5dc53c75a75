use Rattle.vl_base.proofs.Known.{consumes_after, keeps_itself}
use Rattle.vl_base.proofs.std_source.read_uninterrupted.Goals as goal

pub loop-init : goal.loop-init
loop-init g c = keeps_itself _

pub returns-in-Ok-clause-bytes : goal.returns-in-Ok-clause-bytes
returns-in-Ok-clause-bytes g c =
    (consumes_after _ _ _ _ c.loop.invariant c.in-Ok.ensures.bytes.0, c.in-Ok.ensures.bytes.1)
