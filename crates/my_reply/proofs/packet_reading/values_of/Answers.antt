use Rattle.my_reply.proofs.Repeated.{values_kept, values_stop}
use Rattle.my_reply.proofs.packet_reading.values_of.Goals as goal

pub returns-in-Err : goal.returns-in-Err
returns-in-Err c = values_stop c.args.count c.loop-n._n _ _ _ _ c.loop-n-test.true (rw c.in-Err.is at c.in_ok-fault.ensures) c.loop-n.invariant

pub loop-n-preserved : goal.loop-n-preserved
loop-n-preserved c = values_kept c.args.count c.loop-n._n _ _ _ _ _ _ c.loop-n-test.true (rw c.in-Ok.is at c.in_ok-fault.ensures) c.in_ok-push-in-Ok.ensures.items c.loop-n.invariant
