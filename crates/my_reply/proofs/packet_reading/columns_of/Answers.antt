use Rattle.std.proofs.Common.{arith, refl}
use Rattle.my_reply.proofs.Repeated.{columns_kept, columns_stop, columns_over}
use Rattle.my_reply.proofs.packet_reading.columns_of.Goals as goal

pub returns-in-Err : goal.returns-in-Err
returns-in-Err c = columns_stop c.args.count c.loop-n._n c.loop-n.due _ _ _ _ c.loop-n-test.true (rw c.in-Err.is at c.in_ok-fault.ensures) c.loop-n.invariant

pub loop-n-preserved : goal.loop-n-preserved
loop-n-preserved c = columns_kept c.args.count c.loop-n._n c.loop-n.due _ _ _ _ _ _ _ c.loop-n-test.true (rw c.in-Ok.is at c.in_ok-fault.ensures) c.in_ok-push-in-Ok.ensures.items refl c.loop-n.invariant

pub returns : goal.returns
returns c = columns_over c.args.count c.loop-n._n c.loop-n.due _ _ _ (omega (arith, c.loop-n-test.false)) c.loop-n.invariant
