use Rattle.std.proofs.Common.{arith, refl, length}
use Rattle.my_reply.proofs.Repeated.{rows_kept, rows_stop, rows_done, rows_over}
use Rattle.my_reply.proofs.packet_reading.rows_of.Goals as goal

pub returns-in-Err : goal.returns-in-Err
returns-in-Err c = rows_stop (length c.args.bytes.now) c.loop-n._n c.args.count c.loop-n.due _ _ _ _ c.loop-n-test.true (rw c.in-Err.is at c.in_ok-fault.ensures) c.loop-n.invariant

pub returns-in-Eof : goal.returns-in-Eof
returns-in-Eof c =
    rows_done (length c.args.bytes.now) c.loop-n._n c.args.count c.loop-n.due _ _ _ _ _ _ c.loop-n-test.true (rw c.in-Eof.is at (rw c.in-Ok.is at c.in_ok-fault.ensures)) c.loop-n.invariant

pub loop-n-preserved : goal.loop-n-preserved
loop-n-preserved c =
    rows_kept (length c.args.bytes.now) c.loop-n._n c.args.count c.loop-n.due _ _ _ _ _ _ _ c.loop-n-test.true (rw c.in-Row.is at (rw c.in-Ok.is at c.in_ok-fault.ensures)) c.in_ok-push-in-Row.ensures.items refl c.loop-n.invariant

pub returns : goal.returns
returns c = rows_over (length c.args.bytes.now) c.loop-n._n c.args.count c.loop-n.due _ _ _ (omega (arith, c.loop-n-test.false)) c.loop-n.invariant
