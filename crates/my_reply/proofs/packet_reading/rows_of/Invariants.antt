use Rattle.std.proofs.Common.{◌≡◌, ◌-◌, length}
use Rattle.my_reply.specs.ResultSetReading.{rows_at}
use Rattle.my_reply.proofs.Repeated.{with_front}
use Rattle.my_reply.proofs.packet_reading.rows_of.Given as goal

abbrev pub invariant-loop-n : goal.invariant-loop-n
invariant-loop-n l = with_front l.rows.items (rows_at (length l.bytes - l._n) l.count l.due l.rest) ≡ rows_at (length l.bytes) l.count l.first l.bytes
