use Rattle.std.proofs.Common.{◌≡◌, ◌-◌}
use Rattle.my_reply.specs.ResultSetReading.{columns_at}
use Rattle.my_reply.proofs.Repeated.{with_front}
use Rattle.my_reply.proofs.packet_reading.columns_of.Given as goal

abbrev pub invariant-loop-n : goal.invariant-loop-n
invariant-loop-n l = with_front l.columns.items (columns_at (l.count - l._n) l.due l.rest) ≡ columns_at l.count l.first l.bytes
