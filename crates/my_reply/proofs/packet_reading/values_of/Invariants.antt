use Rattle.std.proofs.Common.{◌≡◌, ◌-◌}
use Rattle.my_reply.specs.ResultSetReading.{values_at}
use Rattle.my_reply.proofs.Repeated.{with_values}
use Rattle.my_reply.proofs.packet_reading.values_of.Given as goal

abbrev pub invariant-loop-n : goal.invariant-loop-n
invariant-loop-n l = with_values l.values.items (values_at (l.count - l._n) l.rest) ≡ values_at l.count l.bytes
