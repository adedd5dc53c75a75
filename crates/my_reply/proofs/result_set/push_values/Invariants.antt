use Rattle.std.proofs.Common.{◌≡◌, ◌++◌, drop}
use Rattle.my_reply.specs.ResultSet.{row_payload}
use Rattle.my_reply.proofs.result_set.push_values.Given as goal

abbrev pub invariant-loop-value : goal.invariant-loop-value
invariant-loop-value l = l.buf.items ++ row_payload (drop l.value-index l.row) ≡ l.fn.buf.items ++ row_payload l.row
