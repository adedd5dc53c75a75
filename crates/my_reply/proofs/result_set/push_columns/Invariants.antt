use Rattle.std.proofs.Common.{◌≡◌, ◌++◌, ℕ, List, drop, map}
use Rattle.my_reply.specs.ResultSet.{column_payload, framed_from}
use Rattle.my_reply.proofs.result_set.push_columns.Given as goal

abbrev pub invariant-loop-column : goal.invariant-loop-column
invariant-loop-column l =
    (rest : List (List ℕ)) → l.buf.items ++ framed_from l.seq (map column_payload (drop l.column-index l.columns) ++ rest) ≡ l.fn.buf.items ++ framed_from l.first (map column_payload l.columns ++ rest)
