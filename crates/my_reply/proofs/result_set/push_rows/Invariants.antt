use Rattle.std.proofs.Common.{◌≡◌, ◌++◌, ℕ, List, drop, map}
use Rattle.my_reply.specs.ResultSet.{row_payload, framed_from}
use Rattle.my_reply.proofs.result_set.push_rows.Given as goal

abbrev pub invariant-loop-row : goal.invariant-loop-row
invariant-loop-row l =
    (rest : List (List ℕ)) → l.buf.items ++ framed_from l.seq (map row_payload (drop l.row-index l.rows) ++ rest) ≡ l.fn.buf.items ++ framed_from l.first (map row_payload l.rows ++ rest)
