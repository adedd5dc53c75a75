use Rattle.std.proofs.Common.{◌≡◌, ◌++◌, drop}
use Rattle.vl_model.specs.ReplyLine.{row_lines}
use Rattle.vtgate_cl.proofs.reply_line.push_rows.Given as goal

abbrev pub invariant-loop-row : goal.invariant-loop-row
invariant-loop-row l = l.line.items ++ row_lines l.session l.columns (drop l.row-index l.rows) ≡ l.fn.line.items ++ row_lines l.session l.columns l.rows
