use Rattle.std.proofs.Common.{◌≡◌, ◌++◌, codes, drop}
use Rattle.vl_model.specs.ReplyLine.{row_text, type_in}
use Rattle.vl_text.specs.Listed.{listed_from}
use Rattle.vl_text.specs.Shown.{shown}
use Rattle.vtgate_cl.proofs.reply_line.push_values.Given as goal

abbrev pub invariant-loop-n : goal.invariant-loop-n
invariant-loop-n l =
    l.line.items ++ listed_from (codes ", ") (λ n. shown (type_in l.columns n)) l.n (drop l.n l.row) ≡ l.fn.line.items ++ row_text l.columns l.row
