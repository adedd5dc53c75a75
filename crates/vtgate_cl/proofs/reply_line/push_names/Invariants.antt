use Rattle.std.proofs.Common.{◌≡◌, ◌++◌, drop}
use Rattle.vl_model.specs.ReplyLine.{names_from, names_text}
use Rattle.vtgate_cl.proofs.reply_line.push_names.Given as goal

abbrev pub invariant-loop-n : goal.invariant-loop-n
invariant-loop-n l = l.line.items ++ names_from l.n (drop l.n l.columns) ≡ l.fn.line.items ++ names_text l.columns
