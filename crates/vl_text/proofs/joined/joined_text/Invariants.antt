use Rattle.std.proofs.Common.{◌≡◌, ◌++◌, codes, drop}
use Rattle.vl_values.specs.Value.{text_of_value}
use Rattle.vl_text.specs.JoinedText.{joined_text, printable}
use Rattle.vl_text.specs.Listed.{listed_from}
use Rattle.vl_text.proofs.joined.joined_text.Given as goal

abbrev pub invariant-loop-n : goal.invariant-loop-n
invariant-loop-n l =
    l.text.items ++ listed_from (codes "-") (λ n value. printable (text_of_value value)) l.n (drop l.n l.values) ≡ joined_text l.values
