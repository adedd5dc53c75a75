use Rattle.std.proofs.Common.{◌≡◌, ◌++◌, codes, drop}
use Rattle.vl_text.specs.KeyText.{key_text, key_type}
use Rattle.vl_text.specs.Listed.{listed_from}
use Rattle.vl_text.specs.Shown.{shown}
use Rattle.vl_text.proofs.keys.key_text.Given as goal

abbrev pub invariant-loop-n : goal.invariant-loop-n
invariant-loop-n l =
    l.text.items ++ listed_from (codes ", ") (λ n. shown (key_type l.catalog l.key.table n)) l.n (drop l.n l.values) ≡ key_text l.catalog l.key
