use Rattle.std.proofs.Common.{◌≡◌, length, reverse}
use Rattle.vl_vschema.specs.Vschema.{drop_spaces}
use Rattle.vl_vschema.proofs.trimmed.without_trailing.Given as goal

-- spaces alone stand behind
abbrev pub invariant-loop-last : goal.invariant-loop-last
invariant-loop-last l = reverse (drop_spaces (reverse l.rest)) ≡ reverse (drop_spaces (reverse l.fn.text))

abbrev pub decreases-loop-last : goal.decreases-loop-last
decreases-loop-last l = length l.rest
