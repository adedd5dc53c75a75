use Rattle.std.proofs.Common.{◌≡◌, drop}
use Rattle.vl_vschema.specs.Vschema.{drop_spaces}
use Rattle.vl_vschema.proofs.trimmed.without_leading.Given as goal

-- spaces alone stand before
abbrev pub invariant-loop-i : goal.invariant-loop-i
invariant-loop-i l = drop_spaces (drop l.i l.text) ≡ drop_spaces l.fn.text
