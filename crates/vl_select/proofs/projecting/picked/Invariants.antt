use Rattle.std.proofs.Common.{◌≡◌, ℕ, drop, map, take}
use Rattle.std.specs.Prelude.{Contains}
use Rattle.vl_select.specs.Sorting.{value_in}
use Rattle.vl_select.proofs.projecting.picked.Given as goal

abbrev pub invariant-loop-n : goal.invariant-loop-n
invariant-loop-n l = (l.values.items ≡ map (λ column. value_in column l.fn.row) (take l.n l.columns)) × ((column : ℕ) → Contains (drop l.n l.columns) column → value_in column l.left.items ≡ value_in column l.fn.row)
