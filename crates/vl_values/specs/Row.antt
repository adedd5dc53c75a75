-- The order of rows and of keys.
use Rattle.std.specs.Prelude.{List}
use Rattle.std.specs.declared.cmp.Ordering.{Ordering}
use Rattle.std.specs.Cmp.Lexicographic.{slice_cmp}
use Rattle.vl_values.specs.declared.value.Value.{Value}
use Rattle.vl_values.specs.Value.{value_cmp}

-- by the first values that differ, a row before those that extend it
abbrev pub row_cmp : List Value → List Value → Ordering
row_cmp = slice_cmp value_cmp
