-- The entry that a row needs, column by column, and the tests that find the rows which need it.
use Rattle.std.specs.Prelude.{ℕ, ◌==◌, if◌then◌else◌, List, [], ◌∷◌, map, position, slice_get, slice_index_or}
use Rattle.std.specs.List.{range_with_len}
use Rattle.std.specs.Option.{option_map_or}
use Rattle.vl_values.specs.declared.test.Test.{Test}
use Rattle.vl_values.specs.declared.value.Value.{Value}
use Rattle.vl_values.specs.declared.value.Value.TheVariants.{Null, Bytes}
use Rattle.vl_port.specs.View.{Values}

abbrev pub at : Values → ℕ → Value
at row n = slice_index_or row n Null

-- the value of the row in the column of place k
abbrev pub given_at : Values → List ℕ → ℕ → Value
given_at row columns k = option_map_or (at row) (slice_get columns k) Null

-- the keyspace id in the column for it, the row's values in the `from` columns, and NULL in the others
abbrev pub entry_value : Values → List ℕ → List ℕ → ℕ → List ℕ → ℕ → Value
entry_value row columns from to ksid n = if n == to then Bytes ksid else option_map_or (given_at row columns) (position (λ m. m == n) from) Null

abbrev pub entry_row : Values → List ℕ → List ℕ → ℕ → List ℕ → ℕ → Values
entry_row row columns from to ksid width = map (entry_value row columns from to ksid) (range_with_len 0 width)

-- the column has the row's value
abbrev pub test_of : Values → ℕ → Test
test_of row n = record { column = n; values = at row n ∷ [] }
