-- The order of ORDER BY.
use Rattle.std.specs.Prelude.{◌≡◌, ℕ, Bool, true, false, List, [], ◌∷◌, slice_index_or}
use Rattle.std.specs.declared.cmp.Ordering.{Ordering}
use Rattle.std.specs.declared.cmp.Ordering.TheVariants.{Equal}
use Rattle.std.specs.List.Sorted.{IsPermutation, IsSorted, IsStable}
use Rattle.std.specs.Ordering.{flip_args, on, then_cmp}
use Rattle.vl_values.specs.declared.key.Key.{Key}
use Rattle.vl_values.specs.declared.value.Value.{Value}
use Rattle.vl_values.specs.declared.value.Value.TheVariants.{Null}
use Rattle.vl_values.specs.Key.{key_cmp}
use Rattle.vl_values.specs.Value.{value_cmp}
use Rattle.vl_plan.specs.declared.sort.Sort.{Sort}
use Rattle.vl_port.specs.View.{Values}

-- NULL stands before all other values, and so behind them where the order is descending
abbrev pub directed : Bool → Value → Value → Ordering
directed false = value_cmp
directed true = flip_args value_cmp

abbrev pub value_in : ℕ → Values → Value
value_in column row = slice_index_or row column Null

-- by one column
abbrev pub sort_cmp : Sort → Values → Values → Ordering
sort_cmp sort = on (value_in sort.column) (directed sort.descending)

-- by each column in turn, until one tells the rows apart
abbrev pub sorts_cmp : List Sort → Values → Values → Ordering
sorts_cmp [] = λ a b. Equal
sorts_cmp (sort ∷ sorts) = then_cmp (sort_cmp sort) (sorts_cmp sorts)

-- rows that no column tells apart stand by their primary keys
abbrev pub rows_cmp : List Sort → Key × Values → Key × Values → Ordering
rows_cmp sorts = then_cmp (on (λ row. row.1) (sorts_cmp sorts)) (on (λ row. row.0) key_cmp)

-- the rows in order; those that tie, as rows of one key on two shards may, stand as they did
pub record AreSorted (sorts : List Sort) (rows sorted : List (Key × Values)) : Type 0 where
  pub same : IsPermutation rows sorted
  pub ordered : IsSorted (rows_cmp sorts) sorted
  pub stable : IsStable (rows_cmp sorts) rows sorted

-- without ORDER BY they stand as they were read
abbrev pub AreInOrder : List Sort → List (Key × Values) → List (Key × Values) → Type 0
AreInOrder [] rows ordered = ordered ≡ rows
AreInOrder (sort ∷ sorts) rows ordered = AreSorted (sort ∷ sorts) rows ordered
