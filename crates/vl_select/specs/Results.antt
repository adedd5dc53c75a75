-- What a SELECT answers of the rows that were read: ordered, then cut, then projected.
use Rattle.std.specs.Prelude.{◌≡◌, ℕ, List, [], ◌∷◌, map, take, Option, Some, None}
use Rattle.vl_values.specs.declared.key.Key.{Key}
use Rattle.vl_values.specs.declared.value.Value.TheVariants.{Uint}
use Rattle.vl_plan.specs.declared.projection.Projection.{Projection}
use Rattle.vl_plan.specs.declared.projection.Projection.TheVariants as projections
use Rattle.vl_plan.specs.declared.sort.Sort.{Sort}
use Rattle.vl_port.specs.View.{Values}
use Rattle.vl_select.specs.Sorting.{AreInOrder, value_in}

-- LIMIT
abbrev pub limited : Option ℕ → List (Key × Values) → List (Key × Values)
limited None rows = rows
limited (Some n) rows = take n rows

-- the values of these columns
abbrev pub picked : List ℕ → Values → Values
picked columns row = map (λ column. value_in column row) columns

-- COUNT(*) is one row with the number of rows that were found
abbrev pub projected : Projection → ℕ → List (Key × Values) → List Values
projected projections.All found rows = map (λ row. row.1) rows
projected projections.Count found rows = (Uint found ∷ []) ∷ []
projected (projections.Columns columns) found rows = map (λ row. picked columns row.1) rows

-- the rows of a result set
abbrev pub IsResultOf : Projection → List Sort → Option ℕ → ℕ → List (Key × Values) → List Values → Type 0
IsResultOf what sorts limit found rows result = (ordered : List (Key × Values)) × AreInOrder sorts rows ordered × (result ≡ projected what found (limited limit ordered))
