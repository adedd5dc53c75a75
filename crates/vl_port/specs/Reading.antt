-- Which rows a read gives.
use Rattle.std.specs.Prelude.{◌≡◌, Bool, true, false, List, ◌==◌, ◌&&◌, Contains, Option, Some, None}
use Rattle.vl_values.specs.declared.key.Key.{Key}
use Rattle.vl_values.specs.declared.pred.Pred.{Pred}
use Rattle.vl_values.specs.Keyed.{InKeyOrder}
use Rattle.vl_values.specs.Pred.{matches}
use Rattle.vl_port.specs.declared.who.Who.{Who}
use Rattle.vl_port.specs.View.{View, Values, standing}

-- a version of a key matches a predicate of its table
abbrev pub is_match : Pred → Key → Option Values → Bool
is_match pred key None = false
is_match pred key (Some row) = (key.table == pred.table) && matches pred row

-- the rows are those whose standing version matches, all of them, in the order of their keys
pub record IsRead (view : View) (who : Who) (pred : Pred) (rows : List (Key × Values)) : Type 0 where
  pub ordered : InKeyOrder rows
  pub sound : (row : Key × Values) → Contains rows row → (standing view who row.0 ≡ Some row.1) × (is_match pred row.0 (Some row.1) ≡ true)
  pub complete : (key : Key) (values : Values) → standing view who key ≡ Some values → is_match pred key (Some values) ≡ true → Contains rows (key, values)
