-- Which keys and rows a predicate finds among the versions.
use Rattle.std.specs.Prelude.{◌≡◌, ℕ, Bool, false, List, ◌==◌, ◌&&◌, ◌||◌, IsTrue}
use Rattle.std.specs.declared.option.Option.{Option}
use Rattle.std.specs.declared.option.Option.TheVariants.{Some, None}
use Rattle.vl_values.specs.declared.key.Key.{Key}
use Rattle.vl_values.specs.declared.pred.Pred.{Pred}
use Rattle.vl_values.specs.declared.value.Value.{Value}
use Rattle.vl_values.specs.Pred.{matches}
use Rattle.vl_rows.specs.declared.change.Change.{Change}
use Rattle.vl_rows.specs.Versions.{Versions, committed_at, pending_at, standing_at}

-- the key is of the predicate's table and this version of it is a row that matches
abbrev pub matches_at : Pred → Key → Option (List Value) → Bool
matches_at pred key None = false
matches_at pred key (Some row) = (key.table == pred.table) && matches pred row

-- the row that a pending change leaves
abbrev pub row_of : Option Change → Option (List Value)
row_of None = None
row_of (Some change) = change.row

-- the committed or the pending version matches
abbrev pub has_match : Versions → Pred → Key → Bool
has_match versions pred key = matches_at pred key (committed_at versions key) || matches_at pred key (row_of (pending_at versions key))

-- the reader sees this row at this key, and it matches
abbrev pub IsFound : Versions → Option ℕ → Pred → Key × List Value → Type 0
IsFound versions reader pred entry = (standing_at versions reader entry.0 ≡ Some entry.1) × IsTrue (matches_at pred entry.0 (Some entry.1))
