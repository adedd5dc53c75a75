-- What the parts of a journal leave, and what a shard has stored.
use Rattle.std.specs.Prelude.{Bool, List, [], ◌∷◌, Option, Some, None, if◌then◌else◌}
use Rattle.std.specs.Ordering.{is_eq}
use Rattle.vl_values.specs.declared.key.Key.{Key}
use Rattle.vl_values.specs.declared.value.Value.{Value}
use Rattle.vl_values.specs.Key.{key_cmp}
use Rattle.vl_catalog.specs.declared.change.Change.{Change}
use Rattle.vl_catalog.specs.declared.part.Part.{Part}

-- the row that each key has, if it has one
abbrev pub Rows : Type 0
Rows = Key → Option (List Value)

abbrev pub is_key : Key → Key → Bool
is_key a b = is_eq (key_cmp a b)

-- a change gives its key a row, or removes it
abbrev pub changed : Rows → Change → Rows
changed rows change k = if is_key change.key k then change.row else rows k

-- one change after another: a key has its last change, or else what it had
abbrev pub after_changes : Rows → List Change → Rows
after_changes rows [] = rows
after_changes rows (change ∷ changes) = after_changes (changed rows change) changes

-- one part after another
abbrev pub after : Rows → List Part → Rows
after rows [] = rows
after rows (part ∷ parts) = after (after_changes rows part.changes) parts

-- the rows of a list, each key once
abbrev pub rows_of : List (Key × List Value) → Rows
rows_of [] k = None
rows_of (pair ∷ pairs) k = if is_key pair.0 k then Some pair.1 else rows_of pairs k

-- what a shard has stored: the rows that its file begins with, and behind them the parts of its records
abbrev pub stored : List (Key × List Value) → List Part → Rows
stored pairs parts = after (rows_of pairs) parts
