-- What may stand in a shard's file: keys, rows and changes that the catalog allows on this shard, in order.
use Rattle.std.specs.Prelude.{◌≡◌, ◌≤◌, ℕ, zero, suc, ◌-◌, ◌==◌, Bool, true, false, List, [], ◌∷◌, length, Option, Some, None, option_and_then, slice_get, slice_index_or, if◌then◌else◌}
use Rattle.std.specs.Option.{option_map}
use Rattle.std.specs.Ordering.{is_eq}
use Rattle.vl_values.specs.declared.key.Key.{Key}
use Rattle.vl_values.specs.declared.value.Value.{Value}
use Rattle.vl_values.specs.declared.value.Value.TheVariants.{Null}
use Rattle.vl_values.specs.Fit.{is_held}
use Rattle.vl_values.specs.Keyed.{comes_before}
use Rattle.vl_values.specs.Row.{row_cmp}
use Rattle.vl_catalog.specs.declared.catalog.Catalog.{Catalog}
use Rattle.vl_catalog.specs.declared.change.Change.{Change}
use Rattle.vl_catalog.specs.declared.column.Column.{Column}
use Rattle.vl_catalog.specs.declared.primary.Primary.{Primary}
use Rattle.vl_catalog.specs.declared.table.Table.{Table}
use Rattle.vl_catalog.specs.Fitting.{key_values}
use Rattle.vl_catalog.specs.Place.{place_of_value}

-- how many values a key of the table has (true), or a row (false)
abbrev pub width_of : Table → Bool → ℕ
width_of table true = length table.pk
width_of table false = length table.columns

-- the column of the value at an index of a key, or of a row
abbrev pub column_at : Table → Bool → ℕ → Option Column
column_at table true index = option_and_then (λ column. slice_get table.columns column) (slice_get table.pk index)
column_at table false index = slice_get table.columns index

-- whether the column may hold the value
abbrev pub fits : Option Column → Value → Bool
fits None value = false
fits (Some column) value = is_held column.ty column.nullable value

-- where a column stands in the key; the key's length where it isn't in it
abbrev pub position : ℕ → List ℕ → ℕ
position column [] = 0
position column (first ∷ others) = if first == column then 0 else suc (position column others)

-- a key's value in the column of the table's primary vindex
abbrev pub primary_value : Table → Option Primary → List Value → Value
primary_value table None pk = Null
primary_value table (Some primary) pk = slice_index_or pk (position primary.column table.pk) Null

-- whether the shard is this one
abbrev pub is_shard : ℕ → Option ℕ → Bool
is_shard shard None = false
is_shard shard (Some other) = other == shard

-- whether a key of the table has its place on this shard
abbrev pub is_here : Catalog → ℕ → Table → Key → Bool
is_here catalog shard table key = is_shard shard (place_of_value catalog key.table (primary_value table table.primary key.pk))

-- whether a key stands above the one before it, if there is one
abbrev pub is_above : Option Key → Key → Bool
is_above None key = true
is_above (Some before) key = comes_before before key

-- whether a row of the table has the key's values
abbrev pub has_key : Table → Key → List Value → Bool
has_key table key row = is_eq (row_cmp key.pk (key_values table row))

-- the last of the keys of these changes, and of these pairs
abbrev pub last_changed : List Change → Option Key
last_changed changes = option_map (λ change. change.key) (slice_get changes (length changes - 1))

abbrev pub last_key : List (Key × List Value) → Option Key
last_key pairs = option_map (λ pair. pair.0) (slice_get pairs (length pairs - 1))
