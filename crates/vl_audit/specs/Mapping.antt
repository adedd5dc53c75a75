-- What an entry says and a row needs, so that an entry is needed exactly where both are the same.
use Rattle.std.specs.Prelude.{ℕ, Bool, if◌then◌else◌, List, map, slice_get, slice_index_or, option_and_then, Option, Some, None}
use Rattle.std.specs.Option.{is_some, option_map}
use Rattle.vl_values.specs.declared.value.Value.{Value}
use Rattle.vl_values.specs.declared.value.Value.TheVariants.{Null, Bytes}
use Rattle.vl_values.specs.Value.{is_null}
use Rattle.vl_catalog.specs.declared.catalog.Catalog.{Catalog}
use Rattle.vl_catalog.specs.declared.lookup.Lookup.{Lookup}
use Rattle.vl_catalog.specs.declared.table.Table.{Table}
use Rattle.vl_catalog.specs.Place.{ksid_of}
use Rattle.vl_model.specs.Tables.{Pair, table_of}
use Rattle.vl_model.specs.Entries.{from_columns, is_served_by, named_by}
use Rattle.vl_audit.specs.declared.mapping.Mapping.{Mapping}

abbrev pub values_at : List Value → List ℕ → List Value
values_at row columns = map (λ n. slice_index_or row n Null) columns

abbrev pub mapping_of : List Value → List ℕ → List ℕ → Mapping
mapping_of row columns ksid = record { values = values_at row columns; ksid = Bytes ksid }

abbrev pub ksid_named : List Value → Option ℕ → Option (List ℕ)
ksid_named row to = option_and_then (λ n. named_by n row) to

-- what an entry of the lookup says
abbrev pub entry_mapping : Lookup → Pair → Option Mapping
entry_mapping lookup entry =
    if is_served_by (table_of entry) lookup.table then option_map (mapping_of entry.1 lookup.from) (ksid_named entry.1 lookup.to) else None

abbrev pub not_null : Value → Option Value
not_null value = if is_null value then None else Some value

-- the value of the lookup's owner in the lookup's column, where it isn't NULL
abbrev pub value_of : Lookup → Pair → Option Value
value_of lookup row =
    if is_served_by (table_of row) lookup.owner then option_and_then (λ n. not_null (slice_index_or row.1 n Null)) lookup.column else None

abbrev pub is_indexed : Lookup → Pair → Bool
is_indexed lookup row = is_some (value_of lookup row)

abbrev pub owner_mapping : Lookup → Table → List Value → Option (List ℕ) → Option Mapping
owner_mapping lookup owner row ksid = option_map (mapping_of row (from_columns lookup owner)) ksid

-- what a row with a value of the lookup needs
abbrev pub row_mapping : Catalog → Lookup → Pair → Option Mapping
row_mapping catalog lookup row =
    if is_indexed lookup row
    then option_and_then (λ owner. owner_mapping lookup owner row.1 (ksid_of catalog (table_of row) row.1)) (slice_get catalog.tables (table_of row))
    else None
