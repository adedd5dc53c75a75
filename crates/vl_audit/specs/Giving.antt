-- What the rows give to the ordered maps of an audit.
use Rattle.std.specs.Prelude.{ℕ, Bool, false, not, ◌&&◌, if◌then◌else◌, option_and_then, Option, Some, None}
use Rattle.std.specs.Option.{option_map, option_map_or}
use Rattle.vl_values.specs.declared.key.Key.{Key}
use Rattle.vl_values.specs.declared.value.Value.{Value}
use Rattle.vl_values.specs.Keyed.{is_key}
use Rattle.vl_catalog.specs.declared.catalog.Catalog.{Catalog}
use Rattle.vl_catalog.specs.declared.lookup.Lookup.{Lookup}
use Rattle.vl_model.specs.Tables.{Pair, table_of}
use Rattle.vl_model.specs.Entries.{is_lookup_table, is_served_by}
use Rattle.vl_audit.specs.declared.found.Found.{Found}
use Rattle.vl_audit.specs.declared.mapping.Mapping.{Mapping}
use Rattle.vl_audit.specs.Mapping.{entry_mapping, is_indexed, row_mapping, value_of}

-- a key alone
abbrev pub alone : {K : Type 0} → K → K × Unit {0}
alone key = (key, tt)

abbrev pub found_where : Bool → ℕ → Pair → Option (Found × Unit {0})
found_where test shard pair = if test then Some (alone (record { shard = shard; key = pair.0; row = pair.1 })) else None

-- what an entry says
abbrev pub said : Lookup → Pair → Option (Mapping × Unit {0})
said lookup pair = option_map {T = Mapping} {U = Mapping × Unit {0}} alone (entry_mapping lookup pair)

-- what a row of a plain table needs
abbrev pub needed : Catalog → Lookup → Pair → Option (Mapping × Unit {0})
needed catalog lookup pair =
    if is_lookup_table catalog (table_of pair) then None else option_map {T = Mapping} {U = Mapping × Unit {0}} alone (row_mapping catalog lookup pair)

-- whether the mapping exists and is among those that stand
abbrev pub is_met : (Mapping → Bool) → Option Mapping → Bool
is_met has mapping = option_map_or has mapping false

-- a row of a plain table that has a value of the lookup, and whose mapping no entry says
abbrev pub is_unmet : (Mapping → Bool) → Catalog → Lookup → Pair → Bool
is_unmet has catalog lookup pair =
    not (is_lookup_table catalog (table_of pair)) && (is_indexed lookup pair && not (is_met has (row_mapping catalog lookup pair)))

-- an entry whose mapping no row needs
abbrev pub is_unneeded : (Mapping → Bool) → Lookup → Pair → Bool
is_unneeded has lookup pair = is_served_by (table_of pair) lookup.table && not (is_met has (entry_mapping lookup pair))

-- the row's value, with its key
abbrev pub sighted : Lookup → Pair → Option (Value × Key)
sighted lookup pair = option_map {T = Value} {U = Value × Key} (λ value. (value, pair.0)) (value_of lookup pair)

abbrev pub is_other : Option Key → Key → Bool
is_other None key = false
is_other (Some first) key = not (is_key first key)

-- a value that another row had first
abbrev pub repeated : (Value → Option Key) → Lookup → Pair → Option (Value × Unit {0})
repeated first lookup pair = option_and_then (λ value. if is_other (first value) pair.0 then Some (alone value) else None) (value_of lookup pair)

abbrev pub is_doubled : (Value → Bool) → Lookup → Pair → Bool
is_doubled has lookup pair = option_map_or has (value_of lookup pair) false
