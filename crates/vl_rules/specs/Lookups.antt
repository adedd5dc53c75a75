-- The rules that speak of a lookup: C6 to C10, C13 and C14. Each is looked at with a table that lists
-- the lookup, whose place in the catalog is i.
use Rattle.std.specs.Prelude.{ℕ, ◌+◌, Bool, true, false, not, ◌&&◌, ◌||◌, ◌==◌, nat_eq, nat_le, nat_lt, if◌then◌else◌, List, [], ◌∷◌, length, drop, find, count_by, option_and_then, slice_get, Option, Some}
use Rattle.std.specs.Cmp.Lexicographic.{pointwise}
use Rattle.std.specs.List.{enumerate_from, list_all, list_any}
use Rattle.std.specs.Option.{option_map_or}
use Rattle.vl_values.specs.declared.col_type.ColType.{ColType}
use Rattle.vl_values.specs.declared.col_type.ColType.TheVariants.{BigInt, BigUint, Int, Uint32, VarChar, VarBinary}
use Rattle.vl_catalog.specs.declared.catalog.Catalog.{Catalog}
use Rattle.vl_catalog.specs.declared.column.Column.{Column}
use Rattle.vl_catalog.specs.declared.column_vindex.ColumnVindex.{ColumnVindex}
use Rattle.vl_catalog.specs.declared.lookup.Lookup.{Lookup}
use Rattle.vl_catalog.specs.declared.primary.Primary.{Primary}
use Rattle.vl_catalog.specs.declared.table.Table.{Table}
use Rattle.vl_catalog.specs.Build.{column_number, columns_listed, has_vindex, other_keys, table_at}
use Rattle.vl_rules.specs.ColumnVindexes.{has_one_column, is_sharded}
use Rattle.vl_rules.specs.Tables.{are_columns}

-- whether a number, where there is one, is n
abbrev pub is_at : ℕ → Option ℕ → Bool
is_at n number = option_map_or (λ m. m == n) number false

abbrev pub is_among : List ℕ → ℕ → Bool
is_among numbers n = list_any (λ m. m == n) numbers

-- ---- C6

abbrev pub is_wide : ColType → Bool
is_wide (VarBinary n) = nat_le 16 n
is_wide BigInt = false
is_wide BigUint = false
is_wide Int = false
is_wide Uint32 = false
is_wide (VarChar n) = false

abbrev pub is_wide_column : List Column → ℕ → Bool
is_wide_column columns n = option_map_or (λ (column : Column). is_wide column.ty) (slice_get columns n) false

-- `to` is VARBINARY of 16 or more, and no `from` column
abbrev pub has_wide_to : List Column → Lookup → Bool
has_wide_to columns lookup = option_map_or (λ to. is_wide_column columns to && not (is_among lookup.from to)) lookup.to false

-- each column besides the `from` columns and `to` may be NULL
abbrev pub leaves_null : List Column → Lookup → Bool
leaves_null columns lookup =
    list_all (λ (column : ℕ × Column). is_among lookup.from column.0 || is_at column.0 lookup.to || column.1.nullable) (enumerate_from 0 columns)

-- the table has the lookup's columns, and its primary key is the `from` columns in their order
abbrev pub holds_lookup : Lookup → Table → Bool
holds_lookup lookup table =
    are_columns table.columns lookup.from && has_wide_to table.columns lookup && pointwise nat_eq table.pk lookup.from && leaves_null table.columns lookup

-- C6: the lookup's table or a column of it is missing, or is no table for its entries
abbrev pub breaks_c6 : Catalog → Lookup → Bool
breaks_c6 catalog lookup = not (option_map_or (holds_lookup lookup) (table_at catalog.tables lookup.table) false)

-- ---- C7

abbrev pub is_same_type : ColType → ColType → Bool
is_same_type BigInt BigInt = true
is_same_type BigUint BigUint = true
is_same_type Int Int = true
is_same_type Uint32 Uint32 = true
is_same_type (VarChar m) (VarChar n) = m == n
is_same_type (VarBinary m) (VarBinary n) = m == n
is_same_type _ _ = false

-- both columns exist, and have one type
abbrev pub is_same_column : List Column → List Column → ℕ → ℕ → Bool
is_same_column left right m n =
    option_map_or (λ (a : Column). option_map_or (λ (b : Column). is_same_type a.ty b.ty) (slice_get right n) false) (slice_get left m) false

-- the owner's columns whose values the `from` columns hold: its column, and for a lookup that isn't
-- unique then its primary key columns other than it
abbrev pub indexed_columns : Bool → List ℕ → ℕ → List ℕ
indexed_columns unique key column = column ∷ (if unique then [] else other_keys key (Some column))

abbrev pub are_from_columns : Lookup → Table → Table → ℕ → Bool
are_from_columns lookup table owner column =
    pointwise (is_same_column table.columns owner.columns) lookup.from (indexed_columns lookup.unique owner.pk column)

-- the owner's column: that of the lookup where the table that lists it is the owner, else the column of
-- the name that is listed
abbrev pub owner_column : ℕ → Table → Lookup → Table → Option ℕ
owner_column i listing lookup owner =
    if is_at i lookup.owner then lookup.column else option_and_then (column_number owner.columns) (slice_get (columns_listed listing.column_vindexes lookup.name) 0)

-- the `from` columns are wrong for this owner
abbrev pub is_off_owner : Catalog → ℕ → Table → Lookup → Table → Bool
is_off_owner catalog i listing lookup owner =
    not
    (option_map_or (λ (table : Table). option_map_or (are_from_columns lookup table owner) (owner_column i listing lookup owner) false)
    (table_at catalog.tables lookup.table)
    false)

-- the column vindex by which the table lists the lookup breaks C12
abbrev pub is_listed_off : Catalog → Table → Lookup → Bool
is_listed_off catalog listing lookup =
    option_map_or (λ (vindex : ColumnVindex). not (has_one_column catalog listing vindex)) (find (has_vindex lookup.name) listing.column_vindexes) false

-- C7: the `from` columns are wrong; not looked at where the owner doesn't exist, or the column vindex
-- breaks C12
abbrev pub breaks_c7 : Catalog → ℕ → Table → Lookup → Bool
breaks_c7 catalog i listing lookup =
    not (is_listed_off catalog listing lookup) && option_map_or (is_off_owner catalog i listing lookup) (table_at catalog.tables lookup.owner) false

-- ---- C8 to C14

abbrev pub lists_lookup : ℕ → Table → Bool
lists_lookup l table = is_among table.lookups l

-- C8: the owner isn't the table that lists the lookup, or a second table lists it
abbrev pub breaks_c8 : Catalog → ℕ → ℕ → Lookup → Bool
breaks_c8 catalog i l lookup = not (is_at i lookup.owner) || list_any (lists_lookup l) (drop (i + 1) catalog.tables)

-- the one column vindex is a primary vindex on the first `from` column
abbrev pub is_placed_by_from : Lookup → Table → Bool
is_placed_by_from lookup table =
    (length table.column_vindexes == 1)
    && option_map_or (λ (primary : Primary). is_at primary.column (slice_get lookup.from 0)) table.primary false

-- a sharded lookup table has column vindexes, and not that one alone
abbrev pub is_placed_otherwise : Catalog → Lookup → Table → Bool
is_placed_otherwise catalog lookup table =
    is_sharded catalog table && nat_lt 0 (length table.column_vindexes) && not (is_placed_by_from lookup table)

abbrev pub owns_lookup : Catalog → ℕ → Bool
owns_lookup catalog t = list_any (λ (other : Lookup). is_at t other.owner) catalog.lookups

abbrev pub is_table_placed_otherwise : Catalog → Lookup → Bool
is_table_placed_otherwise catalog lookup = option_map_or (is_placed_otherwise catalog lookup) (table_at catalog.tables lookup.table) false

-- C9: a sharded lookup table has another column vindex, or the lookup table owns a lookup itself
abbrev pub breaks_c9 : Catalog → Lookup → Bool
breaks_c9 catalog lookup =
    is_table_placed_otherwise catalog lookup || option_map_or (owns_lookup catalog) lookup.table false

-- C10: `write_only` is true
abbrev pub breaks_c10 : Lookup → Bool
breaks_c10 lookup = lookup.write_only

-- how many lookups the table serves
abbrev pub times_served : Catalog → ℕ → ℕ
times_served catalog t = count_by (λ (lookup : Lookup). is_at t lookup.table) catalog.lookups

-- C13: the lookup's table serves a second one, or the table lists the lookup twice
abbrev pub breaks_c13 : Catalog → Table → ℕ → Lookup → Bool
breaks_c13 catalog listing l lookup =
    option_map_or (λ t. nat_lt 1 (times_served catalog t)) lookup.table false || nat_lt 1 (count_by (λ m. m == l) listing.lookups)

abbrev pub has_primary_column : Table → Bool
has_primary_column table = option_map_or (λ (primary : Primary). nat_lt primary.column (length table.columns)) table.primary false

-- C14: the owner, or the column of its primary vindex, doesn't exist
abbrev pub breaks_c14 : Catalog → Lookup → Bool
breaks_c14 catalog lookup = not (option_map_or has_primary_column (table_at catalog.tables lookup.owner) false)
