-- What a VSchema file means.
use Rattle.std.specs.Prelude.{◌≡◌, ℕ, ◌==◌, codes, List, [], ◌∷◌, map, reverse, position, unwrap_or, Bool, false, if◌then◌else◌, Option, Some, None, is_some, option_and_then}
use Rattle.std.specs.Cmp.Lexicographic.{slice_cmp}
use Rattle.std.specs.List.{slice_split, before_first, after_first}
use Rattle.std.specs.List.Sorted.{IsStrictlySortedBy}
use Rattle.std.specs.Ordering.{nat_cmp}
use Rattle.std.specs.Str.{bytes_eq}
use Rattle.serde_json.specs.Data.{Data}
use Rattle.serde_json.specs.Find.{get, as_bool, as_str}
use Rattle.vl_catalog.specs.declared.column_vindex.ColumnVindex.{ColumnVindex}
use Rattle.vl_catalog.specs.declared.keyspace_vschema.KeyspaceVschema.{KeyspaceVschema}
use Rattle.vl_catalog.specs.declared.lookup_def.LookupDef.{LookupDef}
use Rattle.vl_catalog.specs.declared.table_vschema.TableVschema.{TableVschema}
use Rattle.vl_catalog.specs.declared.vindex.Vindex.TheVariants.{Numeric, BinaryMd5}
use Rattle.vl_catalog.specs.declared.vindex_def.VindexDef.{VindexDef}
use Rattle.vl_catalog.specs.declared.vindex_def.VindexKind.{VindexKind}
use Rattle.vl_catalog.specs.declared.vindex_def.VindexKind.TheVariants.{Primary, Lookup}
use Rattle.vl_vschema.specs.Breaking.{has_type}
use Rattle.vl_vschema.specs.Ignored.{ignored}
use Rattle.vl_vschema.specs.Json.{has, in_option, items_of, members_of, text_at}
use Rattle.vl_vschema.specs.Sink.{IsListing}

-- ---- texts and parts by name, empty where there is none

abbrev pub text_of : Data → List ℕ
text_of d = unwrap_or (as_str d) []

abbrev pub text_named : List ℕ → Data → List ℕ
text_named name d = unwrap_or (text_at name d) []

abbrev pub members_named : List ℕ → Data → List (List ℕ × Data)
members_named name d = in_option members_of (get name d)

abbrev pub items_named : List ℕ → Data → List Data
items_named name d = in_option items_of (get name d)

abbrev pub param : List ℕ → Data → List ℕ
param name d = unwrap_or (option_and_then (text_at name) (get (codes "params") d)) []

-- ---- lookups

-- what stands before and behind the first `.`
abbrev pub is_dot : ℕ → Bool
is_dot byte = byte == 46

abbrev pub keyspace_in : List ℕ → Option (List ℕ)
keyspace_in text = if is_some (position is_dot text) then Some (before_first is_dot text) else None

abbrev pub table_in : List ℕ → List ℕ
table_in text = if is_some (position is_dot text) then after_first is_dot text else text

abbrev pub drop_spaces : List ℕ → List ℕ
drop_spaces [] = []
drop_spaces (byte ∷ rest) = if byte == 32 then drop_spaces rest else byte ∷ rest

-- without the spaces at both ends
abbrev pub trimmed : List ℕ → List ℕ
trimmed text = reverse (drop_spaces (reverse (drop_spaces text)))

-- cut at the commas
abbrev pub names_in : List ℕ → List (List ℕ)
names_in text = map trimmed (slice_split (λ byte. byte == 44) text)

abbrev pub lookup_of : Data → LookupDef
lookup_of d = record {
  unique = has_type (codes "consistent_lookup_unique") d;
  owner = text_named (codes "owner") d;
  keyspace = keyspace_in (param (codes "table") d);
  table = table_in (param (codes "table") d);
  from = names_in (param (codes "from") d);
  to = param (codes "to") d;
  ignore_nulls = bytes_eq (param (codes "ignore_nulls") d) (codes "true");
  write_only = bytes_eq (param (codes "write_only") d) (codes "true");
}

-- ---- vindexes and tables

abbrev pub kind_of : Data → VindexKind
kind_of d = if has_type (codes "numeric") d then Primary Numeric
    else (if has_type (codes "binary_md5") d then Primary BinaryMd5 else Lookup (lookup_of d))

abbrev pub vindex_of : List ℕ × Data → VindexDef
vindex_of m = record { name = m.0; kind = kind_of m.1 }

abbrev pub columns_of : Data → List (List ℕ)
columns_of d = if has (codes "column") d then text_named (codes "column") d ∷ [] else map text_of (items_named (codes "columns") d)

abbrev pub column_vindex_of : Data → ColumnVindex
column_vindex_of d = record { columns = columns_of d; vindex = text_named (codes "name") d }

abbrev pub table_of : List ℕ × Data → TableVschema
table_of m = record { name = m.0; column_vindexes = map column_vindex_of (items_named (codes "column_vindexes") m.1) }

-- ---- the file

-- false where it is missing
abbrev pub is_sharded : Data → Bool
is_sharded d = unwrap_or (option_and_then as_bool (get (codes "sharded") d)) false

-- the names are told apart, and stand by their bytes
abbrev pub IsByName : List (List ℕ) → Type 0
IsByName names = IsStrictlySortedBy (slice_cmp nat_cmp) names

pub record IsVschema (d : Data) (v : KeyspaceVschema) : Type 0 where
  pub sharded : v.sharded ≡ is_sharded d
  pub vindexes : v.vindexes ≡ map vindex_of (members_named (codes "vindexes") d)
  pub tables : v.tables ≡ map table_of (members_named (codes "tables") d)
  pub ignored : IsListing (ignored [] d) v.ignored
  pub vindexes_by_name : IsByName (map (λ vindex. vindex.name) v.vindexes)
  pub tables_by_name : IsByName (map (λ table. table.name) v.tables)
