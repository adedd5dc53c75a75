-- What a table of a checked catalog keeps, and the catalog as a whole.
use Rattle.std.proofs.Common.{◌≡◌, ℕ, zero, suc, ◌+◌, ◌-◌, ◌<◌, ◌^◌, Bool, true, false, not, ◌&&◌, ◌||◌, ◌==◌, nat_lt, is_none, is_some, if◌then◌else◌, List, [], ◌∷◌, length, drop, slice_get, slice_index_or, Option, Some, None, refl, sym, ap, ◌∙◌, arith}
use Rattle.std.specs.Cmp.Lexicographic.{pointwise}
use Rattle.std.specs.List.{list_all, list_any}
use Rattle.std.specs.Option.{option_map_or}
use Rattle.std.specs.Str.{bytes_eq}
use Rattle.std.proofs.lemmas.Bool.{eq-eqb, eqb-true, ltb-false, ltb-true}
use Rattle.std.proofs.lemmas.Option.{slice_get_within}
use Rattle.std.proofs.lemmas.Slice.Eq.{bytes_eq-Decides}
use Rattle.vl_catalog.specs.declared.catalog.Catalog.{Catalog}
use Rattle.vl_catalog.specs.declared.column.Column.{Column}
use Rattle.vl_catalog.specs.declared.column_vindex.ColumnVindex.{ColumnVindex}
use Rattle.vl_catalog.specs.declared.keyspace.Keyspace.{Keyspace}
use Rattle.vl_catalog.specs.declared.lookup.Lookup.{Lookup}
use Rattle.vl_catalog.specs.declared.primary.Primary.{Primary}
use Rattle.vl_catalog.specs.declared.table.Table.{Table}
use Rattle.vl_catalog.specs.Place.{shard_count}
use Rattle.vl_vindex.specs.KeyRange.{Range}
use Rattle.vl_rules.specs.ColumnVindexes.{first_has_one, has_one_column, is_named, is_sharded, lookup_named}
use Rattle.vl_rules.specs.Kept.{HasPrimary, IsIn, IsKeptLookup, IsKeptTable, IsPlain, Owns}
use Rattle.vl_rules.specs.Limits.{breaks_c11, has_long_name, is_long, is_off_size, row_bytes}
use Rattle.vl_rules.specs.Order.{Checked}
use Rattle.vl_rules.specs.Tables.{are_columns, are_in_order, breaks_c2, breaks_c3, breaks_c4, breaks_c5, breaks_c12, has_numeric_text, has_vindex, is_lookup_of, primary_in_key, shards_of, stands_in_one}
use Rattle.vl_rules.proofs.FirstBroken.{no_limit_passed}
use Rattle.vl_rules.proofs.Listed.{tests_fail}
use Rattle.vl_rules.proofs.Lists.{as_long, dropped_at, is_in_among, paired_at}
use Rattle.vl_rules.proofs.LookupsKept.{in_order, lookup_kept}
use Rattle.vl_rules.proofs.Passed.{at_number, both, each_passes, neither, none_passes, not_both, not_false, there}

-- ---- the whole catalog

-- 32 bits count the shards of a checked catalog
pub shards_counted : (catalog : Catalog) → Checked catalog → shard_count catalog.rings < 2 ^ 32
shards_counted catalog checked =
    let last = neither (nat_lt 16 (length catalog.keyspaces) || nat_lt 64 (shard_count catalog.rings) || nat_lt 256 (length catalog.tables)) (list_any (λ (keyspace : Keyspace). is_long keyspace.name) catalog.keyspaces) (no_limit_passed catalog checked) in
    let third = neither (nat_lt 16 (length catalog.keyspaces) || nat_lt 64 (shard_count catalog.rings)) (nat_lt 256 (length catalog.tables)) last.0 in
    let second = neither (nat_lt 16 (length catalog.keyspaces)) (nat_lt 64 (shard_count catalog.rings)) third.0 in
    let few = ltb-false 64 (shard_count catalog.rings) second.1 in
    omega arith

-- no two tables of a checked catalog have one name
pub named_once : (catalog : Catalog) (s t : ℕ) (a b : Table) → Checked catalog → slice_get catalog.tables s ≡ Some a → slice_get catalog.tables t ≡ Some b → s < t
    → a.name ≡ b.name → ⊥
named_once catalog s t a b checked at_a at_b before same =
    let none = (tests_fail catalog s a checked at_a).0 in
    let number : s + 1 + (t - (s + 1)) ≡ t = omega arith in
    let behind = dropped_at catalog.tables (s + 1) (t - (s + 1)) b (ap (slice_get catalog.tables) number ∙ at_b) in
    let fails = none_passes (λ (other : Table). bytes_eq other.name a.name) (drop (s + 1) catalog.tables) (t - (s + 1)) b none behind in
    let holds = (bytes_eq-Decides b.name a.name).1 (sym same) in
    cc

-- ---- C2: the key

pub key_kept : (catalog : Catalog) (table : Table) → breaks_c2 catalog table ≡ false → are_columns table.columns table.pk ≡ true
key_kept catalog table keeps = not_false (are_columns table.columns table.pk) (neither (not (are_columns table.columns table.pk)) (stands_in_one catalog table) keeps).0

key_within : (table : Table) → are_columns table.columns table.pk ≡ true → (n : ℕ) → IsIn table.pk n → n < length table.columns
key_within table holds n (k, at) =
    let all = (both (nat_lt 0 (length table.pk)) (list_all (λ m. nat_lt m (length table.columns)) table.pk) holds).1 in
    ltb-true n (length table.columns) (each_passes (λ m. nat_lt m (length table.columns)) table.pk k n all at)

-- ---- C3 to C5 and C12: the primary vindex of a sharded table

-- the first column vindex has one column where there is one
pub first_one : (catalog : Catalog) (table : Table) (vindexes : List ColumnVindex) → are_in_order catalog table vindexes ≡ true
    → list_any (λ (v : ColumnVindex). not (has_one_column catalog table v)) vindexes ≡ false
    → option_map_or (has_one_column catalog table) (slice_get vindexes 0) false ≡ true
first_one catalog table [] holds keeps = cc
first_one catalog table (first ∷ later) holds keeps =
    not_false (has_one_column catalog table first) (neither (not (has_one_column catalog table first)) (list_any (λ (v : ColumnVindex). not (has_one_column catalog table v)) later) keeps).0

pub primary_kept : (catalog : Catalog) (table : Table) → are_columns table.columns table.pk ≡ true → breaks_c4 catalog table ≡ false → breaks_c5 catalog table ≡ false
    → first_has_one catalog table ≡ true → HasPrimary table
primary_kept catalog table key keeps_c4 keeps_c5 one =
    let off = not_both (first_has_one catalog table) (not (primary_in_key table)) keeps_c4 one in
    let found = there (λ (p : Primary). list_any (λ n. n == p.column) table.pk) table.primary (not_false (primary_in_key table) off) in
    let among = is_in_among table.pk found.0.column found.2 in
    record {
      primary = found.0;
      has = found.1;
      in_key = among;
      within = key_within table key found.0.column among;
      fits = not_both (first_has_one catalog table) (has_numeric_text table) keeps_c5 one;
    }

-- ---- C3 of a table that isn't sharded

pub plain_kept : (catalog : Catalog) (table : Table) → breaks_c3 catalog table ≡ false → is_sharded catalog table ≡ false → IsPlain catalog table
plain_kept catalog table keeps unsharded =
    let off = not (are_in_order catalog table table.column_vindexes) || (shards_of catalog table == 0) in
    let plain = has_vindex table || not (shards_of catalog table == 1) in
    let fails : plain ≡ false = sym (ap (λ (b : Bool). if b then off else plain) unsharded) ∙ keeps in
    let parts = neither (has_vindex table) (not (shards_of catalog table == 1)) fails in
    let last = neither (nat_lt 0 (length table.column_vindexes) || is_some table.primary) (nat_lt 0 (length table.lookups)) parts.0 in
    let first = neither (nat_lt 0 (length table.column_vindexes)) (is_some table.primary) last.0 in
    record {
      primary = missing table.primary first.1;
      lookups = empty table.lookups last.1;
      one = eqb-true (shards_of catalog table) 1 (not_false (shards_of catalog table == 1) parts.1);
    }
  where
    missing : (o : Option Primary) → is_some o ≡ false → o ≡ None
    missing None fails = refl
    missing (Some p) fails = cc

    empty : (ns : List ℕ) → nat_lt 0 (length ns) ≡ false → ns ≡ []
    empty [] fails = refl
    empty (n ∷ ns) fails = let none = ltb-false 0 (length (n ∷ ns)) fails in absurd (omega arith)

some_shard : (catalog : Catalog) (table : Table) → breaks_c3 catalog table ≡ false → (b : Bool) → is_sharded catalog table ≡ b → 0 < shards_of catalog table
some_shard catalog table keeps true sharded =
    let fails = (in_order catalog table keeps sharded).1 in
    positive (shards_of catalog table) fails
  where
    positive : (n : ℕ) → (n == 0) ≡ false → 0 < n
    positive zero fails = let holds = eq-eqb 0 0 refl in cc
    positive (suc n) fails = omega arith
some_shard catalog table keeps false unsharded = let one = (plain_kept catalog table keeps unsharded).one in omega arith

-- a list at a place behind the last is empty
ring_at : (rings : List (List Range)) (k : ℕ) → 0 < length (slice_index_or rings k []) → k < length rings
ring_at [] k some = absurd (omega arith)
ring_at (ring ∷ rings) zero some = omega arith
ring_at (ring ∷ rings) (suc k) some = let within = ring_at rings k some in omega arith

-- ---- C3: the lookups that a table lists

lookup_of : (catalog : Catalog) (table : Table) (vindexes : List ColumnVindex) → are_in_order catalog table vindexes ≡ true → (l : ℕ) → IsIn table.lookups l
    → (lookup : Lookup) × (slice_get catalog.lookups l ≡ Some lookup)
lookup_of catalog table [] holds l (k, at) = cc
lookup_of catalog table (first ∷ later) holds l (k, at) =
    let all = (both (is_none (lookup_named catalog table first)) (pointwise (is_lookup_of catalog table) later table.lookups) holds).1 in
    let size = as_long (is_lookup_of catalog table) later table.lookups all in
    let within = slice_get_within table.lookups k l at in
    let vindex = at_number later k (omega arith) in
    let passes = paired_at (is_lookup_of catalog table) later table.lookups k vindex.0 l all vindex.1 at in
    let found = there (is_named table.keyspace vindex.0) (slice_get catalog.lookups l) passes in
    (found.0, found.1)

owned : (catalog : Catalog) (t : ℕ) (table : Table) → Checked catalog → slice_get catalog.tables t ≡ Some table → (l : ℕ) → IsIn table.lookups l
    → (lookup : Lookup) × (slice_get catalog.lookups l ≡ Some lookup) → Owns catalog t l
owned catalog t table checked at l lists (lookup, is) =
    let kept = lookup_kept catalog l lookup checked is in
    let number = kept.listed_once t table at lists in
    (lookup, is, kept.has_owner ∙ ap (λ (n : ℕ). Some n) (sym number))

lists_owned : (catalog : Catalog) (t : ℕ) (table : Table) → Checked catalog → slice_get catalog.tables t ≡ Some table → breaks_c3 catalog table ≡ false
    → (b : Bool) → is_sharded catalog table ≡ b → (l : ℕ) → IsIn table.lookups l → Owns catalog t l
lists_owned catalog t table checked at keeps true sharded l lists =
    owned catalog t table checked at l lists (lookup_of catalog table table.column_vindexes (in_order catalog table keeps sharded).0 l lists)
lists_owned catalog t table checked at keeps false unsharded l (k, at_k) =
    let none = (plain_kept catalog table keeps unsharded).lookups in
    let within = slice_get_within table.lookups k l at_k in
    let size = ap (length {A = ℕ}) none in
    absurd (omega arith)

-- ---- all of it

pub table_kept : (catalog : Catalog) (t : ℕ) (table : Table) → Checked catalog → slice_get catalog.tables t ≡ Some table → IsKeptTable catalog t table
table_kept catalog t table checked at =
    let tests = tests_fail catalog t table checked at in
    let c3 : breaks_c3 catalog table ≡ false = tests.1.1.0 in
    let c4 : breaks_c4 catalog table ≡ false = tests.1.1.1.0 in
    let c5 : breaks_c5 catalog table ≡ false = tests.1.1.1.1.0 in
    let c11 : breaks_c11 table ≡ false = tests.1.1.1.1.1.1.1.1.1.1.0 in
    let c12 : breaks_c12 catalog table ≡ false = tests.1.1.1.1.1.1.1.1.1.1.1.0 in
    let key = key_kept catalog table tests.1.0 in
    let sizes = neither (nat_lt 64 (length table.columns) || nat_lt 8 (length table.lookups) || has_long_name table || list_any (λ (c : Column). is_off_size c.ty) table.columns) (nat_lt 65535 (row_bytes table.columns)) c11 in
    let fourth = neither (nat_lt 64 (length table.columns) || nat_lt 8 (length table.lookups) || has_long_name table) (list_any (λ (c : Column). is_off_size c.ty) table.columns) sizes.0 in
    let third = neither (nat_lt 64 (length table.columns) || nat_lt 8 (length table.lookups)) (has_long_name table) fourth.0 in
    let second = neither (nat_lt 64 (length table.columns)) (nat_lt 8 (length table.lookups)) third.0 in
    record {
      key = ltb-true 0 (length table.pk) (both (nat_lt 0 (length table.pk)) (list_all (λ n. nat_lt n (length table.columns)) table.pk) key).0;
      key_columns = key_within table key;
      sharded = λ sharded. primary_kept catalog table key c4 c5 (first_one catalog table table.column_vindexes (in_order catalog table c3 sharded).0 c12);
      unsharded = plain_kept catalog table c3;
      shards = some_shard catalog table c3 (is_sharded catalog table) refl;
      lookups = lists_owned catalog t table checked at c3 (is_sharded catalog table) refl;
      in_schema = not_false table.in_schema (neither (not table.in_schema) (is_sharded catalog table && not table.in_vschema) (neither (not (are_columns table.columns table.pk)) (stands_in_one catalog table) tests.1.0).1).0;
      keyspace = ring_at catalog.rings table.keyspace (some_shard catalog table c3 (is_sharded catalog table) refl);
      few_columns = ltb-false 64 (length table.columns) second.0;
      few_lookups = ltb-false 8 (length table.lookups) second.1;
      sizes = λ n column at_n. none_passes (λ (c : Column). is_off_size c.ty) table.columns n column fourth.1 at_n;
      row = ltb-false 65535 (row_bytes table.columns) sizes.1;
    }

-- the table of a lookup lists none itself
no_number : (ns : List ℕ) → ((n : ℕ) → IsIn ns n → ⊥) → ns ≡ []
no_number [] never = refl
no_number (n ∷ ns) never = absurd (never n (0, refl))

pub lists_none : (catalog : Catalog) (l : ℕ) (lookup : Lookup) (kept : IsKeptLookup catalog l lookup) → Checked catalog → kept.table.lookups ≡ []
lists_none catalog l lookup kept checked =
    let table = table_kept catalog kept.table_number kept.table checked kept.is_table in
    no_number kept.table.lookups (λ m lists. kept.owns_none m (table.lookups m lists))
