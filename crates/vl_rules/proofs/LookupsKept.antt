-- What a lookup of a checked catalog keeps.
use Rattle.std.proofs.Common.{◌≡◌, inl, inr, ℕ, ◌+◌, ◌-◌, ◌<◌, Bool, true, false, not, ◌&&◌, ◌||◌, ◌==◌, nat_eq, nat_lt, if◌then◌else◌, List, [], ◌∷◌, length, take, drop, slice_get, count_by, option_and_then, Option, Some, refl, sym, ap, ◌∙◌, arith}
use Rattle.std.specs.Cmp.Lexicographic.{pointwise}
use Rattle.std.specs.List.{enumerate_from, list_any}
use Rattle.std.specs.Option.{option_map_or}
use Rattle.std.proofs.lemmas.Bool.{cases_lt, eqb-true, lt-ltb, ltb-false}
use Rattle.std.proofs.lemmas.Slice.Eq.{bytes_eq-Decides}
use Rattle.vl_values.specs.declared.col_type.ColType.{ColType}
use Rattle.vl_values.specs.declared.col_type.ColType.TheVariants.{BigInt, BigUint, Int, Uint32, VarChar, VarBinary}
use Rattle.vl_catalog.specs.declared.catalog.Catalog.{Catalog}
use Rattle.vl_catalog.specs.declared.column.Column.{Column}
use Rattle.vl_catalog.specs.declared.column_vindex.ColumnVindex.{ColumnVindex}
use Rattle.vl_catalog.specs.declared.lookup.Lookup.{Lookup}
use Rattle.vl_catalog.specs.declared.primary.Primary.{Primary}
use Rattle.vl_catalog.specs.declared.table.Table.{Table}
use Rattle.vl_catalog.specs.Build.{column_number, columns_listed, has_vindex, table_at}
use Rattle.vl_rules.specs.declared.lookup_rule.LookupRule.TheVariants.{C6, C7, C8, C9, C10, C13}
use Rattle.vl_rules.specs.ColumnVindexes.{has_one_column, is_sharded}
use Rattle.vl_rules.specs.Kept.{HaveOneType, IsIn, IsKeptLookup, IsPlacedByFrom, Owns}
use Rattle.vl_rules.specs.Lookups.{are_from_columns, breaks_c6, has_wide_to, holds_lookup, indexed_columns, is_among, is_at, is_listed_off, is_off_owner, is_placed_by_from, is_placed_otherwise, is_same_column, is_same_type, is_table_placed_otherwise, is_wide_column, leaves_null, lists_lookup, owner_column, owns_lookup, times_served}
use Rattle.vl_rules.specs.Order.{Checked}
use Rattle.vl_rules.specs.Tables.{are_columns, are_in_order, breaks_c3, breaks_c12, has_vindex as has_any_vindex, shards_of}
use Rattle.vl_rules.proofs.Listed.{IsListed, is_listed_first, tests_fail}
use Rattle.vl_rules.proofs.Lists.{among_is_in, as_long, dropped_at, found_fails, is_in_among, numbered, only_one, paired_at, taken_at}
use Rattle.vl_rules.proofs.Passed.{at_option, both, each_passes, is_that_number, neither, none_passes, not_both, not_false, not_true, that_number_is, there}

-- ---- C6: the lookup's table

record HasTable (catalog : Catalog) (lookup : Lookup) : Type 0 where
  number : ℕ
  table : Table
  has : lookup.table ≡ Some number
  is : slice_get catalog.tables number ≡ Some table
  holds : holds_lookup lookup table ≡ true

has_table : (catalog : Catalog) (lookup : Lookup) → breaks_c6 catalog lookup ≡ false → HasTable catalog lookup
has_table catalog lookup keeps =
    let found = there (holds_lookup lookup) (table_at catalog.tables lookup.table) (not_false _ keeps) in
    let number = at_option catalog.tables lookup.table found.0 found.1 in
    record { number = number.0; table = found.0; has = number.1; is = number.2; holds = found.2 }

record Holds (lookup : Lookup) (table : Table) : Type 0 where
  to : ℕ
  has_to : lookup.to ≡ Some to
  wide : is_wide_column table.columns to ≡ true
  off_from : is_among lookup.from to ≡ false
  key : table.pk ≡ lookup.from
  null : leaves_null table.columns lookup ≡ true

holding : (lookup : Lookup) (table : Table) → holds_lookup lookup table ≡ true → Holds lookup table
holding lookup table holds =
    let last = both (are_columns table.columns lookup.from && has_wide_to table.columns lookup && pointwise nat_eq table.pk lookup.from) (leaves_null table.columns lookup) holds in
    let third = both (are_columns table.columns lookup.from && has_wide_to table.columns lookup) (pointwise nat_eq table.pk lookup.from) last.0 in
    let second = both (are_columns table.columns lookup.from) (has_wide_to table.columns lookup) third.0 in
    let to = there (λ n. is_wide_column table.columns n && not (is_among lookup.from n)) lookup.to second.1 in
    let parts = both (is_wide_column table.columns to.0) (not (is_among lookup.from to.0)) to.2 in
    record {
      to = to.0;
      has_to = to.1;
      wide = parts.0;
      off_from = not_true (is_among lookup.from to.0) parts.1;
      key = (bytes_eq-Decides table.pk lookup.from).0 third.1;
      null = last.1;
    }

-- of three tests of which one holds, the first two fail
third_one : (a b c : Bool) → (a || b || c) ≡ true → a ≡ false → b ≡ false → c ≡ true
third_one a b true any no_a no_b = refl
third_one true b false any no_a no_b = cc
third_one false true false any no_a no_b = cc
third_one false false false any no_a no_b = cc

fails_without : (b : Bool) (P : Type 0) → (b ≡ true → P) → (P → ⊥) → b ≡ false
fails_without true P implies never = absurd (never (implies refl))
fails_without false P implies never = refl

nullable_besides : (lookup : Lookup) (columns : List Column) → leaves_null columns lookup ≡ true → (n : ℕ) (besides : Column) → slice_get columns n ≡ Some besides
    → (IsIn lookup.from n → ⊥) → (lookup.to ≡ Some n → ⊥) → besides.nullable ≡ true
nullable_besides lookup columns null n besides at off_from off_to =
    let passes = each_passes (λ (column : ℕ × Column). is_among lookup.from column.0 || is_at column.0 lookup.to || column.1.nullable) (enumerate_from 0 columns) n (n, besides) null (numbered columns n besides at) in
    third_one (is_among lookup.from n) (is_at n lookup.to) besides.nullable passes
    (fails_without (is_among lookup.from n) (IsIn lookup.from n) (is_in_among lookup.from n) off_from)
    (fails_without (is_at n lookup.to) (lookup.to ≡ Some n) (is_that_number n lookup.to) off_to)

-- ---- C7: the `from` columns

same_type : (a b : ColType) → is_same_type a b ≡ true → a ≡ b
same_type BigInt BigInt holds = refl
same_type BigUint BigUint holds = refl
same_type Int Int holds = refl
same_type Uint32 Uint32 holds = refl
same_type (VarChar m) (VarChar n) holds = ap (λ (k : ℕ). VarChar k) (eqb-true m n holds)
same_type (VarBinary m) (VarBinary n) holds = ap (λ (k : ℕ). VarBinary k) (eqb-true m n holds)
same_type _ _ holds = cc

one_type : (left right : List Column) (m n : ℕ) → is_same_column left right m n ≡ true → HaveOneType left right m n
one_type left right m n holds =
    let a = there (λ (c : Column). option_map_or (λ (d : Column). is_same_type c.ty d.ty) (slice_get right n) false) (slice_get left m) holds in
    let b = there (λ (d : Column). is_same_type a.0.ty d.ty) (slice_get right n) a.2 in
    record { a = a.0; b = b.0; is_a = a.1; is_b = b.1; same = same_type a.0.ty b.0.ty b.2 }

record HasFrom (lookup : Lookup) (table owner : Table) : Type 0 where
  column : ℕ
  has : lookup.column ≡ Some column
  fits : are_from_columns lookup table owner column ≡ true

own_column : (place : ℕ) (listing owner : Table) (lookup : Lookup) (column : ℕ) → is_at place lookup.owner ≡ true → owner_column place listing lookup owner ≡ Some column → lookup.column ≡ Some column
own_column place listing owner lookup column own named =
    let other = option_and_then (column_number owner.columns) (slice_get (columns_listed listing.column_vindexes lookup.name) 0) in
    sym (ap (λ (b : Bool). if b then lookup.column else other) own) ∙ named

has_from : (catalog : Catalog) (place : ℕ) (listing owner table : Table) (lookup : Lookup) → is_at place lookup.owner ≡ true → table_at catalog.tables lookup.table ≡ Some table
    → is_off_owner catalog place listing lookup owner ≡ false → HasFrom lookup table owner
has_from catalog place listing owner table lookup own is_table keeps =
    let test = λ (t : Table). option_map_or (are_from_columns lookup t owner) (owner_column place listing lookup owner) false in
    let found = not_false (option_map_or test (table_at catalog.tables lookup.table) false) keeps in
    let here : test table ≡ true = ap (λ (o : Option Table). option_map_or test o false) (sym is_table) ∙ found in
    let column = there (are_from_columns lookup table owner) (owner_column place listing lookup owner) here in
    record { column = column.0; has = own_column place listing owner lookup column.0 own column.1; fits = column.2 }

-- ---- C8: the owner lists it, and no other table does

listed_by_one : (catalog : Catalog) (l place : ℕ) → list_any (lists_lookup l) (take place catalog.tables) ≡ false
    → list_any (lists_lookup l) (drop (place + 1) catalog.tables) ≡ false
    → (t : ℕ) (other : Table) → slice_get catalog.tables t ≡ Some other → lists_lookup l other ≡ true → t ≡ place
listed_by_one catalog l place before behind t other at lists =
    elim (cases_lt t place) as (λ _. t ≡ place) [
      | inl less ↦
          let fails = none_passes (lists_lookup l) (take place catalog.tables) t other before (taken_at catalog.tables place t other less at) in
          cc
      | inr more ↦
          elim (cases_lt place t) as (λ _. t ≡ place) [
            | inl less ↦
                let number : place + 1 + (t - (place + 1)) ≡ t = omega arith in
                let there' = dropped_at catalog.tables (place + 1) (t - (place + 1)) other (ap (slice_get catalog.tables) number ∙ at) in
                let fails = none_passes (lists_lookup l) (drop (place + 1) catalog.tables) (t - (place + 1)) other behind there' in
                cc
            | inr most ↦ omega arith
          ]
    ]

-- ---- C9 and C3: how the lookup's table is placed

some_vindex : (catalog : Catalog) (table : Table) (vindexes : List ColumnVindex) → are_in_order catalog table vindexes ≡ true → nat_lt 0 (length vindexes) ≡ true
some_vindex catalog table [] holds = cc
some_vindex catalog table (first ∷ later) holds = let size : 0 < length (first ∷ later) = omega arith in lt-ltb 0 (length (first ∷ later)) size

-- of a sharded table that keeps C3
pub in_order : (catalog : Catalog) (table : Table) → breaks_c3 catalog table ≡ false → is_sharded catalog table ≡ true
    → (are_in_order catalog table table.column_vindexes ≡ true) × ((shards_of catalog table == 0) ≡ false)
in_order catalog table keeps sharded =
    let off = not (are_in_order catalog table table.column_vindexes) || (shards_of catalog table == 0) in
    let plain = has_any_vindex table || not (shards_of catalog table == 1) in
    let fails : off ≡ false = sym (ap (λ (b : Bool). if b then off else plain) sharded) ∙ keeps in
    let parts = neither (not (are_in_order catalog table table.column_vindexes)) (shards_of catalog table == 0) fails in
    (not_false (are_in_order catalog table table.column_vindexes) parts.0, parts.1)

placed_by : (lookup : Lookup) (table : Table) → is_placed_by_from lookup table ≡ true → IsPlacedByFrom lookup table
placed_by lookup table holds =
    let parts = both (length table.column_vindexes == 1) (option_map_or (λ (p : Primary). is_at p.column (slice_get lookup.from 0)) table.primary false) holds in
    let primary = there (λ (p : Primary). is_at p.column (slice_get lookup.from 0)) table.primary parts.1 in
    (primary.0, primary.1, is_that_number primary.0.column (slice_get lookup.from 0) primary.2)

placed_if_sharded : (catalog : Catalog) (lookup : Lookup) (table : Table) → is_placed_otherwise catalog lookup table ≡ false → breaks_c3 catalog table ≡ false
    → is_sharded catalog table ≡ true → IsPlacedByFrom lookup table
placed_if_sharded catalog lookup table keeps keeps_c3 sharded =
    let some = some_vindex catalog table table.column_vindexes (in_order catalog table keeps_c3 sharded).0 in
    let first : (is_sharded catalog table && nat_lt 0 (length table.column_vindexes)) ≡ true =
    ap (λ (b : Bool). b && nat_lt 0 (length table.column_vindexes)) sharded ∙ some in
    let off = not_both (is_sharded catalog table && nat_lt 0 (length table.column_vindexes)) (not (is_placed_by_from lookup table)) keeps first in
    placed_by lookup table (not_false (is_placed_by_from lookup table) off)

-- ---- C9 and C13: what else the lookup's table serves

owns_no_lookup : (catalog : Catalog) (lookup : Lookup) (n : ℕ) → lookup.table ≡ Some n → option_map_or (owns_lookup catalog) lookup.table false ≡ false
    → (m : ℕ) → Owns catalog n m → ⊥
owns_no_lookup catalog lookup n has keeps m (other, at, owner) =
    let none : owns_lookup catalog n ≡ false = sym (ap (λ (o : Option ℕ). option_map_or (owns_lookup catalog) o false) has) ∙ keeps in
    let fails = none_passes (λ (each : Lookup). is_at n each.owner) catalog.lookups m other none at in
    let holds = that_number_is n other.owner owner in
    cc

served_alone : (catalog : Catalog) (l n : ℕ) (lookup : Lookup) → slice_get catalog.lookups l ≡ Some lookup → lookup.table ≡ Some n
    → option_map_or (λ t. nat_lt 1 (times_served catalog t)) lookup.table false ≡ false
    → (m : ℕ) (other : Lookup) → slice_get catalog.lookups m ≡ Some other → other.table ≡ Some n → m ≡ l
served_alone catalog l n lookup at has keeps m other at_other other_has =
    let few : nat_lt 1 (times_served catalog n) ≡ false = sym (ap (λ (o : Option ℕ). option_map_or (λ t. nat_lt 1 (times_served catalog t)) o false) has) ∙ keeps in
    only_one (λ (each : Lookup). is_at n each.table) catalog.lookups m l other lookup (ltb-false 1 (times_served catalog n) few) at_other (that_number_is n other.table other_has)
    at (that_number_is n lookup.table has)

-- ---- all of it

-- the column vindex by which the lookup is listed has one column
listed_well : (catalog : Catalog) (listing : Table) (lookup : Lookup) → breaks_c12 catalog listing ≡ false → not (is_listed_off catalog listing lookup) ≡ true
listed_well catalog listing lookup keeps =
    ap not (found_fails (λ (v : ColumnVindex). not (has_one_column catalog listing v)) (has_vindex lookup.name) listing.column_vindexes keeps)

kept_with : (catalog : Catalog) (l : ℕ) (lookup : Lookup) → Checked catalog → slice_get catalog.lookups l ≡ Some lookup → IsListed catalog l lookup → IsKeptLookup catalog l lookup
kept_with catalog l lookup checked at listed =
    let place = listed.place in
    let owner = listed.listing in
    let served = has_table catalog lookup (listed.keeps C6) in
    let parts = holding lookup served.table served.holds in
    let c8 = neither (not (is_at place lookup.owner)) (list_any (lists_lookup l) (drop (place + 1) catalog.tables)) (listed.keeps C8) in
    let own = not_false (is_at place lookup.owner) c8.0 in
    let has_owner = is_that_number place lookup.owner own in
    let owner_at : table_at catalog.tables lookup.owner ≡ Some owner = ap (table_at catalog.tables) has_owner ∙ listed.at in
    let table_is : table_at catalog.tables lookup.table ≡ Some served.table = ap (table_at catalog.tables) served.has ∙ served.is in
    let c12 : breaks_c12 catalog owner ≡ false = listed.tests.1.1.1.1.1.1.1.1.1.1.1.0 in
    let c7 = not_both (not (is_listed_off catalog owner lookup)) (option_map_or (is_off_owner catalog place owner lookup) (table_at catalog.tables lookup.owner) false) (listed.keeps C7) (listed_well catalog owner lookup c12) in
    let on_owner : is_off_owner catalog place owner lookup owner ≡ false = sym (ap (λ (o : Option Table). option_map_or (is_off_owner catalog place owner lookup) o false) owner_at) ∙ c7 in
    let from = has_from catalog place owner owner served.table lookup own table_is on_owner in
    let c9 = neither (is_table_placed_otherwise catalog lookup) (option_map_or (owns_lookup catalog) lookup.table false) (listed.keeps C9) in
    let placed : is_placed_otherwise catalog lookup served.table ≡ false = sym (ap (λ (o : Option Table). option_map_or (is_placed_otherwise catalog lookup) o false) table_is) ∙ c9.0 in
    let table_tests = tests_fail catalog served.number served.table checked served.is in
    let c13 = neither (option_map_or (λ t. nat_lt 1 (times_served catalog t)) lookup.table false) (nat_lt 1 (count_by (λ m. m == l) owner.lookups)) (listed.keeps C13) in
    record {
      owner_number = place;
      owner = owner;
      table_number = served.number;
      table = served.table;
      column = from.column;
      to = parts.to;
      has_owner = has_owner;
      is_owner = listed.at;
      has_table = served.has;
      is_table = served.is;
      has_column = from.has;
      has_to = parts.has_to;
      listed = is_in_among owner.lookups l listed.lists;
      listed_once = λ t other at_other lists.
          listed_by_one catalog l place listed.first c8.1 t other at_other (among_is_in other.lookups l lists);
      key_is_from = parts.key;
      wide = parts.wide;
      to_off_from = λ among. let holds = among_is_in lookup.from parts.to among in let fails = parts.off_from in cc;
      nullable = nullable_besides lookup served.table.columns parts.null;
      as_many = as_long (is_same_column served.table.columns owner.columns) lookup.from (indexed_columns lookup.unique owner.pk from.column) from.fits;
      types = λ k m n at_m at_n.
          one_type served.table.columns owner.columns m n
          (paired_at (is_same_column served.table.columns owner.columns) lookup.from (indexed_columns lookup.unique owner.pk from.column) k m n from.fits at_m at_n);
      alone = served_alone catalog l served.number lookup at served.has c13.0;
      owns_none = owns_no_lookup catalog lookup served.number served.has c9.1;
      placed = placed_if_sharded catalog lookup served.table placed table_tests.1.1.0;
      written = listed.keeps C10;
    }

-- each lookup of a checked catalog has an owner, a table, a column and `to`, and keeps the rules with them
pub lookup_kept : (catalog : Catalog) (l : ℕ) (lookup : Lookup) → Checked catalog → slice_get catalog.lookups l ≡ Some lookup → IsKeptLookup catalog l lookup
lookup_kept catalog l lookup checked at = kept_with catalog l lookup checked at (is_listed_first catalog l lookup checked at)
