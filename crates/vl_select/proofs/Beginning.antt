-- The program of a plan that fits the catalog is made.
use Rattle.std.proofs.Common.{◌≡◌, ℕ, zero, suc, ◌<◌, ◌≤◌, ◌∙◌, true, List, [], ◌∷◌, length, get_or, map, Option, Some, None, refl, sym, ap, subst, arith}
use Rattle.std.specs.Prelude.{Contains, nat_lt, option_and_then, slice_get}
use Rattle.std.specs.List.{cons_option, filter_map}
use Rattle.std.specs.Option.{option_map, option_map_or}
use Rattle.std.proofs.lemmas.Option.{same_Some, slice_get-get_or}
use Rattle.vl_values.specs.declared.group.Group.{Group}
use Rattle.vl_values.specs.declared.pred.Pred.{Pred}
use Rattle.vl_values.specs.declared.test.Test.{Test}
use Rattle.vl_values.specs.declared.value.Value.{Value}
use Rattle.vl_values.specs.Fit.{is_of_type}
use Rattle.vl_vindex.specs.KeyRange.{Range}
use Rattle.vl_vindex.specs.Ring.{CoversOnce}
use Rattle.vl_catalog.specs.declared.catalog.Catalog.{Catalog}
use Rattle.vl_catalog.specs.declared.column.Column.{Column}
use Rattle.vl_catalog.specs.declared.lookup.Lookup.{Lookup}
use Rattle.vl_catalog.specs.declared.primary.Primary.{Primary}
use Rattle.vl_catalog.specs.declared.table.Table.{Table}
use Rattle.vl_catalog.specs.Fitting.{FitsPred, IsTestOf}
use Rattle.vl_catalog.specs.Place.{place_of_value, shard_count, value_place_by}
use Rattle.vl_rules.specs.Kept.{HaveOneType, IsIn, IsKeptLookup}
use Rattle.vl_rules.specs.Order.{Checked}
use Rattle.vl_rules.proofs.LookupsKept.{lookup_kept}
use Rattle.vl_rules.proofs.TablesKept.{table_kept}
use Rattle.vl_model.specs.declared.route.Route.{Route}
use Rattle.vl_model.specs.declared.route.Route.TheVariants as routes
use Rattle.vl_model.specs.Visiting.{entries_with, entry_read_in, entry_reads, entry_reads_by, entry_reads_in}
use Rattle.vl_route.proofs.Homes.{AreCovering, by_ksid, ring_holds}
use Rattle.vl_plan.specs.declared.select_plan.SelectPlan.{SelectPlan}
use Rattle.vl_plan.specs.Fits.{FitsRoute, FitsSelect, IsByLookup}
use Rattle.vl_select.specs.declared.entry_read.EntryRead.{EntryRead}
use Rattle.vl_select.specs.Begun.{beginning, begun, entry_read, group_of}
use Rattle.vl_select.specs.Making.{IsEntryRead, IsMade}
use Rattle.vl_select.specs.Progress.{Progress, shards_known}
use Rattle.vl_select.proofs.Steps.{known_few, known_within}

-- ---- elements

mapped_from : {A B : Type 0} (f : A → B) (xs : List A) (y : B) → Contains (map f xs) y → (x : A) × Contains xs x × (f x ≡ y)
mapped_from f [] y among = absurd (omega (arith, among.1))
mapped_from f (x ∷ xs) y (zero, within, at) = (x, (0, omega arith, refl), at)
mapped_from f (x ∷ xs) y (suc k, within, at) =
    let it = mapped_from f xs y (k, omega (arith, within), at) in
    (it.0, (suc it.1.0, omega (arith, it.1.1), it.1.2), it.2)

-- what is gathered was given by one of the items
abbrev From : {A B : Type 0} → (A → Option B) → List A → B → Type 0
From {A} h xs y = (x : A) × Contains xs x × (h x ≡ Some y)

behind : {A B : Type 0} (h : A → Option B) (x : A) (xs : List A) (y : B) → From h xs y → From h (x ∷ xs) y
behind h x xs y it = (it.0, (suc it.1.0, omega (arith, it.1.1), it.1.2), it.2)

gathered_head : {A B : Type 0} (h : A → Option B) (x : A) (xs : List A) (o : Option B) (y : B) → h x ≡ o → ((z : B) → Contains (filter_map h xs) z → From h xs z) → Contains (cons_option o (filter_map h xs)) y → From h (x ∷ xs) y
gathered_head h x xs None y is rest among = behind h x xs y (rest y among)
gathered_head h x xs (Some z) y is rest (zero, within, at) = (x, (0, omega arith, refl), is ∙ ap (λ (w : _). Some w) at)
gathered_head h x xs (Some z) y is rest (suc k, within, at) = behind h x xs y (rest y (k, omega (arith, within), at))

gathered_from : {A B : Type 0} (h : A → Option B) (xs : List A) (y : B) → Contains (filter_map h xs) y → From h xs y
gathered_from h [] y among = absurd (omega (arith, among.1))
gathered_from h (x ∷ xs) y among = gathered_head h x xs (h x) y refl (gathered_from h xs) among

-- ---- the place of a value

by_primary : (rings : List (List Range)) (k : ℕ) (o : Option Primary) (value : Value) (shard : ℕ) → CoversOnce (get_or rings k []) → value_place_by rings k o value ≡ Some shard → shard < shard_count rings
by_primary rings k None value shard covers e = omega (arith, ring_holds rings k [] covers, same_Some _ shard e)
by_primary rings k (Some primary) value shard covers e = by_ksid rings k _ shard covers e

value_within : (catalog : Catalog) (number : ℕ) (table : Table) (value : Value) (shard : ℕ) → CoversOnce (get_or catalog.rings table.keyspace []) → slice_get catalog.tables number ≡ Some table → place_of_value catalog number value ≡ Some shard
    → shard < shard_count catalog.rings
value_within catalog number table value shard covers is e =
    by_primary catalog.rings table.keyspace table.primary value shard covers
    (sym (ap (λ (o : Option Table). option_and_then (λ (t : Table). value_place_by catalog.rings t.keyspace t.primary value) o) is) ∙ e)

-- ---- the read of the entries of a value

-- what the rules say of the lookup of a route, and the test that it goes by
record IsGone (catalog : Catalog) (lookup : Lookup) (number : ℕ) (table owner : Table) (column : ℕ) (values : List Value) : Type 0 where
  has_table : lookup.table ≡ Some number
  is_table : slice_get catalog.tables number ≡ Some table
  covers : CoversOnce (get_or catalog.rings table.keyspace [])
  types : (m n : ℕ) → slice_get lookup.from 0 ≡ Some m → n ≡ column → HaveOneType table.columns owner.columns m n
  typed : (n : ℕ) (c : Column) (value : Value) → n ≡ column → slice_get owner.columns n ≡ Some c → Contains values value → is_of_type c.ty value ≡ true

one_value : (value other : Value) → Contains (value ∷ []) other → other ≡ value
one_value value other (zero, within, at) = sym at
one_value value other (suc k, within, at) = absurd (omega (arith, within))

one_test : (test other : Test) → Contains (test ∷ []) other → other ≡ test
one_test test other (zero, within, at) = sym at
one_test test other (suc k, within, at) = absurd (omega (arith, within))

test_fits : (catalog : Catalog) (lookup : Lookup) (number : ℕ) (table owner : Table) (column m : ℕ) (values : List Value) (value : Value) → IsGone catalog lookup number table owner column values → slice_get lookup.from 0 ≡ Some m → Contains values value
    → IsTestOf table (record { column = m; values = value ∷ [] })
test_fits catalog lookup number table owner column m values value gone from among =
    let both = gone.types m column from refl in
    record {
      column = both.a;
      is_column = both.is_a;
      typed = λ other one.
          ap (λ (v : Value). is_of_type both.a.ty v) (one_value value other one) ∙ ap (λ ty. is_of_type ty value) both.same ∙ gone.typed column both.b value refl both.is_b among;
      ascending = λ i j d below within. absurd (omega (arith, below, within));
    }

read_fits : (catalog : Catalog) (lookup : Lookup) (number : ℕ) (table owner : Table) (column m : ℕ) (values : List Value) (value : Value) → IsGone catalog lookup number table owner column values → slice_get lookup.from 0 ≡ Some m → Contains values value
    → FitsPred catalog (entries_with number m value)
read_fits catalog lookup number table owner column m values value gone from among = record {
  table = table;
  is_table = gone.is_table;
  tests = λ test one. subst (IsTestOf table) (sym (one_test _ test one)) (test_fits catalog lookup number table owner column m values value gone from among);
}

-- a read with its place
read_at : (catalog : Catalog) (number m : ℕ) (value : Value) (o : Option ℕ) (read : ℕ × Pred) → place_of_value catalog number value ≡ o → option_map (λ (shard : ℕ). (shard, entries_with number m value)) o ≡ Some read
    → (place_of_value catalog number value ≡ Some read.0) × (read.1 ≡ entries_with number m value)
read_at catalog number m value None read is e = absurd (cc)
read_at catalog number m value (Some shard) read is e =
    let same = same_Some (shard, entries_with number m value) read e in
    (is ∙ ap (λ (r : ℕ × Pred). Some r.0) same, sym (ap (λ (r : ℕ × Pred). r.1) same))

by_column : (catalog : Catalog) (lookup : Lookup) (number : ℕ) (table owner : Table) (column : ℕ) (values : List Value) (o : Option ℕ) (read : ℕ × Pred) → IsGone catalog lookup number table owner column values → slice_get lookup.from 0 ≡ o
    → Contains (entry_reads_in catalog (Some number) o values) read → IsEntryRead catalog (shard_count catalog.rings) (entry_read read)
by_column catalog lookup number table owner column values None read gone from among = absurd (omega (arith, among.1))
by_column catalog lookup number table owner column values (Some m) read gone from among =
    let it = gathered_from (entry_read_in catalog number m) values read among in
    let at = read_at catalog number m it.0 (place_of_value catalog number it.0) read refl it.2 in
    record {
      pred = read.1;
      find = refl;
      fits = subst (FitsPred catalog) (sym at.1) (read_fits catalog lookup number table owner column m values it.0 gone from it.1);
      shard = value_within catalog number table it.0 read.0 gone.covers gone.is_table at.0;
    }

by_lookup : (catalog : Catalog) (lookup : Lookup) (number : ℕ) (table owner : Table) (column : ℕ) (values : List Value) (read : ℕ × Pred) → IsGone catalog lookup number table owner column values → Contains (entry_reads_by catalog values lookup) read
    → IsEntryRead catalog (shard_count catalog.rings) (entry_read read)
by_lookup catalog lookup number table owner column values read gone among =
    by_column catalog lookup number table owner column values (slice_get lookup.from 0) read gone refl
    (subst (λ (o : Option ℕ). Contains (entry_reads_in catalog o (slice_get lookup.from 0) values) read) gone.has_table among)

-- ---- the lookup of a route

listed_at : (xs : List ℕ) (x : ℕ) → Contains xs x → IsIn xs x
listed_at xs x among = (among.0, slice_get-get_or xs among.0 x among.1 ∙ ap (λ (n : ℕ). Some n) among.2)

gone_with : (catalog : Catalog) (pred : Pred) (table : Table) (l : ℕ) (values : List Value) → Checked catalog → AreCovering catalog.rings (length catalog.rings) → slice_get catalog.tables pred.table ≡ Some table
    → ((test : Test) → Contains pred.tests test → IsTestOf table test) → (by : IsByLookup catalog table pred l values) → (kept : IsKeptLookup catalog l by.lookup) → IsGone catalog by.lookup kept.table_number kept.table kept.owner kept.column values
gone_with catalog pred table l values checked covering is_table tests by kept =
    let number_is : pred.table ≡ kept.owner_number = kept.listed_once pred.table table is_table (listed_at table.lookups l by.listed) in
    let owner_is : table ≡ kept.owner = same_Some table kept.owner (sym is_table ∙ ap (slice_get catalog.tables) number_is ∙ kept.is_owner) in
    let column_is : by.column ≡ kept.column = same_Some by.column kept.column (sym by.has_column ∙ kept.has_column) in
    let fits = tests by.tested.test by.tested.stands in
    record {
      has_table = kept.has_table;
      is_table = kept.is_table;
      covers = covering kept.table.keyspace (table_kept catalog kept.table_number kept.table checked kept.is_table).keyspace;
      types = λ m n from is. kept.types 0 m n from (ap (λ (k : ℕ). Some k) (sym is));
      typed = λ n c value is at among.
          let tested : slice_get table.columns by.tested.test.column ≡ Some c =
          ap (λ (t : Table). slice_get t.columns by.tested.test.column) owner_is ∙ ap (slice_get kept.owner.columns) (by.tested.tests ∙ column_is ∙ sym is) ∙ at in
          let same : fits.column ≡ c = same_Some fits.column c (sym fits.is_column ∙ tested) in
          ap (λ (it : Column). is_of_type it.ty value) (sym same) ∙ fits.typed value (subst (λ (vs : List Value). Contains vs value) (sym by.tested.tested) among);
    }

of_lookup : (catalog : Catalog) (pred : Pred) (l : ℕ) (values : List Value) (read : ℕ × Pred) → Checked catalog → AreCovering catalog.rings (length catalog.rings) → FitsPred catalog pred → FitsRoute catalog pred (routes.Lookup l values)
    → Contains (entry_reads catalog (routes.Lookup l values)) read → IsEntryRead catalog (shard_count catalog.rings) (entry_read read)
of_lookup catalog pred l values read checked covering fits route among =
    let by = route fits.table fits.is_table in
    let kept = lookup_kept catalog l by.lookup checked by.is_lookup in
    by_lookup catalog by.lookup kept.table_number kept.table kept.owner kept.column values read (gone_with catalog pred fits.table l values checked covering fits.is_table fits.tests by kept)
    (subst (λ (o : Option Lookup). Contains (option_map_or (entry_reads_by catalog values) o []) read) by.is_lookup among)

of_route : (catalog : Catalog) (pred : Pred) (route : Route) (read : ℕ × Pred) → Checked catalog → AreCovering catalog.rings (length catalog.rings) → FitsPred catalog pred → FitsRoute catalog pred route → Contains (entry_reads catalog route) read
    → IsEntryRead catalog (shard_count catalog.rings) (entry_read read)
of_route catalog pred (routes.Primary values) read checked covering fits route among = absurd (omega (arith, among.1))
of_route catalog pred (routes.Lookup l values) read checked covering fits route among = of_lookup catalog pred l values read checked covering fits route among
of_route catalog pred routes.All read checked covering fits route among = absurd (omega (arith, among.1))

-- ---- the whole

pub begun_made : (catalog : Catalog) (plan : SelectPlan) (limit : ℕ) → Checked catalog → AreCovering catalog.rings (length catalog.rings) → FitsSelect catalog plan → 1 ≤ limit → IsMade catalog (shard_count catalog.rings) limit (begun catalog plan)
begun_made catalog plan limit checked covering fits least = record {
  pred = plan.pred;
  locking = plan.locking;
  find = refl;
  fits = fits.pred;
  entries = λ entry among.
      let from = mapped_from entry_read (entry_reads catalog plan.route) entry among in
      subst (IsEntryRead catalog (shard_count catalog.rings)) from.2 (of_route catalog plan.pred plan.route from.0 checked covering fits.pred fits.route from.1);
  looked = omega arith;
  shards = λ shard among. known_within catalog plan.pred.table (begun catalog plan) (nat_lt 0 (length (begun catalog plan).entries)) [] shard among;
  few = known_few catalog plan.pred.table (begun catalog plan) (nat_lt 0 (length (begun catalog plan).entries)) [];
  read = omega arith;
  after = λ more. refl;
  tries = omega (arith, least);
}

-- ---- on its groundwork

abbrev laid_with : Catalog → SelectPlan → Group → List EntryRead → List ℕ → Progress
laid_with catalog plan group entries shards = record (beginning catalog plan entries) { group = group; shards = shards }

pub begun_laid : (catalog : Catalog) (plan : SelectPlan) (group : Group) (entries : List EntryRead) (shards : List ℕ) → group ≡ group_of catalog plan.pred.table → entries ≡ map entry_read (entry_reads catalog plan.route)
    → shards ≡ shards_known catalog plan.pred.table plan.route (nat_lt 0 (length entries)) [] → laid_with catalog plan group entries shards ≡ begun catalog plan
begun_laid catalog plan group entries shards by reads known =
    ap (λ (g : Group). laid_with catalog plan g entries shards) by ∙ ap (λ (s : List ℕ). laid_with catalog plan (group_of catalog plan.pred.table) entries s) known ∙ ap (beginning catalog plan) reads
