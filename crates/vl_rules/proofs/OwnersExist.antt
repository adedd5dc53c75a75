-- No answer names C14: what breaks it breaks a rule before it.
use Rattle.std.proofs.Common.{◌≡◌, ◌⊎◌, inl, inr, ℕ, zero, suc, ◌+◌, ◌<◌, Bool, true, false, not, ◌&&◌, nat_lt, if◌then◌else◌, List, [], ◌∷◌, length, slice_get, unwrap_or, Option, Some, None, refl, sym, ap, subst, ◌∙◌, arith, lit<}
use Rattle.std.specs.Option.{option_map, option_map_or, option_or}
use Rattle.std.proofs.lemmas.Bool.{lt-ltb}
use Rattle.vl_catalog.specs.declared.catalog.Catalog.{Catalog}
use Rattle.vl_catalog.specs.declared.lookup.Lookup.{Lookup}
use Rattle.vl_catalog.specs.declared.primary.Primary.{Primary}
use Rattle.vl_catalog.specs.declared.table.Table.{Table}
use Rattle.vl_catalog.specs.Build.{table_at}
use Rattle.vl_rules.specs.declared.catalog_rule.CatalogRule.{CatalogRule}
use Rattle.vl_rules.specs.declared.catalog_rule.CatalogRule.TheVariants.{DefinedTable, PrimaryVindexFirst, PrimaryVindexInKey, NumericOnNumber, LookupTable, OwnerListsLookup, WithinLimits, OneColumnVindex, OwnerPlacement}
use Rattle.vl_rules.specs.declared.lookup_rule.LookupRule.TheVariants.{C8, C14}
use Rattle.vl_rules.specs.ColumnVindexes.{is_sharded}
use Rattle.vl_rules.specs.Kept.{HasPrimary}
use Rattle.vl_rules.specs.Limits.{passes_a_limit}
use Rattle.vl_rules.specs.Lookups.{breaks_c6, breaks_c8, has_primary_column, is_at}
use Rattle.vl_rules.specs.Order.{Fault, any_breaks, breaks, breaks_at, broken_rule, broken_rules, first_broken, first_of, is_first_listing, is_listed, lookup_broken, named, table_broken, unlisted_rule}
use Rattle.vl_rules.specs.RuleNumber.{number_of}
use Rattle.vl_rules.specs.Tables.{breaks_c2, breaks_c3, breaks_c4, breaks_c5, breaks_c12}
use Rattle.vl_rules.proofs.Lists.{among_is_in, first_passing}
use Rattle.vl_rules.proofs.LookupsKept.{in_order}
use Rattle.vl_rules.proofs.Passed.{among_fails, both, is_that_number, neither, not_both, not_false, not_true, there}
use Rattle.vl_rules.proofs.TablesKept.{first_one, key_kept, plain_kept, primary_kept}

-- ---- the tests before the one that is named

-- the rule at place k is broken, and none before it is
record IsFirst (tests : List (CatalogRule × Bool)) (k : ℕ) : Type 0 where
  here : option_map_or (λ (test : CatalogRule × Bool). test.1) (slice_get tests k) false ≡ true
  before : (j : ℕ) → j < k → (rule : CatalogRule) (b : Bool) → slice_get tests j ≡ Some (rule, b) → b ≡ false

one_more : (test : CatalogRule × Bool) (tests : List (CatalogRule × Bool)) (k : ℕ) → test.1 ≡ false
    → ((j : ℕ) → j < k → (rule : CatalogRule) (b : Bool) → slice_get tests j ≡ Some (rule, b) → b ≡ false)
    → (j : ℕ) → j < suc k → (rule : CatalogRule) (b : Bool) → slice_get (test ∷ tests) j ≡ Some (rule, b) → b ≡ false
one_more test tests k off before zero less rule b at =
    let same : test.1 ≡ b = ap (λ (o : Option (CatalogRule × Bool)). option_map_or (λ (t : CatalogRule × Bool). t.1) o false) at in
    sym same ∙ off
one_more test tests k off before (suc j) less rule b at = before j (omega arith) rule b at

-- the rules of a list have the numbers from n on
abbrev AreNumbered : ℕ → List (CatalogRule × Bool) → Type 0
AreNumbered n [] = Unit {0}
AreNumbered n (test ∷ tests) = (number_of test.0 ≡ n) × AreNumbered (n + 1) tests

here_or_later : (test : CatalogRule × Bool) (rest : Option CatalogRule) (rule : CatalogRule) → (if test.1 then Some test.0 else rest) ≡ Some rule
    → ((test.1 ≡ true) × (test.0 ≡ rule)) ⊎ ((test.1 ≡ false) × (rest ≡ Some rule))
here_or_later (first, true) rest rule found = let same : first ≡ rule = cc in inl (refl, same)
here_or_later (first, false) rest rule found = inr (refl, found)

first_number : (n : ℕ) (tests : List (CatalogRule × Bool)) (rule : CatalogRule) → AreNumbered n tests → first_of tests ≡ Some rule
    → (k : ℕ) × (n + k ≡ number_of rule) × IsFirst tests k
first_number n [] rule numbered found = cc
first_number n (test ∷ tests) rule numbered found =
    elim (here_or_later test (first_of tests) rule found) as (λ _. (k : ℕ) × (n + k ≡ number_of rule) × IsFirst (test ∷ tests) k) [
      | inl here ↦
          let number : number_of test.0 ≡ number_of rule = ap number_of here.1 in
          let first : number_of test.0 ≡ n = numbered.0 in
          (0, omega arith, record { here = here.0; before = λ j less other b at. absurd (omega arith) })
      | inr later ↦
          let rest = first_number (n + 1) tests rule numbered.1 later.1 in
          let number : n + 1 + rest.0 ≡ number_of rule = rest.1 in
          (suc rest.0, omega arith, record { here = rest.2.here; before = one_more test tests rest.0 later.0 rest.2.before })
    ]

numbered_from_1 : (catalog : Catalog) (t : ℕ) (table : Table) → AreNumbered 1 (broken_rules catalog t table)
numbered_from_1 catalog t table = (refl, (refl, (refl, (refl, (refl, (refl, (refl, (refl, (refl, (refl, (refl, (refl, (refl, (refl, tt))))))))))))))

fourteenth : (catalog : Catalog) (t : ℕ) (table : Table) → broken_rule catalog t table ≡ Some OwnerPlacement → IsFirst (broken_rules catalog t table) 13
fourteenth catalog t table found =
    let first = first_number 1 (broken_rules catalog t table) OwnerPlacement (numbered_from_1 catalog t table) found in
    let number : 1 + first.0 ≡ 14 = first.1 in
    let place : first.0 ≡ 13 = omega arith in
    subst (λ (k : ℕ). IsFirst (broken_rules catalog t table) k) place first.2

-- ---- the table that is named

here_or_behind : (name : List ℕ) (rule : Option CatalogRule) (rest : Option Fault) (fault : Fault) → option_or (named name rule) rest ≡ Some fault
    → (rule ≡ Some fault.1) ⊎ (rest ≡ Some fault)
here_or_behind name None rest fault found = inr found
here_or_behind name (Some r) rest fault found = inl (ap (λ (o : Option Fault). option_map (λ (f : Fault). f.1) o) found)

table_named : (catalog : Catalog) (i : ℕ) (tables : List Table) (fault : Fault) → table_broken catalog i tables ≡ Some fault
    → (n : ℕ) × (table : Table) × (slice_get tables n ≡ Some table) × (broken_rule catalog (i + n) table ≡ Some fault.1)
table_named catalog i [] fault found = cc
table_named catalog i (first ∷ rest) fault found =
    elim (here_or_behind first.name (broken_rule catalog i first) (table_broken catalog (i + 1) rest) fault found) as
    (λ _. (n : ℕ) × (table : Table) × (slice_get (first ∷ rest) n ≡ Some table) × (broken_rule catalog (i + n) table ≡ Some fault.1)) [
      | inl here ↦
          let place : i ≡ i + 0 = omega arith in
          (0, first, refl, subst (λ (k : ℕ). broken_rule catalog k first ≡ Some fault.1) place here)
      | inr behind ↦
          let later = table_named catalog (i + 1) rest fault behind in
          let place : i + 1 + later.0 ≡ i + suc later.0 = omega arith in
          (suc later.0, later.1, later.2, subst (λ (k : ℕ). broken_rule catalog k later.1 ≡ Some fault.1) place later.3)
    ]

six_or_eight : (b : Bool) (rule : CatalogRule) → rule ≡ (if b then LookupTable else OwnerListsLookup) → rule ≡ OwnerPlacement → ⊥
six_or_eight true rule is same = cc
six_or_eight false rule is same = cc

unlisted_named : (catalog : Catalog) (l : ℕ) (lookups : List Lookup) (name : List ℕ) → lookup_broken catalog l lookups ≡ Some (name, OwnerPlacement) → ⊥
unlisted_named catalog l [] name found = cc
unlisted_named catalog l (lookup ∷ rest) name found =
    elim (is_listed catalog l) as
    (λ b. (if b then lookup_broken catalog (l + 1) rest else Some (lookup.owner_name, unlisted_rule catalog lookup)) ≡ Some (name, OwnerPlacement) → ⊥) [
      | true ↦ λ later. unlisted_named catalog (l + 1) rest name later
      | false ↦ λ here.
          let rule : unlisted_rule catalog lookup ≡ OwnerPlacement = ap (λ (o : Option Fault). unwrap_or (option_map (λ (f : Fault). f.1) o) OwnerPlacement) here in
          six_or_eight (breaks_c6 catalog lookup) (unlisted_rule catalog lookup) refl rule
    ]
    found

-- ---- its lookup's owner

-- the test of the table at place k is passed, or isn't, as the list of tests has it
has_column : (table : Table) → HasPrimary table → has_primary_column table ≡ true
has_column table kept =
    ap (λ (o : Option Primary). option_map_or (λ (p : Primary). nat_lt p.column (length table.columns)) o false) kept.has ∙ lt-ltb kept.primary.column (length table.columns) kept.within

sharded_has : (catalog : Catalog) (t : ℕ) (table : Table) → IsFirst (broken_rules catalog t table) 13 → is_sharded catalog table ≡ true → has_primary_column table ≡ true
sharded_has catalog t table first sharded =
    let c2 = first.before 1 (lit< tt) DefinedTable (breaks_c2 catalog table) refl in
    let c3 = first.before 2 (lit< tt) PrimaryVindexFirst (breaks_c3 catalog table) refl in
    let c4 = first.before 3 (lit< tt) PrimaryVindexInKey (breaks_c4 catalog table) refl in
    let c5 = first.before 4 (lit< tt) NumericOnNumber (breaks_c5 catalog table) refl in
    let c12 = first.before 11 (lit< tt) OneColumnVindex (breaks_c12 catalog table) refl in
    has_column table (primary_kept catalog table (key_kept catalog table c2) c4 c5 (first_one catalog table table.column_vindexes (in_order catalog table c3 sharded).0 c12))

listing_sharded : (catalog : Catalog) (t k l : ℕ) (table : Table) → IsFirst (broken_rules catalog t table) 13 → slice_get table.lookups k ≡ Some l
    → (b : Bool) → is_sharded catalog table ≡ b → has_primary_column table ≡ true
listing_sharded catalog t k l table first at true sharded = sharded_has catalog t table first sharded
listing_sharded catalog t k l table first at false unsharded =
    let none = (plain_kept catalog table (first.before 2 (lit< tt) PrimaryVindexFirst (breaks_c3 catalog table) refl) unsharded).lookups in
    let nothing : slice_get [] k ≡ Some l = ap (λ (ns : List ℕ). slice_get ns k) (sym none) ∙ at in
    cc

never_there : (catalog : Catalog) (t : ℕ) (table : Table) → slice_get catalog.tables t ≡ Some table → broken_rule catalog t table ≡ Some OwnerPlacement → ⊥
never_there catalog t table at found =
    let first = fourteenth catalog t table found in
    let breaks_last : any_breaks C14 catalog t table ≡ true = first.here in
    let lists = first_passing (λ l. is_first_listing catalog t l && breaks_at C14 catalog t table l) table.lookups breaks_last in
    let k = lists.0 in
    let l = lists.1 in
    let parts = both (is_first_listing catalog t l) (breaks_at C14 catalog t table l) lists.3 in
    let lookup = there (breaks C14 catalog t table l) (slice_get catalog.lookups l) parts.1 in
    let c8 = first.before 7 (lit< tt) OwnerListsLookup (any_breaks C8 catalog t table) refl in
    let fails = among_fails (λ m. is_first_listing catalog t m && breaks_at C8 catalog t table m) table.lookups l (among_is_in table.lookups l (k, lists.2)) c8 in
    let kept_at = not_both (is_first_listing catalog t l) (breaks_at C8 catalog t table l) fails parts.0 in
    let kept : breaks_c8 catalog t l lookup.0 ≡ false = ap (λ (o : Option Lookup). option_map_or (breaks C8 catalog t table l) o false) (sym lookup.1) ∙ kept_at in
    let own = not_false (is_at t lookup.0.owner) (neither (not (is_at t lookup.0.owner)) _ kept).0 in
    let owner : table_at catalog.tables lookup.0.owner ≡ Some table = ap (table_at catalog.tables) (is_that_number t lookup.0.owner own) ∙ at in
    let off = not_true (option_map_or has_primary_column (table_at catalog.tables lookup.0.owner) false) lookup.2 in
    let without : has_primary_column table ≡ false = ap (λ (o : Option Table). option_map_or has_primary_column o false) (sym owner) ∙ off in
    let with_one = listing_sharded catalog t k l table first lists.2 (is_sharded catalog table) refl in
    cc

-- ---- the answer

no_answer : (catalog : Catalog) (limit : Bool) (name : List ℕ)
    → (if limit then Some ([], WithinLimits) else option_or (table_broken catalog 0 catalog.tables) (lookup_broken catalog 0 catalog.lookups)) ≡ Some (name, OwnerPlacement) → ⊥
no_answer catalog true name found =
    let same : WithinLimits ≡ OwnerPlacement = ap (λ (o : Option Fault). unwrap_or (option_map (λ (f : Fault). f.1) o) OwnerPlacement) found in
    cc
no_answer catalog false name found =
    elim (table_broken catalog 0 catalog.tables) as (λ o. table_broken catalog 0 catalog.tables ≡ o → option_or o (lookup_broken catalog 0 catalog.lookups) ≡ Some (name, OwnerPlacement) → ⊥) [
      | None ↦ λ same later. unlisted_named catalog 0 catalog.lookups name later
      | Some fault ↦ λ same here.
          let table = table_named catalog 0 catalog.tables (name, OwnerPlacement) (same ∙ here) in
          let place : 0 + table.0 ≡ table.0 = omega arith in
          never_there catalog table.0 table.1 table.2 (subst (λ (k : ℕ). broken_rule catalog k table.1 ≡ Some OwnerPlacement) place table.3)
    ]
    refl found

pub never_c14 : (catalog : Catalog) (name : List ℕ) → first_broken catalog ≡ Some (name, OwnerPlacement) → ⊥
never_c14 catalog name found = no_answer catalog (passes_a_limit catalog) name found
