-- What is known of a catalog, its tables and its lookups where no rule is broken.
use Rattle.std.proofs.Common.{◌≡◌, ℕ, zero, suc, ◌+◌, Bool, true, false, if◌then◌else◌, List, [], ◌∷◌, slice_get, Option, Some, None, refl, sym, subst, arith}
use Rattle.std.specs.Option.{option_or}
use Rattle.vl_catalog.specs.declared.catalog.Catalog.{Catalog}
use Rattle.vl_catalog.specs.declared.lookup.Lookup.{Lookup}
use Rattle.vl_catalog.specs.declared.table.Table.{Table}
use Rattle.vl_rules.specs.declared.catalog_rule.CatalogRule.{CatalogRule}
use Rattle.vl_rules.specs.declared.catalog_rule.CatalogRule.TheVariants.{WithinLimits}
use Rattle.vl_rules.specs.Limits.{passes_a_limit}
use Rattle.vl_rules.specs.Order.{Checked, Fault, broken_rule, first_of, is_listed, lookup_broken, named, table_broken, unlisted_rule}

or_none : (x y : Option Fault) → option_or x y ≡ None → (x ≡ None) × (y ≡ None)
or_none None y none = (refl, none)
or_none (Some x) y none = cc

unnamed : (name : List ℕ) (rule : Option CatalogRule) → named name rule ≡ None → rule ≡ None
unnamed name None none = refl
unnamed name (Some rule) none = cc

-- ---- the three parts

without_limit : (limit : Bool) (rest : Option Fault) → (if limit then Some ([], WithinLimits) else rest) ≡ None → (limit ≡ false) × (rest ≡ None)
without_limit true rest none = cc
without_limit false rest none = (refl, none)

pub no_limit_passed : (catalog : Catalog) → Checked catalog → passes_a_limit catalog ≡ false
no_limit_passed catalog checked =
    (without_limit (passes_a_limit catalog) (option_or (table_broken catalog 0 catalog.tables) (lookup_broken catalog 0 catalog.lookups)) checked).0

both_lists : (catalog : Catalog) → Checked catalog → (table_broken catalog 0 catalog.tables ≡ None) × (lookup_broken catalog 0 catalog.lookups ≡ None)
both_lists catalog checked =
    let rest = option_or (table_broken catalog 0 catalog.tables) (lookup_broken catalog 0 catalog.lookups) in
    or_none (table_broken catalog 0 catalog.tables) (lookup_broken catalog 0 catalog.lookups) (without_limit (passes_a_limit catalog) rest checked).1

-- ---- tables

table_at_place : (catalog : Catalog) (i : ℕ) (tables : List Table) (n : ℕ) (table : Table) → table_broken catalog i tables ≡ None → slice_get tables n ≡ Some table
    → (t : ℕ) → t ≡ i + n → broken_rule catalog t table ≡ None
table_at_place catalog i [] n table none at t place = cc
table_at_place catalog i (first ∷ rest) zero table none at t place =
    let here = unnamed first.name (broken_rule catalog i first) (or_none (named first.name (broken_rule catalog i first)) (table_broken catalog (i + 1) rest) none).0 in
    let same : first ≡ table = cc in
    let number : t ≡ i = omega arith in
    subst (λ (k : ℕ). broken_rule catalog k table ≡ None) (sym number) (subst (λ (other : Table). broken_rule catalog i other ≡ None) same here)
table_at_place catalog i (first ∷ rest) (suc n) table none at t place =
    table_at_place catalog (i + 1) rest n table (or_none (named first.name (broken_rule catalog i first)) (table_broken catalog (i + 1) rest) none).1 at t (omega arith)

pub no_rule_broken : (catalog : Catalog) (t : ℕ) (table : Table) → Checked catalog → slice_get catalog.tables t ≡ Some table → broken_rule catalog t table ≡ None
no_rule_broken catalog t table checked at = table_at_place catalog 0 catalog.tables t table (both_lists catalog checked).0 at t (omega arith)

-- none of the rules of a list is broken
abbrev pub AllFalse : List (CatalogRule × Bool) → Type 0
AllFalse [] = Unit {0}
AllFalse (test ∷ tests) = (test.1 ≡ false) × AllFalse tests

one_less : (rule : CatalogRule) (test : Bool) (rest : Option CatalogRule) → (if test then Some rule else rest) ≡ None → (test ≡ false) × (rest ≡ None)
one_less rule true rest none = cc
one_less rule false rest none = (refl, none)

pub all_false : (tests : List (CatalogRule × Bool)) → first_of tests ≡ None → AllFalse tests
all_false [] none = tt
all_false (test ∷ tests) none =
    let parts = one_less test.0 test.1 (first_of tests) none in
    (parts.0, all_false tests parts.1)

-- ---- lookups

listed_or_broken : (listed : Bool) (fault : Fault) (rest : Option Fault) → (if listed then rest else Some fault) ≡ None → (listed ≡ true) × (rest ≡ None)
listed_or_broken true fault rest none = (refl, none)
listed_or_broken false fault rest none = cc

listed_at_place : (catalog : Catalog) (i : ℕ) (lookups : List Lookup) (n : ℕ) (lookup : Lookup) → lookup_broken catalog i lookups ≡ None
    → slice_get lookups n ≡ Some lookup → (l : ℕ) → l ≡ i + n → is_listed catalog l ≡ true
listed_at_place catalog i [] n lookup none at l place = cc
listed_at_place catalog i (first ∷ rest) zero lookup none at l place =
    let number : l ≡ i = omega arith in
    let parts = listed_or_broken (is_listed catalog i) (first.owner_name, unlisted_rule catalog first) (lookup_broken catalog (i + 1) rest) none in
    subst (λ (k : ℕ). is_listed catalog k ≡ true) (sym number) parts.0
listed_at_place catalog i (first ∷ rest) (suc n) lookup none at l place =
    let parts = listed_or_broken (is_listed catalog i) (first.owner_name, unlisted_rule catalog first) (lookup_broken catalog (i + 1) rest) none in
    listed_at_place catalog (i + 1) rest n lookup parts.1 at l (omega arith)

pub each_listed : (catalog : Catalog) (l : ℕ) (lookup : Lookup) → Checked catalog → slice_get catalog.lookups l ≡ Some lookup → is_listed catalog l ≡ true
each_listed catalog l lookup checked at = listed_at_place catalog 0 catalog.lookups l lookup (both_lists catalog checked).1 at l (omega arith)
