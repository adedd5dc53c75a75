-- A lookup of a checked catalog: the table that lists it, and the rules that it keeps.
use Rattle.std.proofs.Common.{◌≡◌, ℕ, true, false, not, ◌&&◌, take, slice_get, Option, Some, sym, ap, ◌∙◌}
use Rattle.std.specs.List.{list_any}
use Rattle.std.specs.Option.{option_map_or}
use Rattle.vl_catalog.specs.declared.catalog.Catalog.{Catalog}
use Rattle.vl_catalog.specs.declared.lookup.Lookup.{Lookup}
use Rattle.vl_catalog.specs.declared.table.Table.{Table}
use Rattle.vl_rules.specs.declared.lookup_rule.LookupRule.{LookupRule}
use Rattle.vl_rules.specs.declared.lookup_rule.LookupRule.TheVariants.{C6, C7, C8, C9, C10, C13, C14}
use Rattle.vl_rules.specs.Lookups.{lists_lookup}
use Rattle.vl_rules.specs.Order.{Checked, any_breaks, breaks, breaks_at, broken_rules, is_first_listing}
use Rattle.vl_rules.proofs.FirstBroken.{AllFalse, all_false, each_listed, no_rule_broken}
use Rattle.vl_rules.proofs.Lists.{first_passing}
use Rattle.vl_rules.proofs.Passed.{among_fails, not_both}

-- the tests of a table of a checked catalog
pub tests_fail : (catalog : Catalog) (t : ℕ) (table : Table) → Checked catalog → slice_get catalog.tables t ≡ Some table → AllFalse (broken_rules catalog t table)
tests_fail catalog t table checked at = all_false (broken_rules catalog t table) (no_rule_broken catalog t table checked at)

none_breaks : (catalog : Catalog) (t : ℕ) (table : Table) → AllFalse (broken_rules catalog t table) → (rule : LookupRule) → any_breaks rule catalog t table ≡ false
none_breaks catalog t table fail C6 = fail.1.1.1.1.1.0
none_breaks catalog t table fail C7 = fail.1.1.1.1.1.1.0
none_breaks catalog t table fail C8 = fail.1.1.1.1.1.1.1.0
none_breaks catalog t table fail C9 = fail.1.1.1.1.1.1.1.1.0
none_breaks catalog t table fail C10 = fail.1.1.1.1.1.1.1.1.1.0
none_breaks catalog t table fail C13 = fail.1.1.1.1.1.1.1.1.1.1.1.1.0
none_breaks catalog t table fail C14 = fail.1.1.1.1.1.1.1.1.1.1.1.1.1.0

-- the first table that lists the lookup, with which it keeps each rule
pub record IsListed (catalog : Catalog) (l : ℕ) (lookup : Lookup) : Type 0 where
  pub place : ℕ
  pub listing : Table
  pub at : slice_get catalog.tables place ≡ Some listing
  pub lists : lists_lookup l listing ≡ true
  pub first : list_any (lists_lookup l) (take place catalog.tables) ≡ false
  pub tests : AllFalse (broken_rules catalog place listing)
  pub keeps : (rule : LookupRule) → breaks rule catalog place listing l lookup ≡ false

pub is_listed_first : (catalog : Catalog) (l : ℕ) (lookup : Lookup) → Checked catalog → slice_get catalog.lookups l ≡ Some lookup → IsListed catalog l lookup
is_listed_first catalog l lookup checked at =
    let found = first_passing (lists_lookup l) catalog.tables (each_listed catalog l lookup checked at) in
    let place = found.0 in
    let listing = found.1 in
    let fail = tests_fail catalog place listing checked found.2 in
    let first : is_first_listing catalog place l ≡ true = ap not found.4 in
    record {
      place = place;
      listing = listing;
      at = found.2;
      lists = found.3;
      first = found.4;
      tests = fail;
      keeps = λ rule.
          let none = none_breaks catalog place listing fail rule in
          let fails = among_fails (λ m. is_first_listing catalog place m && breaks_at rule catalog place listing m) listing.lookups l found.3 none in
          let here = not_both (is_first_listing catalog place l) (breaks_at rule catalog place listing l) fails first in
          ap (λ (o : Option Lookup). option_map_or (breaks rule catalog place listing l) o false) (sym at) ∙ here;
    }
