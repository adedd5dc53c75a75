-- Which broken rule is named: the first of the first table that breaks one.
use Rattle.std.specs.Prelude.{◌≡◌, ℕ, ◌+◌, Bool, false, not, ◌&&◌, if◌then◌else◌, List, [], ◌∷◌, take, slice_get, IsSome, Option, Some, None, Result, Ok, Err}
use denote.Ref.{Bor}
use Rattle.std.specs.List.{list_any}
use Rattle.std.specs.Option.{option_map, option_map_or, option_or}
use Rattle.vl_catalog.specs.declared.catalog.Catalog.{Catalog}
use Rattle.vl_catalog.specs.declared.lookup.Lookup.{Lookup}
use Rattle.vl_catalog.specs.declared.table.Table.{Table}
use Rattle.vl_rules.specs.declared.catalog_fault.CatalogFault.{CatalogFault}
use Rattle.vl_rules.specs.declared.catalog_fault.CatalogFault.TheVariants.{Broken, Memory}
use Rattle.vl_rules.specs.declared.catalog_rule.CatalogRule.{CatalogRule}
use Rattle.vl_rules.specs.declared.catalog_rule.CatalogRule.TheVariants.{UniqueTableName, DefinedTable, PrimaryVindexFirst, PrimaryVindexInKey, NumericOnNumber, LookupTable, FromColumns, OwnerListsLookup, LookupTablePlacement, NotWriteOnly, WithinLimits, OneColumnVindex, OneLookupTable, OwnerPlacement}
use Rattle.vl_rules.specs.declared.lookup_rule.LookupRule.{LookupRule}
use Rattle.vl_rules.specs.declared.lookup_rule.LookupRule.TheVariants.{C6, C7, C8, C9, C10, C13, C14}
use Rattle.vl_rules.specs.Limits.{breaks_c11, passes_a_limit}
use Rattle.vl_rules.specs.Lookups.{breaks_c6, breaks_c7, breaks_c8, breaks_c9, breaks_c10, breaks_c13, breaks_c14, lists_lookup}
use Rattle.vl_rules.specs.Tables.{breaks_c1, breaks_c2, breaks_c3, breaks_c4, breaks_c5, breaks_c12}

-- the name of a table, and the rule that it breaks
abbrev pub Fault : Type 0
Fault = List ℕ × CatalogRule

-- ---- the rules about a lookup

-- whether lookup l, which the table at place i lists, breaks the rule
abbrev pub breaks : LookupRule → Catalog → ℕ → Table → ℕ → Lookup → Bool
breaks C6 catalog i table l lookup = breaks_c6 catalog lookup
breaks C7 catalog i table l lookup = breaks_c7 catalog i table lookup
breaks C8 catalog i table l lookup = breaks_c8 catalog i l lookup
breaks C9 catalog i table l lookup = breaks_c9 catalog lookup
breaks C10 catalog i table l lookup = breaks_c10 lookup
breaks C13 catalog i table l lookup = breaks_c13 catalog table l lookup
breaks C14 catalog i table l lookup = breaks_c14 catalog lookup

-- no table before the one at place i lists the lookup
abbrev pub is_first_listing : Catalog → ℕ → ℕ → Bool
is_first_listing catalog i l = not (list_any (lists_lookup l) (take i catalog.tables))

-- the same of its number, where the lookup exists
abbrev pub breaks_at : LookupRule → Catalog → ℕ → Table → ℕ → Bool
breaks_at rule catalog i table l = option_map_or (breaks rule catalog i table l) (slice_get catalog.lookups l) false

-- a lookup that the table is the first to list breaks the rule
abbrev pub any_breaks : LookupRule → Catalog → ℕ → Table → Bool
any_breaks rule catalog i table =
    list_any (λ l. is_first_listing catalog i l && breaks_at rule catalog i table l) table.lookups

-- ---- the order of the rules

-- the rules in their order, each with whether the table at place i breaks it
abbrev pub broken_rules : Catalog → ℕ → Table → List (CatalogRule × Bool)
broken_rules catalog i table =
    (UniqueTableName, breaks_c1 catalog i table)
    ∷ (DefinedTable, breaks_c2 catalog table)
    ∷ (PrimaryVindexFirst, breaks_c3 catalog table)
    ∷ (PrimaryVindexInKey, breaks_c4 catalog table)
    ∷ (NumericOnNumber, breaks_c5 catalog table)
    ∷ (LookupTable, any_breaks C6 catalog i table)
    ∷ (FromColumns, any_breaks C7 catalog i table)
    ∷ (OwnerListsLookup, any_breaks C8 catalog i table)
    ∷ (LookupTablePlacement, any_breaks C9 catalog i table)
    ∷ (NotWriteOnly, any_breaks C10 catalog i table)
    ∷ (WithinLimits, breaks_c11 table)
    ∷ (OneColumnVindex, breaks_c12 catalog table)
    ∷ (OneLookupTable, any_breaks C13 catalog i table)
    ∷ (OwnerPlacement, any_breaks C14 catalog i table)
    ∷ []

-- the first that is broken
abbrev pub first_of : List (CatalogRule × Bool) → Option CatalogRule
first_of [] = None
first_of (test ∷ rest) = if test.1 then Some test.0 else first_of rest

abbrev pub broken_rule : Catalog → ℕ → Table → Option CatalogRule
broken_rule catalog i table = first_of (broken_rules catalog i table)

-- ---- the order of the tables

abbrev pub named : List ℕ → Option CatalogRule → Option Fault
named name rule = option_map (λ r. (name, r)) rule

-- the first of the tables from place i on
abbrev pub table_broken : Catalog → ℕ → List Table → Option Fault
table_broken catalog i [] = None
table_broken catalog i (table ∷ rest) = option_or (named table.name (broken_rule catalog i table)) (table_broken catalog (i + 1) rest)

abbrev pub is_listed : Catalog → ℕ → Bool
is_listed catalog l = list_any (lists_lookup l) catalog.tables

-- no table lists the lookup: its table is looked at, and then that
abbrev pub unlisted_rule : Catalog → Lookup → CatalogRule
unlisted_rule catalog lookup = if breaks_c6 catalog lookup then LookupTable else OwnerListsLookup

-- the first of the lookups from number l on that no table lists, with its owner's name as written
abbrev pub lookup_broken : Catalog → ℕ → List Lookup → Option Fault
lookup_broken catalog l [] = None
lookup_broken catalog l (lookup ∷ rest) =
    if is_listed catalog l then lookup_broken catalog (l + 1) rest else Some (lookup.owner_name, unlisted_rule catalog lookup)

-- the limits of the whole catalog, which name no table; then table by table; then the lookups that none lists
abbrev pub first_broken : Catalog → Option Fault
first_broken catalog =
    if passes_a_limit catalog then Some ([], WithinLimits)
    else option_or (table_broken catalog 0 catalog.tables) (lookup_broken catalog 0 catalog.lookups)

-- the catalog keeps C1 to C14
abbrev pub Checked : Catalog → Type 0
Checked catalog = first_broken catalog ≡ None

-- the answer is exactly that; memory is wanted for a name alone, so only where a rule is broken
abbrev pub Answers : Result (Unit {0}) CatalogFault → Option Fault → Type 0
Answers (Ok _) fault = fault ≡ None
Answers (Err (Broken table rule)) fault = fault ≡ Some (table, rule)
Answers (Err Memory) fault = IsSome fault

-- what a name and a rule that are passed by reference say
abbrev pub fault_told : Option (Bor (List ℕ) × CatalogRule) → Option Fault
fault_told told = option_map (λ (f : Bor (List ℕ) × CatalogRule). (f.0.now, f.1)) told
