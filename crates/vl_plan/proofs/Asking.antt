-- A lookup on a column, among those that the table lists.
use Rattle.std.proofs.Common.{◌≡◌, ℕ, Bool, true, false, cond, List, [], ◌∷◌, Option, Some, None, refl, sym, ap, ◌∙◌}
use Rattle.std.specs.Prelude.{◌&&◌, ◌||◌, filter, not, slice_get}
use Rattle.std.specs.List.{cons_option, filter_map, list_any}
use Rattle.std.specs.Option.{option_map_or}
use Rattle.vl_catalog.specs.declared.catalog.Catalog.{Catalog}
use Rattle.vl_catalog.specs.declared.lookup.Lookup.{Lookup}
use Rattle.vl_catalog.specs.declared.table.Table.{Table}
use Rattle.vl_catalog.specs.Build.{table_at}
use Rattle.vl_model.specs.Columns.{is_mapped_by, is_on, lookups_on}

passes_or : {X : Type 0} (p q : X → Bool) (x : X) (rest : List X) (b c : Bool) → list_any p (filter q rest) ≡ b
    → list_any p (cond c (x ∷ filter q rest) (filter q rest)) ≡ (c && p x) || b
passes_or p q x rest b true e = ap (λ (d : Bool). p x || d) e
passes_or p q x rest b false e = e

with_one : {X : Type 0} (p q : X → Bool) (o : Option X) (rest : List X) (b : Bool) → list_any p (filter q rest) ≡ b
    → list_any p (filter q (cons_option o rest)) ≡ option_map_or (λ (x : X). q x && p x) o false || b
with_one p q None rest b e = e
with_one p q (Some x) rest b e = passes_or p q x rest b (q x) e

any_kept : {X : Type 0} (p q : X → Bool) (f : ℕ → Option X) (ls : List ℕ)
    → list_any p (filter q (filter_map f ls)) ≡ list_any (λ (l : ℕ). option_map_or (λ (x : X). q x && p x) (f l) false) ls
any_kept p q f [] = refl
any_kept p q f (l ∷ ls) = with_one p q (f l) (filter_map f ls) _ (any_kept p q f ls)

pub lookup_needs_is : (catalog : Catalog) (table : Table) (n : ℕ) (lookups : List ℕ) → lookups ≡ table.lookups
    → list_any (λ (l : ℕ). option_map_or (λ (lookup : Lookup). is_on n lookup && not lookup.ignore_nulls) (slice_get catalog.lookups l) false) lookups
    ≡ list_any (λ (lookup : Lookup). not lookup.ignore_nulls) (lookups_on catalog table n)
lookup_needs_is catalog table n lookups same =
    ap (list_any (λ (l : ℕ). option_map_or (λ (lookup : Lookup). is_on n lookup && not lookup.ignore_nulls) (slice_get catalog.lookups l) false)) same
    ∙ sym (any_kept (λ (lookup : Lookup). not lookup.ignore_nulls) (is_on n) (slice_get catalog.lookups) table.lookups)

pub numbered_is : (catalog : Catalog) (table : Table) (n : ℕ) (lookups : List ℕ) → lookups ≡ table.lookups
    → list_any (λ (l : ℕ). option_map_or (λ (lookup : Lookup). is_on n lookup && is_mapped_by (table_at catalog.tables lookup.table)) (slice_get catalog.lookups l) false) lookups
    ≡ list_any (λ (lookup : Lookup). is_mapped_by (table_at catalog.tables lookup.table)) (lookups_on catalog table n)
numbered_is catalog table n lookups same =
    ap (list_any (λ (l : ℕ). option_map_or (λ (lookup : Lookup). is_on n lookup && is_mapped_by (table_at catalog.tables lookup.table)) (slice_get catalog.lookups l) false)) same
    ∙ sym (any_kept (λ (lookup : Lookup). is_mapped_by (table_at catalog.tables lookup.table)) (is_on n) (slice_get catalog.lookups) table.lookups)
