-- What SET says, column by column.
use Rattle.std.proofs.Common.{◌≡◌, ℕ, ◌+◌, ◌<◌, ◌≤◌, List, [], ◌∷◌, ◌++◌, length, get_or, drop, Option, Some, None, Result, map, refl, sym, ap, ◌∙◌, append_assoc}
use Rattle.std.specs.List.{cons_option, filter_map}
use Rattle.std.specs.Option.{option_map_or}
use Rattle.std.proofs.Math.Seq.{drop-length}
use Rattle.std.proofs.lemmas.List.{append-nil, map-append}
use Rattle.vl_values.specs.declared.cause.Cause.{Cause}
use Rattle.vl_values.specs.declared.value.Value.{Value}
use Rattle.vl_catalog.specs.declared.catalog.Catalog.{Catalog}
use Rattle.vl_catalog.specs.declared.column.Column.{Column}
use Rattle.vl_catalog.specs.declared.table.Table.{Table}
use Rattle.vl_sql.specs.declared.assignment.Assignment.{Assignment}
use Rattle.vl_model.specs.Columns.{set_stored}
use Rattle.vl_model.specs.Refusals.{IsFirst, faults}
use Rattle.vl_plan.specs.declared.setting.Setting.{Setting}
use Rattle.vl_plan.specs.Planned.{setting_of}
use Rattle.vl_plan.specs.Sets.{set_at, set_of}
use Rattle.vl_plan.proofs.Firsts.{first_behind, first_front, first_same, rest_at}
use Rattle.vl_plan.proofs.Gathering.{faults_spread}

set_fits : (settings : List Setting) → faults (map (λ (set : ℕ × Result Value Cause). set.1) (map set_of settings)) ≡ []
set_fits [] = refl
set_fits (s ∷ settings) = set_fits settings

set_again : (settings : List Setting) → filter_map setting_of (map set_of settings) ≡ settings
set_again [] = refl
set_again (s ∷ settings) = ap (λ (rest : List Setting). s ∷ rest) (set_again settings)

with_option : (settings : List Setting) (o : Option Setting) → map set_of settings ++ option_map_or (λ (one : Setting). set_of one ∷ []) o [] ≡ map set_of (settings ++ cons_option o [])
with_option settings None = sym (map-append set_of settings [])
with_option settings (Some s) = sym (map-append set_of settings (s ∷ []))

pub sets_more : (catalog : Catalog) (table : Table) (assignments : List Assignment) (columns : List Column) (i : ℕ) (column : Column) (settings after : List Setting) (o : Option Setting)
    → i < length columns → column ≡ get_or columns i column
    → set_stored catalog table assignments 0 columns ≡ map set_of settings ++ set_stored catalog table assignments i (drop i columns)
    → set_at catalog table assignments i column ≡ option_map_or (λ (one : Setting). set_of one ∷ []) o []
    → after ≡ settings ++ cons_option o []
    → set_stored catalog table assignments 0 columns ≡ map set_of after ++ set_stored catalog table assignments (i + 1) (drop (i + 1) columns)
sets_more catalog table assignments columns i column settings after o lt at so_far one pushed =
    let rest : List (ℕ × Result Value Cause) = set_stored catalog table assignments (i + 1) (drop (i + 1) columns) in
    so_far
    ∙ ap (λ (zs : List Column). map set_of settings ++ set_stored catalog table assignments i zs) (rest_at columns i column lt at)
    ∙ ap (λ (zs : List (ℕ × Result Value Cause)). map set_of settings ++ (zs ++ rest)) one
    ∙ sym (append_assoc (map set_of settings) (option_map_or (λ (s : Setting). set_of s ∷ []) o []) rest)
    ∙ ap (λ (zs : List (ℕ × Result Value Cause)). zs ++ rest) (with_option settings o)
    ∙ ap (λ (zs : List Setting). map set_of zs ++ rest) (sym pushed)

pub sets_first : (catalog : Catalog) (table : Table) (assignments : List Assignment) (columns : List Column) (i : ℕ) (column : Column) (settings : List Setting) (cause : Cause)
    → i < length columns → column ≡ get_or columns i column
    → set_stored catalog table assignments 0 columns ≡ map set_of settings ++ set_stored catalog table assignments i (drop i columns)
    → IsFirst cause (faults (map (λ (set : ℕ × Result Value Cause). set.1) (set_at catalog table assignments i column)))
    → IsFirst cause (faults (map (λ (set : ℕ × Result Value Cause). set.1) (set_stored catalog table assignments 0 columns)))
sets_first catalog table assignments columns i column settings cause lt at so_far first =
    let second : ℕ × Result Value Cause → Result Value Cause = λ set. set.1 in
    let rest : List (ℕ × Result Value Cause) = set_stored catalog table assignments (i + 1) (drop (i + 1) columns) in
    let whole : faults (map second (set_stored catalog table assignments 0 columns))
    ≡ faults (map second (map set_of settings)) ++ (faults (map second (set_at catalog table assignments i column)) ++ faults (map second rest)) =
    ap (λ (zs : List (ℕ × Result Value Cause)). faults (map second zs))
    (so_far ∙ ap (λ (zs : List Column). map set_of settings ++ set_stored catalog table assignments i zs) (rest_at columns i column lt at))
    ∙ faults_spread second (map set_of settings) (set_at catalog table assignments i column ++ rest)
    ∙ ap (λ (zs : List Cause). faults (map second (map set_of settings)) ++ zs) (faults_spread second (set_at catalog table assignments i column) rest) in
    first_same cause _ _ (sym whole)
    (first_behind cause (faults (map second (map set_of settings))) _ (set_fits settings)
    (first_front cause (faults (map second (set_at catalog table assignments i column))) (faults (map second rest)) first))

pub sets_all : (catalog : Catalog) (table : Table) (assignments : List Assignment) (columns : List Column) (i : ℕ) (settings : List Setting) → i ≡ length columns
    → set_stored catalog table assignments 0 columns ≡ map set_of settings ++ set_stored catalog table assignments i (drop i columns)
    → set_stored catalog table assignments 0 columns ≡ map set_of settings
sets_all catalog table assignments columns i settings ends all =
    all
    ∙ ap (λ (zs : List Column). map set_of settings ++ set_stored catalog table assignments i zs) (ap (λ (n : ℕ). drop n columns) ends ∙ drop-length columns)
    ∙ append-nil (map set_of settings)

pub sets_fit : (sets : List (ℕ × Result Value Cause)) (settings : List Setting) → sets ≡ map set_of settings → faults (map (λ (set : ℕ × Result Value Cause). set.1) sets) ≡ []
sets_fit sets settings same = ap (λ (zs : List (ℕ × Result Value Cause)). faults (map (λ (set : ℕ × Result Value Cause). set.1) zs)) same ∙ set_fits settings

pub sets_are : (sets : List (ℕ × Result Value Cause)) (settings : List Setting) → sets ≡ map set_of settings → settings ≡ filter_map setting_of sets
sets_are sets settings same = sym (ap (filter_map setting_of) same ∙ set_again settings)
