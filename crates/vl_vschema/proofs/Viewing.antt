-- The parts of a value beside what a look into it gives.
use Rattle.std.proofs.Common.{◌≡◌, ℕ, List, [], ◌∷◌, ◌++◌, map, Some, String, Global, nat_cmp, Less, string_bytes, string_cmp, refl, sym, ap, ◌∙◌, subst, append-nil}
use Rattle.std.specs.Cmp.Lexicographic.{slice_cmp}
use Rattle.std.specs.List.{AllByRecursion}
use Rattle.std.specs.List.Sorted.{IsStrictlySortedBy}
use Rattle.std.specs.Map.{keys_of}
use Rattle.serde_json.specs.Data.{Data}
use Rattle.serde_json.specs.Find.{as_array}
use Rattle.serde_json.specs.View.{view, items_view, members_view}
use Rattle.serde_json.specs.declared.value.Value.{Value}
use Rattle.serde_json.proofs.Views.{Entry}
use Rattle.vl_vschema.specs.Json.{in_option, items, items_of, members}
use Rattle.vl_vschema.specs.Vschema.{IsByName}

-- ---- lists

pub items-items_view : (values : List Value) → items (items_view values) ≡ map view values
items-items_view [] = refl
items-items_view (value ∷ values) = ap (λ ds. view value ∷ ds) (items-items_view values)

pub items_of_array : (d : Data) (values : List Value) → Some (items_view values) ≡ as_array d → items_of d ≡ map view values
items_of_array d values found = sym (ap (in_option items) found) ∙ items-items_view values

-- ---- objects

abbrev names : List Entry → List (List ℕ)
names entries = map (λ m. m.0) (members (members_view entries))

above : (name : String Global) (entries : List Entry) → AllByRecursion (λ other. string_cmp name other ≡ Less) (keys_of entries) → AllByRecursion (λ other. slice_cmp nat_cmp (string_bytes name) other ≡ Less) (names entries)
above name [] h = h
above name (entry ∷ entries) h = (h.0, above name entries h.1)

names_rise : (entries : List Entry) → IsStrictlySortedBy string_cmp (keys_of entries) → IsByName (names entries)
unfolding IsStrictlySortedBy
names_rise [] h = h
names_rise (entry ∷ entries) h = (above entry.0 entries h.0, names_rise entries h.1)

names_kept : {A : Type 0} (f : List ℕ × Data → A) (name : A → List ℕ) → ((m : List ℕ × Data) → name (f m) ≡ m.0) → (ms : List (List ℕ × Data)) → map name (map f ms) ≡ map (λ m. m.0) ms
names_kept f name same [] = refl
names_kept f name same (m ∷ ms) = rw (same m, names_kept f name same ms)

-- what is made of an object's members, each with the member's name
pub by_name : {A : Type 0} (f : List ℕ × Data → A) (name : A → List ℕ) → ((m : List ℕ × Data) → name (f m) ≡ m.0) → (entries : List Entry) (made : List A) → made ≡ map f (members (members_view entries)) → IsStrictlySortedBy string_cmp (keys_of entries) → IsByName (map name made)
by_name f name same entries made is rises =
    subst IsByName (sym (ap (map name) is ∙ names_kept f name same (members (members_view entries)))) (names_rise entries rises)

-- the end of a walk over the members
pub all_made : {A : Type 0} (f : List ℕ × Data → A) (made all : List A) (left : List Entry) → made ++ map f (members (members_view left)) ≡ all → left ≡ [] → made ≡ all
all_made f made all left is none = sym (append-nil made) ∙ ap (λ entries. made ++ map f (members (members_view entries))) (sym none) ∙ is

pub none_by_name : {A : Type 0} (name : A → List ℕ) (made : List A) → made ≡ [] → IsByName (map name made)
unfolding IsStrictlySortedBy
none_by_name name made is = rw is tt
