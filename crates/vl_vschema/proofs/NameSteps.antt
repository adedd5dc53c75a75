-- One keyspace more, of those whose names are looked at.
use Rattle.std.proofs.Common.{◌≡◌, ℕ, ◌+◌, ◌<◌, List, [], ◌∷◌, ◌++◌, length, get_or, take, drop, map, codes, decimal, fold, Bool, true, false, not, ◌||◌, Option, Some, None, refl, sym, ap, ◌∙◌}
use Rattle.std.proofs.lemmas.List.{take_more, drop_more, take-map, map-append}
use Rattle.std.proofs.lemmas.List.Folds.{list_any-append}
use Rattle.std.proofs.lemmas.List.Sums.{fold-append}
use Rattle.std.specs.List.{flat_map, enumerate_from, list_any}
use Rattle.serde_json.specs.Data.{Data}
use Rattle.serde_json.specs.View.{view}
use Rattle.serde_json.specs.declared.value.Value.{Value}
use Rattle.vl_vschema.specs.CatalogFile.{is_name_of, is_taken_by, taken_name}
use Rattle.vl_vschema.specs.Json.{is_this, text_at, unless}
use Rattle.vl_vschema.specs.Path.{child}

or_nothing : (a b : Bool) → (a || (b || false)) ≡ (a || b)
or_nothing true b = refl
or_nothing false true = refl
or_nothing false false = refl

-- the keyspace's name joins those of the keyspaces before
pub name_joined : (values : List Value) (i : ℕ) (value : Value) → i < length values → value ≡ get_or values i value → (other : List ℕ)
    → (is_name_of (map view (take i values)) other || is_this other (text_at (codes "name") (view value))) ≡ is_name_of (map view (take (i + 1) values)) other
name_joined values i value within is other =
    let test = λ (d : Data). is_this other (text_at (codes "name") d) in
    let first : take (i + 1) values ≡ take i values ++ value ∷ [] = take_more values i value within ∙ ap (λ v. take i values ++ v ∷ []) (sym is) in
    sym (ap (λ vs. list_any test (map view vs)) first
    ∙ ap (list_any test) (map-append view (take i values) (value ∷ []))
    ∙ list_any-append test (map view (take i values)) (view value ∷ [])
    ∙ or_nothing (list_any test (map view (take i values))) (test (view value)))

same_test : (test other : List ℕ → Bool) → ((name : List ℕ) → test name ≡ other name) → (name : Option (List ℕ)) → is_taken_by test name ≡ is_taken_by other name
same_test test other same None = refl
same_test test other same (Some name) = same name

-- the keyspace's name is found where it is among those before
pub name_found : {S : Type 0} (with : S → List ℕ → S) (sink noted : S) (path : List ℕ) (values : List Value) (i : ℕ) (value : Value) (among : List ℕ → Bool)
    → i < length values → value ≡ get_or values i value
    → ((other : List ℕ) → among other ≡ is_name_of (map view (take i values)) other)
    → noted ≡ fold with sink (unless (not (is_taken_by among (text_at (codes "name") (view value)))) (child (child path (decimal i)) (codes "name")))
    → fold with noted (flat_map (taken_name path (map view values)) (enumerate_from (i + 1) (map view (drop (i + 1) values))))
    ≡ fold with sink (flat_map (taken_name path (map view values)) (enumerate_from i (map view (drop i values))))
name_found with sink noted path values i value among within is same found =
    let look = taken_name path (map view values) in
    let rest = flat_map look (enumerate_from (i + 1) (map view (drop (i + 1) values))) in
    let name = text_at (codes "name") (view value) in
    let first : drop i values ≡ value ∷ drop (i + 1) values = drop_more values i value within ∙ ap (λ v. v ∷ drop (i + 1) values) (sym is) in
    let test : is_taken_by among name ≡ is_taken_by (is_name_of (take i (map view values))) name =
    same_test among _ same name ∙ ap (λ ds. is_taken_by (is_name_of ds) name) (sym (take-map view i values)) in
    ap (λ s. fold with s rest) (found ∙ ap (λ b. fold with sink (unless (not b) (child (child path (decimal i)) (codes "name")))) test)
    ∙ sym (fold-append with sink (look (i, view value)) rest)
    ∙ sym (ap (λ vs. fold with sink (flat_map look (enumerate_from i (map view vs)))) first)
