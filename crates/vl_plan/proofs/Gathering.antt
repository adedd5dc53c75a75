-- Values that are gathered one by one, up to the first that isn't taken.
use Rattle.std.proofs.Common.{◌≡◌, ℕ, ◌+◌, ◌<◌, List, [], ◌∷◌, ◌++◌, length, get_or, take, Option, Some, None, Result, Ok, Err, map, refl, sym, ap, ◌∙◌}
use Rattle.std.proofs.lemmas.List.{map-append}
use Rattle.std.proofs.lemmas.List.Elements.{filter_map-append}
use Rattle.vl_values.specs.declared.cause.Cause.{Cause}
use Rattle.vl_values.specs.declared.value.Value.{Value}
use Rattle.vl_model.specs.Refusals.{IsFirst, fault_of, faults}
use Rattle.vl_plan.specs.Planned.{values_of}
use Rattle.vl_plan.proofs.Firsts.{one_more, passed_first}

pub faults_none : (vs : List Value) → faults (map (λ (v : Value). Ok v) vs) ≡ []
faults_none [] = refl
faults_none (v ∷ vs) = faults_none vs

pub values_all : (vs : List Value) → values_of (map (λ (v : Value). Ok v) vs) ≡ vs
values_all [] = refl
values_all (v ∷ vs) = ap (λ (ws : List Value). v ∷ ws) (values_all vs)

pub faults_spread : {X : Type 0} (f : X → Result Value Cause) (xs ys : List X) → faults (map f (xs ++ ys)) ≡ faults (map f xs) ++ faults (map f ys)
faults_spread f xs ys = ap faults (map-append f xs ys) ∙ filter_map-append fault_of (map f xs) (map f ys)

-- what was gathered so far has no fault: the next one's is the first
pub gathered_first : {X : Type 0} (f : X → Result Value Cause) (xs : List X) (i : ℕ) (x : X) (vs : List Value) (cause : Cause)
    → i < length xs → x ≡ get_or xs i x → map f (take i xs) ≡ map (λ (v : Value). Ok v) vs → IsFirst cause (faults (f x ∷ [])) → IsFirst cause (faults (map f xs))
gathered_first f xs i x vs cause lt at so_far first =
    passed_first (λ zs. faults (map f zs)) (faults_spread f) xs i x cause lt at (ap faults so_far ∙ faults_none vs) first

pub gathered_more : {X : Type 0} (f : X → Result Value Cause) (xs : List X) (i : ℕ) (x : X) (vs : List Value) (v : Value)
    → i < length xs → x ≡ get_or xs i x → map f (take i xs) ≡ map (λ (w : Value). Ok w) vs → f x ≡ Ok v
    → map f (take (i + 1) xs) ≡ map (λ (w : Value). Ok w) (vs ++ v ∷ [])
gathered_more {X} f xs i x vs v lt at so_far fits =
    ap (map f) (one_more xs i x lt at) ∙ map-append f (take i xs) (x ∷ [])
    ∙ ap (λ (rs : List (Result Value Cause)). rs ++ f x ∷ []) so_far
    ∙ ap (λ (r : Result Value Cause). map (λ (w : Value). Ok w) vs ++ r ∷ []) fits
    ∙ sym (map-append (λ (w : Value). Ok w) vs (v ∷ []))

pub gathered_all : (rs : List (Result Value Cause)) (vs : List Value) → rs ≡ map (λ (v : Value). Ok v) vs → (faults rs ≡ []) × (values_of rs ≡ vs)
gathered_all rs vs same = (ap faults same ∙ faults_none vs, ap values_of same ∙ values_all vs)
