-- The first of several causes, and a list that has been gone through up to a place with no cause.
use Rattle.std.proofs.Common.{◌≡◌, ℕ, suc, ◌+◌, ◌<◌, List, [], ◌∷◌, ◌++◌, length, get_or, take, drop, Option, Some, None, Result, Ok, Err, map, refl, sym, ap, ◌∙◌, subst, add-one}
use Rattle.std.specs.Prelude.{slice_get, IfErr, IsErrAnd}
use Rattle.std.proofs.Math.Seq.{drop-cons}
use Rattle.std.proofs.lemmas.List.{take_more, take-append-drop, map-append}
use Rattle.std.proofs.lemmas.List.Elements.{filter-append}
use Rattle.std.proofs.lemmas.Option.{none-some}
use Rattle.vl_values.specs.declared.cause.Cause.{Cause}
use Rattle.vl_values.specs.declared.cause.Cause.TheVariants.{OutOfMemory, UnknownColumn}
use Rattle.vl_catalog.specs.declared.column.Column.{Column}
use Rattle.vl_catalog.specs.Build.{Names, column_number}
use Rattle.vl_model.specs.Refusals.{IsFirst, unknown_among}
use Rattle.std.specs.Prelude.{is_none}

pub first_map : (cause : Cause) (xs ys : List Cause) → (slice_get xs 0 ≡ Some cause → slice_get ys 0 ≡ Some cause) → IsFirst cause xs → IsFirst cause ys
first_map OutOfMemory xs ys f h = tt
first_map cause xs ys f h = f h

front_get : (xs ys : List Cause) (cause : Cause) → slice_get xs 0 ≡ Some cause → slice_get (xs ++ ys) 0 ≡ Some cause
front_get [] ys cause e = absurd (none-some cause e)
front_get (x ∷ xs) ys cause e = e

-- the first of the front is the first of all
pub first_front : (cause : Cause) (xs ys : List Cause) → IsFirst cause xs → IsFirst cause (xs ++ ys)
first_front cause xs ys h = first_map cause xs (xs ++ ys) (front_get xs ys cause) h

-- where the front is empty, the first of the rest is
pub first_behind : (cause : Cause) (xs ys : List Cause) → xs ≡ [] → IsFirst cause ys → IsFirst cause (xs ++ ys)
first_behind cause xs ys none h = subst (λ (zs : List Cause). IsFirst cause (zs ++ ys)) (sym none) h

pub first_same : (cause : Cause) (xs ys : List Cause) → xs ≡ ys → IsFirst cause xs → IsFirst cause ys
first_same cause xs ys same h = subst (λ (zs : List Cause). IsFirst cause zs) same h

pub both_empty : (xs ys : List Cause) → xs ≡ [] → ys ≡ [] → xs ++ ys ≡ []
both_empty xs ys e f = ap (λ (zs : List Cause). zs ++ ys) e ∙ f

-- ---- lists, gone through up to a place

pub parted : {X : Type 0} (xs : List X) (i : ℕ) (x : X) → i < length xs → x ≡ get_or xs i x → xs ≡ take i xs ++ (x ∷ drop (i + 1) xs)
parted {X} xs i x lt at =
    let rest : drop i xs ≡ x ∷ drop (i + 1) xs =
    drop-cons xs i x lt ∙ ap (λ (y : X). y ∷ drop (suc i) xs) (sym at) ∙ ap (λ (n : ℕ). x ∷ drop n xs) (sym (add-one i)) in
    sym (take-append-drop i xs) ∙ ap (λ (zs : List X). take i xs ++ zs) rest

pub one_more : {X : Type 0} (xs : List X) (i : ℕ) (x : X) → i < length xs → x ≡ get_or xs i x → take (i + 1) xs ≡ take i xs ++ x ∷ []
one_more {X} xs i x lt at = take_more xs i x lt ∙ ap (λ (y : X). take i xs ++ y ∷ []) (sym at)

pub passed_first : {X : Type 0} (h : List X → List Cause) → ((xs ys : List X) → h (xs ++ ys) ≡ h xs ++ h ys) → (xs : List X) (i : ℕ) (x : X) (cause : Cause)
    → i < length xs → x ≡ get_or xs i x → h (take i xs) ≡ [] → IsFirst cause (h (x ∷ [])) → IsFirst cause (h xs)
passed_first {X} h add xs i x cause lt at passed first =
    let whole : h xs ≡ h (x ∷ []) ++ h (drop (i + 1) xs) =
    ap h (parted xs i x lt at) ∙ add (take i xs) (x ∷ drop (i + 1) xs)
    ∙ ap (λ (zs : List Cause). zs ++ h (x ∷ drop (i + 1) xs)) passed ∙ add (x ∷ []) (drop (i + 1) xs) in
    first_same cause _ _ (sym whole) (first_front cause (h (x ∷ [])) (h (drop (i + 1) xs)) first)

pub passed_more : {X : Type 0} (h : List X → List Cause) → ((xs ys : List X) → h (xs ++ ys) ≡ h xs ++ h ys) → (xs : List X) (i : ℕ) (x : X)
    → i < length xs → x ≡ get_or xs i x → h (take i xs) ≡ [] → h (x ∷ []) ≡ [] → h (take (i + 1) xs) ≡ []
passed_more {X} h add xs i x lt at passed one =
    ap h (one_more xs i x lt at) ∙ add (take i xs) (x ∷ []) ∙ ap (λ (zs : List Cause). zs ++ h (x ∷ [])) passed ∙ one

-- ---- columns

pub unknown_spread : (columns : List Column) (xs ys : Names) → unknown_among columns (xs ++ ys) ≡ unknown_among columns xs ++ unknown_among columns ys
unknown_spread columns xs ys =
    ap (map (λ (name : List ℕ). UnknownColumn name)) (filter-append (λ (name : List ℕ). is_none (column_number columns name)) xs ys)
    ∙ map-append (λ (name : List ℕ). UnknownColumn name) _ _

pub unknown_of_spread : {X : Type 0} (columns : List Column) (f : X → List ℕ) (xs ys : List X)
    → unknown_among columns (map f (xs ++ ys)) ≡ unknown_among columns (map f xs) ++ unknown_among columns (map f ys)
unknown_of_spread columns f xs ys = ap (unknown_among columns) (map-append f xs ys) ∙ unknown_spread columns (map f xs) (map f ys)

-- ---- what a `?` hands on, and what is pushed

pub handed_on : {T : Type 0} (r : Result T Cause) (e : Cause) (P : Cause → Type 0) → IsErrAnd r (λ (d : Cause). d ≡ e) → P e → IfErr r P
handed_on (Ok x) e P h k = tt
handed_on (Err d) e P h k = subst P (sym h) k

pub pushed_more : {X Y : Type 0} (f : X → Y) (xs : List X) (i : ℕ) (x : X) (ys after : List Y) (y : Y)
    → i < length xs → x ≡ get_or xs i x → ys ≡ map f (take i xs) → f x ≡ y → after ≡ ys ++ y ∷ [] → after ≡ map f (take (i + 1) xs)
pushed_more {X} {Y} f xs i x ys after y lt at so_far same pushed =
    pushed ∙ ap (λ (zs : List Y). zs ++ y ∷ []) so_far ∙ ap (λ (z : Y). map f (take i xs) ++ z ∷ []) (sym same)
    ∙ sym (ap (map f) (one_more xs i x lt at) ∙ map-append f (take i xs) (x ∷ []))

pub pairs_more : {X Y Z : Type 0} (f : X → Z) (g : Y → Z) (ys : List Y) (i : ℕ) (y : Y) (xs after : List X) (x : X)
    → i < length ys → y ≡ get_or ys i y → map f xs ≡ map g (take i ys) → f x ≡ g y → after ≡ xs ++ x ∷ [] → map f after ≡ map g (take (i + 1) ys)
pairs_more {X} {Y} {Z} f g ys i y xs after x lt at so_far same pushed =
    ap (map f) pushed ∙ map-append f xs (x ∷ []) ∙ ap (λ (zs : List Z). zs ++ f x ∷ []) so_far ∙ ap (λ (z : Z). map g (take i ys) ++ z ∷ []) same
    ∙ sym (ap (map g) (one_more ys i y lt at) ∙ map-append g (take i ys) (y ∷ []))

pub rest_at : {X : Type 0} (xs : List X) (i : ℕ) (x : X) → i < length xs → x ≡ get_or xs i x → drop i xs ≡ x ∷ drop (i + 1) xs
rest_at {X} xs i x lt at =
    drop-cons xs i x lt ∙ ap (λ (y : X). y ∷ drop (suc i) xs) (sym at) ∙ ap (λ (n : ℕ). x ∷ drop n xs) (sym (add-one i))
