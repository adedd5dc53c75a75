-- A set of names against the list of names that were seen.
use Rattle.std.proofs.Common.{◌≡◌, ℕ, Bool, true, false, cond, ◌||◌, List, [], ◌∷◌, ◌++◌, refl, sym, ap, ◌∙◌, Bor}
use Rattle.std.proofs.lemmas.List.Folds.{list_any-append}
use Rattle.std.proofs.lemmas.Slice.Eq.{bytes_eq-Decides}
use Rattle.std.proofs.lemmas.Bool.Decides.{same_from_decides, Decides-like}
use Rattle.std.specs.List.{list_any}
use Rattle.std.specs.Str.{bytes_eq}
use Rattle.std.specs.HashSet.{HashSet, contains, IsEmpty}
use Rattle.vl_ddl.specs.Seen.{Holds}

-- how a clause of the set says that two names are one
abbrev pub same_name : Bor (List ℕ) → Bor (List ℕ) → Bool
same_name x y = bytes_eq x.now y.now

abbrev as_key : List ℕ → Bor (List ℕ)
as_key q = record { ref_ptr = (0, 0); now = q }

symmetric : (xs ys : List ℕ) → bytes_eq xs ys ≡ bytes_eq ys xs
symmetric xs ys =
    same_from_decides (bytes_eq xs ys) (bytes_eq ys xs) (bytes_eq-Decides xs ys)
    (Decides-like (bytes_eq ys xs) (λ (e : ys ≡ xs). sym e) (λ (e : xs ≡ ys). sym e) (bytes_eq-Decides ys xs))

or_last : (a b : Bool) → (a || (b || false)) ≡ cond b true a
or_last true true = refl
or_last true false = refl
or_last false true = refl
or_last false false = refl

pub holds_more : {H : Type 0} (old new : HashSet (Bor (List ℕ)) H) (names : List (List ℕ)) (k : Bor (List ℕ)) → Holds old names
    → ((q : Bor (List ℕ)) → contains same_name new q ≡ cond (same_name k q) true (contains same_name old q)) → Holds new (names ++ k.now ∷ [])
holds_more old new names k holds updates q =
    updates (as_key q) ∙ ap (λ (b : Bool). cond (bytes_eq k.now q) true b) (holds q) ∙ ap (λ (b : Bool). cond b true (list_any (bytes_eq q) names)) (symmetric k.now q)
    ∙ sym (list_any-append (bytes_eq q) names (k.now ∷ []) ∙ or_last (list_any (bytes_eq q) names) (bytes_eq q k.now))

pub holds_none : {H : Type 0} (seen : HashSet (Bor (List ℕ)) H) → IsEmpty seen → Holds seen []
holds_none seen e q = ap (λ ks. list_any (λ k. bytes_eq q k.now) ks) e
