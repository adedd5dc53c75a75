-- Steps of a loop over items of which each is made into something, or fails.
use Rattle.std.proofs.Common.{◌≡◌, List, [], ◌∷◌, ◌++◌, refl, ap, sym, ◌∙◌, append_assoc}
use Rattle.std.specs.List.{AllZip}
use Rattle.vl_load.specs.Turns.{IsFirst}

-- of the items these are left, and those before them were made into something
pub record SoFar {A B : Type 0} (makes : A → B → Type 0) (items rest : List A) (made : List B) : Type 0 where
  pub before : List A
  pub parts : items ≡ before ++ rest
  pub fine : AllZip makes before made

zip_push : {A B : Type 0} (R : A → B → Type 0) (xs : List A) (ys : List B) (x : A) (y : B) → AllZip R xs ys → R x y → AllZip R (xs ++ x ∷ []) (ys ++ y ∷ [])
zip_push R [] [] x y h r = (r, tt)
zip_push R [] (b ∷ ys) x y h r = absurd h
zip_push R (a ∷ xs) [] x y h r = absurd h
zip_push R (a ∷ xs) (b ∷ ys) x y h r = (h.0, zip_push R xs ys x y h.1 r)

pub one_more : {A B : Type 0} (makes : A → B → Type 0) (items left : List A) (x : A) (rest : List A) (made all : List B) (y : B) → SoFar makes items left made → left ≡ x ∷ rest → makes x y → all ≡ made ++ y ∷ [] → SoFar makes items rest all
one_more makes items left x rest made all y far e r pushed = record {
  before = far.before ++ x ∷ [];
  parts = far.parts ∙ (ap (λ zs. far.before ++ zs) e ∙ sym (append_assoc far.before (x ∷ []) rest));
  fine = rw pushed (zip_push makes far.before made x y far.fine r);
}

pub first_that_fails : {A B F : Type 0} (makes : A → B → Type 0) (fails : A → F → Type 0) (items left : List A) (x : A) (rest : List A) (made : List B) (fault : F) → SoFar makes items left made → left ≡ x ∷ rest → fails x fault → IsFirst makes fails items fault
first_that_fails makes fails items left x rest made fault far e h = record {
  before = far.before;
  item = x;
  behind = rest;
  parts = far.parts ∙ ap (λ zs. far.before ++ zs) e;
  made = made;
  fine = far.fine;
  failed = h;
}
