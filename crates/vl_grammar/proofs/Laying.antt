-- Items that are written one behind the other.
use Rattle.std.proofs.Common.{◌≡◌, ℕ, ◌+◌, ◌-◌, ◌<◌, ◌≤◌, Bool, List, [], ◌∷◌, ◌++◌, length, take, drop, get_or, arith, refl, sym, ap, ◌∙◌, append_assoc}
use Rattle.std.proofs.lemmas.List.{append-nil, take_more, take_rest}
use Rattle.std.proofs.lemmas.List.Concat.{flat_map-append}
use Rattle.std.specs.List.{flat_map}
use Rattle.vl_grammar.specs.Item.{Item, joined}
use Rattle.vl_grammar.specs.Layout.{opens, laid, left_open, Page, added}

pub laid_both : (o : Bool) (xs ys : List Item) → laid o (xs ++ ys) ≡ laid o xs ++ laid (left_open o xs) ys
laid_both o [] ys = refl
laid_both o (i ∷ xs) ys = rw (laid_both (opens i) xs ys) (simp append_assoc)

left_both : (o : Bool) (xs ys : List Item) → left_open o (xs ++ ys) ≡ left_open (left_open o xs) ys
left_both o [] ys = refl
left_both o (i ∷ xs) ys = left_both (opens i) xs ys

pages : (s t : List ℕ) (b c : Bool) → s ≡ t → b ≡ c → (let p : Page = record { text = s; unspaced = b } in p) ≡ record { text = t; unspaced = c }
pages s t b c e f = rw (e, f) refl

pub added_both : (p : Page) (xs ys : List Item) → added (added p xs) ys ≡ added p (xs ++ ys)
unfolding added
added_both p xs ys =
    pages _ _ _ _
    (append_assoc p.text (laid p.unspaced xs) (laid (left_open p.unspaced xs) ys) ∙ ap (λ (t : List ℕ). p.text ++ t) (sym (laid_both p.unspaced xs ys)))
    (sym (left_both p.unspaced xs ys))

-- the items of a list behind its first, each behind what separates it
pub joined_is : {A : Type 0} (c : Item) (f : A → List Item) (a : A) (rest : List A) → joined c f (a ∷ rest) ≡ f a ++ flat_map (λ b. c ∷ f b) rest
joined_is c f a [] = sym (append-nil (f a))
joined_is c f a (b ∷ rest) = ap (λ (is : List Item). f a ++ c ∷ is) (joined_is c f b rest)

flat_map_take : {A : Type 0} (f : A → List Item) (xs : List A) (i : ℕ) (a : A) → i < length xs → a ≡ get_or xs i a → flat_map f (take (i + 1) xs) ≡ flat_map f (take i xs) ++ f a
flat_map_take f xs i a lt here =
    ap (λ ys. flat_map f ys) (take_more xs i a lt) ∙ flat_map-append f (take i xs) (get_or xs i a ∷ []) ∙ ap (λ (is : List Item). flat_map f (take i xs) ++ is) (append-nil (f (get_or xs i a)) ∙ sym (ap f here))

pub added_none : (p : Page) → added p [] ≡ p
unfolding added
added_none p = pages _ _ _ _ (append-nil p.text) refl

-- one more member of a list
pub added_more : {A : Type 0} (f : A → List Item) (xs : List A) (i : ℕ) (p q r : Page) (a : A)
    → q ≡ added p (flat_map f (take i xs)) → i < length xs → a ≡ get_or xs i a → r ≡ added q (f a) → r ≡ added p (flat_map f (take (i + 1) xs))
added_more f xs i p q r a so_far lt here step =
    step ∙ ap (λ (w : Page). added w (f a)) so_far ∙ added_both p (flat_map f (take i xs)) (f a) ∙ ap (λ (is : List Item). added p is) (sym (flat_map_take f xs i a lt here))

pub joined_first : {A : Type 0} (c : Item) (f : A → List Item) (xs : List A) (a : A) → 1 ≤ length xs → a ≡ get_or xs 0 a → f a ++ flat_map (λ b. c ∷ f b) (drop 1 xs) ≡ joined c f xs
joined_first c f [] a h here = absurd (omega arith)
joined_first c f (x ∷ rest) a h here = ap (λ y. f y ++ flat_map (λ b. c ∷ f b) rest) here ∙ sym (joined_is c f x rest)

pub joined_none : {A : Type 0} (c : Item) (f : A → List Item) (xs : List A) → length xs < 1 → [] ≡ joined c f xs
joined_none c f [] h = refl
joined_none c f (x ∷ rest) h = absurd (omega arith)

-- a list is its first member, and then the others
pub added_list : {A : Type 0} (c : Item) (f : A → List Item) (xs : List A) (a : A) (p q r : Page) → 1 ≤ length xs → a ≡ get_or xs 0 a
    → q ≡ added p (f a) → r ≡ added q (flat_map (λ b. c ∷ f b) (take (length xs - 1) (drop 1 xs))) → r ≡ added p (joined c f xs)
added_list c f xs a p q r h here first others =
    others ∙ ap (λ (w : Page). added w (flat_map (λ b. c ∷ f b) (take (length xs - 1) (drop 1 xs)))) first ∙ added_both p (f a) (flat_map (λ b. c ∷ f b) (take (length xs - 1) (drop 1 xs)))
    ∙ ap (λ ys. added p (f a ++ flat_map (λ b. c ∷ f b) ys)) (take_rest xs 1) ∙ ap (λ (is : List Item). added p is) (joined_first c f xs a h here)

pub then_added : (p q r : Page) (xs ys : List Item) → q ≡ added p xs → r ≡ added q ys → r ≡ added p (xs ++ ys)
then_added p q r xs ys first then_ = then_ ∙ ap (λ (w : Page). added w ys) first ∙ added_both p xs ys
