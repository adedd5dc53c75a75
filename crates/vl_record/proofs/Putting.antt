-- Bytes that are added one after the other.
use Rattle.std.proofs.Common.{◌≡◌, ◌≤◌, ◌<◌, ◌+◌, ◌*◌, ◌++◌, ◌∷◌, [], ℕ, List, Result, Ok, Err, OnErr, OnOk, length, get_or, take, refl, sym, ap, ◌∙◌, arith, append_assoc, length-append}
use Rattle.std.specs.Global.{Vec}
use Rattle.std.specs.Prelude.{vec_capacity, vec_len}
use Rattle.std.specs.List.{flat_map}
use Rattle.std.proofs.lemmas.Grind.{flat_map-append}
use Rattle.std.proofs.lemmas.List.{append-nil, take_more}
use Rattle.std.proofs.lemmas.List.Folds.{length-flat_map-take}

pub record HasPut (old new : Vec ℕ) (bytes : List ℕ) : Type 0 where
  pub items : new.items ≡ old.items ++ bytes
  pub capacity : vec_capacity old ≤ vec_capacity new

module _ {X : Type 0} (f : X → List ℕ) where
  -- one more
  pub grown : (front : List ℕ) (xs : List X) (i : ℕ) (d : X) → i < length xs
      → (front ++ flat_map f (take i xs)) ++ f (get_or xs i d) ≡ front ++ flat_map f (take (i + 1) xs)
  grown front xs i d lt =
      rw (take_more xs i d lt, flat_map-append f (take i xs) (get_or xs i d ∷ []))
      (append_assoc front (flat_map f (take i xs)) (f (get_or xs i d)) ∙ ap (λ (t : List ℕ). front ++ (flat_map f (take i xs) ++ t)) (sym (append-nil (f (get_or xs i d)))))

  -- there was no room for the next, so there was none for all of them
  pub no_room : (xs : List X) (i : ℕ) (x : X) (old mid : Vec ℕ) → i < length xs → x ≡ get_or xs i x
      → HasPut old mid (flat_map f (take i xs)) → vec_capacity mid < vec_len mid + length (f x)
      → vec_capacity old < vec_len old + length (flat_map f xs)
  no_room xs i x old mid lt is put full =
      let size = ap length put.items in
      let one = ap (λ (y : X). length (f y)) is in
      omega (arith, full, put.capacity, size, length-append old.items (flat_map f (take i xs)), one, length-flat_map-take f xs i x lt, mid.ok.0, old.ok.0)

pub any_err : {T E P : Type 0} (r : Result T E) → P → OnErr r P
any_err (Ok x) p = tt
any_err (Err e) p = p

-- so many values have these bytes, and this many
pub record IsCounted (bytes : List ℕ) (count size : ℕ) : Type 0 where
  pub len : size ≡ length bytes
  pub bound : size ≤ count * 4294967300

module _ {X : Type 0} (f : X → List ℕ) (all : List X) where
  -- all but those that are left
  pub record HasPutTo (old new : Vec ℕ) (left : List X) : Type 0 where
    pub items : new.items ++ flat_map f left ≡ old.items ++ flat_map f all
    pub capacity : vec_capacity old ≤ vec_capacity new

  -- there was no room for the first that is left, so there was none for all of them
  pub no_room_left : (x : X) (left rest : List X) (old mid : Vec ℕ) → left ≡ x ∷ rest → HasPutTo old mid left
      → vec_capacity mid < vec_len mid + length (f x) → vec_capacity old < vec_len old + length (flat_map f all)
  no_room_left x left rest old mid is put full =
      let size = ap length put.items in
      let one = ap (λ (l : List X). length (flat_map f l)) is ∙ length-append (f x) (flat_map f rest) in
      omega (arith, full, put.capacity, size, one, length-append mid.items (flat_map f left), length-append old.items (flat_map f all), mid.ok.0, old.ok.0)

  -- one more
  pub goes_on : (x : X) (left rest : List X) (old mid new : Vec ℕ) → left ≡ x ∷ rest → HasPutTo old mid left
      → new.items ≡ mid.items ++ f x → vec_capacity mid ≤ vec_capacity new → HasPutTo old new rest
  goes_on x left rest old mid new is put items capacity =
      record {
        items = ap (λ (t : List ℕ). t ++ flat_map f rest) items
            ∙ (append_assoc mid.items (f x) (flat_map f rest)
            ∙ (ap (λ (l : List X). mid.items ++ flat_map f l) (sym is) ∙ put.items));
        capacity = omega (arith, put.capacity, capacity);
      }

pub any_ok : {T E P : Type 0} (r : Result T E) → P → OnOk r P
any_ok (Ok x) p = p
any_ok (Err e) p = tt
