-- The entries of a users file beside what a look into it gives.
use Rattle.std.proofs.Common.{◌≡◌, ℕ, zero, suc, ◌+◌, ◌<◌, List, [], ◌∷◌, ◌++◌, length, get_or, take, drop, map, None, refl, sym, ap, ◌∙◌, arith}
use Rattle.std.proofs.lemmas.List.{length-map, length-take-le}
use Rattle.serde_json.specs.View.{view, items_view}
use Rattle.serde_json.specs.declared.value.Value.{Value}
use Rattle.my_auth.specs.UsersFile.{items, user_of, AreUsers, IsFirstWrong}
use Rattle.my_auth.specs.declared.user.User.{User}

pub items-items_view : (values : List Value) → items (items_view values) ≡ map view values
items-items_view [] = refl
items-items_view (value ∷ values) = ap (λ ds. view value ∷ ds) (items-items_view values)

parted : (values : List Value) (i : ℕ) (d : Value) → i < length values → map view values ≡ map view (take i values) ++ view (get_or values i d) ∷ map view (drop (suc i) values)
parted [] i d below = absurd (omega (arith, below))
parted (value ∷ values) zero d below = refl
parted (value ∷ values) (suc i) d below = ap (λ ds. view value ∷ ds) (parted values i d (omega arith))

-- behind users stands an entry that is none
pub first_wrong : (values : List Value) (users : List User) (i : ℕ) (value : Value) → i < length values → value ≡ get_or values i value → AreUsers (map view (take i values)) users → user_of (view value) ≡ None → IsFirstWrong (map view values) (i + 1)
first_wrong values users i value below is right wrong = record {
  before = map view (take i values);
  users = users;
  entry = view value;
  behind = map view (drop (suc i) values);
  whole = parted values i value below ∙ ap (λ v. map view (take i values) ++ view v ∷ map view (drop (suc i) values)) (sym is);
  right = right;
  wrong = wrong;
  counted = ap (λ n. n + 1) (sym (length-map (take i values) view ∙ length-take-le i values (omega arith)));
}
