-- Where a session stands among those of its transaction.
use Rattle.std.proofs.Common.{◌≡◌, ◌≢◌, ℕ, zero, suc, ◌+◌, ◌<◌, ◌⊎◌, inl, inr, List, [], ◌∷◌, ◌++◌, length, map, Option, Some, None, refl, sym, ap, ◌∙◌, subst, arith, length-append}
use Rattle.std.specs.Prelude.{slice_get}
use Rattle.std.specs.List.{AllPairs}
use Rattle.std.specs.Option.{option_map}
use Rattle.std.proofs.lemmas.List.{length-map}
use Rattle.std.proofs.lemmas.Option.{get_or_from_slice_get, same_Some, slice_get-map, slice_get_within}
use Rattle.vl_values.specs.declared.group.Group.{Group}
use Rattle.vl_values.specs.declared.group.Group.TheVariants.{Pre, Main, Post}
use Rattle.vl_port.specs.declared.tx_state.TxState.{TxState}
use Rattle.vl_port.specs.Transaction.{listed}
use Rattle.vl_commit.specs.Sessions.{Session, of_group, sessions, start_of}

-- ---- lists one behind the other

slice_left : {X : Type 0} (xs ys : List X) (n : ℕ) (x : X) → slice_get xs n ≡ Some x → slice_get (xs ++ ys) n ≡ Some x
slice_left [] ys n x at = absurd (cc at)
slice_left (y ∷ xs) ys zero x at = at
slice_left (y ∷ xs) ys (suc n) x at = slice_left xs ys n x at

slice_right : {X : Type 0} (xs ys : List X) (n : ℕ) (x : X) → slice_get ys n ≡ Some x → slice_get (xs ++ ys) (length xs + n) ≡ Some x
slice_right [] ys n x at = let e : n ≡ 0 + n = omega arith in subst (λ (k : ℕ). slice_get ys k ≡ Some x) e at
slice_right (y ∷ xs) ys n x at =
    let e : suc (length xs + n) ≡ suc (length xs) + n = omega arith in
    subst (λ (k : ℕ). slice_get (y ∷ (xs ++ ys)) k ≡ Some x) e (slice_right xs ys n x at)

pub record IsBehind {X : Type 0} (xs ys : List X) (n : ℕ) (x : X) : Type 0 where
  pub k : ℕ
  pub is : n ≡ length xs + k
  pub at : slice_get ys k ≡ Some x

slice_either : {X : Type 0} (xs ys : List X) (n : ℕ) (x : X) → slice_get (xs ++ ys) n ≡ Some x → (slice_get xs n ≡ Some x) ⊎ IsBehind xs ys n x
slice_either [] ys n x at = inr (record { k = n; is = omega arith; at = at })
slice_either (y ∷ xs) ys zero x at = inl at
slice_either (y ∷ xs) ys (suc n) x at = elim (slice_either xs ys n x at) [
  | inl front ↦ inl front
  | inr behind ↦ inr (record { k = behind.k; is = omega (arith, behind.is); at = behind.at })
]

pub record IsMapped {X Y : Type 0} (f : X → Y) (xs : List X) (n : ℕ) (y : Y) : Type 0 where
  pub x : X
  pub at : slice_get xs n ≡ Some x
  pub is : f x ≡ y

by_option : {X Y : Type 0} (f : X → Y) (xs : List X) (n : ℕ) (y : Y) (o : Option X) → slice_get xs n ≡ o → option_map f o ≡ Some y → IsMapped f xs n y
by_option f xs n y None at e = absurd (cc e)
by_option f xs n y (Some x) at e = record { x = x; at = at; is = same_Some (f x) y e }

mapped_at : {X Y : Type 0} (f : X → Y) (xs : List X) (n : ℕ) (y : Y) → slice_get (map f xs) n ≡ Some y → IsMapped f xs n y
mapped_at f xs n y at = by_option f xs n y (slice_get xs n) refl (sym (slice_get-map f xs n) ∙ at)

-- ---- the place of a session

pub record IsPlace (tx : TxState) (n : ℕ) (session : Session) : Type 0 where
  pub k : ℕ
  pub is : n ≡ start_of tx session.0 + k
  pub at : slice_get (listed tx session.0) k ≡ Some session.1

in_group : (tx : TxState) (group : Group) (n k : ℕ) (session : Session) → n ≡ start_of tx group + k → slice_get (map (of_group group) (listed tx group)) k ≡ Some session → IsPlace tx n session
in_group tx group n k session is at =
    let it = mapped_at (of_group group) (listed tx group) k session at in
    subst (IsPlace tx n) it.is (record { k = k; is = is; at = it.at })

pub place_of : (tx : TxState) (n : ℕ) (session : Session) → slice_get (sessions tx) n ≡ Some session → IsPlace tx n session
place_of tx n session at =
    elim (slice_either (map (of_group Pre) tx.pre) (map (of_group Main) tx.main ++ map (of_group Post) tx.post) n session at) [
      | inl pre ↦ in_group tx Pre n n session (omega arith) pre
      | inr behind ↦ elim (slice_either (map (of_group Main) tx.main) (map (of_group Post) tx.post) behind.k session behind.at) [
        | inl main ↦ in_group tx Main n behind.k session (omega (arith, behind.is, length-map tx.pre (of_group Pre))) main
        | inr last ↦ in_group tx Post n last.k session (omega (arith, behind.is, last.is, length-map tx.pre (of_group Pre), length-map tx.main (of_group Main))) last.at
      ]
    ]

mapped : (group : Group) (xs : List ℕ) (k shard : ℕ) → slice_get xs k ≡ Some shard → slice_get (map (of_group group) xs) k ≡ Some (group, shard)
mapped group xs k shard at = slice_get-map (of_group group) xs k ∙ ap (option_map (of_group group)) at

pub place_at : (tx : TxState) (group : Group) (k shard : ℕ) → slice_get (listed tx group) k ≡ Some shard → slice_get (sessions tx) (start_of tx group + k) ≡ Some (group, shard)
place_at tx Pre k shard at =
    let e : k ≡ 0 + k = omega arith in
    subst (λ (n : ℕ). slice_get (sessions tx) n ≡ Some (Pre, shard)) e (slice_left (map (of_group Pre) tx.pre) (map (of_group Main) tx.main ++ map (of_group Post) tx.post) k (Pre, shard) (mapped Pre tx.pre k shard at))
place_at tx Main k shard at =
    let e : length (map (of_group Pre) tx.pre) + k ≡ length tx.pre + k = omega (arith, length-map tx.pre (of_group Pre)) in
    subst (λ (n : ℕ). slice_get (sessions tx) n ≡ Some (Main, shard)) e
    (slice_right (map (of_group Pre) tx.pre) (map (of_group Main) tx.main ++ map (of_group Post) tx.post) k (Main, shard)
    (slice_left (map (of_group Main) tx.main) (map (of_group Post) tx.post) k (Main, shard) (mapped Main tx.main k shard at)))
place_at tx Post k shard at =
    let e : length (map (of_group Pre) tx.pre) + (length (map (of_group Main) tx.main) + k) ≡ length tx.pre + length tx.main + k =
    omega (arith, length-map tx.pre (of_group Pre), length-map tx.main (of_group Main)) in
    subst (λ (n : ℕ). slice_get (sessions tx) n ≡ Some (Post, shard)) e
    (slice_right (map (of_group Pre) tx.pre) (map (of_group Main) tx.main ++ map (of_group Post) tx.post) (length (map (of_group Main) tx.main) + k) (Post, shard)
    (slice_right (map (of_group Main) tx.main) (map (of_group Post) tx.post) k (Post, shard) (mapped Post tx.post k shard at)))

pub count_of : (tx : TxState) → length (sessions tx) ≡ length tx.pre + length tx.main + length tx.post
count_of tx =
    omega (
      arith,
      length-append (map (of_group Pre) tx.pre) (map (of_group Main) tx.main ++ map (of_group Post) tx.post),
      length-append (map (of_group Main) tx.main) (map (of_group Post) tx.post),
      length-map tx.pre (of_group Pre),
      length-map tx.main (of_group Main),
      length-map tx.post (of_group Post),
    )

-- an element that was read
-- ---- a session stands at one place

elements_apart : (xs : List ℕ) (i j x : ℕ) → AllPairs (λ one other. one ≢ other) xs → i < j → slice_get xs i ≡ Some x → slice_get xs j ≡ Some x → ⊥
elements_apart xs i j x pairs below at_i at_j =
    pairs i j x below (slice_get_within xs j x at_j) (get_or_from_slice_get xs i x x at_i ∙ sym (get_or_from_slice_get xs j x x at_j))

compared : (i j : ℕ) → (i ≡ j) ⊎ ((i < j) ⊎ (j < i))
compared i j = grind arith

one_element : (xs : List ℕ) (i j x : ℕ) → AllPairs (λ one other. one ≢ other) xs → slice_get xs i ≡ Some x → slice_get xs j ≡ Some x → i ≡ j
one_element xs i j x pairs at_i at_j =
    elim (compared i j) [
      | inl same ↦ same
      | inr apart ↦ elim apart [ inl below ↦ absurd (elements_apart xs i j x pairs below at_i at_j) | inr above ↦ absurd (elements_apart xs j i x pairs above at_j at_i) ]
    ]

pub one_place : (tx : TxState) (m n : ℕ) (session : Session) → ((group : Group) → AllPairs (λ one other. one ≢ other) (listed tx group)) → slice_get (sessions tx) m ≡ Some session
    → slice_get (sessions tx) n ≡ Some session → m ≡ n
one_place tx m n session once at_m at_n =
    let p = place_of tx m session at_m in
    let q = place_of tx n session at_n in
    omega (arith, p.is, q.is, one_element (listed tx session.0) p.k q.k session.1 (once session.0) p.at q.at)
