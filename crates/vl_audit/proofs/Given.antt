-- What rows give, in order: where two lists of it are joined, and which row a key's value comes from.
use Rattle.std.proofs.Common.{◌≡◌, ℕ, zero, suc, ◌+◌, ◌<◌, Bool, true, false, cond, List, [], ◌∷◌, ◌++◌, length, take, get_or, Option, None, Some, refl, sym, ap, subst, ◌∙◌, ⊎_elim, arith, append_assoc, zero-add}
use Rattle.std.specs.declared.cmp.Ordering.{Ordering}
use Rattle.std.specs.BTreeMap.{is_at}
use Rattle.std.specs.List.{Contains, cons_option, filter_map}
use Rattle.std.specs.Map.{lookup}
use Rattle.std.specs.Option.{is_some, option_or}
use Rattle.std.proofs.lemmas.Bool.{cases_Bool, cond-true, cond-false}
use Rattle.std.proofs.lemmas.List.Elements.{filter_map-append}
use Rattle.std.proofs.lemmas.List.{append-nil, length-take-le, take_more}
use Rattle.std.proofs.lemmas.Option.{none-some, same_Some}
use Rattle.vl_model.specs.Tables.{Pair, Stands, Tables}
use Rattle.vl_audit.specs.Gathering.{given_from, first_given}

-- ---- joined lists

pub lookup-append : {K X : Type 0} (t : K → Bool) (xs ys : List (K × X)) → lookup t (xs ++ ys) ≡ option_or (lookup t xs) (lookup t ys)
lookup-append t [] ys = refl
lookup-append t (e ∷ xs) ys =
    elim (t e.0) as (λ b. cond b (Some e.1) (lookup t (xs ++ ys)) ≡ option_or (cond b (Some e.1) (lookup t xs)) (lookup t ys)) [
      | true ↦ refl
      | false ↦ lookup-append t xs ys
    ]

pub or-assoc : {X : Type 0} (a b c : Option X) → option_or (option_or a b) c ≡ option_or a (option_or b c)
or-assoc None b c = refl
or-assoc (Some x) b c = refl

pub or_none : {X : Type 0} (a : Option X) → a ≡ option_or a None
or_none None = refl
or_none (Some x) = refl

pub given_from-append : {A : Type 0} (gives : ℕ → Pair → Option A) (n : ℕ) (xs ys : Tables)
    → given_from gives n (xs ++ ys) ≡ given_from gives n xs ++ given_from gives (n + length xs) ys
given_from-append gives n [] ys = ap (λ m. given_from gives m ys) (omega arith)
given_from-append gives n (rows ∷ xs) ys =
    ap (λ l. filter_map (gives n) rows ++ l) (given_from-append gives (n + 1) xs ys)
    ∙ sym (append_assoc (filter_map (gives n) rows) (given_from gives (n + 1) xs) (given_from gives (n + 1 + length xs) ys))
    ∙ ap (λ m. (filter_map (gives n) rows ++ given_from gives (n + 1) xs) ++ given_from gives m ys) (omega arith)

-- ---- one row more, and one shard more

module _ {K X : Type 0} (cmp : K → K → Ordering) (q : K) (new old start : Option X) where
  joined : (xs ys : List (K × X)) → new ≡ option_or old (first_given cmp ys q) → old ≡ option_or start (first_given cmp xs q) → new ≡ option_or start (first_given cmp (xs ++ ys) q)
  joined xs ys now before =
      now
      ∙ ap (λ (o : Option X). option_or o (first_given cmp ys q)) before
      ∙ or-assoc start (first_given cmp xs q) (first_given cmp ys q)
      ∙ ap (option_or start) (sym (lookup-append (is_at (cmp q)) xs ys))

  pub one_row_more : (h : Pair → Option (K × X)) (rows : List Pair) (i : ℕ) (item : Pair) (given : Option (K × X)) → i < length rows → item ≡ get_or rows i item → given ≡ h item
      → new ≡ option_or old (first_given cmp (cons_option given []) q) → old ≡ option_or start (first_given cmp (filter_map h (take i rows)) q)
      → new ≡ option_or start (first_given cmp (filter_map h (take (i + 1) rows)) q)
  one_row_more h rows i item given within is gives now before =
      joined (filter_map h (take i rows)) (cons_option given []) now before
      ∙ ap (λ (o : Option (K × X)). option_or start (first_given cmp (filter_map h (take i rows) ++ cons_option o []) q)) gives
      ∙ ap (λ (l : List (K × X)). option_or start (first_given cmp l q)) (sym (filter_map-append h (take i rows) (item ∷ [])))
      ∙ ap (λ (x : Pair). option_or start (first_given cmp (filter_map h (take i rows ++ x ∷ [])) q)) is
      ∙ ap (λ (l : List Pair). option_or start (first_given cmp (filter_map h l) q)) (sym (take_more rows i item within))

  pub one_shard_more : (gives : ℕ → Pair → Option (K × X)) (tables : Tables) (i : ℕ) (item rows : List Pair) → i < length tables → item ≡ get_or tables i item → rows ≡ item
      → new ≡ option_or old (first_given cmp (filter_map (gives i) rows) q) → old ≡ option_or start (first_given cmp (given_from gives 0 (take i tables)) q)
      → new ≡ option_or start (first_given cmp (given_from gives 0 (take (i + 1) tables)) q)
  one_shard_more gives tables i item rows within is same now before =
      let count : 0 + length (take i tables) ≡ i = zero-add (length (take i tables)) ∙ length-take-le i tables (omega arith) in
      let one : given_from gives (0 + length (take i tables)) (item ∷ []) ≡ filter_map (gives i) rows =
      append-nil (filter_map (gives (0 + length (take i tables))) item) ∙ ap (λ (n : ℕ). filter_map (gives n) item) count ∙ ap (filter_map (gives i)) (sym same) in
      joined (given_from gives 0 (take i tables)) (filter_map (gives i) rows) now before
      ∙ ap (λ (l : List (K × X)). option_or start (first_given cmp (given_from gives 0 (take i tables) ++ l) q)) (sym one)
      ∙ ap (λ (l : List (K × X)). option_or start (first_given cmp l q)) (sym (given_from-append gives 0 (take i tables) (item ∷ [])))
      ∙ ap (λ (x : List Pair). option_or start (first_given cmp (given_from gives 0 (take i tables ++ x ∷ [])) q)) is
      ∙ ap (λ (l : Tables). option_or start (first_given cmp (given_from gives 0 l) q)) (sym (take_more tables i item within))

-- ---- the row that a value comes from

pub in_tail : {X : Type 0} (y x : X) (xs : List X) → Contains xs x → Contains (y ∷ xs) x
in_tail y x xs (k, within, is) = (suc k, omega arith, is)

module _ {K X : Type 0} (t : K → Bool) where
  -- a row of a list that gives the value at such a key
  abbrev pub RowGives : (Pair → Option (K × X)) → List Pair → X → Type 0
  RowGives h rows v = (pair : Pair) × (key : K) × Contains rows pair × (h pair ≡ Some (key, v)) × (t key ≡ true)

  abbrev some_pair : K → X → Option (K × X)
  some_pair key value = Some (key, value)

  later : (h : Pair → Option (K × X)) (p : Pair) (rows : List Pair) (v : X) → RowGives h rows v → RowGives h (p ∷ rows) v
  later h p rows v (pair, key, inside, gives, passes) = (pair, key, in_tail p pair rows inside, gives, passes)

  row_at : (h : Pair → Option (K × X)) (p : Pair) (rows : List Pair) (v : X) (o : Option (K × X)) → h p ≡ o
      → (lookup t (filter_map h rows) ≡ Some v → RowGives h rows v)
      → lookup t (cons_option o (filter_map h rows)) ≡ Some v → RowGives h (p ∷ rows) v
  row_at h p rows v None is rest found = later h p rows v (rest found)
  row_at h p rows v (Some e) is rest found =
      ⊎_elim
      (λ passes.
      let same : e.1 ≡ v = same_Some e.1 v (sym (cond-true (t e.0) (Some e.1) (lookup t (filter_map h rows)) passes) ∙ found) in
      (p, e.0, (0, omega arith, refl), is ∙ ap (λ (x : X). some_pair e.0 x) same, passes))
      (λ fails. later h p rows v (rest (sym (cond-false (t e.0) (Some e.1) (lookup t (filter_map h rows)) fails) ∙ found)))
      (cases_Bool (t e.0))

  pub row_of : (h : Pair → Option (K × X)) (rows : List Pair) (v : X) → lookup t (filter_map h rows) ≡ Some v → RowGives h rows v
  row_of h [] v found = absurd (none-some v found)
  row_of h (p ∷ rows) v found = row_at h p rows v (h p) refl (row_of h rows v) found

  -- a row of the shards that gives the value at such a key
  abbrev pub TableGives : (ℕ → Pair → Option (K × X)) → ℕ → Tables → X → Type 0
  TableGives gives n tables v = (shard : ℕ) × (pair : Pair) × (key : K) × Stands tables shard pair × (gives (n + shard) pair ≡ Some (key, v)) × (t key ≡ true)

  in_first : (gives : ℕ → Pair → Option (K × X)) (n : ℕ) (rows : List Pair) (tables : Tables) (v : X) → RowGives (gives n) rows v → TableGives gives n (rows ∷ tables) v
  in_first gives n rows tables v (pair, key, inside, is, passes) = (0, pair, key, inside, ap (λ m. gives m pair) (omega arith) ∙ is, passes)

  in_rest : (gives : ℕ → Pair → Option (K × X)) (n : ℕ) (rows : List Pair) (tables : Tables) (v : X) → TableGives gives (n + 1) tables v → TableGives gives n (rows ∷ tables) v
  in_rest gives n rows tables v (shard, pair, key, stands, is, passes) = (suc shard, pair, key, stands, ap (λ m. gives m pair) (omega arith) ∙ is, passes)

  table_at : (gives : ℕ → Pair → Option (K × X)) (n : ℕ) (rows : List Pair) (tables : Tables) (v : X) (o : Option X) → lookup t (filter_map (gives n) rows) ≡ o
      → (lookup t (given_from gives (n + 1) tables) ≡ Some v → TableGives gives (n + 1) tables v)
      → option_or o (lookup t (given_from gives (n + 1) tables)) ≡ Some v → TableGives gives n (rows ∷ tables) v
  table_at gives n rows tables v None is rest found = in_rest gives n rows tables v (rest found)
  table_at gives n rows tables v (Some w) is rest found = in_first gives n rows tables v (row_of (gives n) rows v (is ∙ found))

  pub row_that_gives : (gives : ℕ → Pair → Option (K × X)) (n : ℕ) (tables : Tables) (v : X) → lookup t (given_from gives n tables) ≡ Some v → TableGives gives n tables v
  row_that_gives gives n [] v found = absurd (none-some v found)
  row_that_gives gives n (rows ∷ tables) v found =
      table_at gives n rows tables v (lookup t (filter_map (gives n) rows)) refl (row_that_gives gives (n + 1) tables v)
      (sym (lookup-append t (filter_map (gives n) rows) (given_from gives (n + 1) tables)) ∙ found)

  -- ---- and each row that gives one is seen

  some_behind : (o : Option (K × X)) (es : List (K × X)) → is_some (lookup t es) ≡ true → is_some (lookup t (cons_option o es)) ≡ true
  some_behind None es h = h
  some_behind (Some e) es h = elim (t e.0) as (λ b. is_some (cond b (Some e.1) (lookup t es)) ≡ true) [ true ↦ refl | false ↦ h ]

  some_first : (key : K) (v : X) (es : List (K × X)) → t key ≡ true → is_some (lookup t ((key, v) ∷ es)) ≡ true
  some_first key v es passes = ap is_some (cond-true (t key) (Some v) (lookup t es) passes)

  pub seen_on : (h : Pair → Option (K × X)) (rows : List Pair) (pair : Pair) (key : K) (v : X) → Contains rows pair → h pair ≡ Some (key, v) → t key ≡ true
      → is_some (lookup t (filter_map h rows)) ≡ true
  seen_on h [] pair key v (k, within, at) is passes = absurd (omega arith)
  seen_on h (p ∷ rows) pair key v (zero, within, at) is passes =
      subst (λ (o : Option (K × X)). is_some (lookup t (cons_option o (filter_map h rows))) ≡ true) (sym (ap h at ∙ is)) (some_first key v (filter_map h rows) passes)
  seen_on h (p ∷ rows) pair key v (suc k, within, at) is passes =
      some_behind (h p) (filter_map h rows) (seen_on h rows pair key v (k, omega arith, at) is passes)

  or_left : (a b : Option X) → is_some a ≡ true → is_some (option_or a b) ≡ true
  or_left (Some x) b h = refl
  or_left None b h = absurd (cc)

  or_right : (a b : Option X) → is_some b ≡ true → is_some (option_or a b) ≡ true
  or_right None b h = h
  or_right (Some x) b h = refl

  pub seen : (gives : ℕ → Pair → Option (K × X)) (n : ℕ) (tables : Tables) (shard : ℕ) (pair : Pair) (key : K) (v : X) → Stands tables shard pair
      → gives (n + shard) pair ≡ Some (key, v) → t key ≡ true → is_some (lookup t (given_from gives n tables)) ≡ true
  seen gives n [] zero pair key v (k, within, at) is passes = absurd (omega arith)
  seen gives n [] (suc shard) pair key v (k, within, at) is passes = absurd (omega arith)
  seen gives n (rows ∷ tables) zero pair key v stands is passes =
      ap is_some (lookup-append t (filter_map (gives n) rows) (given_from gives (n + 1) tables))
      ∙ or_left _ _ (seen_on (gives n) rows pair key v stands (ap (λ m. gives m pair) (omega arith) ∙ is) passes)
  seen gives n (rows ∷ tables) (suc shard) pair key v stands is passes =
      ap is_some (lookup-append t (filter_map (gives n) rows) (given_from gives (n + 1) tables))
      ∙ or_right _ _ (seen gives (n + 1) tables shard pair key v stands (ap (λ m. gives m pair) (omega arith) ∙ is) passes)
