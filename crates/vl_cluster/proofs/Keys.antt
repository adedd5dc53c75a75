-- What the lists of the shards keep makes each key stand once in their tables.
use Rattle.std.proofs.Common.{◌≡◌, ◌≢◌, ℕ, zero, suc, ◌<◌, List, [], ◌∷◌, ◌++◌, length, map, get_or, refl, sym, ap, subst, arith, All}
use Rattle.std.specs.List.{AllPairs}
use Rattle.std.proofs.lemmas.List.Elements.{All-append, All-map}
use Rattle.std.proofs.lemmas.List.Kept.{AllPairs-cons}
use Rattle.vl_values.specs.declared.key.Key.{Key}
use Rattle.vl_values.specs.declared.value.Value.{Value}
use Rattle.vl_values.specs.declared.value.Value.TheVariants.{Null}
use Rattle.vl_model.specs.Tables.{Pair, HasKeysOnce, rows_on, unsigned}
use Rattle.vl_model.specs.CatalogA.{t1, t1_u_idx}
use Rattle.vl_cluster.specs.declared.line.Line.{Line}
use Rattle.vl_cluster.specs.declared.entry.Entry.{Entry}
use Rattle.vl_cluster.specs.Lists.{Lists, on_shard, row_pair, entry_pair, pairs_of, tables_of}
use Rattle.vl_cluster.specs.Kept.{IsKept}

module _ {X : Type 0} (R : X → X → Type 0) where
  head_pairs : (x : X) (xs : List X) → AllPairs R (x ∷ xs) → All (R x) xs
  head_pairs x xs pairs k d within = pairs 0 (suc k) d (omega arith) (omega arith)

  tail_pairs : (x : X) (xs : List X) → AllPairs R (x ∷ xs) → AllPairs R xs
  tail_pairs x xs pairs i j d below within = pairs (suc i) (suc j) d (omega arith) (omega arith)

  pub pairs_append : (xs ys : List X) → AllPairs R xs → AllPairs R ys → All (λ x. All (R x) ys) xs → AllPairs R (xs ++ ys)
  pairs_append [] ys first second between = second
  pairs_append (x ∷ xs) ys first second between =
      AllPairs-cons R x (xs ++ ys) (All-append (R x) xs ys (head_pairs x xs first) (between 0 x (omega arith)))
      (pairs_append xs ys (tail_pairs x xs first) second (λ k d within. between (suc k) d (omega arith)))

  pub pairs_map : {Y : Type 0} (f : Y → X) (ys : List Y) → ((i j : ℕ) (d : Y) (below : i < j) (within : j < length ys) → R (f (get_or ys i d)) (f (get_or ys j d))) → AllPairs R (map f ys)
  pairs_map f [] pairs = λ i j d below within. absurd (omega arith)
  pairs_map f (y ∷ ys) pairs =
      AllPairs-cons R (f y) (map f ys) (All-map (R (f y)) f ys (λ k d within. pairs 0 (suc k) d (omega arith) (omega arith)))
      (pairs_map f ys (λ i j d below within. pairs (suc i) (suc j) d (omega arith) (omega arith)))

OtherKey : Pair → Pair → Type 0
OtherKey one other = one.0 ≢ other.0

-- the number in a key
first_of : List Value → Value
first_of [] = Null
first_of (value ∷ values) = value

key_number : Key → ℕ
unfolding first_of
key_number key = unsigned (first_of key.pk)

rows_apart : (lists : Lists) → AllPairs (λ one other. one.id ≢ other.id) lists.rows → AllPairs OtherKey (map row_pair lists.rows)
unfolding OtherKey key_number first_of
rows_apart lists ids = pairs_map OtherKey row_pair lists.rows (λ i j d below within same. ids i j d below within (ap key_number same))

entries_apart : (lists : Lists) → AllPairs (λ one other. one.u ≢ other.u) lists.entries → AllPairs OtherKey (map entry_pair lists.entries)
unfolding OtherKey key_number first_of
entries_apart lists values = pairs_map OtherKey entry_pair lists.entries (λ i j d below within same. values i j d below within (ap key_number same))

two_tables : t1 ≡ t1_u_idx → ⊥
two_tables is = omega arith

-- a row and an entry are of two tables
row_beside_entry : (row : Line) (entry : Entry) → OtherKey (row_pair row) (entry_pair entry)
unfolding OtherKey
row_beside_entry row entry same = absurd (two_tables (ap (λ (k : Key). k.table) same))

pairs_once : (lists : Lists) → AllPairs (λ one other. one.id ≢ other.id) lists.rows → AllPairs (λ one other. one.u ≢ other.u) lists.entries → AllPairs OtherKey (pairs_of lists)
pairs_once lists ids values =
    pairs_append OtherKey (map row_pair lists.rows) (map entry_pair lists.entries) (rows_apart lists ids) (entries_apart lists values)
    (All-map (λ x. All (OtherKey x) (map entry_pair lists.entries)) row_pair lists.rows (λ i d within.
    All-map (OtherKey (row_pair (get_or lists.rows i d))) entry_pair lists.entries (λ j e inside. row_beside_entry (get_or lists.rows i d) (get_or lists.entries j e))))

shown_on : (shards : List Lists) (s : ℕ) → rows_on (tables_of shards) s ≡ pairs_of (on_shard shards s)
shown_on [] zero = refl
shown_on [] (suc s) = refl
shown_on (lists ∷ shards) zero = refl
shown_on (lists ∷ shards) (suc s) = shown_on shards s

pub keys_once : (shards : List Lists) → IsKept shards → HasKeysOnce (tables_of shards)
unfolding OtherKey
keys_once shards kept s = subst (AllPairs OtherKey) (sym (shown_on shards s)) (pairs_once (on_shard shards s) (kept.ids s) (kept.values s))
