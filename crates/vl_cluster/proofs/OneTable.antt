-- The rows of all shards as the rows of one table.
use Rattle.std.proofs.Common.{◌≡◌, ◌≢◌, ℕ, zero, suc, ◌<◌, List, [], ◌∷◌, ◌++◌, length, map, refl, sym, ◌∙◌, ap, inl, inr, arith, append_assoc, Contains}
use Rattle.std.proofs.lemmas.List.{map-append}
use Rattle.std.proofs.lemmas.List.Elements.{Contains-append_left, Contains-append_right, Contains-append_cases}
use Rattle.vl_model.specs.Tables.{Pair, column, unsigned}
use Rattle.vl_model.specs.Steps.{Rows, IsFreeU, IsFreeId, Gains}
use Rattle.vl_cluster.specs.declared.line.Line.{Line}
use Rattle.vl_cluster.specs.declared.entry.Entry.{Entry}
use Rattle.vl_cluster.specs.Lists.{Lists, HasRow, row_pair, all_rows, with_row, with_entry}

-- membership through a map
pub map_has : {X Y : Type 0} (f : X → Y) (xs : List X) (x : X) → Contains xs x → Contains (map f xs) (f x)
map_has f [] x (k, within, is) = absurd (omega arith)
map_has f (y ∷ ys) x (zero, within, is) = (0, omega arith, ap f is)
map_has f (y ∷ ys) x (suc k, within, is) =
    let t = map_has f ys x (k, omega arith, is) in (suc t.0, omega arith, t.2)

pub map_has_back : {X Y : Type 0} (f : X → Y) (xs : List X) (y : Y) → Contains (map f xs) y → (x : X) × Contains xs x × (f x ≡ y)
map_has_back f [] y (k, within, is) = absurd (omega arith)
map_has_back f (x ∷ xs) y (zero, within, is) = (x, (0, omega arith, refl), is)
map_has_back f (x ∷ xs) y (suc k, within, is) =
    let t = map_has_back f xs y (k, omega arith, is) in (t.0, (suc t.1.0, omega arith, t.1.2), t.2)

-- a row of a shard is a row of the table
pub row_there : (shards : List Lists) (s : ℕ) (row : Line) → HasRow shards s row → Contains (all_rows shards) (row_pair row)
row_there [] zero row (k, within, is) = absurd (omega arith)
row_there [] (suc s) row (k, within, is) = absurd (omega arith)
row_there (lists ∷ shards) zero row h = Contains-append_left (map row_pair lists.rows) (all_rows shards) (row_pair row) (map_has row_pair lists.rows row h)
row_there (lists ∷ shards) (suc s) row h = Contains-append_right (map row_pair lists.rows) (all_rows shards) (row_pair row) (row_there shards s row h)

-- a row of the table stands on a shard
pub row_from : (shards : List Lists) (pair : Pair) → Contains (all_rows shards) pair → (s : ℕ) × (row : Line) × HasRow shards s row × (row_pair row ≡ pair)
row_from [] pair (k, within, is) = absurd (omega arith)
row_from (lists ∷ shards) pair h =
    elim (Contains-append_cases (map row_pair lists.rows) (all_rows shards) pair h) [
      | inl here ↦ let t = map_has_back row_pair lists.rows pair here in (0, t.0, t.1, t.2)
      | inr there ↦ let t = row_from shards pair there in (suc t.0, t.1, t.2, t.3)
    ]

pub free_u : (shards : List Lists) (u : ℕ) → ((s : ℕ) (row : Line) → HasRow shards s row → row.u ≢ u) → IsFreeU (all_rows shards) u
free_u shards u none pair h same = let t = row_from shards pair h in none t.0 t.1 t.2 (ap unsigned (ap (λ (p : Pair). column p 1) t.3 ∙ same))

pub free_id : (shards : List Lists) (id : ℕ) → ((s : ℕ) (row : Line) → HasRow shards s row → row.id ≢ id) → IsFreeId (all_rows shards) id
free_id shards id none pair h same = let t = row_from shards pair h in none t.0 t.1 t.2 (ap unsigned (ap (λ (p : Pair). column p 0) t.3 ∙ same))

-- a row more on a shard is a row more in the table
pub gains : (shards : List Lists) (s : ℕ) (row : Line) → s < length shards → Gains (all_rows shards) (row_pair row) (all_rows (with_row shards s row))
gains [] s row within = absurd (omega arith)
gains (lists ∷ shards) zero row within = (
  map row_pair lists.rows,
  all_rows shards,
  refl,
  ap (λ (l : Rows). l ++ all_rows shards) (map-append row_pair lists.rows (row ∷ [])) ∙ append_assoc (map row_pair lists.rows) ((row_pair row) ∷ []) (all_rows shards),
)
gains (lists ∷ shards) (suc s) row within =
    let t = gains shards s row (omega arith) in (
      map row_pair lists.rows ++ t.0,
      t.1,
      ap (λ (l : Rows). map row_pair lists.rows ++ l) t.2 ∙ sym (append_assoc (map row_pair lists.rows) t.0 t.1),
      ap (λ (l : Rows). map row_pair lists.rows ++ l) t.3 ∙ sym (append_assoc (map row_pair lists.rows) t.0 ((row_pair row) ∷ t.1)),
    )

-- an entry more is none
pub rows_same : (shards : List Lists) (s : ℕ) (entry : Entry) → all_rows (with_entry shards s entry) ≡ all_rows shards
rows_same [] s entry = refl
rows_same (lists ∷ shards) zero entry = refl
rows_same (lists ∷ shards) (suc s) entry = ap (λ (l : Rows). map row_pair lists.rows ++ l) (rows_same shards s entry)
