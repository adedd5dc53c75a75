-- A row that was written with its entry leaves what the shards keep.
use Rattle.std.proofs.Common.{◌≡◌, ◌≢◌, ℕ, ◌<◌, ◌⊎◌, List, [], ◌∷◌, ◌++◌, length, get_or, sym, ◌∙◌, ap, subst, inl, inr, length-set, Contains}
use Rattle.std.specs.List.{AllPairs}
use Rattle.std.proofs.lemmas.List.Elements.{Contains-get_or}
use Rattle.std.proofs.lemmas.List.Quantifiers.{all_pairs_push}
use Rattle.vl_cluster.specs.declared.line.Line.{Line}
use Rattle.vl_cluster.specs.declared.entry.Entry.{Entry}
use Rattle.vl_cluster.specs.Lists.{Lists, HasRow, HasEntry, on_shard, with_row, with_entry, place_of, entry_for}
use Rattle.vl_cluster.specs.Kept.{IsKept}
use Rattle.vl_cluster.proofs.Holding.{row_cases, row_kept, row_new, entry_cases, entry_kept, entry_new, row_beside, row_beside_back, entry_beside, entry_beside_back, rows-with_row, rows-with_entry, entries-with_row, entries-with_entry}

-- the shards after a row was written with its entry
abbrev written : List Lists → Line → List Lists
written shards row = with_row (with_entry shards (place_of row.u) (entry_for row)) (place_of row.id) row

mid_within : (shards : List Lists) (s t : ℕ) (entry : Entry) → t < length shards → t < length (with_entry shards s entry)
mid_within shards s t entry h = subst (λ (n : ℕ). t < n) (sym (length-set shards s _)) h

-- a row of then is a row of before, or the one that was written
row_was : (shards : List Lists) (row other : Line) (t : ℕ) → place_of row.u < length shards → place_of row.id < length shards
    → HasRow (written shards row) t other → HasRow shards t other ⊎ ((t ≡ place_of row.id) × (other ≡ row))
row_was shards row other t a b h =
    elim (row_cases (with_entry shards (place_of row.u) (entry_for row)) (place_of row.id) t row other (mid_within shards (place_of row.u) (place_of row.id) (entry_for row) b) h) [
      | inl before ↦ inl (row_beside shards (place_of row.u) t (entry_for row) other a before)
      | inr is ↦ inr is
    ]

row_stays : (shards : List Lists) (row other : Line) (t : ℕ) → place_of row.u < length shards → place_of row.id < length shards → HasRow shards t other → HasRow (written shards row) t other
row_stays shards row other t a b h =
    row_kept (with_entry shards (place_of row.u) (entry_for row)) (place_of row.id) t row other (mid_within shards (place_of row.u) (place_of row.id) (entry_for row) b)
    (row_beside_back shards (place_of row.u) t (entry_for row) other a h)

entry_was : (shards : List Lists) (row : Line) (other : Entry) (t : ℕ) → place_of row.u < length shards → place_of row.id < length shards
    → HasEntry (written shards row) t other → HasEntry shards t other ⊎ ((t ≡ place_of row.u) × (other ≡ entry_for row))
entry_was shards row other t a b h =
    entry_cases shards (place_of row.u) t (entry_for row) other a
    (entry_beside (with_entry shards (place_of row.u) (entry_for row)) (place_of row.id) t row other (mid_within shards (place_of row.u) (place_of row.id) (entry_for row) b) h)

entry_stays : (shards : List Lists) (row : Line) (other : Entry) (t : ℕ) → place_of row.u < length shards → place_of row.id < length shards → HasEntry shards t other → HasEntry (written shards row) t other
entry_stays shards row other t a b h =
    entry_beside_back (with_entry shards (place_of row.u) (entry_for row)) (place_of row.id) t row other (mid_within shards (place_of row.u) (place_of row.id) (entry_for row) b)
    (entry_kept shards (place_of row.u) t (entry_for row) other a h)

entry_there : (shards : List Lists) (row : Line) → place_of row.u < length shards → place_of row.id < length shards → HasEntry (written shards row) (place_of row.u) (entry_for row)
entry_there shards row a b =
    entry_beside_back (with_entry shards (place_of row.u) (entry_for row)) (place_of row.id) (place_of row.u) row (entry_for row) (mid_within shards (place_of row.u) (place_of row.id) (entry_for row) b)
    (entry_new shards (place_of row.u) (entry_for row) a)

row_there : (shards : List Lists) (row : Line) → place_of row.u < length shards → place_of row.id < length shards → HasRow (written shards row) (place_of row.id) row
row_there shards row a b = row_new (with_entry shards (place_of row.u) (entry_for row)) (place_of row.id) row (mid_within shards (place_of row.u) (place_of row.id) (entry_for row) b)

-- the parts of what is kept
placed_rows : (shards : List Lists) (row : Line) (a : place_of row.u < length shards) (b : place_of row.id < length shards) → IsKept shards
    → (s : ℕ) (other : Line) → HasRow (written shards row) s other → place_of other.id ≡ s
placed_rows shards row a b kept s other h =
    elim (row_was shards row other s a b h) [ inl before ↦ kept.row_placed s other before | inr is ↦ ap (λ (q : Line). place_of q.id) is.1 ∙ sym is.0 ]

placed_entries : (shards : List Lists) (row : Line) (a : place_of row.u < length shards) (b : place_of row.id < length shards) → IsKept shards
    → (s : ℕ) (entry : Entry) → HasEntry (written shards row) s entry → place_of entry.u ≡ s
placed_entries shards row a b kept s entry h =
    elim (entry_was shards row entry s a b h) [ inl before ↦ kept.entry_placed s entry before | inr is ↦ ap (λ (e : Entry). place_of e.u) is.1 ∙ sym is.0 ]

covered_rows : (shards : List Lists) (row : Line) (a : place_of row.u < length shards) (b : place_of row.id < length shards) → IsKept shards
    → (s : ℕ) (other : Line) → HasRow (written shards row) s other → HasEntry (written shards row) (place_of other.u) (entry_for other)
covered_rows shards row a b kept s other h =
    elim (row_was shards row other s a b h) [
      | inl before ↦ entry_stays shards row (entry_for other) (place_of other.u) a b (kept.covered s other before)
      | inr is ↦ subst (λ (q : Line). HasEntry (written shards row) (place_of q.u) (entry_for q)) (sym is.1) (entry_there shards row a b)
    ]

tidy_entries : (shards : List Lists) (row : Line) (a : place_of row.u < length shards) (b : place_of row.id < length shards) → IsKept shards
    → (s : ℕ) (entry : Entry) → HasEntry (written shards row) s entry → (q : Line) × HasRow (written shards row) (place_of q.id) q × (entry ≡ entry_for q)
tidy_entries shards row a b kept s entry h =
    elim (entry_was shards row entry s a b h) [
      | inl before ↦ let t = kept.tidy s entry before in (t.0, row_stays shards row t.0 (place_of t.0.id) a b t.1, t.2)
      | inr is ↦ (row, row_there shards row a b, is.1)
    ]

unique_rows : (shards : List Lists) (row : Line) (a : place_of row.u < length shards) (b : place_of row.id < length shards) → IsKept shards
    → ((s : ℕ) (other : Line) → HasRow shards s other → other.u ≢ row.u)
    → (s t : ℕ) (one other : Line) → HasRow (written shards row) s one → HasRow (written shards row) t other → one.u ≡ other.u → one.id ≡ other.id
unique_rows shards row a b kept free s t one other h k same =
    elim (row_was shards row one s a b h) [
      | inl before ↦ elim (row_was shards row other t a b k) [
        | inl too ↦ kept.unique s t one other before too same
        | inr is ↦ absurd (free s one before (same ∙ ap (λ (q : Line). q.u) is.1))
      ]
      | inr is ↦ elim (row_was shards row other t a b k) [
        | inl before ↦ absurd (free t other before (sym same ∙ ap (λ (q : Line). q.u) is.1))
        | inr too ↦ ap (λ (q : Line). q.id) (is.1 ∙ sym too.1)
      ]
    ]

-- a list that may have grown by one keeps its elements apart
apart_along : {X : Type 0} (R : X → X → Type 0) (xs ys : List X) → ys ≡ xs → AllPairs R xs → AllPairs R ys
apart_along R xs ys same pairs = subst (AllPairs R) (sym same) pairs

apart_grown : {X : Type 0} (R : X → X → Type 0) (xs ys : List X) (x : X) → ys ≡ xs ++ x ∷ [] → AllPairs R xs → ((y : X) → Contains xs y → R y x) → AllPairs R ys
apart_grown R xs ys x grown pairs new = apart_along R (xs ++ x ∷ []) ys grown (all_pairs_push R xs x pairs (λ k d within. new (get_or xs k d) (Contains-get_or xs k d within)))

OtherId : Line → Line → Type 0
OtherId one other = one.id ≢ other.id

OtherU : Entry → Entry → Type 0
OtherU one other = one.u ≢ other.u

ids_once : (shards : List Lists) (row : Line) (a : place_of row.u < length shards) (b : place_of row.id < length shards) → IsKept shards
    → ((s : ℕ) (other : Line) → HasRow shards s other → other.id ≢ row.id) → (s : ℕ) → AllPairs OtherId (on_shard (written shards row) s).rows
unfolding OtherId
ids_once shards row a b kept free s =
    let mid = with_entry shards (place_of row.u) (entry_for row) in
    let before = apart_along OtherId (on_shard shards s).rows (on_shard mid s).rows (rows-with_entry shards (place_of row.u) s (entry_for row) a) (kept.ids s) in
    elim (rows-with_row mid (place_of row.id) s row (mid_within shards (place_of row.u) (place_of row.id) (entry_for row) b)) [
      | inl grown ↦ apart_grown OtherId (on_shard mid s).rows (on_shard (written shards row) s).rows row grown.1 before (λ other h. free s other (row_beside shards (place_of row.u) s (entry_for row) other a h))
      | inr stays ↦ apart_along OtherId (on_shard mid s).rows (on_shard (written shards row) s).rows stays before
    ]

-- an entry has the value of a row
other_value : (shards : List Lists) (row : Line) → IsKept shards → ((s : ℕ) (other : Line) → HasRow shards s other → other.u ≢ row.u) → (s : ℕ) (entry : Entry) → HasEntry shards s entry → entry.u ≢ row.u
other_value shards row kept free s entry h same = let t = kept.tidy s entry h in free (place_of t.0.id) t.0 t.1 (sym (ap (λ (e : Entry). e.u) t.2) ∙ same)

values_once : (shards : List Lists) (row : Line) (a : place_of row.u < length shards) (b : place_of row.id < length shards) → IsKept shards
    → ((s : ℕ) (other : Line) → HasRow shards s other → other.u ≢ row.u) → (s : ℕ) → AllPairs OtherU (on_shard (written shards row) s).entries
unfolding OtherU
values_once shards row a b kept free s =
    let mid = with_entry shards (place_of row.u) (entry_for row) in
    let before : AllPairs OtherU (on_shard mid s).entries = elim (entries-with_entry shards (place_of row.u) s (entry_for row) a) [
      | inl grown ↦ apart_grown OtherU (on_shard shards s).entries (on_shard mid s).entries (entry_for row) grown.1 (kept.values s) (λ entry h. other_value shards row kept free s entry h)
      | inr stays ↦ apart_along OtherU (on_shard shards s).entries (on_shard mid s).entries stays (kept.values s)
    ] in
    apart_along OtherU (on_shard mid s).entries (on_shard (written shards row) s).entries
    (entries-with_row mid (place_of row.id) s row (mid_within shards (place_of row.u) (place_of row.id) (entry_for row) b)) before

pub kept_written : (shards : List Lists) (row : Line) → place_of row.u < length shards → place_of row.id < length shards → IsKept shards
    → ((s : ℕ) (other : Line) → HasRow shards s other → other.u ≢ row.u) → ((s : ℕ) (other : Line) → HasRow shards s other → other.id ≢ row.id)
    → IsKept (with_row (with_entry shards (place_of row.u) (entry_for row)) (place_of row.id) row)
unfolding OtherId OtherU
kept_written shards row a b kept free free_id = record {
  two = length-set (with_entry shards (place_of row.u) (entry_for row)) (place_of row.id) _ ∙ length-set shards (place_of row.u) _ ∙ kept.two;
  row_placed = placed_rows shards row a b kept;
  entry_placed = placed_entries shards row a b kept;
  ids = ids_once shards row a b kept free_id;
  values = values_once shards row a b kept free;
  covered = covered_rows shards row a b kept;
  tidy = tidy_entries shards row a b kept;
  unique = unique_rows shards row a b kept free;
}
