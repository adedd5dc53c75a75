-- What the lists of the shards keep makes their tables sound, and their rows are those of the table.
use Rattle.std.proofs.Common.{◌≡◌, ℕ, zero, suc, List, [], ◌∷◌, ◌++◌, map, filter, ◌==◌, Bool, true, false, cond, not, ◌&&◌, ◌+◌, Some, refl, sym, ◌∙◌, ap, subst, inl, inr, arith, Contains}
use Rattle.std.proofs.lemmas.List.{append-nil}
use Rattle.std.proofs.lemmas.List.Elements.{Contains-append_left, Contains-append_right, Contains-append_cases}
use Rattle.vl_model.specs.Tables.{Pair, Stands, column, unsigned, table_of}
use Rattle.vl_catalog.specs.declared.lookup.Lookup.{Lookup}
use Rattle.vl_catalog.specs.CatalogA.{catalog_a, low_half, high_half, t1, t1_u}
use Rattle.vl_catalog.specs.Place.{place}
use Rattle.vl_vindex.specs.KeyRange.{comes_before, is_in}
use Rattle.vl_model.specs.CatalogA.{t1 as t1_number, numeric, shard_of}
use Rattle.vl_model.specs.Entries.{IsIndexed, Needs}
use Rattle.vl_model.specs.Sound.{Sound}
use Rattle.vl_model.specs.Steps.{table_rows}
use Rattle.vl_cluster.specs.declared.line.Line.{Line}
use Rattle.vl_cluster.specs.declared.entry.Entry.{Entry}
use Rattle.vl_cluster.specs.Lists.{Lists, HasRow, HasEntry, place_of, entry_for, row_pair, entry_pair, pairs_of, tables_of, all_rows}
use Rattle.vl_cluster.specs.Kept.{IsKept}
use Rattle.vl_cluster.proofs.OneTable.{map_has, map_has_back}

some_is : (x y : ℕ) → Some x ≡ Some y → x ≡ y
some_is x y h = cc

other_owner : (x y : ℕ) → Some x ≡ Some y → (x ≡ y → ⊥) → ⊥
other_owner x y h apart = apart (some_is x y h)

-- a row of the shards stands in their tables, and so does an entry
row_stands : (shards : List Lists) (s : ℕ) (row : Line) → HasRow shards s row → Stands (tables_of shards) s (row_pair row)
row_stands [] zero row (k, within, is) = absurd (omega arith)
row_stands [] (suc s) row (k, within, is) = absurd (omega arith)
row_stands (lists ∷ shards) zero row h = Contains-append_left (map row_pair lists.rows) (map entry_pair lists.entries) (row_pair row) (map_has row_pair lists.rows row h)
row_stands (lists ∷ shards) (suc s) row h = row_stands shards s row h

entry_stands : (shards : List Lists) (s : ℕ) (entry : Entry) → HasEntry shards s entry → Stands (tables_of shards) s (entry_pair entry)
entry_stands [] zero entry (k, within, is) = absurd (omega arith)
entry_stands [] (suc s) entry (k, within, is) = absurd (omega arith)
entry_stands (lists ∷ shards) zero entry h = Contains-append_right (map row_pair lists.rows) (map entry_pair lists.entries) (entry_pair entry) (map_has entry_pair lists.entries entry h)
entry_stands (lists ∷ shards) (suc s) entry h = entry_stands shards s entry h

-- what stands in the tables is a row or an entry of the shards
data Which (shards : List Lists) (s : ℕ) (pair : Pair) : Type 0 where
  OfRow : (row : Line) → HasRow shards s row → row_pair row ≡ pair → Which shards s pair
  OfEntry : (entry : Entry) → HasEntry shards s entry → entry_pair entry ≡ pair → Which shards s pair

which_here : (lists : Lists) (shards : List Lists) (pair : Pair) → Contains (pairs_of lists) pair → Which (lists ∷ shards) 0 pair
which_here lists shards pair h =
    elim (Contains-append_cases (map row_pair lists.rows) (map entry_pair lists.entries) pair h) [
      | inl row ↦ let t = map_has_back row_pair lists.rows pair row in OfRow t.0 t.1 t.2
      | inr entry ↦ let t = map_has_back entry_pair lists.entries pair entry in OfEntry t.0 t.1 t.2
    ]

which_behind : (lists : Lists) (shards : List Lists) (s : ℕ) (pair : Pair) → Which shards s pair → Which (lists ∷ shards) (suc s) pair
which_behind lists shards s pair (OfRow row h is) = OfRow row h is
which_behind lists shards s pair (OfEntry entry h is) = OfEntry entry h is

which : (shards : List Lists) (s : ℕ) (pair : Pair) → Stands (tables_of shards) s pair → Which shards s pair
which [] zero pair (k, within, is) = absurd (omega arith)
which [] (suc s) pair (k, within, is) = absurd (omega arith)
which (lists ∷ shards) zero pair h = which_here lists shards pair h
which (lists ∷ shards) (suc s) pair h = which_behind lists shards s pair (which shards s pair h)

-- ---- places

-- each keyspace id is in the range `-80`, or in `80-`, by its first byte
not_before_all : (ksid : List ℕ) → comes_before ksid [] ≡ false
not_before_all [] = refl
not_before_all (b ∷ rest) = refl

in_low : (ksid : List ℕ) → is_in low_half ksid ≡ comes_before ksid (128 ∷ [])
in_low ksid = ap (λ (b : Bool). not b && comes_before ksid (128 ∷ [])) (not_before_all ksid)

and_true : (b : Bool) → (b && true) ≡ b
and_true true = refl
and_true false = refl

in_high : (ksid : List ℕ) → is_in high_half ksid ≡ not (comes_before ksid (128 ∷ []))
in_high ksid = and_true (not (comes_before ksid (128 ∷ [])))

-- the place of the first of two that passes
abbrev first_of_two : Bool → Bool → ℕ
first_of_two low high = 0 + cond (not low) (1 + cond (not high) (1 + 0) 0) 0

one_of_two : (b : Bool) → first_of_two b (not b) ≡ cond b 0 1
one_of_two true = refl
one_of_two false = refl

shard_in_halves : (ksid : List ℕ) → first_of_two (is_in low_half ksid) (is_in high_half ksid) ≡ shard_of ksid
shard_in_halves ksid =
    ap (λ (b : Bool). first_of_two b (is_in high_half ksid)) (in_low ksid) ∙ ap (first_of_two (comes_before ksid (128 ∷ []))) (in_high ksid) ∙ one_of_two (comes_before ksid (128 ∷ []))

placed_row : (row : Line) → place catalog_a (table_of (row_pair row)) (row_pair row).1 ≡ Some (place_of row.id)
placed_row row = ap Some (shard_in_halves (numeric row.id))

placed_entry : (entry : Entry) → place catalog_a (table_of (entry_pair entry)) (entry_pair entry).1 ≡ Some (place_of entry.u)
placed_entry entry = ap Some (shard_in_halves (numeric entry.u))

placed_one : (shards : List Lists) (s : ℕ) (pair : Pair) → IsKept shards → Which shards s pair → place catalog_a (table_of pair) pair.1 ≡ Some s
placed_one shards s pair kept (OfRow row h is) = subst (λ (p : Pair). place catalog_a (table_of p) p.1 ≡ Some s) is (placed_row row ∙ ap Some (kept.row_placed s row h))
placed_one shards s pair kept (OfEntry entry h is) = subst (λ (p : Pair). place catalog_a (table_of p) p.1 ≡ Some s) is (placed_entry entry ∙ ap Some (kept.entry_placed s entry h))

-- ---- lookups

-- of the catalog's lookups t1_u alone has t1 for its owner, and none has t1_u_idx
owns_t1 : (lookup : Lookup) (row : Line) → Contains catalog_a.lookups lookup → IsIndexed lookup (row_pair row) → lookup ≡ t1_u
owns_t1 lookup row (zero, within, is) indexed = sym is
owns_t1 lookup row (suc zero, within, is) indexed = absurd (other_owner 2 0 (ap (λ (l : Lookup). l.owner) is ∙ indexed.owner) (λ e. omega (arith, e)))
owns_t1 lookup row (suc (suc zero), within, is) indexed = absurd (other_owner 2 0 (ap (λ (l : Lookup). l.owner) is ∙ indexed.owner) (λ e. omega (arith, e)))
owns_t1 lookup row (suc (suc (suc k)), within, is) indexed = absurd (omega (arith, within))

owns_entries : (lookup : Lookup) (entry : Entry) → Contains catalog_a.lookups lookup → IsIndexed lookup (entry_pair entry) → ⊥
owns_entries lookup entry (zero, within, is) indexed = other_owner 0 1 (ap (λ (l : Lookup). l.owner) is ∙ indexed.owner) (λ e. omega (arith, e))
owns_entries lookup entry (suc zero, within, is) indexed = other_owner 2 1 (ap (λ (l : Lookup). l.owner) is ∙ indexed.owner) (λ e. omega (arith, e))
owns_entries lookup entry (suc (suc zero), within, is) indexed = other_owner 2 1 (ap (λ (l : Lookup). l.owner) is ∙ indexed.owner) (λ e. omega (arith, e))
owns_entries lookup entry (suc (suc (suc k)), within, is) indexed = omega (arith, within)

-- ---- coverage

HasNeeded : List Lists → Lookup → Pair → Type 0
HasNeeded shards lookup pair = (t : ℕ) × (entry : Pair) × Stands (tables_of shards) t entry × Needs catalog_a lookup pair entry

needs_entry : (row : Line) → IsIndexed t1_u (row_pair row) → Needs catalog_a t1_u (row_pair row) (entry_pair (entry_for row))
needs_entry row indexed = record {
  indexed = indexed;
  is_entry = refl;
  values = (t1, refl, refl);
  names = (numeric row.id, 1, refl, refl, refl);
}

covered_row : (shards : List Lists) (s : ℕ) (row : Line) → IsKept shards → HasRow shards s row → IsIndexed t1_u (row_pair row) → HasNeeded shards t1_u (row_pair row)
unfolding HasNeeded
covered_row shards s row kept h indexed = (place_of row.u, entry_pair (entry_for row), entry_stands shards (place_of row.u) (entry_for row) (kept.covered s row h), needs_entry row indexed)

covered_by : (shards : List Lists) (s : ℕ) (row : Line) (lookup : Lookup) → IsKept shards → HasRow shards s row → lookup ≡ t1_u → IsIndexed lookup (row_pair row) → HasNeeded shards lookup (row_pair row)
covered_by shards s row lookup kept h is indexed =
    subst (λ (l : Lookup). HasNeeded shards l (row_pair row)) (sym is) (covered_row shards s row kept h (subst (λ (l : Lookup). IsIndexed l (row_pair row)) is indexed))

covered_one : (shards : List Lists) (s : ℕ) (pair : Pair) (lookup : Lookup) → IsKept shards → Contains catalog_a.lookups lookup → Which shards s pair → IsIndexed lookup pair → HasNeeded shards lookup pair
covered_one shards s pair lookup kept among (OfRow row h is) indexed =
    let here = subst (IsIndexed lookup) (sym is) indexed in
    subst (HasNeeded shards lookup) is (covered_by shards s row lookup kept h (owns_t1 lookup row among here) here)
covered_one shards s pair lookup kept among (OfEntry entry h is) indexed = absurd (owns_entries lookup entry among (subst (IsIndexed lookup) (sym is) indexed))

-- ---- unique values

HasOneKey : Lookup → ℕ → Pair → Pair → Type 0
HasOneKey lookup n row other = IsIndexed lookup row → IsIndexed lookup other → column row n ≡ column other n → row.0 ≡ other.0

one_key : (shards : List Lists) (s t n : ℕ) (row other : Line) (lookup : Lookup) → IsKept shards → Contains catalog_a.lookups lookup → lookup.column ≡ Some n → HasRow shards s row → HasRow shards t other
    → HasOneKey lookup n (row_pair row) (row_pair other)
unfolding HasOneKey
one_key shards s t n row other lookup kept among in_column h k indexed also same =
    let is = owns_t1 lookup row among indexed in
    let u_column : n ≡ 1 = some_is n 1 (sym in_column ∙ ap (λ (l : Lookup). l.column) is) in
    let values = subst (λ (m : ℕ). column (row_pair row) m ≡ column (row_pair other) m) u_column same in
    ap (λ (id : ℕ). (row_pair (record { id = id; u = 0 })).0) (kept.unique s t row other h k (ap unsigned values))

unique_one : (shards : List Lists) (s t n : ℕ) (row other : Pair) (lookup : Lookup) → IsKept shards → Contains catalog_a.lookups lookup → lookup.column ≡ Some n → Which shards s row → Which shards t other
    → HasOneKey lookup n row other
unfolding HasOneKey
unique_one shards s t n row other lookup kept among in_column (OfRow a h is) (OfRow b k also) =
    subst (λ (p : Pair). HasOneKey lookup n p other) is (subst (HasOneKey lookup n (row_pair a)) also (one_key shards s t n a b lookup kept among in_column h k))
unique_one shards s t n row other lookup kept among in_column (OfEntry a h is) second = λ indexed. absurd (owns_entries lookup a among (subst (IsIndexed lookup) (sym is) indexed))
unique_one shards s t n row other lookup kept among in_column (OfRow a h is) (OfEntry b k also) =
    λ indexed other_indexed. absurd (owns_entries lookup b among (subst (IsIndexed lookup) (sym also) other_indexed))

pub kept_sound : (shards : List Lists) → IsKept shards → Sound catalog_a (tables_of shards)
unfolding HasNeeded HasOneKey
kept_sound shards kept = record {
  placed = λ s pair h. placed_one shards s pair kept (which shards s pair h);
  covered = λ lookup s row among h plain. covered_one shards s row lookup kept among (which shards s row h);
  unique = λ lookup n s t row other among unique in_column h k. unique_one shards s t n row other lookup kept among in_column (which shards s row h) (which shards t other k);
}

-- the rows of t1 among what one shard holds
abbrev of_t1 : Pair → Bool
of_t1 pair = table_of pair == t1_number

rows_of_lines : (rows : List Line) (rest : List Pair) → filter of_t1 (map row_pair rows ++ rest) ≡ map row_pair rows ++ filter of_t1 rest
rows_of_lines [] rest = refl
rows_of_lines (row ∷ rows) rest = ap (λ (l : List Pair). row_pair row ∷ l) (rows_of_lines rows rest)

rows_of_entries : (entries : List Entry) → filter of_t1 (map entry_pair entries) ≡ []
rows_of_entries [] = refl
rows_of_entries (entry ∷ entries) = rows_of_entries entries

rows_of_lists : (lists : Lists) → filter of_t1 (pairs_of lists) ≡ map row_pair lists.rows
rows_of_lists lists = rows_of_lines lists.rows (map entry_pair lists.entries) ∙ ap (λ (l : List Pair). map row_pair lists.rows ++ l) (rows_of_entries lists.entries) ∙ append-nil (map row_pair lists.rows)

pub table_rows-tables_of : (shards : List Lists) → table_rows (tables_of shards) ≡ all_rows shards
table_rows-tables_of [] = refl
table_rows-tables_of (lists ∷ shards) =
    ap (λ (l : List Pair). l ++ table_rows (tables_of shards)) (rows_of_lists lists) ∙ ap (λ (l : List Pair). map row_pair lists.rows ++ l) (table_rows-tables_of shards)
