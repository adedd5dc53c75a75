-- Which rows and entries the shards hold, before and after one more was added.
use Rattle.std.proofs.Common.{◌≡◌, ℕ, zero, suc, ◌<◌, ◌⊎◌, List, [], ◌∷◌, ◌++◌, length, set, refl, sym, ◌∙◌, ap, subst, inl, inr, arith, Contains}
use Rattle.std.proofs.lemmas.List.{get_or-set_same, get_or-set_other}
use Rattle.std.proofs.lemmas.List.Elements.{Contains-append_left, Contains-append_right, Contains-append_cases}
use Rattle.std.proofs.lemmas.Bool.{cases_eq}
use Rattle.vl_cluster.specs.declared.line.Line.{Line}
use Rattle.vl_cluster.specs.declared.entry.Entry.{Entry}
use Rattle.vl_cluster.specs.Lists.{Lists, nothing, on_shard, HasRow, HasEntry, with_row, with_entry}

-- a list of one element has that element alone
pub only_one : {X : Type 0} (x y : X) → Contains (x ∷ []) y → y ≡ x
only_one x y (zero, within, is) = sym is
only_one x y (suc k, within, is) = absurd (omega arith)

pub one : {X : Type 0} (x : X) → Contains (x ∷ []) x
one x = (0, omega arith, refl)

-- a shard after one was set: it is the one that was set, or stays as it was
set_cases : (shards : List Lists) (s t : ℕ) (lists : Lists) → s < length shards
    → ((t ≡ s) × (on_shard (set shards s lists) t ≡ lists)) ⊎ (on_shard (set shards s lists) t ≡ on_shard shards t)
set_cases shards s t lists within =
    elim (cases_eq t s) [
      | inl same ↦ inl (same, ap (on_shard (set shards s lists)) same ∙ get_or-set_same shards s lists nothing within)
      | inr apart ↦ inr (get_or-set_other shards s t lists nothing apart)
    ]

-- adding a row leaves the entries, and adding an entry the rows
pub entries-with_row : (shards : List Lists) (s t : ℕ) (row : Line) → s < length shards → (on_shard (with_row shards s row) t).entries ≡ (on_shard shards t).entries
entries-with_row shards s t row within =
    elim (set_cases shards s t (record (on_shard shards s) { rows = (on_shard shards s).rows ++ row ∷ [] }) within) [
      | inl set_here ↦ ap (λ (l : Lists). l.entries) set_here.1 ∙ ap (λ (u : ℕ). (on_shard shards u).entries) (sym set_here.0)
      | inr stays ↦ ap (λ (l : Lists). l.entries) stays
    ]

pub rows-with_entry : (shards : List Lists) (s t : ℕ) (entry : Entry) → s < length shards → (on_shard (with_entry shards s entry) t).rows ≡ (on_shard shards t).rows
rows-with_entry shards s t entry within =
    elim (set_cases shards s t (record (on_shard shards s) { entries = (on_shard shards s).entries ++ entry ∷ [] }) within) [
      | inl set_here ↦ ap (λ (l : Lists). l.rows) set_here.1 ∙ ap (λ (u : ℕ). (on_shard shards u).rows) (sym set_here.0)
      | inr stays ↦ ap (λ (l : Lists). l.rows) stays
    ]

-- the rows of a shard after one was added
pub rows-with_row : (shards : List Lists) (s t : ℕ) (row : Line) → s < length shards
    → ((t ≡ s) × ((on_shard (with_row shards s row) t).rows ≡ (on_shard shards t).rows ++ row ∷ [])) ⊎ ((on_shard (with_row shards s row) t).rows ≡ (on_shard shards t).rows)
rows-with_row shards s t row within =
    elim (set_cases shards s t (record (on_shard shards s) { rows = (on_shard shards s).rows ++ row ∷ [] }) within) [
      | inl set_here ↦ inl (set_here.0, ap (λ (l : Lists). l.rows) set_here.1 ∙ ap (λ (u : ℕ). (on_shard shards u).rows ++ row ∷ []) (sym set_here.0))
      | inr stays ↦ inr (ap (λ (l : Lists). l.rows) stays)
    ]

pub entries-with_entry : (shards : List Lists) (s t : ℕ) (entry : Entry) → s < length shards
    → ((t ≡ s) × ((on_shard (with_entry shards s entry) t).entries ≡ (on_shard shards t).entries ++ entry ∷ [])) ⊎ ((on_shard (with_entry shards s entry) t).entries ≡ (on_shard shards t).entries)
entries-with_entry shards s t entry within =
    elim (set_cases shards s t (record (on_shard shards s) { entries = (on_shard shards s).entries ++ entry ∷ [] }) within) [
      | inl set_here ↦ inl (set_here.0, ap (λ (l : Lists). l.entries) set_here.1 ∙ ap (λ (u : ℕ). (on_shard shards u).entries ++ entry ∷ []) (sym set_here.0))
      | inr stays ↦ inr (ap (λ (l : Lists). l.entries) stays)
    ]

-- membership in a list that may have grown by one
along : {X : Type 0} (x : X) (xs ys : List X) → xs ≡ ys → Contains xs x → Contains ys x
along {X} x xs ys same h = subst (λ (l : List X). Contains l x) same h

grown_cases : {X : Type 0} (x y : X) (xs ys : List X) → ys ≡ xs ++ x ∷ [] → Contains ys y → Contains xs y ⊎ (y ≡ x)
grown_cases x y xs ys grown h =
    elim (Contains-append_cases xs (x ∷ []) y (along y ys (xs ++ x ∷ []) grown h)) [ inl before ↦ inl before | inr last ↦ inr (only_one x y last) ]

grown_keeps : {X : Type 0} (x y : X) (xs ys : List X) → ys ≡ xs ++ x ∷ [] → Contains xs y → Contains ys y
grown_keeps x y xs ys grown h = along y (xs ++ x ∷ []) ys (sym grown) (Contains-append_left xs (x ∷ []) y h)

grown_has : {X : Type 0} (x : X) (xs ys : List X) → ys ≡ xs ++ x ∷ [] → Contains ys x
grown_has x xs ys grown = along x (xs ++ x ∷ []) ys (sym grown) (Contains-append_right xs (x ∷ []) x (one x))

-- a row that stands after one was added stood before, or is the one
pub row_cases : (shards : List Lists) (s t : ℕ) (row other : Line) → s < length shards → HasRow (with_row shards s row) t other → HasRow shards t other ⊎ ((t ≡ s) × (other ≡ row))
row_cases shards s t row other within h =
    elim (rows-with_row shards s t row within) [
      | inl grown ↦ elim (grown_cases row other _ _ grown.1 h) [ inl before ↦ inl before | inr is ↦ inr (grown.0, is) ]
      | inr stays ↦ inl (along other _ _ stays h)
    ]

pub row_kept : (shards : List Lists) (s t : ℕ) (row other : Line) → s < length shards → HasRow shards t other → HasRow (with_row shards s row) t other
row_kept shards s t row other within h =
    elim (rows-with_row shards s t row within) [ inl grown ↦ grown_keeps row other _ _ grown.1 h | inr stays ↦ along other _ _ (sym stays) h ]

pub row_new : (shards : List Lists) (s : ℕ) (row : Line) → s < length shards → HasRow (with_row shards s row) s row
row_new shards s row within =
    grown_has row (on_shard shards s).rows _ (ap (λ (l : Lists). l.rows) (get_or-set_same shards s (record (on_shard shards s) { rows = (on_shard shards s).rows ++ row ∷ [] }) nothing within))

-- the same of entries
pub entry_cases : (shards : List Lists) (s t : ℕ) (entry other : Entry) → s < length shards → HasEntry (with_entry shards s entry) t other → HasEntry shards t other ⊎ ((t ≡ s) × (other ≡ entry))
entry_cases shards s t entry other within h =
    elim (entries-with_entry shards s t entry within) [
      | inl grown ↦ elim (grown_cases entry other _ _ grown.1 h) [ inl before ↦ inl before | inr is ↦ inr (grown.0, is) ]
      | inr stays ↦ inl (along other _ _ stays h)
    ]

pub entry_kept : (shards : List Lists) (s t : ℕ) (entry other : Entry) → s < length shards → HasEntry shards t other → HasEntry (with_entry shards s entry) t other
entry_kept shards s t entry other within h =
    elim (entries-with_entry shards s t entry within) [ inl grown ↦ grown_keeps entry other _ _ grown.1 h | inr stays ↦ along other _ _ (sym stays) h ]

pub entry_new : (shards : List Lists) (s : ℕ) (entry : Entry) → s < length shards → HasEntry (with_entry shards s entry) s entry
entry_new shards s entry within =
    grown_has entry (on_shard shards s).entries _ (ap (λ (l : Lists). l.entries) (get_or-set_same shards s (record (on_shard shards s) { entries = (on_shard shards s).entries ++ entry ∷ [] }) nothing within))

-- across the other list
pub row_beside : (shards : List Lists) (s t : ℕ) (entry : Entry) (row : Line) → s < length shards → HasRow (with_entry shards s entry) t row → HasRow shards t row
row_beside shards s t entry row within h = along row _ _ (rows-with_entry shards s t entry within) h

pub row_beside_back : (shards : List Lists) (s t : ℕ) (entry : Entry) (row : Line) → s < length shards → HasRow shards t row → HasRow (with_entry shards s entry) t row
row_beside_back shards s t entry row within h = along row _ _ (sym (rows-with_entry shards s t entry within)) h

pub entry_beside : (shards : List Lists) (s t : ℕ) (row : Line) (entry : Entry) → s < length shards → HasEntry (with_row shards s row) t entry → HasEntry shards t entry
entry_beside shards s t row entry within h = along entry _ _ (entries-with_row shards s t row within) h

pub entry_beside_back : (shards : List Lists) (s t : ℕ) (row : Line) (entry : Entry) → s < length shards → HasEntry shards t entry → HasEntry (with_row shards s row) t entry
entry_beside_back shards s t row entry within h = along entry _ _ (sym (entries-with_row shards s t row within)) h
