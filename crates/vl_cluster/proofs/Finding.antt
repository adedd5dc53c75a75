-- What a search of one shard tells of all shards.
use Rattle.std.proofs.Common.{◌≡◌, ◌≢◌, ℕ, ◌<◌, List, get_or, sym, ◌∙◌, ap, subst, arith, Option, Some, None, Contains, [], ◌∷◌, cond, true, false, nat_cmp}
use Rattle.std.specs.Cmp.Lexicographic.{slice_cmp}
use Rattle.std.specs.Ordering.{is_lt}
use Rattle.std.specs.Option.{IfSome, IfNone}
use Rattle.std.proofs.lemmas.List.{get_or_default}
use Rattle.vl_model.specs.CatalogA.{shard_of}
use Rattle.vl_cluster.specs.declared.line.Line.{Line}
use Rattle.vl_cluster.specs.declared.entry.Entry.{Entry}
use Rattle.vl_cluster.specs.Lists.{Lists, nothing, on_shard, HasRow, HasEntry, place_of, entry_for}
use Rattle.vl_cluster.specs.Kept.{IsKept}

-- the lists that were read are those of their shard
pub is_shard : (shards : List Lists) (s : ℕ) (lists : Lists) → IsKept shards → s < 2 → lists ≡ get_or shards s lists → lists ≡ on_shard shards s
is_shard shards s lists kept within is = is ∙ get_or_default shards s lists nothing (subst (λ (n : ℕ). s < n) (sym kept.two) within)

-- a row of the shard's lists, and back
read_row : (shards : List Lists) (s : ℕ) (lists : Lists) (row : Line) → lists ≡ on_shard shards s → Contains lists.rows row → HasRow shards s row
read_row shards s lists row is h = subst (λ (l : Lists). Contains l.rows row) is h

row_read : (shards : List Lists) (s t : ℕ) (lists : Lists) (row : Line) → lists ≡ on_shard shards s → t ≡ s → HasRow shards t row → Contains lists.rows row
row_read shards s t lists row is same h = subst (λ (l : Lists). Contains l.rows row) (ap (on_shard shards) same ∙ sym is) h

entry_read : (shards : List Lists) (s t : ℕ) (lists : Lists) (entry : Entry) → lists ≡ on_shard shards s → t ≡ s → HasEntry shards t entry → Contains lists.entries entry
entry_read shards s t lists entry is same h = subst (λ (l : Lists). Contains l.entries entry) (ap (on_shard shards) same ∙ sym is) h

-- no row of the primary key's own shard has it: no row has it
pub no_id : (shards : List Lists) (s id : ℕ) (lists : Lists) (found : Option Line) → IsKept shards → lists ≡ on_shard shards s → s ≡ place_of id
    → IfNone found ((row : Line) → Contains lists.rows row → row.id ≢ id) → IfNone found ((t : ℕ) (row : Line) → HasRow shards t row → row.id ≢ id)
no_id shards s id lists None kept is here none =
    λ t row h same. none row (row_read shards s t lists row is (sym (kept.row_placed t row h) ∙ ap place_of same ∙ sym here) h) same
no_id shards s id lists (Some row) kept is here none = none

-- no entry of u on the entry's shard: no row has u
pub no_entry : (shards : List Lists) (s u : ℕ) (lists : Lists) → IsKept shards → lists ≡ on_shard shards s → s ≡ place_of u
    → ((entry : Entry) → Contains lists.entries entry → entry.u ≢ u) → (t : ℕ) (row : Line) → HasRow shards t row → row.u ≢ u
no_entry shards s u lists kept is here none t row h same =
    none (entry_for row) (entry_read shards s (place_of row.u) lists (entry_for row) is (ap place_of same ∙ sym here) (kept.covered t row h)) same

-- the row that was found on the shard of the entry's keyspace id stands on its place
pub found_row : (shards : List Lists) (s u : ℕ) (lists : Lists) (found : Option Line) → IsKept shards → lists ≡ on_shard shards s
    → IfSome found (λ row. Contains lists.rows row × (row.u ≡ u)) → IfSome found (λ row. HasRow shards (place_of row.id) row × (row.u ≡ u))
found_row shards s u lists None kept is h = h
found_row shards s u lists (Some row) kept is h =
    let here = read_row shards s lists row is h.0 in
    (subst (λ (t : ℕ). HasRow shards t row) (sym (kept.row_placed s row here)) here, h.1)

-- an entry of u has its row on the shard of its keyspace id, so that this row is found there
pub entry_has_row : (shards : List Lists) (a b u : ℕ) (entries lists : Lists) (entry : Entry) (found : Option Line) → IsKept shards → entries ≡ on_shard shards a → lists ≡ on_shard shards b
    → Contains entries.entries entry → entry.u ≡ u → b ≡ shard_of entry.ksid
    → IfNone found ((row : Line) → Contains lists.rows row → row.u ≢ u) → IfNone found ((t : ℕ) (row : Line) → HasRow shards t row → row.u ≢ u)
entry_has_row shards a b u entries lists entry None kept is_a is_b h same here none =
    let t = kept.tidy a entry (subst (λ (l : Lists). Contains l.entries entry) is_a h) in
    absurd (none t.0 (row_read shards b (place_of t.0.id) lists t.0 is_b (sym (ap (λ (e : Entry). shard_of e.ksid) t.2) ∙ sym here) t.1) (sym (ap (λ (e : Entry). e.u) t.2) ∙ same))
entry_has_row shards a b u entries lists entry (Some row) kept is_a is_b h same here none = none

-- a keyspace id is of one of the two shards
pub shard_exists : (ksid : List ℕ) → shard_of ksid < 2
shard_exists ksid = elim (is_lt (slice_cmp nat_cmp ksid (128 ∷ []))) as (λ b. cond b 0 1 < 2) [ true ↦ omega arith | false ↦ omega arith ]
