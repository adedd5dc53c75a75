-- The two versions of each key that slots keep, after each edit of the slots.
use Rattle.std.proofs.Common.{◌≡◌, ℕ, ◌==◌, Bool, true, false, cond, not, if◌then◌else◌, ◌&&◌, List, [], ◌∷◌, Option, None, Some, length, get_or, set, map, take, drop, ◌++◌, refl, sym, ap, subst, ◌∙◌}
use Rattle.std.specs.List.{cons_option, filter, insert}
use Rattle.std.specs.Map.{keys_of}
use Rattle.std.specs.Option.{is_none, is_some, option_and_then, option_map}
use Rattle.std.proofs.lemmas.List.{length-map, take_at}
use Rattle.std.proofs.lemmas.Map.Made.{is_some-lookup}
use Rattle.vl_values.specs.declared.key.Key.{Key}
use Rattle.vl_values.specs.declared.value.Value.{Value}
use Rattle.vl_values.specs.Keyed.{AreInOrder, InKeyOrder, IsGap, IsPlace, is_key, value_at, select}
use Rattle.vl_values.proofs.KeyOrder.{is_key-same}
use Rattle.vl_values.proofs.Keying.{value_at-gap, value_at-insert, value_at-set, in_order-set, in_order-filter, in_order-select, value_at-select, keys-map, keys-set, select-insert_none, select-set, select-map, select-filter}
use Rattle.vl_rows.specs.declared.change.Change.{Change}
use Rattle.vl_rows.specs.declared.slot.Slot.{Slot}
use Rattle.vl_rows.specs.Slots.{committed_in, pending_in, versions_of, empty_slot, is_empty_slot, settled_in, abandoned_in, written_in}
use Rattle.vl_rows.specs.Versions.{committed_at, pending_at, standing_at, version_for, without, other_than, changed_to, with_change, has_room, SameVersions, IsInOrder}

-- a place or a gap in the slice that a call was given is one in the slots
pub place_in : (slice slots : List (Key × Slot)) (place : ℕ) (key : Key) → slice ≡ slots → IsPlace key slice place → IsPlace key slots place
place_in slice slots place key same at = subst (λ (l : List (Key × Slot)). IsPlace key l place) same at

pub gap_in : (slice slots : List (Key × Slot)) (place : ℕ) (key : Key) → slice ≡ slots → IsGap key slice place → IsGap key slots place
gap_in slice slots place key same gap = subst (λ (l : List (Key × Slot)). IsGap key l place) same gap

-- slots that were rewritten through a slice of them all
pub rewritten : (f : Key × Slot → Key × Slot) (slots slice new : List (Key × Slot)) (len : ℕ) → slice ≡ slots → length slice ≡ len → new ≡ map f slice → take len (new ++ drop (length new) slots) ≡ map f slots
rewritten f slots slice new len same all is =
    take_at new (drop (length new) slots) len (ap length is ∙ length-map slice f ∙ all) ∙ is ∙ ap (map f) same

-- both lists are in order where the slots are
pub in_order : (slots : List (Key × Slot)) → InKeyOrder slots → IsInOrder (versions_of slots)
in_order slots s = record { committed = in_order-select committed_in slots s; pending = in_order-select pending_in slots s }

pub committed_is : (slots : List (Key × Slot)) (key : Key) → InKeyOrder slots → committed_at (versions_of slots) key ≡ option_and_then (λ slot. slot.committed) (value_at slots key)
committed_is slots key s = value_at-select committed_in key slots s

pub pending_is : (slots : List (Key × Slot)) (key : Key) → InKeyOrder slots → pending_at (versions_of slots) key ≡ option_and_then (λ slot. slot.pending) (value_at slots key)
pending_is slots key s = value_at-select pending_in key slots s

pub room_is : (slots : List (Key × Slot)) (key : Key) → has_room (versions_of slots) key ≡ is_some (value_at slots key)
room_is slots key = sym (is_some-lookup (is_key key) slots)

-- what a reader sees of a key, by its slot
pub standing_is : (slots : List (Key × Slot)) (reader : Option ℕ) (key : Key) → InKeyOrder slots
    → standing_at (versions_of slots) reader key ≡ version_for reader (option_and_then (λ slot. slot.pending) (value_at slots key)) (option_and_then (λ slot. slot.committed) (value_at slots key))
standing_is slots reader key s =
    ap (λ (p : Option Change). version_for reader p (committed_at (versions_of slots) key)) (pending_is slots key s)
    ∙ ap (λ (c : Option (List Value)). version_for reader (option_and_then (λ slot. slot.pending) (value_at slots key)) c) (committed_is slots key s)

pub standing_in : (slots : List (Key × Slot)) (reader : Option ℕ) (key : Key) (slot : Slot) → InKeyOrder slots → value_at slots key ≡ Some slot
    → standing_at (versions_of slots) reader key ≡ version_for reader slot.pending slot.committed
standing_in slots reader key slot s has =
    standing_is slots reader key s ∙ ap (λ (o : Option Slot). version_for reader (option_and_then (λ slot. slot.pending) o) (option_and_then (λ slot. slot.committed) o)) has

nothing : (reader : Option ℕ) → version_for reader None None ≡ None
nothing None = refl
nothing (Some conn) = refl

pub standing_none : (slots : List (Key × Slot)) (reader : Option ℕ) (key : Key) → InKeyOrder slots → value_at slots key ≡ None → standing_at (versions_of slots) reader key ≡ None
standing_none slots reader key s has =
    standing_is slots reader key s
    ∙ ap (λ (o : Option Slot). version_for reader (option_and_then (λ slot. slot.pending) o) (option_and_then (λ slot. slot.committed) o)) has
    ∙ nothing reader

pub pending_slot : (slots : List (Key × Slot)) (key : Key) (slot : Slot) → InKeyOrder slots → value_at slots key ≡ Some slot → pending_at (versions_of slots) key ≡ slot.pending
pending_slot slots key slot s has = pending_is slots key s ∙ ap (option_and_then (λ slot. slot.pending)) has

pub pending_none : (slots : List (Key × Slot)) (key : Key) → InKeyOrder slots → value_at slots key ≡ None → pending_at (versions_of slots) key ≡ None
pending_none slots key s has = pending_is slots key s ∙ ap (option_and_then (λ slot. slot.pending)) has

-- ---- a slot without versions shows nothing but room

pub with_empty : (slots : List (Key × Slot)) (place : ℕ) (key : Key) → SameVersions (versions_of slots) (versions_of (insert slots place (key, empty_slot)))
with_empty slots place key =
    record { committed = select-insert_none committed_in slots place (key, empty_slot) refl; pending = select-insert_none pending_in slots place (key, empty_slot) refl }

pub room_made : (slots : List (Key × Slot)) (place : ℕ) (key : Key) (slot : Slot) → InKeyOrder slots → IsGap key slots place → has_room (versions_of (insert slots place (key, slot))) key ≡ true
room_made slots place key slot s gap =
    room_is (insert slots place (key, slot)) key
    ∙ ap is_some (value_at-insert slots place key slot key s gap ∙ ap (λ (b : Bool). cond b (Some slot) (value_at slots key)) (is_key-same key))

room_kept_at : (slot : Slot) (o : Option Slot) (b : Bool) → is_some o ≡ true → is_some (cond b (Some slot) o) ≡ true
room_kept_at slot o true has = refl
room_kept_at slot o false has = has

pub room_stays : (slots : List (Key × Slot)) (place : ℕ) (key : Key) (slot : Slot) (other : Key) → InKeyOrder slots → IsGap key slots place → has_room (versions_of slots) other ≡ true
    → has_room (versions_of (insert slots place (key, slot))) other ≡ true
room_stays slots place key slot other s gap has =
    room_is (insert slots place (key, slot)) other
    ∙ ap is_some (value_at-insert slots place key slot other s gap)
    ∙ room_kept_at slot (value_at slots other) (is_key key other) (sym (room_is slots other) ∙ has)

-- ---- a written slot

module _ (slots : List (Key × Slot)) (place : ℕ) (key : Key) (conn : ℕ) (row : Option (List Value)) (old new : Key × Slot) (s : InKeyOrder slots) (at : IsPlace key slots place)
    (read : old ≡ get_or slots place old) (wrote : new ≡ written_in conn row old) where
  kept : new.0 ≡ (get_or slots place old).0
  kept = ap (λ (e : Key × Slot). e.0) wrote ∙ ap (λ (e : Key × Slot). e.0) read

  pub committed_kept : select committed_in (set slots place new) ≡ select committed_in slots
  committed_kept =
      select-set committed_in slots place new old
      (ap (λ (e : Key × Slot). option_map {T = List Value} {U = Key × List Value} (λ v. (e.0, v)) e.1.committed) wrote
      ∙ ap (λ (e : Key × Slot). option_map {T = List Value} {U = Key × List Value} (λ v. (e.0, v)) e.1.committed) read)

  pub room_kept : keys_of (set slots place new) ≡ keys_of slots
  room_kept = keys-set slots place new old kept

  entry_is : new ≡ (key, new.1)
  entry_is = ap (λ (k : Key). (k, new.1)) (kept ∙ at.1 old)

  pub written_in_order : InKeyOrder (set slots place new)
  written_in_order = subst (λ (e : Key × Slot). InKeyOrder (set slots place e)) (sym entry_is) (in_order-set slots place key new.1 old s at)

  change_at : (b : Bool) (o : Option Slot) → option_and_then (λ slot. slot.pending) (cond b (Some new.1) o) ≡ (if b then Some (changed_to conn row) else option_and_then (λ slot. slot.pending) o)
  change_at true o = ap (λ (e : Key × Slot). e.1.pending) wrote
  change_at false o = refl

  pub pending_written : (other : Key) → pending_at (versions_of (set slots place new)) other ≡ with_change (pending_at (versions_of slots)) key (changed_to conn row) other
  pending_written other =
      pending_is (set slots place new) other written_in_order
      ∙ ap (λ (e : Key × Slot). option_and_then (λ slot. slot.pending) (value_at (set slots place e) other)) entry_is
      ∙ ap (option_and_then (λ slot. slot.pending)) (value_at-set slots place key new.1 old other s at)
      ∙ change_at (is_key key other) (value_at slots other)
      ∙ ap (λ (o : Option Change). if is_key key other then Some (changed_to conn row) else o) (sym (pending_is slots other s))

-- where there is no slot there is no room
pub no_room : (slots : List (Key × Slot)) (place : ℕ) (key : Key) → InKeyOrder slots → IsGap key slots place → has_room (versions_of slots) key ≡ false
no_room slots place key s gap = room_is slots key ∙ ap is_some (value_at-gap slots place key s gap)

-- ---- settled and abandoned slots, without those that are empty then

abbrev pub is_kept : Key × Slot → Bool
is_kept entry = not (is_empty_slot entry.1)

no_committed : (committed : Option (List Value)) (pending : Option Change) → not (is_none committed && is_none pending) ≡ false → committed ≡ None
no_committed None pending h = refl
no_committed (Some row) pending h = cc

no_pending : (committed : Option (List Value)) (pending : Option Change) → not (is_none committed && is_none pending) ≡ false → pending ≡ None
no_pending committed None h = refl
no_pending None (Some change) h = cc
no_pending (Some row) (Some change) h = cc

swept_committed : (slots : List (Key × Slot)) → select committed_in (filter is_kept slots) ≡ select committed_in slots
swept_committed slots = select-filter committed_in is_kept (λ e h. no_committed e.1.committed e.1.pending h) slots

swept_pending : (slots : List (Key × Slot)) → select pending_in (filter is_kept slots) ≡ select pending_in slots
swept_pending slots = select-filter pending_in is_kept (λ e h. no_pending e.1.committed e.1.pending h) slots

one_other : (conn : ℕ) (key : Key) (change : Option Change) (rest : List (Key × Change))
    → filter (λ (entry : Key × Change). not (entry.1.conn == conn)) (cons_option (option_map {T = Change} {U = Key × Change} (λ v. (key, v)) change) rest)
    ≡ cons_option (option_map {T = Change} {U = Key × Change} (λ v. (key, v)) (other_than conn change)) (without conn rest)
one_other conn key None rest = refl
one_other conn key (Some change) rest =
    elim (change.conn == conn) as (λ b. cond (not b) ((key, change) ∷ without conn rest) (without conn rest)
    ≡ cons_option (option_map {T = Change} {U = Key × Change} (λ v. (key, v)) (if b then None else Some change)) (without conn rest)) [ true ↦ refl | false ↦ refl ]

left : (conn : ℕ) (slots : List (Key × Slot)) → without conn (select pending_in slots) ≡ select (λ e. other_than conn e.1.pending) slots
left conn [] = refl
left conn (e ∷ es) =
    one_other conn e.0 e.1.pending (select pending_in es)
    ∙ ap (λ (l : List (Key × Change)). cons_option (option_map {T = Change} {U = Key × Change} (λ v. (e.0, v)) (other_than conn e.1.pending)) l) (left conn es)

other_at : (conn : ℕ) (o : Option Slot) → option_and_then (λ slot. other_than conn slot.pending) o ≡ other_than conn (option_and_then (λ slot. slot.pending) o)
other_at conn None = refl
other_at conn (Some slot) = refl

settled_at : (conn : ℕ) (o : Option Slot)
    → option_and_then (λ slot. version_for (Some conn) slot.pending slot.committed) o ≡ version_for (Some conn) (option_and_then (λ slot. slot.pending) o) (option_and_then (λ slot. slot.committed) o)
settled_at conn None = refl
settled_at conn (Some slot) = refl

module _ (conn : ℕ) (slots : List (Key × Slot)) (s : InKeyOrder slots) where
  pub settled_in_order : InKeyOrder (filter is_kept (map (settled_in conn) slots))
  settled_in_order = in_order-filter is_kept (map (settled_in conn) slots) (subst AreInOrder (sym (keys-map (settled_in conn) (λ e. refl) slots)) s)

  pub settled_pending : select pending_in (filter is_kept (map (settled_in conn) slots)) ≡ without conn (select pending_in slots)
  settled_pending =
      swept_pending (map (settled_in conn) slots) ∙ select-map pending_in (settled_in conn) (λ e. other_than conn e.1.pending) (λ e. refl) slots ∙ sym (left conn slots)

  pub settled_committed : (key : Key) → committed_at (versions_of (filter is_kept (map (settled_in conn) slots))) key ≡ version_for (Some conn) (pending_at (versions_of slots) key) (committed_at (versions_of slots) key)
  settled_committed key =
      ap (λ (l : List (Key × List Value)). value_at l key) (swept_committed (map (settled_in conn) slots) ∙ select-map committed_in (settled_in conn) (λ e. version_for (Some conn) e.1.pending e.1.committed) (λ e. refl) slots)
      ∙ value_at-select (λ e. version_for (Some conn) e.1.pending e.1.committed) key slots s
      ∙ settled_at conn (value_at slots key)
      ∙ sym (standing_is slots (Some conn) key s)

  pub abandoned_in_order : InKeyOrder (filter is_kept (map (abandoned_in conn) slots))
  abandoned_in_order = in_order-filter is_kept (map (abandoned_in conn) slots) (subst AreInOrder (sym (keys-map (abandoned_in conn) (λ e. refl) slots)) s)

  pub abandoned_pending : select pending_in (filter is_kept (map (abandoned_in conn) slots)) ≡ without conn (select pending_in slots)
  abandoned_pending =
      swept_pending (map (abandoned_in conn) slots) ∙ select-map pending_in (abandoned_in conn) (λ e. other_than conn e.1.pending) (λ e. refl) slots ∙ sym (left conn slots)

  pub abandoned_committed : select committed_in (filter is_kept (map (abandoned_in conn) slots)) ≡ select committed_in slots
  abandoned_committed = swept_committed (map (abandoned_in conn) slots) ∙ select-map committed_in (abandoned_in conn) committed_in (λ e. refl) slots

  -- at each key the changes of others are left
  pub others_at : (key : Key) → value_at (without conn (select pending_in slots)) key ≡ other_than conn (pending_at (versions_of slots) key)
  others_at key =
      ap (λ (l : List (Key × Change)). value_at l key) (left conn slots)
      ∙ value_at-select (λ e. other_than conn e.1.pending) key slots s
      ∙ other_at conn (value_at slots key)
      ∙ ap (other_than conn) (sym (pending_is slots key s))
