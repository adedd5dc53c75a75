-- What a predicate finds, by the slots.
use Rattle.std.proofs.Common.{◌≡◌, ◌↔◌, ℕ, ◌||◌, true, false, cond, List, Option, None, Some, IsTrue, refl, sym, ap, subst, ◌∙◌}
use Rattle.std.specs.List.{Contains, filter}
use Rattle.std.specs.Map.{keys_of}
use Rattle.std.specs.Option.{is_some, option_and_then}
use Rattle.std.proofs.lemmas.Bool.{cond-true}
use Rattle.std.proofs.lemmas.Option.{cond_some, none-some}
use Rattle.vl_values.specs.declared.key.Key.{Key}
use Rattle.vl_values.specs.declared.pred.Pred.{Pred}
use Rattle.vl_values.specs.declared.value.Value.{Value}
use Rattle.vl_values.specs.Keyed.{AreInOrder, InKeyOrder, value_at, select}
use Rattle.vl_values.proofs.Keying.{contains_iff, contains_key_iff, filter_is_select, if_kept, in_order-filter, in_order-select, value_at-select}
use Rattle.vl_rows.specs.declared.change.Change.{Change}
use Rattle.vl_rows.specs.declared.slot.Slot.{Slot}
use Rattle.vl_rows.specs.Matching.{matches_at, row_of, has_match, IsFound}
use Rattle.vl_rows.specs.Slots.{versions_of, found_version, found_in, is_match_in}
use Rattle.vl_rows.specs.Versions.{pending_at, standing_at, version_for}
use Rattle.vl_rows.proofs.Versioning.{committed_is, pending_is, standing_is}

found_at : (pred : Pred) (reader : Option ℕ) (key : Key) (o : Option Slot)
    → option_and_then (λ slot. found_in pred reader (key, slot)) o ≡ found_version pred key (version_for reader (option_and_then (λ slot. slot.pending) o) (option_and_then (λ slot. slot.committed) o))
found_at pred None key None = refl
found_at pred (Some conn) key None = refl
found_at pred reader key (Some slot) = refl

is_found : (pred : Pred) (key : Key) (version : Option (List Value)) (row : List Value) → found_version pred key version ≡ Some row → (version ≡ Some row) × IsTrue (matches_at pred key (Some row))
is_found pred key None row h = absurd (none-some row h)
is_found pred key (Some r) row h =
    let both = cond_some (matches_at pred key (Some r)) r row h in
    (ap Some both.1, subst (λ (x : List Value). matches_at pred key (Some x) ≡ true) both.1 both.0)

finds : (pred : Pred) (key : Key) (version : Option (List Value)) (row : List Value) → version ≡ Some row → IsTrue (matches_at pred key (Some row)) → found_version pred key version ≡ Some row
finds pred key version row is matching = ap (found_version pred key) is ∙ cond-true _ _ _ matching

module _ (slots : List (Key × Slot)) (s : InKeyOrder slots) (pred : Pred) where
  module _ (reader : Option ℕ) where
    pub found_in_order : InKeyOrder (select (found_in pred reader) slots)
    found_in_order = in_order-select (found_in pred reader) slots s

    value_found : (key : Key) → value_at (select (found_in pred reader) slots) key ≡ found_version pred key (standing_at (versions_of slots) reader key)
    value_found key =
        value_at-select (found_in pred reader) key slots s ∙ found_at pred reader key (value_at slots key) ∙ ap (found_version pred key) (sym (standing_is slots reader key s))

    pub found_iff : (entry : Key × List Value) → Contains (select (found_in pred reader) slots) entry ↔ IsFound (versions_of slots) reader pred entry
    found_iff entry =
        let members = contains_iff (select (found_in pred reader) slots) entry found_in_order in (
          λ inside. is_found pred entry.0 _ entry.1 (sym (value_found entry.0) ∙ members.0 inside),
          λ found. members.1 (value_found entry.0 ∙ finds pred entry.0 _ entry.1 found.0 found.1),
        )

  matched_at : (key : Key) (o : Option Slot)
      → is_some (option_and_then (λ slot. if_kept (is_match_in pred) (key, slot)) o)
      ≡ (matches_at pred key (option_and_then (λ slot. slot.committed) o) || matches_at pred key (row_of (option_and_then (λ slot. slot.pending) o)))
  matched_at key None = refl
  matched_at key (Some slot) = elim (is_match_in pred (key, slot)) as (λ b. is_some (cond b (Some slot) None) ≡ b) [ true ↦ refl | false ↦ refl ]

  pub matched_in_order : AreInOrder (keys_of (filter (is_match_in pred) slots))
  matched_in_order = in_order-filter (is_match_in pred) slots s

  is_matched : (key : Key) → is_some (value_at (filter (is_match_in pred) slots) key) ≡ has_match (versions_of slots) pred key
  is_matched key =
      ap (λ (l : List (Key × Slot)). is_some (value_at l key)) (filter_is_select (is_match_in pred) slots)
      ∙ ap is_some (value_at-select (if_kept (is_match_in pred)) key slots s)
      ∙ matched_at key (value_at slots key)
      ∙ sym (ap (λ (o : Option (List Value)). matches_at pred key o || matches_at pred key (row_of (pending_at (versions_of slots) key))) (committed_is slots key s)
      ∙ ap (λ (o : Option Change). matches_at pred key (option_and_then (λ slot. slot.committed) (value_at slots key)) || matches_at pred key (row_of o)) (pending_is slots key s))

  pub matched_iff : (key : Key) → Contains (keys_of (filter (is_match_in pred) slots)) key ↔ IsTrue (has_match (versions_of slots) pred key)
  matched_iff key =
      let members = contains_key_iff (filter (is_match_in pred) slots) key in
      (λ inside. sym (is_matched key) ∙ members.0 inside, λ matching. members.1 (is_matched key ∙ matching))
