-- Who holds a key once a hold was found, added or removed.
use Rattle.std.proofs.Common.{◌≡◌, ℕ, ◌==◌, Bool, true, false, cond, not, if◌then◌else◌, List, Option, None, Some, get_or, refl, sym, ap, subst, ◌∙◌}
use Rattle.std.specs.Map.{keys_of}
use Rattle.std.specs.Ordering.{eq_by_cmp}
use Rattle.std.proofs.lemmas.Cmp.{eq_by_cmp_equiv}
use Rattle.std.proofs.lemmas.Map.Entries.{lookup-filter-values, option_filter}
use Rattle.std.proofs.lemmas.Map.Keys.{IsDistinct-from_sorted}
use Rattle.vl_values.specs.declared.key.Key.{Key}
use Rattle.vl_values.specs.Key.{key_cmp}
use Rattle.vl_values.specs.Keyed.{InKeyOrder, IsPlace, IsGap, is_key}
use Rattle.vl_values.proofs.KeyOrder.{is_key-true, key_cmp_total}
use Rattle.vl_values.proofs.Keying.{value_at-place, value_at-gap}
use Rattle.vl_locks.specs.Locks.{holder_of, other_than, without, with_holder}

-- the hold at a key's place names the holder
pub holder_at : (holds slice : List (Key × ℕ)) (place : ℕ) (key : Key) (hold : Key × ℕ) → InKeyOrder holds → slice ≡ holds → IsPlace key slice place → hold ≡ get_or holds place hold
    → holder_of holds key ≡ Some hold.1
holder_at holds slice place key hold order same at read =
    value_at-place holds place key hold order (subst (λ (l : List (Key × ℕ)). IsPlace key l place) same at) ∙ ap (λ (h : Key × ℕ). Some h.1) (sym read)

pub nobody_at : (holds slice : List (Key × ℕ)) (place : ℕ) (key : Key) → InKeyOrder holds → slice ≡ holds → IsGap key slice place → holder_of holds key ≡ None
nobody_at holds slice place key order same gap = value_at-gap holds place key order (subst (λ (l : List (Key × ℕ)). IsGap key l place) same gap)

stays_by : (holds : List (Key × ℕ)) (key : Key) (holder : Option ℕ) (other : Key) → holder_of holds key ≡ holder → (b : Bool) → is_key key other ≡ b → holder_of holds other ≡ (if b then holder else holder_of holds other)
stays_by holds key holder other held true one = ap (holder_of holds) (sym (is_key-true key other one)) ∙ held
stays_by holds key holder other held false one = refl

-- a key that goes to its holder changes nothing
pub stays : (holds : List (Key × ℕ)) (key : Key) (holder : Option ℕ) → holder_of holds key ≡ holder → (other : Key) → holder_of holds other ≡ with_holder (holder_of holds) key holder other
stays holds key holder held other = stays_by holds key holder other held (is_key key other) refl

filtered : (conn : ℕ) (holder : Option ℕ) → option_filter (λ h. not (h == conn)) holder ≡ other_than conn holder
filtered conn None = refl
filtered conn (Some h) = elim (h == conn) as (λ b. cond (not b) (Some h) None ≡ (if b then None else Some h)) [ true ↦ refl | false ↦ refl ]

pub released : (conn : ℕ) (holds : List (Key × ℕ)) → InKeyOrder holds → (key : Key) → holder_of (without conn holds) key ≡ other_than conn (holder_of holds key)
released conn holds order key =
    lookup-filter-values {eq = eq_by_cmp key_cmp} (eq_by_cmp_equiv key_cmp_total) (λ h. not (h == conn)) key holds (IsDistinct-from_sorted key_cmp (keys_of holds) order)
    ∙ filtered conn (holder_of holds key)
