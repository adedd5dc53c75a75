-- Locks: which keys an act must obtain, and who stands in its way.
use Rattle.std.specs.Prelude.{◌≡◌, Bool, true, false, ℕ, ◌&&◌, ◌||◌, not, Option, Some, None}
use Rattle.vl_values.specs.declared.key.Key.{Key}
use Rattle.vl_port.specs.declared.act.Act.{Act}
use Rattle.vl_port.specs.declared.act.Act.TheVariants.{Insert, Put, Remove, RemoveIf, Find}
use Rattle.vl_port.specs.declared.who.Who.{Who}
use Rattle.vl_values.specs.Keyed.{is_key, comes_before}
use Rattle.vl_port.specs.View.{View, is_who, changed_to}
use Rattle.vl_port.specs.Reading.{is_match}

-- a write must obtain its key, also where the key doesn't exist; a locking read each key whose
-- committed version or any pending version matches; a plain read none
abbrev pub needs : View → Act → Key → Bool
needs view (Insert key row) k = is_key key k
needs view (Put key row) k = is_key key k
needs view (Remove key) k = is_key key k
needs view (RemoveIf key column value) k = is_key key k
needs view (Find pred locking) k = locking && (is_match pred k (view.committed k) || is_match pred k (changed_to (view.pending k)))

abbrev pub is_held_by_other : Who → Option Who → Bool
is_held_by_other who None = false
is_held_by_other who (Some holder) = not (is_who holder who)

-- a key that the act must obtain is held by another shard session
abbrev pub is_blocked : View → Who → Act → Key → Bool
is_blocked view who act key = needs view act key && is_held_by_other who (view.holder key)

abbrev pub IsFree : View → Who → Act → Type 0
IsFree view who act = (key : Key) → is_blocked view who act key ≡ false

-- the least key that is held, and the client session that holds it
pub record IsHeld (view : View) (who : Who) (act : Act) (by : ℕ) (key : Key) : Type 0 where
  pub blocked : is_blocked view who act key ≡ true
  pub holder : (other : Who) × (view.holder key ≡ Some other) × (other.session ≡ by)
  pub least : (k : Key) → is_blocked view who act k ≡ true → comes_before k key ≡ false
