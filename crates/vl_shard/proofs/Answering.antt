-- What a call answers, from what its steps did.
use Rattle.std.proofs.Common.{◌≡◌, ℕ, Bool, true, cond, List, [], ◌∷◌, Option, Some, None, sym, ap, subst, ◌∙◌}
use Rattle.std.specs.List.Sorted.{IsStrictlySortedBy}
use Rattle.vl_values.specs.declared.key.Key.{Key}
use Rattle.vl_values.specs.Keyed.{is_among_keys, AreInOrder}
use Rattle.vl_values.proofs.KeyOrder.{is_key-same}
use Rattle.vl_port.specs.declared.act.Act.{Act}
use Rattle.vl_port.specs.declared.act.Act.TheVariants.{Remove}
use Rattle.vl_port.specs.declared.who.Who.{Who}
use Rattle.vl_port.specs.View.{View, Values, has_group}
use Rattle.vl_port.specs.Holding.{needs, IsFree, IsHeld}
use Rattle.vl_port.specs.Acting.{taken}
use Rattle.vl_port.specs.Life.{opened}
use Rattle.vl_shard.specs.Seats.{IsPlaceFor}
use Rattle.vl_shard.specs.Parts.{Parts, view_of, IsWhole}
use Rattle.vl_shard.specs.Obtaining.{Obtains, HasObtained, IsRefused}
use Rattle.vl_shard.specs.Changing.{IsUnseen, IsWritten, TakesKey, key_changed}
use Rattle.vl_locks.specs.Locks.{holder_of}
use Rattle.vl_shard.proofs.Telling.{unseen}
use Rattle.vl_shard.proofs.Obtained.{free_view, held_view, view_taken, view_refused}
use Rattle.vl_shard.proofs.Doing.{only_needed, view_written, changed_view}

one_in_order : (key : Key) → AreInOrder (key ∷ [])
unfolding IsStrictlySortedBy
one_in_order key = (tt, tt)

pub only_in_order : (keys : List Key) (key : Key) → keys ≡ key ∷ [] → AreInOrder keys
only_in_order keys key is = subst AreInOrder (sym is) (one_in_order key)

module _ (old mid new : Parts) (who : Who) (conn : ℕ) (act : Act) (keys : List Key) (room : IsUnseen old mid) (whole : IsWhole mid) (place : IsPlaceFor mid.seats who conn) (group : has_group who.group ≡ true)
    (needed : (key : Key) → is_among_keys keys key ≡ needs (view_of old) act key) where
  needed_still : (key : Key) → is_among_keys keys key ≡ needs (view_of mid) act key
  needed_still key = needed key ∙ ap (λ (v : View). needs v act key) (sym (unseen old mid room))

  pub refused : AreInOrder keys → (by : ℕ) (key : Key) → IsRefused mid who conn keys by key new → IsHeld (view_of old) who act by key × (view_of new ≡ opened who (view_of old))
  refused order by key r =
      subst (λ (v : View). IsHeld v who act by key × (view_of new ≡ opened who v)) (unseen old mid room)
      (held_view mid who conn whole place act keys needed_still order by key r.first, view_refused mid new who conn whole group r.sat r.rows r.incarnation r.holds)

  pub obtained : HasObtained mid who conn keys new → IsFree (view_of old) who act × (view_of new ≡ taken who act (view_of old))
  obtained o =
      subst (λ (v : View). IsFree v who act × (view_of new ≡ taken who act v)) (unseen old mid room)
      (free_view mid who conn whole place act keys needed_still o.free, view_taken mid new who conn whole group o.sat o.rows o.incarnation act keys needed_still o.holds)

-- the lock of one key was taken, so that the session holds it
pub only_held : (old new : Parts) (who : Who) (conn : ℕ) (keys : List Key) (key : Key) → keys ≡ key ∷ [] → HasObtained old who conn keys new → holder_of new.holds key ≡ Some conn
only_held old new who conn keys key is o =
    o.holds key ∙ ap (λ (b : Bool). cond b (Some conn) (holder_of old.holds key)) (only_needed keys key is key ∙ is_key-same key)

pub changed : (old mid new last : Parts) (who : Who) (conn : ℕ) (keys : List Key) (key : Key) (row : Option Values) → IsUnseen old mid → IsWhole mid → IsPlaceFor mid.seats who conn → has_group who.group ≡ true
    → keys ≡ key ∷ [] → HasObtained mid who conn keys new → IsWritten new key row conn last → IsFree (view_of old) who (Remove key) × (view_of last ≡ key_changed who key row (view_of old))
changed old mid new last who conn keys key row room whole place group is o w =
    let t = obtained old mid new who conn (Remove key) keys room whole place group (only_needed keys key is) o in
    (t.0, view_written new last key row conn w who o.sat.own ∙ changed_view who key row (view_of old) (view_of new) t.1)

pub takes_key : (old mid new : Parts) (who : Who) (conn : ℕ) (keys : List Key) (key : Key) (held : Option (ℕ × Key)) → IsUnseen old mid → IsWhole mid → IsPlaceFor mid.seats who conn → has_group who.group ≡ true
    → keys ≡ key ∷ [] → Obtains mid who conn keys held new → TakesKey (view_of old) who key held (view_of new)
takes_key old mid new who conn keys key None room whole place group is o = obtained old mid new who conn (Remove key) keys room whole place group (only_needed keys key is) o
takes_key old mid new who conn keys key (Some held) room whole place group is o =
    refused old mid new who conn (Remove key) keys room whole place group (only_needed keys key is) (only_in_order keys key is) held.0 held.1 o
