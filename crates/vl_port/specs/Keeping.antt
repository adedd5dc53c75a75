-- What a shard keeps after every call: locks stand behind pending versions, and live sessions behind locks.
use Rattle.std.specs.Prelude.{◌≡◌, ◌≤◌, true, Some, None}
use Rattle.vl_values.specs.declared.key.Key.{Key}
use Rattle.vl_port.specs.declared.change.Change.{Change}
use Rattle.vl_port.specs.declared.opened.Opened.{Opened}
use Rattle.vl_port.specs.declared.who.Who.{Who}
use Rattle.vl_port.specs.Life.{is_live, lives_in}
use Rattle.vl_port.specs.View.{View}

pub record IsKept (view : View) : Type 0 where
  -- the key of a pending version is held by the shard session that made it
  pub held : (key : Key) (change : Change) → view.pending key ≡ Some change → view.holder key ≡ Some change.who
  -- a holder is a live shard session
  pub live : (key : Key) (who : Who) → view.holder key ≡ Some who → is_live view who ≡ true
  -- no session is of an incarnation that is still to come
  pub young : (who : Who) (session : Opened) → view.sessions who ≡ Some session → session.incarnation ≤ view.incarnation
  -- a shard on which a session isn't lost is up
  pub awake : (who : Who) → lives_in view.incarnation (view.sessions who) ≡ true → view.up ≡ true
  -- nothing is in doubt while the shard is up
  pub sure : view.up ≡ true → (key : Key) → view.doubt key ≡ None

-- nothing that a shard session holds is changed by another one
pub record Stays (old new : View) (key : Key) : Type 0 where
  pub holder : new.holder key ≡ old.holder key
  pub pending : new.pending key ≡ old.pending key
  pub committed : new.committed key ≡ old.committed key
