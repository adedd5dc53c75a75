-- What shards without devices keep, and which sessions stand in the way of none of their own transaction.
use Rattle.std.specs.Prelude.{◌≡◌, ◌<◌, ◌≤◌, ◌==◌, ℕ, true, false, slice_get, Some, None}
use Rattle.std.specs.Option.{is_some}
use Rattle.vl_values.specs.declared.group.Group.TheVariants.{Post}
use Rattle.vl_values.specs.declared.key.Key.{Key}
use Rattle.vl_catalog.specs.declared.catalog.Catalog.{Catalog}
use Rattle.vl_catalog.specs.declared.primary.Primary.{Primary}
use Rattle.vl_catalog.specs.declared.table.Table.{Table}
use Rattle.vl_port.specs.declared.act.Act.{Act}
use Rattle.vl_port.specs.declared.tx_state.TxState.{TxState}
use Rattle.vl_port.specs.declared.who.Who.{Who}
use Rattle.vl_port.specs.Holding.{is_blocked}
use Rattle.vl_port.specs.Serving.{Serves, Shards}
use Rattle.vl_port.specs.View.{View}
use Rattle.vl_replay.specs.Lanes.{InLanes}
use Rattle.vl_run.specs.Replays.{Replays}
use Rattle.vl_run.specs.Run.{Run}

-- where a table's primary vindex goes by a column, that is one of its primary key: so each row of a key has one place
abbrev pub ArePlacedByKey : Catalog → Type 0
ArePlacedByKey catalog = (number : ℕ) (table : Table) (primary : Primary) → slice_get catalog.tables number ≡ Some table → table.primary ≡ Some primary → (k : ℕ) × (slice_get table.pk k ≡ Some primary.column)

-- no shard is down
abbrev pub AreUp : ℕ → Shards → Type 0
AreUp count seen = (shard : ℕ) → shard < count → (seen shard).up ≡ true

-- behind the last shard nothing is held and nothing is changed
pub record AreBare (count : ℕ) (seen : Shards) : Type 0 where
  pub holders : (shard : ℕ) (key : Key) → count ≤ shard → (seen shard).holder key ≡ None
  pub changes : (shard : ℕ) (key : Key) → count ≤ shard → (seen shard).pending key ≡ None

-- no shard has anything
pub record AreEmpty (seen : Shards) : Type 0 where
  pub committed : (shard : ℕ) (key : Key) → (seen shard).committed key ≡ None
  pub pending : (shard : ℕ) (key : Key) → (seen shard).pending key ≡ None
  pub holder : (shard : ℕ) (key : Key) → (seen shard).holder key ≡ None

-- the shards of a cluster show what its run says, each key is in the lane of who has it, and no shard is down
pub record Shows (catalog : Catalog) (past : Run) (count : ℕ) (seen : Shards) : Type 0 where
  pub keyed : ArePlacedByKey catalog
  pub replays : Replays catalog past seen
  pub serves : Serves catalog count seen
  pub lanes : InLanes catalog count seen
  pub up : AreUp count seen
  pub bare : AreBare count seen

-- the transaction's shard sessions are all of the client session that has it
pub record IsOwned (tx session count : ℕ) (seen : Shards) : Type 0 where
  pub own : (shard : ℕ) (who : Who) → shard < count → is_some ((seen shard).sessions who) ≡ true → who.tx ≡ tx → who.session ≡ session

-- no key that the act must obtain is held by another session of its own transaction
pub record IsAlone (view : View) (who : Who) (act : Act) : Type 0 where
  pub apart : (key : Key) (holder : Who) → is_blocked view who act key ≡ true → view.holder key ≡ Some holder → (holder.tx == who.tx) ≡ false

-- the transaction has no session of post on the shard
pub record HasNoPost (view : View) (tx : ℕ) : Type 0 where
  pub none : (who : Who) → who.tx ≡ tx → who.group ≡ Some Post → view.sessions who ≡ None

-- what a port keeps that ends a transaction
pub record IsWhole (catalog : Catalog) (tx : TxState) (count : ℕ) (seen : Shards) : Type 0 where
  pub serves : Serves catalog count seen
  pub lanes : InLanes catalog count seen
  pub bare : AreBare count seen
  pub owned : IsOwned tx.number tx.session count seen
