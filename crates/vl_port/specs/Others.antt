-- What a call that acts for one transaction leaves of all others.
use Rattle.std.specs.Prelude.{◌≡◌, ◌≢◌, ◌≤◌, ◌⊎◌, ℕ, Some}
use Rattle.vl_values.specs.declared.key.Key.{Key}
use Rattle.vl_port.specs.declared.who.Who.{Who}
use Rattle.vl_port.specs.Keeping.{Stays}
use Rattle.vl_port.specs.Life.{WentDown}
use Rattle.vl_port.specs.Serving.{Shards}

pub record LeavesOthers (tx : ℕ) (old new : Shards) : Type 0 where
  -- no shard session of another transaction is opened, lost or ended
  pub sessions : (shard : ℕ) (who : Who) → who.tx ≢ tx → (new shard).sessions who ≡ (old shard).sessions who
  -- what another transaction holds keeps its holder and its versions, unless the shard went down
  pub keys : (shard : ℕ) (who : Who) (key : Key) → who.tx ≢ tx → (old shard).holder key ≡ Some who → WentDown (old shard) (new shard) ⊎ Stays (old shard) (new shard) key
  -- and no shard goes back to an earlier incarnation
  pub later : (shard : ℕ) → (old shard).incarnation ≤ (new shard).incarnation
