-- A transaction's shard sessions, and those that a port has of it.
use Rattle.std.specs.Prelude.{◌≡◌, ◌≢◌, ◌<◌, ◌↔◌, ℕ, Bool, true, false, List, [], ◌∷◌, ◌++◌, Contains, Some}
use Rattle.std.specs.List.{AllPairs}
use Rattle.std.specs.Option.{is_some}
use Rattle.vl_values.specs.declared.group.Group.{Group}
use Rattle.vl_values.specs.declared.group.Group.TheVariants.{Pre, Main, Post}
use Rattle.vl_port.specs.declared.tx_state.TxState.{TxState}
use Rattle.vl_port.specs.declared.who.Who.{Who}
use Rattle.vl_port.specs.Serving.{Shards}

-- the shards of the group's sessions, in the order of first use
abbrev pub listed : TxState → Group → List ℕ
listed tx Pre = tx.pre
listed tx Main = tx.main
listed tx Post = tx.post

-- the transaction's session of a group
abbrev pub session_of : TxState → Group → Who
session_of tx group = record { session = tx.session; tx = tx.number; group = Some group }

-- the list with this shard behind it
abbrev pub with_session : TxState → Group → List ℕ → TxState
with_session tx Pre shards = record tx { pre = shards }
with_session tx Main shards = record tx { main = shards }
with_session tx Post shards = record tx { post = shards }

-- the group's session on a shard is listed behind the others, where it isn't listed yet
abbrev pub Enlists : TxState → Group → ℕ → Bool → TxState → Type 0
Enlists old group shard true new = (Contains (listed old group) shard → ⊥) × (new ≡ with_session old group (listed old group ++ shard ∷ []))
Enlists old group shard false new = Contains (listed old group) shard × (new ≡ old)

-- transactions are numbered up to this one
abbrev pub last_tx : ℕ
last_tx = 4611686018427387903

-- a shard goes down at most this often
abbrev pub last_incarnation : ℕ
last_incarnation = 4611686018427387903

-- the sessions that the transaction lists are those that it has in the port
pub record IsIn (tx : TxState) (count : ℕ) (seen : Shards) : Type 0 where
  pub known : (group : Group) (shard : ℕ) → shard < count → (Contains (listed tx group) shard ↔ (is_some ((seen shard).sessions (session_of tx group)) ≡ true))
  pub within : (group : Group) (shard : ℕ) → Contains (listed tx group) shard → shard < count
  pub once : (group : Group) → AllPairs (λ one other. one ≢ other) (listed tx group)
