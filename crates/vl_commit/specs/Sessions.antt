-- The sessions of a transaction in the order in which they are committed, and which of them are left.
use Rattle.std.specs.Prelude.{◌≡◌, ◌<◌, ◌≤◌, ℕ, ◌+◌, true, List, ◌++◌, map, length, slice_get, Some, None}
use Rattle.std.specs.Option.{is_some}
use Rattle.vl_values.specs.declared.group.Group.{Group}
use Rattle.vl_values.specs.declared.group.Group.TheVariants.{Pre, Main, Post}
use Rattle.vl_values.specs.declared.key.Key.{Key}
use Rattle.vl_port.specs.declared.change.Change.{Change}
use Rattle.vl_port.specs.declared.tx_state.TxState.{TxState}
use Rattle.vl_port.specs.Serving.{Shards}
use Rattle.vl_port.specs.Transaction.{session_of}

-- a session of the transaction: its group and its shard
abbrev pub Session : Type 0
Session = Group × ℕ

abbrev pub of_group : Group → ℕ → Session
of_group group shard = (group, shard)

-- pre, main, then post, each in the order of first use
abbrev pub sessions : TxState → List Session
sessions tx = map (of_group Pre) tx.pre ++ (map (of_group Main) tx.main ++ map (of_group Post) tx.post)

-- the place of the group's first session
abbrev pub start_of : TxState → Group → ℕ
start_of tx Pre = 0
start_of tx Main = length tx.pre
start_of tx Post = length tx.pre + length tx.main

-- the session was opened and hasn't ended
abbrev pub IsOpen : TxState → ℕ → Shards → Session → Type 0
IsOpen tx count seen session = (session.1 < count) × (is_some ((seen session.1).sessions (session_of tx session.0)) ≡ true)

-- of the transaction's sessions those from this place on are open, and no others
pub record AreLeft (tx : TxState) (from count : ℕ) (seen : Shards) : Type 0 where
  pub opened : (n : ℕ) (session : Session) → from ≤ n → slice_get (sessions tx) n ≡ Some session → IsOpen tx count seen session
  pub only : (session : Session) → IsOpen tx count seen session → (n : ℕ) × (from ≤ n) × (slice_get (sessions tx) n ≡ Some session)
  pub once : (m n : ℕ) (session : Session) → slice_get (sessions tx) m ≡ Some session → slice_get (sessions tx) n ≡ Some session → m ≡ n

-- no session of the group is open on any shard
abbrev pub HasEndedIn : Group → TxState → ℕ → Shards → Type 0
HasEndedIn group tx count seen = (shard : ℕ) → shard < count → (seen shard).sessions (session_of tx group) ≡ None

-- no session of the transaction is open
abbrev pub HasEnded : TxState → ℕ → Shards → Type 0
HasEnded tx count seen = (group : Group) → HasEndedIn group tx count seen

-- no session of the transaction is open, no key is locked by one, and no pending version is of one
pub record HasNothingLeft (tx : TxState) (count : ℕ) (seen : Shards) : Type 0 where
  pub ended : HasEnded tx count seen
  pub locks : (group : Group) (shard : ℕ) (key : Key) → shard < count → (seen shard).holder key ≡ Some (session_of tx group) → ⊥
  pub versions : (group : Group) (shard : ℕ) (key : Key) (change : Change) → shard < count → (seen shard).pending key ≡ Some change → change.who ≡ session_of tx group → ⊥

-- sessions of the one group are committed before those of the other
abbrev pub IsBefore : Group → Group → Type 0
IsBefore Pre Pre = ⊥
IsBefore Pre Main = Unit {0}
IsBefore Pre Post = Unit {0}
IsBefore Main Pre = ⊥
IsBefore Main Main = ⊥
IsBefore Main Post = Unit {0}
IsBefore Post other = ⊥

-- all sessions of the groups before this one have ended
abbrev pub IsInTurn : Group → TxState → ℕ → Shards → Type 0
IsInTurn group tx count seen = (earlier : Group) → IsBefore earlier group → HasEndedIn earlier tx count seen
