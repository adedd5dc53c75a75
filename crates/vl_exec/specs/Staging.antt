-- Transactions side by side on the shards of a port, each with the program that it runs, as tests step them.
use Rattle.std.specs.Prelude.{◌≡◌, ◌≤◌, ◌<◌, ℕ, List, length, slice_index_or, Option, None, IfSome}
use Rattle.vl_catalog.specs.declared.catalog.Catalog.{Catalog}
use Rattle.vl_catalog.specs.Place.{shard_count}
use Rattle.vl_rules.specs.Order.{Checked}
use Rattle.vl_port.specs.declared.tx_state.TxState.{TxState}
use Rattle.vl_port.specs.declared.who.Who.{Who}
use Rattle.vl_port.specs.Serving.{Serves, Shards}
use Rattle.vl_port.specs.Transaction.{IsIn, last_tx}
use Rattle.vl_exec.specs.Making.{IsMade}
use Rattle.vl_exec.specs.declared.program.Program.{Program}

abbrev pub Client : Type 0
Client = TxState × Option Program

-- the port has the sessions that the transaction lists, and its program may be stepped
pub record IsClient (catalog : Catalog) (seen : Shards) (client : Client) : Type 0 where
  pub number : client.0.number ≤ last_tx
  pub sessions : IsIn client.0 (shard_count catalog.rings) seen
  pub made : IfSome client.1 (λ program. IsMade catalog (shard_count catalog.rings) client.0.limits.tries program)

-- the client of this place in the list has its number
abbrev pub IsNumbered : Catalog → Shards → ℕ → Client → Type 0
IsNumbered catalog seen n client = (client.0.number ≡ n) × IsClient catalog seen client

-- the port serves the catalog, and no transaction of a later number has a session
pub record AreClients (catalog : Catalog) (count : ℕ) (seen : Shards) (clients : List Client) : Type 0 where
  pub checked : Checked catalog
  pub serves : Serves catalog count seen
  pub each : (n : ℕ) (any : Client) → n < length clients → IsNumbered catalog seen n (slice_index_or clients n any)
  pub free : (shard : ℕ) (who : Who) → shard < shard_count catalog.rings → length clients ≤ who.tx → (seen shard).sessions who ≡ None
