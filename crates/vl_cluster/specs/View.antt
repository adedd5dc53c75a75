-- What contracts see of the core, and what an event does to it.
use Rattle.std.specs.Prelude.{◌≡◌, ℕ, ◌+◌, ◌<◌, ◌≤◌, ◌⊎◌, List, [], ◌∷◌, ◌++◌, length, remove, slice_index_or, slice_set, Contains}
use Rattle.vl_values.specs.declared.reply.Reply.{Reply as AReply}
use Rattle.vl_values.specs.declared.reply.Reply.TheVariants.{Ok, Rows, Err}
use Rattle.vl_model.specs.Tables.{Tables}
use Rattle.vl_model.specs.Steps.{Step, table_rows}
use Rattle.vl_sql.specs.declared.stmt.Stmt.{Stmt}
use Rattle.vl_cluster.specs.declared.ask.Ask.{Ask}
use Rattle.vl_cluster.specs.declared.ask.Ask.TheVariants.{Say}
use Rattle.vl_cluster.specs.declared.session.Session.{Session}
use Rattle.vl_cluster.specs.declared.what.What.{What}
use Rattle.vl_cluster.specs.declared.what.What.TheVariants.{Reply, Stray}
use Rattle.vl_cluster.specs.Numbers.{IsNextFree, IsFree}
pub use Rattle.vl_cluster.specs.Numbers.{last_event, next_event}

pub record View : Type 0 where
  -- the rows that each shard holds
  pub tables : Tables
  -- the joined sessions, each with its last event number
  pub joined : List Session
  -- the number of the last event
  pub at : ℕ
  -- the number that a session was given last, 0 before the first
  pub named : ℕ

-- the statement that a session asks
abbrev pub stmt_of : Ask → Stmt
stmt_of (Say stmt) = stmt

-- no joined session has the pass's number and last event number, or the last event number is reached
abbrev pub IsStray : View → Session → Type 0
IsStray view pass = (Contains view.joined pass → ⊥) ⊎ (view.at ≡ last_event)

-- one joined session has a new last event number
abbrev pub Replaces : List Session → Session → Session → List Session → Type 0
Replaces joined pass next new = (i : ℕ) × (i < length joined) × (slice_index_or joined i pass ≡ pass) × (new ≡ slice_set joined i next)

-- what holds where a statement is refused
abbrev pub IfRefused : AReply → Type 0 → Type 0
IfRefused (Ok affected found warnings tx auto) P = Unit {0}
IfRefused (Rows columns rows tx auto) P = Unit {0}
IfRefused (Err code why tx) P = P

-- a statement was answered: a step of the one table, in an event of its own
pub record Answers (old : View) (pass : Session) (stmt : Stmt) (next : Session) (reply : AReply) (new : View) : Type 0 where
  pub joined : Contains old.joined pass
  pub before_last : old.at < last_event
  pub step : Step (table_rows old.tables) stmt reply (table_rows new.tables)
  -- a refusal leaves rows and entries as they were
  pub kept : IfRefused reply (new.tables ≡ old.tables)
  pub at : new.at ≡ old.at + 1
  pub named : new.named ≡ old.named
  pub next_is : next ≡ record { number = pass.number; at = new.at }
  -- the event is later than each that the pass saw
  pub rises : pass.at < next.at
  pub sessions : Replaces old.joined pass next new.joined

-- what the core tells of a statement, and what has changed
abbrev pub Acted : View → Session → Stmt → Session → What → View → Type 0
Acted old pass stmt next Stray new = IsStray old pass × (next ≡ pass) × (new ≡ old)
Acted old pass stmt next (Reply reply) new = Answers old pass stmt next reply new

-- a session joined: it has the next number that no joined session has, and an event of its own
pub record Joins (old : View) (pass : Session) (new : View) : Type 0 where
  pub fresh : IsFree old.joined pass.number
  pub number : IsNextFree old.joined old.named pass.number
  pub named : new.named ≡ pass.number
  pub tables : new.tables ≡ old.tables
  pub at : new.at ≡ next_event old.at
  pub pass_at : pass.at ≡ new.at
  pub within : pass.at ≤ last_event
  pub sessions : new.joined ≡ old.joined ++ pass ∷ []

-- a session left; a pass that no joined session has does nothing
pub record Leaves (old : View) (pass : Session) (new : View) : Type 0 where
  pub tables : new.tables ≡ old.tables
  pub named : new.named ≡ old.named
  pub joined : Contains old.joined pass → (new.at ≡ next_event old.at) × ((i : ℕ) × (i < length old.joined) × (slice_index_or old.joined i pass ≡ pass) × (new.joined ≡ remove old.joined i))
  pub stray : (Contains old.joined pass → ⊥) → new ≡ old
