-- A client session: who owns the open transaction, autocommit, the statement in progress, the chosen keyspace; and what
-- its statements do to that.
use Rattle.std.specs.Prelude.{◌≡◌, ◌&&◌, not, if◌then◌else◌, ℕ, Bool, true, false, List, Option, Some, None}
use Rattle.std.specs.Option.{is_some, option_map}
use Rattle.vl_sql.specs.declared.stmt.Stmt.{Stmt}
use Rattle.vl_sql.specs.declared.stmt.Stmt.TheVariants as stmts
use Rattle.vl_run.specs.declared.request.Request.{Request}
use Rattle.vl_run.specs.declared.request.Request.TheVariants as requests
use Rattle.vl_run.specs.declared.tag.Tag.{Tag}
use Rattle.vl_run.specs.declared.tag.Tag.TheVariants as tags

-- an open transaction: its number, and whether it is that of a single statement, which ends it
pub record Owned : Type 0 where
  pub number : ℕ
  pub single : Bool

pub record Session : Type 0 where
  pub auto : Bool
  pub owned : Option Owned
  pub doing : Option Stmt
  pub keyspace : Option (List ℕ)

-- a session that has just joined
abbrev pub fresh : Session
fresh = record { auto = true; owned = None; doing = None; keyspace = None }

-- ---- what a statement is to a transaction

pub data Kind : Type 0 where
  -- it reads or writes a table
  Works : Kind
  -- BEGIN, START TRANSACTION
  Begins : Kind
  Commits : Kind
  RollsBack : Kind
  SetsAuto : Bool → Kind
  -- it touches neither: SET NAMES, USE, SHOW, SELECT without a table
  Stays : Kind

abbrev pub kind_of : Stmt → Kind
kind_of (stmts.Insert t names rows) = Works
kind_of (stmts.Select what t tests orders limit lock) = Works
kind_of (stmts.Update t assignments tests) = Works
kind_of (stmts.Delete t tests) = Works
kind_of stmts.Begin = Begins
kind_of stmts.StartTransaction = Begins
kind_of stmts.Commit = Commits
kind_of stmts.Rollback = RollsBack
kind_of (stmts.SetAutocommit on) = SetsAuto on
kind_of (stmts.SetNames charset) = Stays
kind_of (stmts.Use name) = Stays
kind_of stmts.ShowTables = Stays
kind_of stmts.ShowDatabases = Stays
kind_of stmts.ShowWarnings = Stays
kind_of stmts.SelectVersionComment = Stays
kind_of stmts.SelectDatabase = Stays

-- ---- when a transaction opens

-- a statement on a table opens one where none is open. With autocommit on it is that of this statement alone
abbrev pub opened_for : Kind → Bool → Option Owned → ℕ → Option Owned
opened_for Works auto None next = Some (record { number = next; single = auto })
opened_for Works auto (Some owned) next = Some owned
opened_for Begins auto owned next = owned
opened_for Commits auto owned next = owned
opened_for RollsBack auto owned next = owned
opened_for (SetsAuto on) auto owned next = owned
opened_for Stays auto owned next = owned

-- whether it opens one as it is said; BEGIN opens one where it is answered
abbrev pub opens_first : Kind → Option Owned → Bool
opens_first Works None = true
opens_first Works (Some owned) = false
opens_first Begins owned = false
opens_first Commits owned = false
opens_first RollsBack owned = false
opens_first (SetsAuto on) owned = false
opens_first Stays owned = false

-- ---- when a transaction is committed

abbrev pub is_single : Option Owned → Bool
is_single None = false
is_single (Some owned) = owned.single

-- whether the statement ends with a commit, of the transaction that is open then: a transaction of a single statement
-- ends with it, and BEGIN, COMMIT and SET autocommit=1 commit an open one
abbrev pub is_committing : Kind → Option Owned → Bool
is_committing Works owned = is_single owned
is_committing Begins owned = is_some owned
is_committing Commits owned = is_some owned
is_committing RollsBack owned = false
is_committing (SetsAuto true) owned = is_some owned
is_committing (SetsAuto false) owned = false
is_committing Stays owned = false

-- ---- what is left of a transaction

-- where the statement was done. BEGIN has opened one of this number
abbrev pub owned_done : Kind → Option Owned → Option ℕ → Option Owned
owned_done Works owned opens = if is_single owned then None else owned
owned_done Begins owned opens = option_map (λ number. record { number = number; single = false }) opens
owned_done Commits owned opens = None
owned_done RollsBack owned opens = None
owned_done (SetsAuto true) owned opens = None
owned_done (SetsAuto false) owned opens = owned
owned_done Stays owned opens = owned

-- where it was refused. `wrote`: the statement has made a pending version. `whole`: a shard session was lost, a device
-- failed, or a commit did
abbrev pub is_kept : Bool → Bool → Option Owned → Bool
is_kept wrote whole None = false
is_kept wrote whole (Some owned) = not owned.single && (not wrote && not whole)

abbrev pub owned_refused : Bool → Option Owned → Option Owned
owned_refused true owned = owned
owned_refused false owned = None

abbrev pub auto_done : Kind → Bool → Bool
auto_done (SetsAuto on) auto = on
auto_done Works auto = auto
auto_done Begins auto = auto
auto_done Commits auto = auto
auto_done RollsBack auto = auto
auto_done Stays auto = auto

abbrev pub keyspace_done : Stmt → Option (List ℕ) → Option (List ℕ)
keyspace_done (stmts.Use name) keyspace = Some name
keyspace_done (stmts.Insert t names rows) keyspace = keyspace
keyspace_done (stmts.Select what t tests orders limit lock) keyspace = keyspace
keyspace_done (stmts.Update t assignments tests) keyspace = keyspace
keyspace_done (stmts.Delete t tests) keyspace = keyspace
keyspace_done stmts.Begin keyspace = keyspace
keyspace_done stmts.StartTransaction keyspace = keyspace
keyspace_done stmts.Commit keyspace = keyspace
keyspace_done stmts.Rollback keyspace = keyspace
keyspace_done (stmts.SetAutocommit on) keyspace = keyspace
keyspace_done (stmts.SetNames charset) keyspace = keyspace
keyspace_done stmts.ShowTables keyspace = keyspace
keyspace_done stmts.ShowDatabases keyspace = keyspace
keyspace_done stmts.ShowWarnings keyspace = keyspace
keyspace_done stmts.SelectVersionComment keyspace = keyspace
keyspace_done stmts.SelectDatabase keyspace = keyspace

-- ---- a session's steps

-- the session says a statement, by which a transaction was opened or not
abbrev pub said : Stmt → Option ℕ → Session → Session
said stmt None s = record s { doing = Some stmt }
said stmt (Some number) s = record s { doing = Some stmt; owned = opened_for (kind_of stmt) s.auto s.owned number }

abbrev pub done_by : Stmt → Option ℕ → Session → Session
done_by stmt opens s = record s {
  auto = auto_done (kind_of stmt) s.auto;
  owned = owned_done (kind_of stmt) s.owned opens;
  doing = None;
  keyspace = keyspace_done stmt s.keyspace;
}

-- a refusal leaves autocommit and the keyspace as they were
abbrev pub refused_by : Bool → Session → Session
refused_by kept s = record s { owned = owned_refused kept s.owned; doing = None }

abbrev pub answered : Tag → Stmt → Option ℕ → Session → Session
answered tags.Nothing stmt opens s = s
answered tags.More stmt opens s = s
answered (tags.Held by tries) stmt opens s = s
answered (tags.Ok affected found warnings tx auto) stmt opens s = done_by stmt opens s
answered (tags.Rows tx auto) stmt opens s = done_by stmt opens s
answered (tags.Err code tx) stmt opens s = refused_by tx s

-- the statement in progress goes on; without one nothing does
abbrev pub goes_on : Tag → Option ℕ → Session → Option Stmt → Session
goes_on told opens s None = s
goes_on told opens s (Some stmt) = answered told stmt opens s

-- back to the beginning: all is rolled back, and autocommit is on. The chosen keyspace stays
abbrev pub reset : Session → Session
reset s = record s { auto = true; owned = None; doing = None }

-- what an event of its own makes of the session
abbrev pub session_after : Request → Tag → Option ℕ → Session → Session
session_after requests.Join told opens s = fresh
session_after (requests.Say stmt) told opens s = answered told stmt opens (said stmt opens s)
session_after requests.Step told opens s = goes_on told opens s s.doing
session_after requests.Reset told opens s = reset s
session_after requests.Leave told opens s = fresh
session_after (requests.Kill who shard) told opens s = s

-- ---- what a reply says of it

-- the reply tells truly whether a transaction stays open, and whether autocommit is on
abbrev pub IsTold : Tag → Session → Type 0
IsTold (tags.Ok affected found warnings tx auto) s = (tx ≡ is_some s.owned) × (auto ≡ s.auto)
IsTold (tags.Rows tx auto) s = (tx ≡ is_some s.owned) × (auto ≡ s.auto)
IsTold (tags.Err code tx) s = tx ≡ is_some s.owned
IsTold tags.Nothing s = Unit {0}
IsTold tags.More s = Unit {0}
IsTold (tags.Held by tries) s = Unit {0}
