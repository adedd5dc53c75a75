-- What a shard has, and what a port tells of it.
use Rattle.std.specs.Prelude.{◌≡◌, ◌≤◌, ℕ, true, List}
use Rattle.std.specs.declared.option.Option.{Option}
use Rattle.std.specs.declared.option.Option.TheVariants.{Some, None}
use Rattle.std.specs.Option.{is_some}
use Rattle.vl_values.specs.declared.key.Key.{Key}
use Rattle.vl_values.specs.declared.value.Value.{Value}
use Rattle.vl_port.specs.declared.change.Change.{Change}
use Rattle.vl_port.specs.declared.opened.Opened.{Opened}
use Rattle.vl_port.specs.declared.who.Who.{Who}
use Rattle.vl_port.specs.Life.{lives_in}
use Rattle.vl_port.specs.View.{View}
use Rattle.vl_rows.specs.declared.change.Change.{Change as RowChange}
use Rattle.vl_rows.specs.Versions.{Versions, committed_at, pending_at}
use Rattle.vl_locks.specs.Locks.{holder_of}
use Rattle.vl_shard.specs.declared.seat.Seat.{Seat}
use Rattle.vl_shard.specs.Seats.{seat_at, who_at, session_of}

pub record Parts : Type 0 where
  pub rows : Versions
  pub holds : List (Key × ℕ)
  pub seats : List (Option Seat)
  pub incarnation : ℕ

abbrev pub holder_told : List (Option Seat) → Option ℕ → Option Who
holder_told seats None = None
holder_told seats (Some conn) = who_at seats conn

abbrev pub change_by : Option Who → Option (List Value) → Option Change
change_by None row = None
change_by (Some who) row = Some (record { who = who; row = row })

abbrev pub change_told : List (Option Seat) → Option RowChange → Option Change
change_told seats None = None
change_told seats (Some change) = change_by (who_at seats change.conn) change.row

-- sessions by name in place of their numbers. With no device a shard is always up, and nothing is in doubt
abbrev pub view_of : Parts → View
view_of parts = record {
  up = true;
  incarnation = parts.incarnation;
  committed = λ key. committed_at parts.rows key;
  pending = λ key. change_told parts.seats (pending_at parts.rows key);
  doubt = λ key. None;
  holder = λ key. holder_told parts.seats (holder_of parts.holds key);
  sessions = λ who. session_of parts.seats who;
}

-- a pending version's key is held by its maker, a holder has a seat and isn't lost, and no session is of an
-- incarnation that is still to come
pub record IsWhole (parts : Parts) : Type 0 where
  pub held : (key : Key) (change : RowChange) → pending_at parts.rows key ≡ Some change → holder_of parts.holds key ≡ Some change.conn
  pub live : (key : Key) (conn : ℕ) → holder_of parts.holds key ≡ Some conn → is_some (seat_at parts.seats conn) ≡ true
  pub alive : (key : Key) (conn : ℕ) (who : Who) → holder_of parts.holds key ≡ Some conn → who_at parts.seats conn ≡ Some who → lives_in parts.incarnation (session_of parts.seats who) ≡ true
  pub young : (who : Who) (session : Opened) → session_of parts.seats who ≡ Some session → session.incarnation ≤ parts.incarnation
