-- The seats of a shard: each is free, or a shard session has it. A seat's place is the session's number.
use Rattle.std.specs.Prelude.{◌≡◌, ◌<◌, ◌≤◌, ◌^◌, ℕ, Bool, false, ◌==◌, ◌&&◌, List, [], ◌∷◌, length, if◌then◌else◌, slice_index_or}
use Rattle.std.specs.declared.option.Option.{Option}
use Rattle.std.specs.declared.option.Option.TheVariants.{Some, None}
use Rattle.vl_values.specs.declared.group.Group.{Group}
use Rattle.vl_port.specs.declared.fate.Fate.{Fate}
use Rattle.vl_port.specs.declared.opened.Opened.{Opened}
use Rattle.vl_port.specs.declared.who.Who.{Who}
use Rattle.vl_port.specs.View.{is_group, is_who}
use Rattle.vl_port.specs.Life.{lives_in, opened_at}
use Rattle.vl_shard.specs.declared.seat.Seat.{Seat}

-- whether a seat is this session's
abbrev pub is_of : Who → Option Seat → Bool
is_of who None = false
is_of who (Some seat) = is_who seat.who who

-- the seat of a number; a number past the last is nobody's
abbrev pub seat_at : List (Option Seat) → ℕ → Option Seat
seat_at seats conn = slice_index_or seats conn None

abbrev pub name_of : Option Seat → Option Who
name_of None = None
name_of (Some seat) = Some seat.who

abbrev pub who_at : List (Option Seat) → ℕ → Option Who
who_at seats conn = name_of (seat_at seats conn)

-- what the shard keeps of a session that was opened
abbrev pub session_of : List (Option Seat) → Who → Option Opened
session_of [] who = None
session_of (None ∷ seats) who = session_of seats who
session_of (Some seat ∷ seats) who = if is_who seat.who who then Some seat.opened else session_of seats who

-- a session has one seat
abbrev pub IsOnce : List (Option Seat) → Type 0
IsOnce seats = (i j : ℕ) (a b : Seat) → seat_at seats i ≡ Some a → seat_at seats j ≡ Some b → a.who ≡ b.who → i ≡ j

-- 32 bits can number the seats
abbrev pub IsNumbered : List (Option Seat) → Type 0
IsNumbered seats = length seats ≤ 2 ^ 32

-- the seat that a session has, or a free one, where it has none
pub record IsPlaceFor (seats : List (Option Seat)) (who : Who) (conn : ℕ) : Type 0 where
  pub within : conn < length seats
  pub own : (seat : Seat) → seat_at seats conn ≡ Some seat → seat.who ≡ who
  pub only : (other : ℕ) (seat : Seat) → seat_at seats other ≡ Some seat → seat.who ≡ who → other ≡ conn

-- no seat is this session's
abbrev pub IsAbsent : List (Option Seat) → Who → Type 0
IsAbsent seats who = (conn : ℕ) (seat : Seat) → seat_at seats conn ≡ Some seat → seat.who ≡ who → ⊥

-- nobody came and nobody left
pub record SameSeats (old new : List (Option Seat)) : Type 0 where
  pub seats : (conn : ℕ) → seat_at new conn ≡ seat_at old conn
  pub sessions : (who : Who) → session_of new who ≡ session_of old who

-- a session has its seat: the one that it had, or else one at the shard's incarnation
pub record HasSat (old : List (Option Seat)) (who : Who) (incarnation conn : ℕ) (new : List (Option Seat)) : Type 0 where
  pub own : who_at new conn ≡ Some who
  pub others : (other : ℕ) (seat : Seat) → seat_at old other ≡ Some seat → seat_at new other ≡ Some seat
  pub sessions : (other : Who) → session_of new other ≡ (if is_who who other then opened_at incarnation (session_of old other) else session_of old other)

-- the seat without this session
abbrev pub left_by : Who → Option Seat → Option Seat
left_by who None = None
left_by who (Some seat) = if is_who seat.who who then None else Some seat

-- the seat with this session's fate
abbrev pub lost_by : Fate → Who → Option Seat → Option Seat
lost_by fate who None = None
lost_by fate who (Some seat) = if is_who seat.who who then Some (record seat { opened = record seat.opened { fate = fate } }) else Some seat

-- whether a seat is that of a live session of this client session and group
abbrev pub is_live_of : ℕ → Group → ℕ → Option Seat → Bool
is_live_of session group incarnation None = false
is_live_of session group incarnation (Some seat) = (seat.who.session == session) && (is_group seat.who.group (Some group) && lives_in incarnation (Some seat.opened))
