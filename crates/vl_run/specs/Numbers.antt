-- The numbers of events and of client sessions.
use Rattle.std.specs.Prelude.{◌≡◌, ◌<◌, ◌+◌, ◌==◌, if◌then◌else◌, ℕ, zero, suc, List, Contains}

-- the last number that an event can have
abbrev pub last_event : ℕ
last_event = 4611686018427387903

-- the number of the next event; the last number stands still
abbrev pub next_event : ℕ → ℕ
next_event at = if at == last_event then last_event else at + 1

-- how many client sessions may be joined
abbrev pub most_sessions : ℕ
most_sessions = 1000

-- the last number that a client session can have
abbrev pub last_number : ℕ
last_number = 4294967295

-- behind the last number the numbers go on from 1
abbrev pub next_number : ℕ → ℕ
next_number n = if n == last_number then 1 else n + 1

-- the number that stands so many places behind another
abbrev pub number_behind : ℕ → ℕ → ℕ
number_behind zero n = n
number_behind (suc places) n = next_number (number_behind places n)

-- the first number behind another that no joined session has
abbrev pub IsNextFree : List ℕ → ℕ → ℕ → Type 0
IsNextFree joined n number =
    (places : ℕ) × (number ≡ number_behind (suc places) n) × (Contains joined number → ⊥) × ((k : ℕ) → k < places → Contains joined (number_behind (suc k) n))
