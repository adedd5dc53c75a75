-- The numbers of sessions and of events.
use Rattle.std.specs.Prelude.{◌≡◌, ◌≢◌, ℕ, zero, suc, ◌+◌, ◌<◌, ◌≤◌, List, All, ◌==◌, if◌then◌else◌}
use Rattle.std.specs.List.{AllPairs}
use Rattle.vl_cluster.specs.declared.session.Session.{Session}

-- the last number that an event can have
abbrev pub last_event : ℕ
last_event = 4611686018427387903

-- the number of the next event; the last number stands still
abbrev pub next_event : ℕ → ℕ
next_event at = if at == last_event then last_event else at + 1

-- the last number that a session can have
abbrev pub last_number : ℕ
last_number = 4294967295

-- behind the last number the numbers go on from 1
abbrev pub next_number : ℕ → ℕ
next_number n = if n == last_number then 1 else n + 1

-- the number that stands so many places behind another
abbrev pub number_behind : ℕ → ℕ → ℕ
number_behind zero n = n
number_behind (suc places) n = next_number (number_behind places n)

-- no joined session has the number
abbrev pub IsFree : List Session → ℕ → Type 0
IsFree joined number = All (λ session. session.number ≢ number) joined

-- the first number behind another that is free
abbrev pub IsNextFree : List Session → ℕ → ℕ → Type 0
IsNextFree joined n number =
    (places : ℕ) × (number ≡ number_behind (suc places) n) × IsFree joined number × ((k : ℕ) → k < places → IsFree joined (number_behind (suc k) n) → ⊥)

-- what the joined sessions keep after every event, at the number of the last one
pub record AreLawful (joined : List Session) (at : ℕ) : Type 0 where
  -- no two have one number
  pub apart : AllPairs (λ one other. one.number ≢ other.number) joined
  -- none saw an event that is still to come
  pub seen : All (λ session. session.at ≤ at) joined
  pub within : at ≤ last_event
