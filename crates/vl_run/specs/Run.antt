-- A run, its LAST event first, so that the past of an event is what stands behind it; and the words that speak of all
-- sessions: the states of the one table, the versions of entries, what was committed, and the numbers.
use Rattle.std.specs.Prelude.{◌≡◌, ◌+◌, ◌==◌, ◌&&◌, ◌||◌, not, if◌then◌else◌, ℕ, Bool, true, false, List, [], ◌∷◌, ◌++◌, filter, length, Option, Some, None, Contains}
use Rattle.std.specs.List.{list_any}
use Rattle.vl_values.specs.declared.group.Group.{Group}
use Rattle.vl_values.specs.declared.group.Group.TheVariants.{Pre}
use Rattle.vl_values.specs.declared.key.Key.{Key}
use Rattle.vl_values.specs.Keyed.{InKeyOrder}
use Rattle.vl_catalog.specs.declared.catalog.Catalog.{Catalog}
use Rattle.vl_port.specs.declared.who.Who.{Who}
use Rattle.vl_port.specs.View.{Values, is_group, is_who}
use Rattle.vl_model.specs.Tables.{Tables, rows_on}
use Rattle.vl_run.specs.declared.deed.Deed.{Deed}
use Rattle.vl_run.specs.declared.deed.Deed.TheVariants as deeds
use Rattle.vl_run.specs.declared.ends.Ends.{Ends}
use Rattle.vl_run.specs.declared.ends.Ends.TheVariants as ends
use Rattle.vl_run.specs.declared.event.Event.{Event}
use Rattle.vl_run.specs.declared.request.Request.{Request}
use Rattle.vl_run.specs.declared.request.Request.TheVariants as requests
use Rattle.vl_run.specs.Deeds.{moves_of, steps_of}
use Rattle.vl_run.specs.Numbers.{next_event}
use Rattle.vl_run.specs.Machine.{Machine, after_all, is_entry, key_place}

-- where a cluster was opened: the rows and entries that it found, and the number of its first transaction
pub record Opening : Type 0 where
  pub base : Key → Option Values
  pub first_tx : ℕ

-- an event, or a cluster's opening. Behind an opening stands the run of the clusters before
pub data Point : Type 0 where
  Began : Opening → Point
  Happened : Event → Point

abbrev pub Run : Type 0
Run = List Point

-- before the first opening there is nothing
abbrev pub nowhere : Opening
nowhere = record { base = λ k. None; first_tx = 1 }

-- ---- states

abbrev pub rows_of : Bool → Option Values → Option Values
rows_of true row = None
rows_of false row = row

-- an opened cluster has its rows, and no transaction
abbrev pub opened_cells : Opening → Machine
opened_cells opening k = record { row = opening.base k; change = None; holder = None }

abbrev pub opened_state : Catalog → Opening → Machine
opened_state catalog opening k = record { row = rows_of (is_entry catalog k) (opening.base k); change = None; holder = None }

module _ (catalog : Catalog) where
  -- rows and the versions of entries after the run, as the shards have them
  abbrev pub cells : Run → Machine
  cells [] = opened_cells nowhere
  cells (Began opening ∷ past) = opened_cells opening
  cells (Happened e ∷ past) = after_all catalog (moves_of catalog (cells past) e) (cells past)

  -- the one table after the run: it has no entries, and yet the keys of those that are in a hand
  abbrev pub state : Run → Machine
  state [] = opened_state catalog nowhere
  state (Began opening ∷ past) = opened_state catalog opening
  state (Happened e ∷ past) = after_all catalog (steps_of catalog (cells past) e) (state past)

  -- what is committed of a key: what was there at the opening, with the changes of all commits that were done
  abbrev pub committed : Run → Key → Option Values
  committed past k = (cells past k).row

  -- the committed rows of all shards, as tables
  pub record AreCommitted (past : Run) (count : ℕ) (tables : Tables) : Type 0 where
    pub shards : length tables ≡ count
    pub ordered : (shard : ℕ) → InKeyOrder (rows_on tables shard)
    pub sound : (shard : ℕ) (row : Key × Values) → Contains (rows_on tables shard) row → (key_place catalog row.0 ≡ shard) × (committed past row.0 ≡ Some row.1)
    pub complete : (key : Key) (row : Values) → committed past key ≡ Some row → Contains (rows_on tables (key_place catalog key)) (key, row)

-- ---- the cluster that is open

-- the events since it was opened, the last first
abbrev pub events : Run → List Event
events [] = []
events (Began opening ∷ past) = []
events (Happened e ∷ past) = e ∷ events past

abbrev pub opening_of : Run → Opening
opening_of [] = nowhere
opening_of (Began opening ∷ past) = opening
opening_of (Happened e ∷ past) = opening_of past

-- ---- numbers of events

-- the number of the last event, 0 before the first
abbrev pub at_in : List Event → ℕ
at_in [] = 0
at_in (e ∷ past) = next_event (at_in past)

abbrev pub at : Run → ℕ
at past = at_in (events past)

-- ---- numbers of transactions, in the order in which they open

abbrev pub behind_opened : Option ℕ → ℕ → ℕ
behind_opened None before = before
behind_opened (Some tx) before = tx + 1

abbrev pub next_tx_in : ℕ → List Event → ℕ
next_tx_in first [] = first
next_tx_in first (e ∷ past) = behind_opened e.opens (next_tx_in first past)

abbrev pub next_tx : Run → ℕ
next_tx past = next_tx_in (opening_of past).first_tx (events past)

-- ---- client sessions: who has joined, and its last event number

-- what an event of the session itself makes of its number; a kill is none
abbrev pub seat_after : Request → ℕ → Option ℕ → Option ℕ
seat_after requests.Join n before = Some n
seat_after (requests.Say stmt) n before = Some n
seat_after requests.Reset n before = Some n
seat_after requests.Step n before = Some n
seat_after requests.Leave n before = None
seat_after (requests.Kill who shard) n before = before

abbrev pub seat_in : List Event → ℕ → Option ℕ
seat_in [] n = None
seat_in (e ∷ past) n = if e.session == n then seat_after e.request (at_in (e ∷ past)) (seat_in past n) else seat_in past n

-- the last event number of a joined session; none for one that hasn't joined
abbrev pub seat : Run → ℕ → Option ℕ
seat past n = seat_in (events past) n

abbrev pub joined_after : Request → ℕ → List ℕ → List ℕ
joined_after requests.Join n before = before ++ n ∷ []
joined_after requests.Leave n before = filter (λ m. not (m == n)) before
joined_after (requests.Say stmt) n before = before
joined_after requests.Reset n before = before
joined_after requests.Step n before = before
joined_after (requests.Kill who shard) n before = before

-- the joined sessions, in the order of joining
abbrev pub joined_in : List Event → List ℕ
joined_in [] = []
joined_in (e ∷ past) = joined_after e.request e.session (joined_in past)

abbrev pub joined : Run → List ℕ
joined past = joined_in (events past)

abbrev pub named_after : Request → ℕ → ℕ → ℕ
named_after requests.Join n before = n
named_after (requests.Say stmt) n before = before
named_after requests.Reset n before = before
named_after requests.Step n before = before
named_after requests.Leave n before = before
named_after (requests.Kill who shard) n before = before

-- the number that a session was given last, 0 before the first
abbrev pub named_in : List Event → ℕ
named_in [] = 0
named_in (e ∷ past) = named_after e.request e.session (named_in past)

abbrev pub named : Run → ℕ
named past = named_in (events past)

-- ---- the shard sessions of a transaction

-- the act is one of the transaction's session of this group
abbrev pub is_of : ℕ → Group → Who → Bool
is_of tx group who = (who.tx == tx) && is_group who.group (Some group)

abbrev pub with_once : ℕ → List ℕ → List ℕ
with_once shard shards = if list_any (λ other. other == shard) shards then shards else shards ++ shard ∷ []

abbrev pub uses : Deed → ℕ → Group → List ℕ → List ℕ
uses deeds.Nothing tx group before = before
uses (deeds.Acts who shard act mark) tx group before = if is_of tx group who then with_once shard before else before
uses (deeds.Commits who shard) tx group before = before
uses (deeds.Fails who shard) tx group before = before

-- the shards on which the transaction has opened a session of the group, in the order of first use
abbrev pub used_in : List Event → ℕ → Group → List ℕ
used_in [] tx group = []
used_in (e ∷ past) tx group = uses e.deed tx group (used_in past tx group)

abbrev pub used : Run → ℕ → Group → List ℕ
used past tx group = used_in (events past) tx group

-- a kill named this shard session
abbrev pub kills : Request → ℕ → Who → Bool
kills (requests.Kill who shard) at_shard other = is_who who other && (shard == at_shard)
kills requests.Join at_shard other = false
kills (requests.Say stmt) at_shard other = false
kills requests.Reset at_shard other = false
kills requests.Step at_shard other = false
kills requests.Leave at_shard other = false

abbrev pub was_killed_in : List Event → Who → ℕ → Bool
was_killed_in [] who shard = false
was_killed_in (e ∷ past) who shard = kills e.request shard who || was_killed_in past who shard

abbrev pub was_killed : Run → Who → ℕ → Bool
was_killed past who shard = was_killed_in (events past) who shard

-- a session of pre of the transaction died before its commit, so that the transaction never reaches a main commit
abbrev pub breaks : Ends → ℕ → Bool
breaks ends.Nobody tx = false
breaks (ends.One who shard) tx = is_of tx Pre who
breaks (ends.Whole other) tx = false

abbrev pub is_broken_in : List Event → ℕ → Bool
is_broken_in [] tx = false
is_broken_in (e ∷ past) tx = breaks e.ends tx || is_broken_in past tx

abbrev pub is_broken : Run → ℕ → Bool
is_broken past tx = is_broken_in (events past) tx
