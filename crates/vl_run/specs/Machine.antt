-- ONE table of rows, as clients see it, its transactions, and the steps that it makes. A transaction has changes of its
-- own, which no other sees before they settle, and keys in hand, which no other may take.
use Rattle.std.specs.Prelude.{◌≡◌, ◌==◌, ◌&&◌, ◌||◌, not, if◌then◌else◌, ℕ, Bool, true, false, List, [], ◌∷◌, Option, Some, None, Contains, slice_get, unwrap_or, option_and_then}
use Rattle.std.specs.List.{position}
use Rattle.vl_values.specs.declared.group.Group.{Group}
use Rattle.vl_values.specs.declared.key.Key.{Key}
use Rattle.vl_values.specs.declared.value.Value.{Value}
use Rattle.vl_values.specs.Keyed.{is_key}
use Rattle.vl_catalog.specs.declared.catalog.Catalog.{Catalog}
use Rattle.vl_catalog.specs.declared.lookup.Lookup.{Lookup}
use Rattle.vl_catalog.specs.declared.primary.Primary.{Primary}
use Rattle.vl_catalog.specs.declared.table.Table.{Table}
use Rattle.vl_catalog.specs.Place.{first_shard, value_place_by}
use Rattle.vl_port.specs.declared.act.Act.{Act}
use Rattle.vl_port.specs.declared.act.Act.TheVariants.{Insert, Put, Remove, RemoveIf, Find}
use Rattle.vl_port.specs.declared.change.Change.{Change}
use Rattle.vl_port.specs.declared.who.Who.{Who}
use Rattle.vl_port.specs.Life.{dropped, without}
use Rattle.vl_port.specs.Reading.{is_match}
use Rattle.vl_port.specs.View.{Values, changed_to, is_who, version_for}
use Rattle.vl_model.specs.Entries.{IsIndexed, is_lookup_table}
use Rattle.vl_model.specs.Tables.{column}
use Rattle.vl_run.specs.declared.ends.Ends.{Ends}
use Rattle.vl_run.specs.declared.ends.Ends.TheVariants as ends

-- ---- the table

-- of a key: its row, the change that a transaction has made of it, and the shard session that has it in hand
pub record Cell : Type 0 where
  pub row : Option Values
  pub change : Option Change
  pub holder : Option Who

abbrev pub Machine : Type 0
Machine = Key → Cell

-- the transaction's session of a group
abbrev pub of_tx : ℕ → ℕ → Group → Who
of_tx session tx group = record { session = session; tx = tx; group = Some group }

-- what a transaction sees of a key, as its main session: its own change on top of the row. A transaction without a
-- change of its own, or a read by none, sees the row
abbrev pub seen_in : Cell → Who → Option Values
seen_in cell who = version_for who cell.change cell.row

abbrev pub view : Machine → Who → Key → Option Values
view u who k = seen_in (u k) who

-- the key is in the hand of another transaction
abbrev pub InHand : Machine → ℕ → Key → Type 0
InHand u tx k = (holder : Who) × ((u k).holder ≡ Some holder) × (holder.tx == tx ≡ false)

-- ---- where keys are

-- the value that a key gives a column of its primary key
abbrev pub key_value : Table → ℕ → Key → Option Value
key_value table c key = option_and_then (slice_get key.pk) (position (λ n. n == c) table.pk)

abbrev pub key_place_by : Catalog → Table → Key → Option Primary → Option ℕ
key_place_by catalog table key None = Some (first_shard catalog.rings table.keyspace)
key_place_by catalog table key (Some primary) = option_and_then (value_place_by catalog.rings table.keyspace (Some primary)) (key_value table primary.column key)

-- the shard of a key: a table's primary vindex goes by a column of its primary key, so each row of one key has one place
abbrev pub key_place : Catalog → Key → ℕ
key_place catalog key = unwrap_or (option_and_then (λ (table : Table). key_place_by catalog table key table.primary) (slice_get catalog.tables key.table)) 0

-- a key of a table that serves a lookup. The machine has no such rows
abbrev pub is_entry : Catalog → Key → Bool
is_entry catalog key = is_lookup_table catalog key.table

-- ---- steps

pub data Step : Type 0 where
  -- keys join the hand of a shard session's transaction
  Take : Who → (Key → Bool) → Step
  -- a row is written or removed; what it replaces, if it replaces one
  Write : Who → Key → Option Values → Option Key → Step
  -- a shard session was committed: its changes there become rows, and its keys leave the hand
  Settle : Who → ℕ → Step
  -- shard sessions were closed or died: their keys leave the hand, and their changes fall away
  LetGo : Ends → Step

-- the keys that an act must obtain: a write its own, a locking read each key whose row or change matches
abbrev pub takes : Machine → Act → Key → Bool
takes u (Insert key row) k = is_key key k
takes u (Put key row) k = is_key key k
takes u (Remove key) k = is_key key k
takes u (RemoveIf key column value) k = is_key key k
takes u (Find pred locking) k = locking && (is_match pred k (u k).row || is_match pred k (changed_to (u k).change))

-- whether a shard session ended
abbrev pub is_among : Ends → ℕ → Who → Bool
is_among ends.Nobody shard who = false
is_among (ends.One gone at) shard who = is_who who gone && (at == shard)
is_among (ends.Whole tx) shard who = who.tx == tx

abbrev pub ended_holder : Ends → ℕ → Option Who → Option Who
ended_holder gone shard None = None
ended_holder gone shard (Some who) = if is_among gone shard who then None else Some who

abbrev pub ended_change : Ends → ℕ → Option Change → Option Change
ended_change gone shard None = None
ended_change gone shard (Some change) = if is_among gone shard change.who then None else Some change

abbrev pub let_go : Ends → ℕ → Cell → Cell
let_go gone shard cell = record cell { change = ended_change gone shard cell.change; holder = ended_holder gone shard cell.holder }

abbrev pub settled_cell : Who → Cell → Cell
settled_cell who cell = record { row = version_for who cell.change cell.row; change = dropped who cell.change; holder = without who cell.holder }

module _ (catalog : Catalog) where
  abbrev pub is_on : ℕ → Key → Bool
  is_on shard k = key_place catalog k == shard

  -- the keys that an act on a shard obtains, where this is what rows and entries are before it
  abbrev pub taken_by : Machine → ℕ → Act → Key → Bool
  taken_by seen shard act k = is_on shard k && takes seen act k

  -- the machine after a step
  abbrev pub after : Step → Machine → Machine
  after (Take who keys) u k = if keys k then record (u k) { holder = Some who } else u k
  after (Write who key row old) u k = if is_key key k then record (u k) { change = Some (record { who = who; row = row }) } else u k
  after (Settle who shard) u k = if is_on shard k then settled_cell who (u k) else u k
  after (LetGo gone) u k = let_go gone (key_place catalog k) (u k)

  -- and after several, in their order
  abbrev pub after_all : List Step → Machine → Machine
  after_all [] u = u
  after_all (step ∷ steps) u = after_all steps (after step u)

-- ---- when a row may be written

-- a row other than the one that is replaced
abbrev pub is_other : Option Key → Key → Bool
is_other None k = true
is_other (Some old) k = not (is_key old k)

-- a row of the view has the new row's key, or its value in the column of a unique lookup
pub data Clash (catalog : Catalog) (u : Machine) (who : Who) (key : Key) (row : Values) (old : Option Key) : Type 0 where
  SameKey : (k : Key) (other : Values) → view u who k ≡ Some other → is_other old k ≡ true → is_key key k ≡ true → Clash catalog u who key row old
  SameValue : (lookup : Lookup) (c : ℕ) (k : Key) (other : Values) → Contains catalog.lookups lookup → lookup.unique ≡ true → lookup.column ≡ Some c → view u who k ≡ Some other → is_other old k ≡ true
      → IsIndexed lookup (key, row) → IsIndexed lookup (k, other) → column (key, row) c ≡ column (k, other) c → Clash catalog u who key row old

-- no other row has them, unless the transaction is broken and so never commits its rows; a removal clashes with none
abbrev pub MayWrite : Catalog → Machine → Bool → Who → Key → Option Values → Option Key → Type 0
MayWrite catalog u broken who key None old = Unit {0}
MayWrite catalog u true who key (Some row) old = Unit {0}
MayWrite catalog u false who key (Some row) old = Clash catalog u who key row old → ⊥

module _ (catalog : Catalog) (is_broken : ℕ → Bool) where
  -- where a step may be made
  abbrev pub CanStep : Machine → Step → Type 0
  CanStep u (Take who keys) = (k : Key) → keys k ≡ true → InHand u who.tx k → ⊥
  CanStep u (Write who key row old) = ((holder : Who) × ((u key).holder ≡ Some holder) × (holder.tx ≡ who.tx)) × MayWrite catalog u (is_broken who.tx) who key row old
  CanStep u (Settle who shard) = Unit {0}
  CanStep u (LetGo gone) = Unit {0}

  -- each step at the state that those before it leave
  abbrev pub CanStepAll : Machine → List Step → Type 0
  CanStepAll u [] = Unit {0}
  CanStepAll u (step ∷ steps) = CanStep u step × CanStepAll (after catalog step u) steps
