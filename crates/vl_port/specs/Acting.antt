-- What an act answers and does on a shard that is up, and what a commit leaves there.
use Rattle.std.specs.Prelude.{◌≡◌, Bool, true, false, ℕ, List, if◌then◌else◌, slice_index_or, Option, Some, None}
use Rattle.vl_values.specs.declared.key.Key.{Key}
use Rattle.vl_values.specs.declared.value.Value.{Value}
use Rattle.vl_values.specs.declared.value.Value.TheVariants.{Null}
use Rattle.vl_values.specs.Value.{is_same_value}
use Rattle.vl_port.specs.declared.act.Act.{Act}
use Rattle.vl_port.specs.declared.act.Act.TheVariants.{Insert, Put, Remove, RemoveIf, Find}
use Rattle.vl_port.specs.declared.answer.Answer.{Answer}
use Rattle.vl_port.specs.declared.answer.Answer.TheVariants.{Done, Unchanged, Rows, Found, Held, Lost, Device, Limit, Memory}
use Rattle.vl_port.specs.declared.change.Change.{Change}
use Rattle.vl_port.specs.declared.who.Who.{Who}
use Rattle.vl_port.specs.View.{View, Values, standing, version_for}
use Rattle.vl_port.specs.Life.{closed, opened}
use Rattle.vl_port.specs.Holding.{needs, IsFree, IsHeld}
use Rattle.vl_port.specs.Reading.{IsRead}

-- the act has obtained its keys
abbrev pub taken : Who → Act → View → View
taken who act view = record (opened who view) { holder = λ k. if needs view act k then Some who else view.holder k }

-- the row that a write leaves
abbrev pub row_left : Act → Option Values
row_left (Insert key row) = Some row
row_left (Put key row) = Some row
row_left (Remove key) = None
row_left (RemoveIf key column value) = None
row_left (Find pred locking) = None

-- the act has written its pending version
abbrev pub written : Who → Act → View → View
written who act view = record (taken who act view) { pending = λ k. if needs view act k then Some (record { who = who; row = row_left act }) else view.pending k }

-- whether a version has a value in a column
abbrev pub has_value : ℕ → Value → Option Values → Bool
has_value column value None = false
has_value column value (Some row) = is_same_value (slice_index_or row column Null) value

-- where a write is done: an Insert where the key has no standing version, a RemoveIf where the
-- standing version has the value
abbrev pub CanWrite : View → Who → Act → Type 0
CanWrite view who (Insert key row) = standing view who key ≡ None
CanWrite view who (Put key row) = Unit {0}
CanWrite view who (Remove key) = Unit {0}
CanWrite view who (RemoveIf key column value) = has_value column value (standing view who key) ≡ true
CanWrite view who (Find pred locking) = ⊥

-- where a RemoveIf has nothing to remove
abbrev pub HasNothing : View → Who → Act → Type 0
HasNothing view who (Insert key row) = ⊥
HasNothing view who (Put key row) = ⊥
HasNothing view who (Remove key) = ⊥
HasNothing view who (RemoveIf key column value) = has_value column value (standing view who key) ≡ false
HasNothing view who (Find pred locking) = ⊥

abbrev pub IsReadBy : View → Who → Act → List (Key × Values) → Type 0
IsReadBy view who (Insert key row) rows = ⊥
IsReadBy view who (Put key row) rows = ⊥
IsReadBy view who (Remove key) rows = ⊥
IsReadBy view who (RemoveIf key column value) rows = ⊥
IsReadBy view who (Find pred locking) rows = IsRead view who pred rows

-- the version that an Insert met
abbrev pub IsFound : View → Who → Act → Key → Values → Type 0
IsFound view who (Insert key row) k found = (k ≡ key) × (standing view who key ≡ Some found)
IsFound view who (Put key row) k found = ⊥
IsFound view who (Remove key) k found = ⊥
IsFound view who (RemoveIf key column value) k found = ⊥
IsFound view who (Find pred locking) k found = ⊥

-- an act that is done on a shard which is up, by a session that isn't lost: its answer, and the shard
-- after it. Want of memory alone is free, and changes nothing. A quantity that would pass its limit
-- refuses a write that could else be done, with its keys left as they were
abbrev pub Acted : View → Who → Act → Answer → View → Type 0
Acted old who act Done new = IsFree old who act × CanWrite old who act × (new ≡ written who act old)
Acted old who act Unchanged new = IsFree old who act × HasNothing old who act × (new ≡ taken who act old)
Acted old who act (Rows rows) new = IsFree old who act × IsReadBy old who act rows × (new ≡ taken who act old)
Acted old who act (Found key row) new = IsFree old who act × IsFound old who act key row × (new ≡ taken who act old)
Acted old who act (Held by key) new = IsHeld old who act by key × (new ≡ opened who old)
Acted old who act (Limit what count) new = IsFree old who act × CanWrite old who act × (new ≡ opened who old)
Acted old who act (Lost why) new = ⊥
Acted old who act Device new = ⊥
Acted old who act Memory new = new ≡ old

-- the shard session is committed: its pending versions are the committed ones, and it ends
abbrev pub settled : Who → View → View
settled who view = closed who (record view { committed = λ k. version_for who (view.pending k) (view.committed k) })
