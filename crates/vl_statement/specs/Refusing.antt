-- What a statement tells that ends: its reply, or the refusal of a shard's answer.
use Rattle.std.specs.Prelude.{◌≡◌, ◌⊎◌, ℕ, Bool, false, not, ◌&&◌, List, [], codes, map, slice_get, slice_index_or}
use Rattle.std.specs.Option.{option_map_or}
use Rattle.vl_values.specs.declared.cause.Cause.{Cause}
use Rattle.vl_values.specs.declared.cause.Cause.TheVariants as causes
use Rattle.vl_values.specs.declared.group.Group.{Group}
use Rattle.vl_values.specs.declared.key.Key.{Key}
use Rattle.vl_values.specs.declared.limit.Limit.TheVariants as quantities
use Rattle.vl_values.specs.declared.lost_why.LostWhy.{LostWhy}
use Rattle.vl_values.specs.declared.reply.Reply.TheVariants as replies
use Rattle.vl_values.specs.declared.value.Value.{Value}
use Rattle.vl_values.specs.declared.value.Value.TheVariants.{Null}
use Rattle.vl_values.specs.Reply.{refusal}
use Rattle.vl_catalog.specs.declared.catalog.Catalog.{Catalog}
use Rattle.vl_catalog.specs.declared.lookup.Lookup.{Lookup}
use Rattle.vl_catalog.specs.declared.table.Table.{Table}
use Rattle.vl_text.specs.JoinedText.{joined_text}
use Rattle.vl_text.specs.KeyText.{key_text}
use Rattle.vl_text.specs.ShardText.{shard_text}
use Rattle.vl_port.specs.declared.tx_state.TxState.{TxState}
use Rattle.vl_statement.specs.declared.program_told.ProgramTold.{ProgramTold}
use Rattle.vl_statement.specs.declared.program_told.ProgramTold.TheVariants as told

-- ---- replies

-- a statement that is done: how many rows it wrote and found. A transaction of its own ends with it
abbrev pub done : TxState → ℕ → ℕ → ProgramTold
done tx affected found = told.Reply (replies.Ok affected found 0 (not tx.single) tx.auto)

-- a statement that is refused before its first write leaves a transaction open that isn't its own; after
-- it, all is to be rolled back
abbrev pub refused : TxState → Bool → Cause → ProgramTold
refused tx wrote cause = told.Reply (refusal cause (not tx.single && not wrote))

-- after a lost session or a failed device no transaction stays open: all is to be rolled back, whether the
-- statement has written or not
abbrev pub refused_whole : Cause → ProgramTold
refused_whole cause = told.Reply (refusal cause false)

-- memory was refused, or else this
abbrev pub OrNoMemory : TxState → Bool → ProgramTold → Type 0 → Type 0
OrNoMemory tx wrote tells right = (tells ≡ refused tx wrote causes.OutOfMemory) ⊎ right

-- it is refused for this cause, or for memory, which the cause's text takes
abbrev pub IsRefusedFor : TxState → Bool → ProgramTold → Cause → Type 0
IsRefusedFor tx wrote tells cause = OrNoMemory tx wrote tells (tells ≡ refused tx wrote cause)

-- ---- their causes

abbrev pub table_name : Catalog → ℕ → List ℕ
table_name catalog number = option_map_or (λ (table : Table). table.name) (slice_get catalog.tables number) []

-- the key is held by another's session, which was met as often as the limit says
abbrev pub lock_wait : Catalog → ℕ → ℕ → Key → Cause
lock_wait catalog limit by key = causes.LockWait limit (table_name catalog key.table) (key_text catalog key) by

-- the key has a row already, on this shard
abbrev pub duplicate_row : Catalog → ℕ → Key → Cause
duplicate_row catalog shard key = causes.Duplicate (joined_text key.pk) (codes "PRIMARY") (key_text catalog key) (shard_text catalog shard)

abbrev pub lookup_name : Catalog → ℕ → List ℕ
lookup_name catalog number = option_map_or (λ (lookup : Lookup). lookup.name) (slice_get catalog.lookups number) []

-- the values of an entry by which it is found
abbrev pub found_by : Catalog → ℕ → List Value → List Value
found_by catalog number entry = option_map_or (λ (lookup : Lookup). map (λ column. slice_index_or entry column Null) lookup.from) (slice_get catalog.lookups number) []

abbrev pub entry_text : Catalog → ℕ → List Value → List ℕ
entry_text catalog number entry = joined_text (found_by catalog number entry)

-- the row of this key, on this shard, has the values of the entry that is claimed
abbrev pub duplicate_entry : Catalog → ℕ → List Value → ℕ → Key → Cause
duplicate_entry catalog number entry shard key =
    causes.Duplicate (entry_text catalog number entry) (lookup_name catalog number) (key_text catalog key) (shard_text catalog shard)

-- the entry that is claimed is one that the transaction removes
abbrev pub removed_and_claimed : Catalog → ℕ → List Value → Cause
removed_and_claimed catalog number entry = causes.RemovedAndClaimed (entry_text catalog number entry) (lookup_name catalog number)

-- the session of a group on a shard was lost, by a cause that the port tells
abbrev pub session_lost : Catalog → Group → ℕ → LostWhy → Cause
session_lost catalog group shard why = causes.LostSession (shard_text catalog shard) group why

-- a read without a session was lost
abbrev pub read_lost : Catalog → ℕ → Cause
read_lost catalog shard = causes.LostRead (shard_text catalog shard)

-- the device of a shard failed
abbrev pub device_failed : Catalog → ℕ → Cause
device_failed catalog shard = causes.DeviceFailed (shard_text catalog shard)

abbrev pub limit_of_changes : TxState → Cause
limit_of_changes tx = causes.Limit quantities.Changes tx.limits.changes
