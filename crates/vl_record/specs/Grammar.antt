-- What a shard's file may hold under a catalog, and its bytes.
use Rattle.std.specs.Prelude.{FitsSigned, ◌≡◌, ◌<◌, ◌≤◌, ◌≢◌, ◌^◌, ◌+◌, ℕ, Bool, true, false, List, [], ◌∷◌, ◌++◌, length, Option, Some, None, slice_get}
use Rattle.std.specs.List.{flat_map}
use Rattle.vl_values.specs.declared.key.Key.{Key}
use Rattle.vl_values.specs.declared.value.Value.{Value}
use Rattle.vl_values.specs.declared.value.Value.TheVariants.{Null, Int, Uint, Bytes}
use Rattle.std.specs.Int.{w64}
use Rattle.vl_catalog.specs.declared.catalog.Catalog.{Catalog}
use Rattle.vl_catalog.specs.declared.change.Change.{Change}
use Rattle.vl_catalog.specs.declared.part.Part.{Part}
use Rattle.vl_catalog.specs.declared.table.Table.{Table}
use Rattle.vl_record.specs.Allowed.{column_at, fits, has_key, is_above, is_here, last_changed, last_key, width_of}
use Rattle.vl_record.specs.Spelling.{body_bytes, header_bytes, last_epoch, last_transaction, open_gate, records_bytes}
use Rattle.vl_record.specs.Reading.{Held}

-- each is allowed behind those before it
abbrev pub EachNext : {X : Type 0} → (List X → X → Type 0) → List X → List X → Type 0
EachNext P front [] = Unit {0}
EachNext P front (x ∷ xs) = P front x × EachNext P (front ++ x ∷ []) xs

-- the number or the length fits its field
abbrev pub FitsField : Value → Type 0
FitsField Null = Unit {0}
FitsField (Int z) = FitsSigned w64 z
FitsField (Uint n) = n < 2 ^ 64
FitsField (Bytes s) = length s < 2 ^ 32

abbrev pub IsNextValue : Table → Bool → List Value → Value → Type 0
IsNextValue table is_key front value = FitsField value × (fits (column_at table is_key (length front)) value ≡ true)

-- the values of a key of the table (true), or of a row (false)
pub record AreValues (table : Table) (is_key : Bool) (values : List Value) : Type 0 where
  pub whole : length values ≡ width_of table is_key
  pub few : length values < 2 ^ 16
  pub held : EachNext (IsNextValue table is_key) [] values

-- a key of this shard that stands above the one before it
pub record IsNextKey (catalog : Catalog) (shard : ℕ) (before : Option Key) (key : Key) : Type 0 where
  pub table : Table
  pub is_table : slice_get catalog.tables key.table ≡ Some table
  pub number : key.table < 2 ^ 32
  pub values : AreValues table true key.pk
  pub here : is_here catalog shard table key ≡ true
  pub above : is_above before key ≡ true

-- a row of the key's table that has the key's values
pub record IsRowAt (catalog : Catalog) (key : Key) (row : List Value) : Type 0 where
  pub table : Table
  pub is_table : slice_get catalog.tables key.table ≡ Some table
  pub values : AreValues table false row
  pub keyed : has_key table key row ≡ true

abbrev pub IsNewRow : Catalog → Key → Option (List Value) → Type 0
IsNewRow catalog key None = Unit {0}
IsNewRow catalog key (Some row) = IsRowAt catalog key row

abbrev pub IsNextChange : Catalog → ℕ → List Change → Change → Type 0
IsNextChange catalog shard front change = IsNextKey catalog shard (last_changed front) change.key × IsNewRow catalog change.key change.row

pub record IsPart (catalog : Catalog) (shard : ℕ) (part : Part) : Type 0 where
  pub tx : part.tx ≤ last_transaction
  pub few : length part.changes < 2 ^ 32
  pub changes : EachNext (IsNextChange catalog shard) [] part.changes

abbrev pub IsNextPart : Catalog → ℕ → List Part → Part → Type 0
IsNextPart catalog shard front part = IsPart catalog shard part

-- the parts of one record
pub record IsRecord (catalog : Catalog) (shard : ℕ) (parts : List Part) : Type 0 where
  pub some : 1 ≤ length parts
  pub few : length parts ≤ 65535
  pub short : length (body_bytes parts) < 2 ^ 32
  pub each : EachNext (IsNextPart catalog shard) [] parts

abbrev pub AreRecords : Catalog → ℕ → List (List Part) → Type 0
AreRecords catalog shard [] = Unit {0}
AreRecords catalog shard (parts ∷ records) = IsRecord catalog shard parts × AreRecords catalog shard records

abbrev pub IsNextPair : Catalog → ℕ → List (Key × List Value) → (Key × List Value) → Type 0
IsNextPair catalog shard front pair = IsNextKey catalog shard (last_key front) pair.0 × IsRowAt catalog pair.0 pair.1

-- what a file with an open file gate holds: what its header says, its rows, and its records
pub record Content : Type 0 where
  pub epoch : ℕ
  pub last_tx : ℕ
  pub rows : List (Key × List Value)
  pub records : List (List Part)

pub record IsContent (catalog : Catalog) (shard : ℕ) (content : Content) : Type 0 where
  pub shard_fits : shard < 2 ^ 32
  pub epoch : content.epoch ≤ last_epoch
  pub last_tx : content.last_tx ≤ last_transaction
  pub few : length content.rows < 2 ^ 64
  pub rows : EachNext (IsNextPair catalog shard) [] content.rows
  pub records : AreRecords catalog shard content.records

-- all up to the closed gate behind the last record
abbrev pub content_bytes : ℕ → Content → List ℕ
content_bytes shard content =
    (open_gate ∷ header_bytes shard content.epoch content.last_tx content.rows) ++ records_bytes content.records

abbrev pub all_parts : List (List Part) → List Part
all_parts [] = []
all_parts (parts ∷ records) = parts ++ all_parts records

-- the file begins with these bytes and a closed gate; what follows isn't read
pub record EndsAt (front file : List ℕ) : Type 0 where
  pub gate : ℕ
  pub rest : List ℕ
  pub split : file ≡ front ++ gate ∷ rest
  pub shut : gate ≢ open_gate

-- what reading gives of it
abbrev pub held_of : ℕ → Content → Held
held_of shard content = record {
  epoch = content.epoch;
  last_tx = content.last_tx;
  rows = content.rows;
  first = length (open_gate ∷ header_bytes shard content.epoch content.last_tx content.rows);
  parts = all_parts content.records;
  end = length (content_bytes shard content);
}
