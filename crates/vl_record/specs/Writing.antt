-- What can be written.
use Rattle.std.specs.Prelude.{◌<◌, ◌^◌, ℕ, List, length, All, Option, Some, None}
use Rattle.vl_values.specs.declared.key.Key.{Key}
use Rattle.vl_values.specs.declared.value.Value.{Value}
use Rattle.vl_catalog.specs.declared.change.Change.{Change}
use Rattle.vl_record.specs.Grammar.{FitsField}

-- the number of values and each value's length fit their fields
pub record AreFields (values : List Value) : Type 0 where
  pub few : length values < 2 ^ 16
  pub each : All FitsField values

abbrev pub IsField : Option (List Value) → Type 0
IsField None = Unit {0}
IsField (Some row) = AreFields row

pub record IsWritable (change : Change) : Type 0 where
  pub key : AreFields change.key.pk
  pub row : IsField change.row
