-- Why a file wasn't opened.
use Rattle.std.specs.Prelude.{◌≡◌, Bool, true, false, ℕ, List, Result, Ok, Err}
use Rattle.vl_catalog.specs.declared.catalog.Catalog.{Catalog}
use Rattle.vl_record.specs.declared.read_error.ReadError.{ReadError}
use Rattle.vl_record.specs.declared.read_error.ReadError.TheVariants as reading
use Rattle.vl_journal.specs.declared.load_error.LoadError.{LoadError}
use Rattle.vl_journal.specs.declared.load_error.LoadError.TheVariants as errors
use Rattle.vl_journal.specs.Opening.{IsNotOurs}

-- the last device call failed
abbrev pub is_device_error : LoadError → Bool
is_device_error errors.Memory = false
is_device_error errors.Device = true
is_device_error (errors.NotOurs offset) = false

abbrev pub is_device : {T : Type 0} → Result T LoadError → Bool
is_device (Ok x) = false
is_device (Err error) = is_device_error error

-- the fault, if it is one of the file, is one of this file
abbrev pub IsCauseIn : Catalog → ℕ → List ℕ → LoadError → Type 0
IsCauseIn catalog shard file errors.Memory = Unit {0}
IsCauseIn catalog shard file errors.Device = Unit {0}
IsCauseIn catalog shard file (errors.NotOurs offset) = IsNotOurs catalog shard file offset

-- the fault isn't one of the file
abbrev pub IsCauseless : LoadError → Type 0
IsCauseless error = (catalog : Catalog) (shard : ℕ) (file : List ℕ) → IsCauseIn catalog shard file error

abbrev pub of_read : ReadError → LoadError
of_read reading.Memory = errors.Memory
of_read (reading.NotOurs offset) = errors.NotOurs offset
