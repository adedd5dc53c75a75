-- What loading a file gives.
use Rattle.std.specs.Prelude.{◌≡◌, ◌≤◌, ◌<◌, ℕ, List, length, Option, Some, None, Result, Ok, Err}
use Rattle.vl_base.specs.Faults.{Rose}
use Rattle.vl_base.specs.declared.file_fault.FileFault.{FileFault}
use Rattle.vl_base.specs.declared.file_fault.FileFault.TheVariants.{Failed, TooLong, Memory}

-- the greatest length of a file that is loaded
abbrev pub file_limit : ℕ
file_limit = 1048576

-- the bytes of each file by its name, none where there is no such file
abbrev pub FileMap : Type 0
FileMap = List ℕ → Option (List ℕ)

-- the file has these bytes, where that is known, and they are not too many
abbrev pub IsLoaded : Option FileMap → List ℕ → List ℕ → Type 0
IsLoaded None name bytes = length bytes ≤ file_limit
IsLoaded (Some files) name bytes = (length bytes ≤ file_limit) × (files name ≡ Some bytes)

-- the file has too many bytes, where that is known
abbrev pub IsTooLong : Option FileMap → List ℕ → Type 0
IsTooLong None name = Unit {0}
IsTooLong (Some files) name = (bytes : List ℕ) × (files name ≡ Some bytes) × (file_limit < length bytes)

-- The count of faults never falls. It stays where the file was loaded or is too long, and the fault is
-- told only where it rose.
abbrev pub IsCounted : {T : Type 0} → ℕ → ℕ → Result T FileFault → Type 0
IsCounted before now (Ok bytes) = now ≡ before
IsCounted before now (Err TooLong) = now ≡ before
IsCounted before now (Err Memory) = now ≡ before
IsCounted before now (Err Failed) = Rose before now

pub record HasFileCause {T : Type 0} (before now : ℕ) (result : Result T FileFault) : Type 0 where
  pub later : before ≤ now
  pub counted : IsCounted before now result
