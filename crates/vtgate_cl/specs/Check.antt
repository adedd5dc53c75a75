-- What the command `check` prints: the report of a catalog, or why it wasn't loaded.
use Rattle.std.specs.Prelude.{ℕ, List, Option, Result, Ok, Err}
use Rattle.std.specs.Io.KnownBytes.{Appends, Keeps}
use Rattle.vl_base.specs.Files.{FileMap}
use Rattle.vl_base.specs.Sink.{WrotePart}
use Rattle.vl_load.specs.Faults.{HasLoadCause}
use Rattle.vl_load.specs.Lines.{fault_line}
use Rattle.vl_load.specs.Loading.{IsFaultOf, IsLoadedFrom}
use Rattle.vl_load.specs.Report.{report_of}
use Rattle.vl_load.specs.declared.load_fault.LoadFault.{LoadFault}
use Rattle.vl_load.specs.declared.load_fault.LoadFault.TheVariants as faults
use Rattle.vl_load.specs.declared.loaded.Loaded.{Loaded}
use Rattle.vtgate_cl.specs.declared.status.Status.{Status}
use Rattle.vtgate_cl.specs.declared.status.Status.TheVariants.{Done, WriteFailed, OutOfMemory, FileNotLoaded, CatalogRefused}

-- ---- what was found of the catalog: all that its files mean, or the first fault

-- it is what the files of the catalog of this name say
abbrev pub IsFound : Option FileMap → List ℕ → Result Loaded LoadFault → Type 0
IsFound known name (Ok loaded) = IsLoadedFrom known name loaded
IsFound known name (Err fault) = IsFaultOf known name fault

-- the report, or the fault's line: a load that failed and want of memory have none
abbrev pub text_of : Result Loaded LoadFault → List ℕ
text_of (Ok loaded) = report_of loaded
text_of (Err fault) = fault_line fault

abbrev pub status_of_fault : LoadFault → Status
status_of_fault faults.Failed = FileNotLoaded
status_of_fault (faults.TooLong file) = FileNotLoaded
status_of_fault (faults.Refused fault) = CatalogRefused
status_of_fault faults.Memory = OutOfMemory

abbrev pub status_of_found : Result Loaded LoadFault → Status
status_of_found (Ok loaded) = Done
status_of_found (Err fault) = status_of_fault fault

-- ---- what was printed

-- The text is written, which has its status; or the sink failed, behind a part of it; or memory was refused
-- before any of it was written.
pub data Tells (text : List ℕ) (due : Status) (held holds : Option (List ℕ)) : Status → Type 0 where
  Whole : Appends held holds text → Tells text due held holds due
  Cut : WrotePart held holds text → Tells text due held holds WriteFailed
  Unwritten : Keeps held holds → Tells text due held holds OutOfMemory

-- The check of the catalog of this name: what was found of it, with the count of the files' faults before and
-- now, is told.
pub record IsChecked (known : Option FileMap) (name : List ℕ) (before now : ℕ) (held holds : Option (List ℕ)) (status : Status) : Type 0 where
  pub found : Result Loaded LoadFault
  pub is : IsFound known name found
  pub cause : HasLoadCause before now found
  pub told : Tells (text_of found) (status_of_found found) held holds status
