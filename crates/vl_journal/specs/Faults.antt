-- Why a journal wasn't opened, and the disk that is given back.
use Rattle.std.specs.Prelude.{◌≡◌, Bool, true, false, IsTrue, ℕ, List, Result, Ok, Err}
use Rattle.vl_disk.specs.DiskView.{DiskView}
use Rattle.vl_catalog.specs.declared.catalog.Catalog.{Catalog}
use Rattle.vl_record.specs.Reading.{Held}
use Rattle.vl_journal.specs.declared.journal_fault.JournalFault.{JournalFault}
use Rattle.vl_journal.specs.declared.journal_fault.JournalFault.TheVariants as faults
use Rattle.vl_journal.specs.declared.opened.Opened.{Opened}
use Rattle.vl_journal.specs.Opening.{IsNotOurs}

module _ {D : Type 0} where
  -- the disk of the journal, or the one that is given back
  abbrev pub disk_of : Result (Opened D) (JournalFault D) → D
  disk_of (Ok opened) = opened.journal.disk
  disk_of (Err (faults.Memory disk)) = disk
  disk_of (Err (faults.Device disk)) = disk
  disk_of (Err (faults.NotOurs disk offset)) = disk

  -- a device call failed
  abbrev pub is_device_fault : Result (Opened D) (JournalFault D) → Bool
  is_device_fault (Ok opened) = false
  is_device_fault (Err (faults.Memory disk)) = false
  is_device_fault (Err (faults.Device disk)) = true
  is_device_fault (Err (faults.NotOurs disk offset)) = false

  -- the fault of the file, where that is the cause
  abbrev pub IsFaultOf : Catalog → ℕ → List ℕ → JournalFault D → Type 0
  IsFaultOf catalog shard file (faults.Memory disk) = Unit {0}
  IsFaultOf catalog shard file (faults.Device disk) = Unit {0}
  IsFaultOf catalog shard file (faults.NotOurs disk offset) = IsNotOurs catalog shard file offset

  abbrev pub held_of_opened : Opened D → Held
  held_of_opened opened = record { epoch = opened.epoch; last_tx = opened.last_tx; rows = opened.rows; first = opened.first; parts = opened.parts; end = opened.journal.end }
