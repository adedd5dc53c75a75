-- How a disk in memory is kept.
use Rattle.std.specs.Prelude.{◌≡◌, ◌≤◌}
use Rattle.vl_disk.specs.MemoryDisk.{MemoryState}
use Rattle.vl_disk.specs.declared.memory_disk.MemoryDisk.TheInside.{Inside}

abbrev pub memory_of : Inside → MemoryState
memory_of a = record {
  content = a.content.file;
  before = a.past.told.before;
  room = a.past.room;
  spare = a.past.spare;
  plan = a.plan;
  stops = record { fail = a.fail; crash = a.crash };
  is_stopped = a.is_stopped;
}

-- The past ends with the content, and there is room for the content where there is room for the past.
pub record IsMemory (a : Inside) : Type 0 where
  pub content : a.past.told.content ≡ a.content.file
  pub room : a.past.room ≤ a.content.room
  pub spare : a.past.spare ≤ a.content.spare
