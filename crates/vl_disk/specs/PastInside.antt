-- How the calls of a disk in memory are kept.
use Rattle.std.specs.Prelude.{◌≡◌, ◌≤◌, ◌+◌, ◌*◌, length, vec_capacity}
use Rattle.vl_disk.specs.Past.{PastState, begun, calls_len, replay}
use Rattle.vl_disk.specs.declared.past.Past.TheInside.{Inside}

abbrev pub past_of : Inside → PastState
past_of a = record {
  told = replay (begun a.start.items) a.calls.items a.log.items;
  room = a.room;
  spare = a.spare;
}

pub record IsPast (a : Inside) : Type 0 where
  pub sized : calls_len a.calls.items ≡ length a.log.items
  pub calls_capacity : length a.calls.items + a.spare ≤ vec_capacity a.calls
  pub log_capacity : length a.log.items + a.spare * a.room ≤ vec_capacity a.log
