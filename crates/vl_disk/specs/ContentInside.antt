-- How a file in memory is kept.
use Rattle.std.specs.Prelude.{◌≡◌, ◌≤◌, ◌+◌, ◌*◌, length, vec_capacity}
use Rattle.vl_disk.specs.Content.{ContentState, ArePlaced, cut_up, laid, pieces_len}
use Rattle.vl_disk.specs.declared.content.Content.TheInside.{Inside}

abbrev pub content_of : Inside → ContentState
content_of a = record {
  file = record { synced = a.base.items; writes = cut_up a.pieces.items a.log.items };
  room = a.room;
  spare = a.spare;
}

pub record IsContent (a : Inside) : Type 0 where
  pub bytes : a.bytes.items ≡ laid a.base.items (cut_up a.pieces.items a.log.items)
  pub placed : ArePlaced (length a.base.items) (cut_up a.pieces.items a.log.items)
  pub sized : pieces_len a.pieces.items ≡ length a.log.items
  -- it never takes memory but to make room
  pub room : length a.bytes.items ≤ a.room
  pub base_capacity : a.room ≤ vec_capacity a.base
  pub bytes_capacity : a.room ≤ vec_capacity a.bytes
  pub pieces_capacity : length a.pieces.items + a.spare ≤ vec_capacity a.pieces
  pub log_capacity : length a.log.items + a.spare * a.room ≤ vec_capacity a.log
