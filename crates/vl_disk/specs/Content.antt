-- A file in memory: what is on the disk, and the writes that aren't synced.
use Rattle.std.specs.Prelude.{◌≤◌, ◌+◌, ◌-◌, ◌/◌, ◌++◌, [], ◌∷◌, ℕ, List, length, take, drop, max, replicate}
use Rattle.vl_disk.specs.Moment.{Moment, put}
use Rattle.vl_disk.specs.declared.pick.Pick.{Pick}
use Rattle.vl_disk.specs.declared.pick.Pick.TheVariants as picks
use Rattle.vl_disk.specs.declared.piece.Piece.{Piece}

pub record FileContent : Type 0 where
  pub synced : List ℕ
  -- offset and bytes of each write since the last sync, the oldest first
  pub writes : List (ℕ × List ℕ)

-- the file with these writes, one after the other
abbrev pub laid : List ℕ → List (ℕ × List ℕ) → List ℕ
laid file [] = file
laid file (write ∷ writes) = laid (put file write.0 write.1) writes

abbrev pub ranges_of : List (ℕ × List ℕ) → List (ℕ × ℕ)
ranges_of [] = []
ranges_of (write ∷ writes) = (write.0, length write.1) ∷ ranges_of writes

-- what a read gives
abbrev pub shown : FileContent → List ℕ
shown c = laid c.synced c.writes

abbrev pub moment_of : FileContent → Moment
moment_of c = record {
  seen = shown c;
  least = length c.synced;
  most = length (shown c);
  ranges = ranges_of c.writes;
}

abbrev pub written : ℕ → List ℕ → FileContent → FileContent
written offset bytes c = record c { writes = c.writes ++ (offset, bytes) ∷ [] }

-- nothing is unsynced
abbrev pub rested : List ℕ → FileContent
rested bytes = record { synced = bytes; writes = [] }

-- what a pick leaves of a write
abbrev pub picked : Pick → List ℕ → List ℕ
picked picks.None bytes = bytes
picked picks.All bytes = bytes
picked picks.Half bytes = take (length bytes / 2) bytes ++ replicate (length bytes - length bytes / 2) 0
picked picks.Gates bytes = replicate (length bytes) 167

abbrev pub all_picked : Pick → List (ℕ × List ℕ) → List (ℕ × List ℕ)
all_picked pick [] = []
all_picked pick (write ∷ writes) = (write.0, picked pick write.1) ∷ all_picked pick writes

-- the image that a pick leaves
abbrev pub image_of : Pick → FileContent → List ℕ
image_of picks.None c = c.synced
image_of picks.All c = laid c.synced (all_picked picks.All c.writes)
image_of picks.Half c = laid c.synced (all_picked picks.Half c.writes)
image_of picks.Gates c = laid c.synced (all_picked picks.Gates c.writes)

-- the writes whose bytes stand in a row
abbrev pub cut_up : List Piece → List ℕ → List (ℕ × List ℕ)
cut_up [] log = []
cut_up (piece ∷ pieces) log = (piece.offset, take piece.len log) ∷ cut_up pieces (drop piece.len log)

abbrev pub pieces_len : List Piece → ℕ
pieces_len [] = 0
pieces_len (piece ∷ pieces) = piece.len + pieces_len pieces

-- each write begins within the file that it meets
abbrev pub ArePlaced : ℕ → List (ℕ × List ℕ) → Type 0
ArePlaced len [] = Unit {0}
ArePlaced len (write ∷ writes) = (write.0 ≤ len) × ArePlaced (max len (write.0 + length write.1)) writes

-- a file in memory with its room
pub record ContentState : Type 0 where
  pub file : FileContent
  pub room : ℕ
  pub spare : ℕ
