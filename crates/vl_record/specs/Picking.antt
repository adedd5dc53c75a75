-- Which of a shard's two files is the one in use.
use Rattle.std.specs.Prelude.{ℕ, List, Option, Some, None, Result, Ok, Err, false, nat_lt, drop, if◌then◌else◌}
use Rattle.vl_record.specs.declared.file_side.FileSide.{FileSide}
use Rattle.vl_record.specs.declared.file_side.FileSide.TheVariants.{A, B}
use Rattle.vl_record.specs.Reading.{◌>>=◌, header_at, is_open}

-- the epoch of a file whose gate is open; none where it is closed
unfoldable pub epoch_at : ℕ → List ℕ → Result (Option ℕ) ℕ
epoch_at shard file = if is_open file then (header_at shard (record { bytes = drop 1 file; offset = 1; is_body = false }) >>= λ numbers. Ok (Some numbers.0.0)) else Ok None

-- the side with an open file gate and the greater epoch: a where both have one epoch, and where none is open
abbrev pub picked : Option ℕ → Option ℕ → FileSide
picked None None = A
picked None (Some b) = B
picked (Some a) None = A
picked (Some a) (Some b) = if nat_lt a b then B else A
