-- What the adapters over std's io show.
use Rattle.std.specs.Prelude.{ℕ}

-- a source over a reader of std
pub record ReaderState (R : Type 0) : Type 0 where
  pub reader : R
  -- how many reads have failed
  pub faults : ℕ
  -- how many reads gave bytes
  pub given : ℕ

-- a sink over a writer of std
pub record WriterState (W : Type 0) : Type 0 where
  pub writer : W
  -- how many writes have failed, or took none of some bytes
  pub faults : ℕ
