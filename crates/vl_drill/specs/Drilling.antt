-- What is seen of a drill.
use Rattle.std.specs.Prelude.{ℕ}

pub record Drilling : Type 0 where
  -- how many statements are still to be asked
  pub left : ℕ
  -- the generator's
  pub state : ℕ
  -- at the end, the session from which on the next step is made
  pub stepped : ℕ
  -- at the end, the session from which on none has committed
  pub committed : ℕ
