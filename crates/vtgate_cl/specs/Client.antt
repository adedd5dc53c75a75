-- What contracts see of a script's client.
use Rattle.std.specs.Prelude.{ℕ}
use Rattle.vl_model.specs.Steps.{Rows}

pub record ClientView : Type 0 where
  -- the rows of the one table
  pub rows : Rows
  -- the number of the core's last event
  pub at : ℕ
