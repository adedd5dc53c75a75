-- What is in the acts that a claim holds: its row in an Insert, its predicate in a Find.
use Rattle.std.specs.Prelude.{◌≡◌, true, List, []}
use Rattle.vl_values.specs.declared.key.Key.{Key}
use Rattle.vl_values.specs.declared.pred.Pred.{Pred}
use Rattle.vl_port.specs.declared.act.Act.{Act}
use Rattle.vl_port.specs.declared.act.Act.TheVariants.{Insert, Put, Remove, RemoveIf, Find}
use Rattle.vl_port.specs.View.{Values}

abbrev pub row_in : Act → Values
row_in (Insert key row) = row
row_in (Put key row) = row
row_in (Remove key) = []
row_in (RemoveIf key column value) = []
row_in (Find pred locking) = []

abbrev pub pred_in : Act → Pred
pred_in (Insert key row) = record { table = 0; tests = [] }
pred_in (Put key row) = record { table = 0; tests = [] }
pred_in (Remove key) = record { table = 0; tests = [] }
pred_in (RemoveIf key column value) = record { table = 0; tests = [] }
pred_in (Find pred locking) = pred

-- the one inserts a row, the other is a locking read
pub record AreActs (key : Key) (insert find : Act) : Type 0 where
  pub inserts : insert ≡ Insert key (row_in insert)
  pub finds : find ≡ Find (pred_in find) true
