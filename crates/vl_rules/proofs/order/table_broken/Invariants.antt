use Rattle.std.proofs.Common.{◌≡◌, drop}
use Rattle.vl_rules.specs.Order.{table_broken}
use Rattle.vl_rules.proofs.order.table_broken.Given as goal

abbrev pub invariant-loop-place : goal.invariant-loop-place
invariant-loop-place l = table_broken l.catalog 0 l.catalog.tables ≡ table_broken l.catalog l.place (drop l.place l.catalog.tables)
