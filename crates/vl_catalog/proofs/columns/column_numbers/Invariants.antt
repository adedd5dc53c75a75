use Rattle.std.proofs.Common.{◌≡◌, drop}
use Rattle.vl_catalog.specs.Build.{column_numbers}
use Rattle.vl_catalog.proofs.Numbers.{numbers_left}
use Rattle.vl_catalog.proofs.columns.column_numbers.Given as goal

abbrev pub invariant-loop-name : goal.invariant-loop-name
invariant-loop-name l = numbers_left l.columns l.numbers.items (drop l.name-index l.names) ≡ column_numbers l.columns l.names
