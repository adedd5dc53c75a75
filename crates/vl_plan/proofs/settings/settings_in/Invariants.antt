use Rattle.std.proofs.Common.{◌≡◌, ◌++◌, map, drop}
use Rattle.vl_model.specs.Columns.{set_stored}
use Rattle.vl_plan.specs.Sets.{set_of}
use Rattle.vl_plan.proofs.settings.settings_in.Given as goal

abbrev pub invariant-loop-number : goal.invariant-loop-number
invariant-loop-number l = set_stored l.catalog l.table l.assignments 0 l.columns ≡ map set_of l.settings.items ++ set_stored l.catalog l.table l.assignments l.number (drop l.number l.columns)
