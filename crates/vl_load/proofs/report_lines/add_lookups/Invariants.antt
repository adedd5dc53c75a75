use Rattle.std.proofs.Common.{◌≡◌, ◌++◌, drop}
use Rattle.std.specs.List.{flat_map}
use Rattle.vl_load.specs.Report.{lookup_text}
use Rattle.vl_load.proofs.report_lines.add_lookups.Given as goal

abbrev pub invariant-loop-number : goal.invariant-loop-number
invariant-loop-number l = l.text.items ++ flat_map (lookup_text l.catalog) (drop l.number-index l.lookups) ≡ l.fn.text.items ++ flat_map (lookup_text l.catalog) l.lookups
