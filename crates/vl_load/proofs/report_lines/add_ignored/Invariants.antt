use Rattle.std.proofs.Common.{◌≡◌, ◌++◌, drop}
use Rattle.std.specs.List.{flat_map}
use Rattle.vl_load.specs.Report.{ignored_line}
use Rattle.vl_load.proofs.report_lines.add_ignored.Given as goal

abbrev pub invariant-loop-path : goal.invariant-loop-path
invariant-loop-path l = l.text.items ++ flat_map ignored_line (drop l.path-index l.paths) ≡ l.fn.text.items ++ flat_map ignored_line l.paths
