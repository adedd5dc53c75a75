use Rattle.std.proofs.Common.{◌≡◌, ◌++◌, drop}
use Rattle.vl_load.specs.Ignored.{paths_in}
use Rattle.vl_load.proofs.ignored.add_paths.Given as goal

abbrev pub invariant-loop-path : goal.invariant-loop-path
invariant-loop-path l = l.all.items ++ paths_in l.file (drop l.path-index l.paths) ≡ l.fn.all.items ++ paths_in l.file l.paths
