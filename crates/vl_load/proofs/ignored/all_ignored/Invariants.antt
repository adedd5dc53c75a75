use Rattle.std.proofs.Common.{◌≡◌, ◌++◌, drop}
use Rattle.vl_load.specs.Ignored.{all_ignored}
use Rattle.vl_load.proofs.ignored.all_ignored.Given as goal

abbrev pub invariant-loop-read : goal.invariant-loop-read
invariant-loop-read l = l.all.items ++ all_ignored (drop l.read-index l.reads) ≡ all_ignored l.reads
