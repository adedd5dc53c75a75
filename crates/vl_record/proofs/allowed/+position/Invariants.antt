use Rattle.std.proofs.Common.{length}
use Rattle.vl_record.proofs.allowed.+position.Given as goal

abbrev pub decreases-position : goal.decreases-position
decreases-position l = length l.key.now
