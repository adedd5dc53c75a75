use Rattle.std.proofs.Common.{length}
use Rattle.vl_text.proofs.shards.+name_in.Given as goal

abbrev pub decreases-name_in : goal.decreases-name_in
decreases-name_in l = length l.keyspaces.now
