use Rattle.std.proofs.Common.{drop}
use Rattle.vl_vindex.specs.KeyRange.{IsRead}
use Rattle.vl_load.proofs.Turns.{SoFar}
use Rattle.vl_load.proofs.rings.ranges_of.Given as goal

abbrev pub invariant-loop-text : goal.invariant-loop-text
invariant-loop-text l = SoFar IsRead l.texts (drop l.text-index l.texts) l.ranges.items
