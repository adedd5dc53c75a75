use Rattle.std.proofs.Common.{◌≡◌, take}
use Rattle.vl_catalog.proofs.copies.rings_of.Given as goal

abbrev pub invariant-loop-ring : goal.invariant-loop-ring
invariant-loop-ring l = l.copy.items ≡ take l.ring-index l.rings
