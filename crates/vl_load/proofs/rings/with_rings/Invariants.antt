use Rattle.std.specs.Vec.Iter.{into_iter_items}
use Rattle.vl_load.specs.Rings.{HasRing}
use Rattle.vl_load.proofs.Turns.{SoFar}
use Rattle.vl_load.proofs.rings.with_rings.Given as goal

abbrev pub invariant-loop-read : goal.invariant-loop-read
invariant-loop-read l = SoFar HasRing l.fn.reads.items (into_iter_items l.read-iterator) l.parts.items
