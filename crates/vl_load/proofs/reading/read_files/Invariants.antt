use Rattle.std.specs.Vec.Iter.{into_iter_items}
use Rattle.vl_load.specs.Reading.{Means}
use Rattle.vl_load.proofs.Turns.{SoFar}
use Rattle.vl_load.proofs.reading.read_files.Given as goal

abbrev pub invariant-loop-pair : goal.invariant-loop-pair
invariant-loop-pair l = SoFar Means l.fn.texts.items (into_iter_items l.pair-iterator) l.reads.items
