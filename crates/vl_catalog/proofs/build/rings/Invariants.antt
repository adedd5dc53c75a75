use Rattle.std.proofs.Common.{◌≡◌, map, take}
use Rattle.vl_catalog.proofs.build.rings.Given as goal

abbrev pub invariant-loop-part : goal.invariant-loop-part
invariant-loop-part l = l.rings.items ≡ map (λ part. part.ring) (take l.part-index l.parts)
