use Rattle.std.proofs.Common.{subst}
use Rattle.vl_vindex.specs.Ring.{CoversOnce}
use Rattle.vl_vindex.proofs.ring.Ring.ranges.Goals as goal

pub returns-clause-once : goal.returns-clause-once
returns-clause-once c = subst CoversOnce c.self.view_is c.self.invariant.once
