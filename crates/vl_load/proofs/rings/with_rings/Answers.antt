use Rattle.std.specs.Vec.Iter.{into_iter_items}
use Rattle.vl_load.specs.Rings.{HasRing, RefusesShards, RefusesRings}
use Rattle.vl_load.proofs.Faults.{unfit}
use Rattle.vl_load.proofs.Turns.{first_that_fails, one_more}
use Rattle.vl_load.proofs.rings.with_rings.Goals as goal

pub loop-read-preserved : goal.loop-read-preserved
loop-read-preserved c =
    one_more HasRing c.args.reads.items (into_iter_items c.loop-read.read-iterator) c.in-Some.read (into_iter_items c.next.new.self) c.loop-read.parts.items c.push.new.self.items c.in-Ok.part c.loop-read.invariant c.in-Some.ensures.steps.0 c.in-Ok.ensures.ok c.in_ok-push-in-Ok.ensures.items

pub returns-in-Err-clause-err : goal.returns-in-Err-clause-err
returns-in-Err-clause-err c =
    unfit (RefusesShards c.in-Some.read) (RefusesRings c.args.reads.items) c.in-Err.fault
    (λ fault is. first_that_fails HasRing RefusesShards c.args.reads.items (into_iter_items c.loop-read.read-iterator) c.in-Some.read (into_iter_items c.next.new.self) c.loop-read.parts.items fault c.loop-read.invariant c.in-Some.ensures.steps.0 is)
    c.in-Err.ensures.err
