use Rattle.std.specs.Vec.Iter.{into_iter_items}
use Rattle.vl_load.specs.Reading.{Means, RefusesFile, RefusesFiles}
use Rattle.vl_load.proofs.Faults.{unfit}
use Rattle.vl_load.proofs.Turns.{first_that_fails, one_more}
use Rattle.vl_load.proofs.reading.read_files.Goals as goal

pub loop-pair-preserved : goal.loop-pair-preserved
loop-pair-preserved c =
    one_more Means c.args.texts.items (into_iter_items c.loop-pair.pair-iterator) c.in-Some.pair (into_iter_items c.next.new.self) c.loop-pair.reads.items c.push.new.self.items c.in-Ok.read c.loop-pair.invariant c.in-Some.ensures.steps.0 c.in-Ok.ensures.ok c.in_ok-push-in-Ok.ensures.items

pub returns-in-Err-clause-err : goal.returns-in-Err-clause-err
returns-in-Err-clause-err c =
    unfit (RefusesFile c.in-Some.pair) (RefusesFiles c.args.texts.items) c.in-Err.fault
    (λ fault is. first_that_fails Means RefusesFile c.args.texts.items (into_iter_items c.loop-pair.pair-iterator) c.in-Some.pair (into_iter_items c.next.new.self) c.loop-pair.reads.items fault c.loop-pair.invariant c.in-Some.ensures.steps.0 is)
    c.in-Err.ensures.err
