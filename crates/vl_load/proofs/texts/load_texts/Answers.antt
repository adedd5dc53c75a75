use Rattle.std.proofs.Common.{◌∙◌}
use Rattle.std.specs.Vec.Iter.{into_iter_items}
use Rattle.vl_load.specs.Files.{HasTexts, IsLongIn, IsLongOf}
use Rattle.vl_load.proofs.Faults.{unloaded}
use Rattle.vl_load.proofs.Turns.{first_that_fails, one_more}
use Rattle.vl_load.proofs.texts.load_texts.Goals as goal

pub loop-keyspace-preserved : goal.loop-keyspace-preserved
loop-keyspace-preserved g c =
    let known = g.F.Files.known c.args.files.now in
    let folder = c.args.folder.now in
    let before = c.loop-keyspace.invariant in
    let made = rw before.same at c.in-Ok.ensures.ok in
    record {
      same = c.in-Ok.ensures.same ∙ before.same;
      count = c.in-Ok.ensures.cause.counted ∙ before.count;
      far = one_more (HasTexts known folder) c.args.keyspaces.items (into_iter_items c.loop-keyspace.keyspace-iterator) c.in-Some.keyspace (into_iter_items c.next.new.self) c.loop-keyspace.texts.items c.push.new.self.items c.in-Ok.pair before.far c.in-Some.ensures.steps.0 made c.in_ok-push-in-Ok.ensures.items;
    }

pub returns-in-Err-clause-err : goal.returns-in-Err-clause-err
returns-in-Err-clause-err g c =
    let known = g.F.Files.known c.args.files.now in
    let folder = c.args.folder.now in
    let before = c.loop-keyspace.invariant in
    let long = rw before.same at c.in-Err.ensures.err in
    unloaded (IsLongOf known folder c.in-Some.keyspace) (IsLongIn known folder c.args.keyspaces.items) c.in-Err.fault
    (λ file is. first_that_fails (HasTexts known folder) (IsLongOf known folder) c.args.keyspaces.items (into_iter_items c.loop-keyspace.keyspace-iterator) c.in-Some.keyspace (into_iter_items c.next.new.self) c.loop-keyspace.texts.items file before.far c.in-Some.ensures.steps.0 is)
    long
