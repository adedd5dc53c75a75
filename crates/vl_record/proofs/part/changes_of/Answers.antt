use Rattle.std.proofs.Common.{◌≡◌, ◌++◌, ◌∷◌, [], List, Ok, subst}
use Rattle.std.proofs.lemmas.Result.{err_from_is_err_and}
use Rattle.vl_catalog.specs.declared.change.Change.{Change}
use Rattle.vl_record.specs.Reading.{many_at, change_at}
use Rattle.vl_record.specs.Readers.{Fails, rest_of}
use Rattle.vl_record.proofs.Many.{goes_on, ends, is_done}
use Rattle.vl_record.proofs.part.changes_of.Goals as goal

pub returns-in_err-change : goal.returns-in_err-change
returns-in_err-change c =
    let p = err_from_is_err_and c.from_residual.result c.from_residual.ensures.1 in
    rw (p.1, p.2)
    (ends (change_at c.args.catalog.now c.args.shard) c.in_err-change.field-0.0 c.args.count c.loop.counter c.loop.changes.items (rest_of c.loop.rest) (many_at (change_at c.args.catalog.now c.args.shard) c.args.count [] (rest_of c.args.r)) c.loop-test.true
    (subst (λ (front : List Change). Fails c.in_err-change.field-0.0 (change_at c.args.catalog.now c.args.shard front (rest_of c.loop.rest))) c.as_slice.ensures.value c.in_err-change.ensures)
    c.loop.invariant)

pub loop-preserved : goal.loop-preserved
loop-preserved c =
    rw c.in_ok-push.ensures.items
    (goes_on (change_at c.args.catalog.now c.args.shard) c.args.count c.loop.counter c.loop.changes.items (rest_of c.loop.rest) c.in_ok-change.change (rest_of c.in_ok-change.next) (many_at (change_at c.args.catalog.now c.args.shard) c.args.count [] (rest_of c.args.r)) c.loop-test.true
    (subst (λ (front : List Change). change_at c.args.catalog.now c.args.shard front (rest_of c.loop.rest) ≡ Ok (c.in_ok-change.change, rest_of c.in_ok-change.next)) c.as_slice.ensures.value c.in_ok-change.ensures)
    c.loop.invariant)

pub returns : goal.returns
returns c = is_done (change_at c.args.catalog.now c.args.shard) c.args.count c.loop.counter c.loop.changes.items (rest_of c.loop.rest) (many_at (change_at c.args.catalog.now c.args.shard) c.args.count [] (rest_of c.args.r)) c.loop-test.false c.loop.invariant
