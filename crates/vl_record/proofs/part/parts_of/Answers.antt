use Rattle.std.proofs.Common.{◌≡◌, ◌++◌, ◌∷◌, [], List, Ok, subst}
use Rattle.std.proofs.lemmas.Result.{err_from_is_err_and}
use Rattle.vl_record.specs.Reading.{many_at, next_part}
use Rattle.vl_record.specs.Readers.{Fails, rest_of}
use Rattle.vl_record.proofs.Many.{goes_on, ends, is_done}
use Rattle.vl_record.proofs.part.parts_of.Goals as goal

pub returns-in_err-part : goal.returns-in_err-part
returns-in_err-part c =
    let p = err_from_is_err_and c.from_residual.result c.from_residual.ensures.1 in
    rw (p.1, p.2)
    (ends (next_part c.args.catalog.now c.args.shard) c.in_err-part.field-0.0 c.args.count c.loop.counter c.loop.parts.items (rest_of c.loop.rest) (many_at (next_part c.args.catalog.now c.args.shard) c.args.count c.args.front.items (rest_of c.args.r)) c.loop-test.true
    c.in_err-part.ensures
    c.loop.invariant)

pub loop-preserved : goal.loop-preserved
loop-preserved c =
    rw c.in_ok-push.ensures.items
    (goes_on (next_part c.args.catalog.now c.args.shard) c.args.count c.loop.counter c.loop.parts.items (rest_of c.loop.rest) c.in_ok-part.part (rest_of c.in_ok-part.next) (many_at (next_part c.args.catalog.now c.args.shard) c.args.count c.args.front.items (rest_of c.args.r)) c.loop-test.true
    c.in_ok-part.ensures
    c.loop.invariant)

pub returns : goal.returns
returns c = is_done (next_part c.args.catalog.now c.args.shard) c.args.count c.loop.counter c.loop.parts.items (rest_of c.loop.rest) (many_at (next_part c.args.catalog.now c.args.shard) c.args.count c.args.front.items (rest_of c.args.r)) c.loop-test.false c.loop.invariant
