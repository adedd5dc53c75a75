use Rattle.std.proofs.Common.{◌≡◌, ◌++◌, ◌∷◌, [], List, Ok, subst}
use Rattle.std.proofs.lemmas.Result.{err_from_is_err_and}
use Rattle.vl_values.specs.declared.key.Key.{Key}
use Rattle.vl_values.specs.declared.value.Value.{Value}
use Rattle.vl_record.specs.Reading.{many_at, pair_at}
use Rattle.vl_record.specs.Readers.{Fails, rest_of}
use Rattle.vl_record.proofs.Many.{goes_on, ends, is_done}
use Rattle.vl_record.proofs.file.pairs_of.Goals as goal

pub returns-in_err-pair : goal.returns-in_err-pair
returns-in_err-pair c =
    let p = err_from_is_err_and c.from_residual.result c.from_residual.ensures.1 in
    rw (p.1, p.2)
    (ends (pair_at c.args.catalog.now c.args.shard) c.in_err-pair.field-0.0 c.args.count c.loop.counter c.loop.pairs.items (rest_of c.loop.rest) (many_at (pair_at c.args.catalog.now c.args.shard) c.args.count [] (rest_of c.args.r)) c.loop-test.true
    (subst (λ (front : List (Key × List Value)). Fails c.in_err-pair.field-0.0 (pair_at c.args.catalog.now c.args.shard front (rest_of c.loop.rest))) c.as_slice.ensures.value c.in_err-pair.ensures)
    c.loop.invariant)

pub loop-preserved : goal.loop-preserved
loop-preserved c =
    rw c.in_ok-push.ensures.items
    (goes_on (pair_at c.args.catalog.now c.args.shard) c.args.count c.loop.counter c.loop.pairs.items (rest_of c.loop.rest) c.in_ok-pair.pair (rest_of c.in_ok-pair.next) (many_at (pair_at c.args.catalog.now c.args.shard) c.args.count [] (rest_of c.args.r)) c.loop-test.true
    (subst (λ (front : List (Key × List Value)). pair_at c.args.catalog.now c.args.shard front (rest_of c.loop.rest) ≡ Ok (c.in_ok-pair.pair, rest_of c.in_ok-pair.next)) c.as_slice.ensures.value c.in_ok-pair.ensures)
    c.loop.invariant)

pub returns : goal.returns
returns c = is_done (pair_at c.args.catalog.now c.args.shard) c.args.count c.loop.counter c.loop.pairs.items (rest_of c.loop.rest) (many_at (pair_at c.args.catalog.now c.args.shard) c.args.count [] (rest_of c.args.r)) c.loop-test.false c.loop.invariant
