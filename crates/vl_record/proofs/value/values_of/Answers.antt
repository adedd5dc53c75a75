use Rattle.std.proofs.Common.{◌≡◌, ◌++◌, ◌∷◌, [], List, Ok, subst}
use Rattle.std.proofs.lemmas.Result.{err_from_is_err_and}
use Rattle.vl_values.specs.declared.value.Value.{Value}
use Rattle.vl_record.specs.Reading.{many_at, next_value}
use Rattle.vl_record.specs.Readers.{Fails, rest_of}
use Rattle.vl_record.proofs.Many.{goes_on, ends, is_done}
use Rattle.vl_record.proofs.value.values_of.Goals as goal

pub returns-in_err-value : goal.returns-in_err-value
returns-in_err-value c =
    let p = err_from_is_err_and c.from_residual-in_err-value.result c.from_residual-in_err-value.ensures.1 in
    rw (p.1, p.2)
    (ends (next_value c.args.table.now c.args.is_key) c.in_err-value.field-0.0 c.args.count c.loop.counter c.loop.values.items (rest_of c.loop.rest) (many_at (next_value c.args.table.now c.args.is_key) c.args.count [] (rest_of c.args.r)) c.loop-test.true
    (subst (λ (front : List Value). Fails c.in_err-value.field-0.0 (next_value c.args.table.now c.args.is_key front (rest_of c.loop.rest))) c.as_slice.ensures.value c.in_err-value.ensures)
    c.loop.invariant)

pub loop-preserved : goal.loop-preserved
loop-preserved c =
    rw c.in_ok-push.ensures.items
    (goes_on (next_value c.args.table.now c.args.is_key) c.args.count c.loop.counter c.loop.values.items (rest_of c.loop.rest) c.in_ok-value.value (rest_of c.in_ok-value.next) (many_at (next_value c.args.table.now c.args.is_key) c.args.count [] (rest_of c.args.r)) c.loop-test.true
    (subst (λ (front : List Value). next_value c.args.table.now c.args.is_key front (rest_of c.loop.rest) ≡ Ok (c.in_ok-value.value, rest_of c.in_ok-value.next)) c.as_slice.ensures.value c.in_ok-value.ensures)
    c.loop.invariant)

pub returns : goal.returns
returns c = is_done (next_value c.args.table.now c.args.is_key) c.args.count c.loop.counter c.loop.values.items (rest_of c.loop.rest) (many_at (next_value c.args.table.now c.args.is_key) c.args.count [] (rest_of c.args.r)) c.loop-test.false c.loop.invariant
