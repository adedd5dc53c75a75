use Rattle.std.proofs.Common.{[], length}
use Rattle.std.proofs.lemmas.Bool.{ne_eqb}
use Rattle.std.proofs.lemmas.Result.{err_from_is_err_and}
use Rattle.vl_record.specs.Reading.{records_at}
use Rattle.vl_record.specs.Readers.{rest_of}
use Rattle.vl_record.proofs.Tail.{goes_on, gate_fails, record_fails, ends, runs_out}
use Rattle.vl_record.proofs.records.records_at.Goals as goal

pub returns-in_err-gate : goal.returns-in_err-gate
returns-in_err-gate c =
    let p = err_from_is_err_and c.from_residual.result c.from_residual.ensures.1 in
    let total = records_at c.args.catalog.now c.args.shard (length c.args.r.bytes.now) [] (rest_of c.args.r) in
    rw (p.1, p.2)
    (gate_fails c.args.catalog.now c.args.shard c.in_err-gate.field-0.0 (length c.args.r.bytes.now) c.loop.counter c.loop.parts.items (rest_of c.loop.rest) total c.loop-test.true c.in_err-gate.ensures c.loop.invariant)

pub returns-then-gate : goal.returns-then-gate
returns-then-gate c =
    let total = records_at c.args.catalog.now c.args.shard (length c.args.r.bytes.now) [] (rest_of c.args.r) in
    ends c.args.catalog.now c.args.shard (length c.args.r.bytes.now) c.loop.counter c.loop.parts.items (rest_of c.loop.rest) c.in_ok-gate.gate (rest_of c.in_ok-gate.body) total c.loop-test.true c.in_ok-gate.ensures (ne_eqb c.in_ok-gate.gate 167 c.if-gate.true) c.loop.invariant

pub returns-in_err-more : goal.returns-in_err-more
returns-in_err-more c =
    let p = err_from_is_err_and c.from_residual-in_err-more.result c.from_residual-in_err-more.ensures.1 in
    let total = records_at c.args.catalog.now c.args.shard (length c.args.r.bytes.now) [] (rest_of c.args.r) in
    rw (p.1, p.2)
    (record_fails c.args.catalog.now c.args.shard c.in_err-more.field-0.0 (length c.args.r.bytes.now) c.loop.counter c.loop.parts.items (rest_of c.loop.rest) c.in_ok-gate.gate (rest_of c.in_ok-gate.body) total c.loop-test.true c.in_ok-gate.ensures c.if-gate.false c.in_err-more.ensures c.loop.invariant)

pub loop-preserved : goal.loop-preserved
loop-preserved c =
    let total = records_at c.args.catalog.now c.args.shard (length c.args.r.bytes.now) [] (rest_of c.args.r) in
    goes_on c.args.catalog.now c.args.shard (length c.args.r.bytes.now) c.loop.counter c.loop.parts.items (rest_of c.loop.rest) c.in_ok-gate.gate (rest_of c.in_ok-gate.body) c.in_ok-more.more.items (rest_of c.in_ok-more.next) total c.loop-test.true c.in_ok-gate.ensures c.if-gate.false c.in_ok-more.ensures c.loop.invariant

pub returns : goal.returns
returns c =
    let total = records_at c.args.catalog.now c.args.shard (length c.args.r.bytes.now) [] (rest_of c.args.r) in
    runs_out c.args.catalog.now c.args.shard (length c.args.r.bytes.now) c.loop.counter c.loop.parts.items (rest_of c.loop.rest) total c.loop-test.false c.loop.invariant
