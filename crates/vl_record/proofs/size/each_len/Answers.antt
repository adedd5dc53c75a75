use Rattle.std.proofs.Common.{◌≡◌, ◌+◌, ◌*◌, ◌++◌, List, [], ℕ, length, get_or, take, sym, ap, ◌∙◌, arith, length-append}
use Rattle.std.specs.List.{flat_map}
use Rattle.vl_values.specs.declared.value.Value.{Value}
use Rattle.vl_record.specs.Spelling.{value_bytes}
use Rattle.vl_record.proofs.Putting.{grown}
use Rattle.vl_record.proofs.size.each_len.Goals as goal

pub value_len-len-requires : goal.value_len-len-requires
value_len-len-requires c = rw c.value-item.is (c.requires.each c.loop-value.value-index _ c.loop-value-test.true)

pub overflow_add-len : goal.overflow_add-len
overflow_add-len c = omega (arith, c.loop-value.invariant.bound, c.value_len-len.ensures.bound, c.loop-value-test.true, c.requires.few)

pub loop-value-preserved : goal.loop-value-preserved
loop-value-preserved c =
    let xs = c.args.values.now in
    let more = grown value_bytes [] xs c.loop-value.value-index c.value-item.result c.loop-value-test.true in
    record {
      len = omega (arith, c.loop-value.invariant.len, c.value_len-len.ensures.len, ap (λ (x : Value). length (value_bytes x)) c.value-item.is, ap length more, length-append (flat_map value_bytes (take c.loop-value.value-index xs)) (value_bytes (get_or xs c.loop-value.value-index c.value-item.result)));
      bound = omega (arith, c.loop-value.invariant.bound, c.value_len-len.ensures.bound);
    }

pub returns-clause-bound : goal.returns-clause-bound
returns-clause-bound c = omega (arith, c.loop-value.invariant.bound, c.requires.few)
