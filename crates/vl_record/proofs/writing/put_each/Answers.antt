use Rattle.std.proofs.Common.{◌≡◌, ◌+◌, ◌++◌, List, ℕ, length, take, sym, ap, ◌∙◌, arith, length-append}
use Rattle.std.specs.List.{flat_map}
use Rattle.vl_values.specs.declared.value.Value.{Value}
use Rattle.vl_record.specs.Spelling.{value_bytes}
use Rattle.vl_record.proofs.Putting.{any_err, grown, no_room}
use Rattle.vl_record.proofs.writing.put_each.Goals as goal

pub put_value-requires : goal.put_value-requires
put_value-requires c = rw c.value-item.is (c.requires.each c.loop-value.value-index _ c.loop-value-test.true)

pub loop-value-preserved : goal.loop-value-preserved
loop-value-preserved c =
    let old = c.args.out.now.items in
    let xs = c.args.values.now in
    record {
      items = c.in_ok-put_value.ensures.items
          ∙ (ap (λ (t : List ℕ). t ++ value_bytes c.value-item.result) c.loop-value.invariant.items
          ∙ (ap (λ (x : Value). (old ++ flat_map value_bytes (take c.loop-value.value-index xs)) ++ value_bytes x) c.value-item.is
          ∙ grown value_bytes old xs c.loop-value.value-index c.value-item.result c.loop-value-test.true));
      capacity = omega (arith, c.loop-value.invariant.capacity, c.in_ok-put_value.ensures.capacity);
    }

pub returns-in_err-put_value-clause-full : goal.returns-in_err-put_value-clause-full
returns-in_err-put_value-clause-full c =
    any_err c.from_residual.result
    (no_room value_bytes c.args.values.now c.loop-value.value-index c.value-item.result c.args.out.now c.loop-value.out c.loop-value-test.true c.value-item.is c.loop-value.invariant c.in_err-put_value.ensures.full)
