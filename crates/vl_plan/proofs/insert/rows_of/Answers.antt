use Rattle.std.proofs.Common.{[], List, map, refl}
use Rattle.std.specs.List.{flat_map}
use Rattle.std.proofs.lemmas.List.Concat.{flat_map-append}
use Rattle.vl_values.specs.declared.value.Value.{Value}
use Rattle.vl_model.specs.Refusals.{faults}
use Rattle.vl_plan.specs.Planned.{values_of}
use Rattle.vl_plan.specs.Targets.{stored_by}
use Rattle.vl_plan.proofs.Firsts.{both_empty, first_front, handed_on, passed_first, passed_more, pushed_more}
use Rattle.vl_plan.proofs.Gathering.{gathered_all}
use Rattle.vl_plan.proofs.insert.rows_of.Goals as goal

pub returns-in_err-stored-clause-refused : goal.returns-in_err-stored-clause-refused
returns-in_err-stored-clause-refused c =
    handed_on c.from_residual.result c.in_err-stored.field-0.0 _ c.from_residual.ensures.1
    (passed_first (flat_map (λ (row : List Value). faults (map (stored_by row) c.args.targets.now))) (flat_map-append (λ (row : List Value). faults (map (stored_by row) c.args.targets.now)))
    c.args.rows.now c.loop-row.row-index c.row-item.result c.in_err-stored.field-0.0 c.loop-row-test.true c.row-item.is c.loop-row.invariant.fit
    (first_front c.in_err-stored.field-0.0 (faults (map (stored_by c.row-item.result) c.args.targets.now)) [] c.in_err-stored.ensures.refused))

pub loop-row-preserved : goal.loop-row-preserved
loop-row-preserved c =
    let all = gathered_all (map (stored_by c.row-item.result) c.args.targets.now) c.in_ok-stored.stored c.in_ok-stored.ensures.row in
    record {
      fit =
          passed_more (flat_map (λ (row : List Value). faults (map (stored_by row) c.args.targets.now))) (flat_map-append (λ (row : List Value). faults (map (stored_by row) c.args.targets.now)))
          c.args.rows.now c.loop-row.row-index c.row-item.result c.loop-row-test.true c.row-item.is c.loop-row.invariant.fit
          (both_empty (faults (map (stored_by c.row-item.result) c.args.targets.now)) [] all.0 refl);
      rows =
          pushed_more (λ (row : List Value). values_of (map (stored_by row) c.args.targets.now)) c.args.rows.now c.loop-row.row-index c.row-item.result c.loop-row.all.items
          c.push.new.self.items c.in_ok-stored.stored c.loop-row-test.true c.row-item.is c.loop-row.invariant.rows all.1 c.in-Ok-push.ensures.items;
    }
