use Rattle.std.proofs.Common.{map, List, ℕ}
use Rattle.vl_model.specs.Refusals.{unknown_among}
use Rattle.vl_sql.specs.declared.assignment.Assignment.{Assignment}
use Rattle.vl_plan.proofs.Firsts.{handed_on, passed_first, passed_more, unknown_of_spread}
use Rattle.vl_plan.proofs.columns.known_set.Goals as goal

pub returns-in_err-number_of-clause-unknown : goal.returns-in_err-number_of-clause-unknown
returns-in_err-number_of-clause-unknown c =
    handed_on c.from_residual.result c.in_err-number_of.field-0.0 _ c.from_residual.ensures.1
    (passed_first (λ (xs : List Assignment). unknown_among c.args.table.now.columns (map (λ a. a.column) xs))
    (unknown_of_spread c.args.table.now.columns (λ (a : Assignment). a.column)) c.args.assignments.now c.loop-assignment.assignment-index
    c.assignment-item.result c.in_err-number_of.field-0.0 c.loop-assignment-test.true c.assignment-item.is c.loop-assignment.invariant
    c.in_err-number_of.ensures.unknown)

pub loop-assignment-preserved : goal.loop-assignment-preserved
loop-assignment-preserved c =
    passed_more (λ (xs : List Assignment). unknown_among c.args.table.now.columns (map (λ a. a.column) xs))
    (unknown_of_spread c.args.table.now.columns (λ (a : Assignment). a.column)) c.args.assignments.now c.loop-assignment.assignment-index
    c.assignment-item.result c.loop-assignment-test.true c.assignment-item.is c.loop-assignment.invariant c.in_ok-number_of.ensures.known
