use Rattle.std.proofs.Common.{ℕ, Option, ap}
use Rattle.std.specs.Prelude.{unwrap_or}
use Rattle.vl_model.specs.Refusals.{unknown_among}
use Rattle.vl_plan.specs.Planned.{number_in}
use Rattle.vl_plan.proofs.Firsts.{handed_on, passed_first, passed_more, pushed_more, unknown_spread}
use Rattle.vl_plan.proofs.columns.numbers_of.Goals as goal

pub returns-in_err-number-clause-unknown : goal.returns-in_err-number-clause-unknown
returns-in_err-number-clause-unknown c =
    handed_on c.from_residual.result c.in_err-number.field-0.0 _ c.from_residual.ensures.1
    (passed_first (unknown_among c.args.table.now.columns) (unknown_spread c.args.table.now.columns) c.args.names.now c.loop-name.name-index
    c.name-item.result c.in_err-number.field-0.0 c.loop-name-test.true c.name-item.is c.loop-name.invariant.known c.in_err-number.ensures.unknown)

pub loop-name-preserved : goal.loop-name-preserved
loop-name-preserved c = record {
  known =
      passed_more (unknown_among c.args.table.now.columns) (unknown_spread c.args.table.now.columns) c.args.names.now c.loop-name.name-index
      c.name-item.result c.loop-name-test.true c.name-item.is c.loop-name.invariant.known c.in_ok-number.ensures.known;
  numbers =
      pushed_more (number_in c.args.table.now.columns) c.args.names.now c.loop-name.name-index c.name-item.result c.loop-name.numbers.items
      c.push.new.self.items c.in_ok-number.number c.loop-name-test.true c.name-item.is c.loop-name.invariant.numbers
      (ap (λ (o : Option ℕ). unwrap_or o 0) c.in_ok-number.ensures.number) c.in-Ok-push.ensures.items;
}
