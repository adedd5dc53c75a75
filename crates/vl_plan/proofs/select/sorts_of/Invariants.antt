use Rattle.std.proofs.Common.{◌≡◌, [], map, take}
use Rattle.vl_model.specs.Refusals.{unknown_among}
use Rattle.vl_plan.specs.Planned.{sort_of}
use Rattle.vl_plan.proofs.select.sorts_of.Given as goal

abbrev pub invariant-loop-order : goal.invariant-loop-order
invariant-loop-order l = record {
  known : unknown_among l.table.columns (map (λ order. order.column) (take l.order-index l.orders)) ≡ [];
  sorts : l.sorts.items ≡ map (sort_of l.table) (take l.order-index l.orders);
}
