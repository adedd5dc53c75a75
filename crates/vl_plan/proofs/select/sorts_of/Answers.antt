use Rattle.std.proofs.Common.{◌≡◌, ◌∷◌, [], ℕ, List, Option, Some, Bool, map, ap, sym}
use Rattle.std.specs.Prelude.{unwrap_or}
use Rattle.vl_catalog.specs.declared.column.Column.{Column}
use Rattle.vl_catalog.specs.Build.{column_number}
use Rattle.vl_model.specs.Refusals.{IsFirst, unknown_among}
use Rattle.vl_sql.specs.declared.order.Order.{Order}
use Rattle.vl_plan.specs.declared.sort.Sort.{Sort}
use Rattle.vl_plan.specs.Planned.{number_of, sort_of, is_descending}
use Rattle.vl_plan.proofs.Firsts.{handed_on, passed_first, passed_more, pushed_more, unknown_of_spread}
use Rattle.vl_plan.proofs.select.sorts_of.Goals as goal

pub returns-in_err-column-clause-unknown : goal.returns-in_err-column-clause-unknown
returns-in_err-column-clause-unknown c =
    handed_on c.from_residual.result c.in_err-column.field-0.0 _ c.from_residual.ensures.1
    (passed_first (λ (xs : List Order). unknown_among c.args.table.now.columns (map (λ a. a.column) xs))
    (unknown_of_spread c.args.table.now.columns (λ (a : Order). a.column)) c.args.orders.now c.loop-order.order-index
    c.order-item.result c.in_err-column.field-0.0 c.loop-order-test.true c.order-item.is c.loop-order.invariant.known
    c.in_err-column.ensures.unknown)

same_sort : (m n : ℕ) (a b : Bool) → m ≡ n → a ≡ b → (let s : Sort = record { column = m; descending = a } in s) ≡ record { column = n; descending = b }
same_sort m n a b e f = λ i. record { column = e i; descending = f i }

pub loop-order-preserved : goal.loop-order-preserved
loop-order-preserved c = record {
  known =
      passed_more (λ (xs : List Order). unknown_among c.args.table.now.columns (map (λ a. a.column) xs))
      (unknown_of_spread c.args.table.now.columns (λ (a : Order). a.column)) c.args.orders.now c.loop-order.order-index
      c.order-item.result c.loop-order-test.true c.order-item.is c.loop-order.invariant.known
      c.in_ok-column.ensures.known;
  sorts =
      pushed_more (sort_of c.args.table.now) c.args.orders.now c.loop-order.order-index c.order-item.result c.loop-order.sorts.items
      c.push.new.self.items _ c.loop-order-test.true c.order-item.is c.loop-order.invariant.sorts
      (same_sort _ _ _ _ (ap (λ (o : Option ℕ). unwrap_or o 0) c.in_ok-column.ensures.number) (sym c.is_descending.ensures)) c.in-Ok-push.ensures.items;
}
