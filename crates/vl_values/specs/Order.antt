-- The orders of values, of rows and of keys are total orders.
use Rattle.std.specs.Cmp.{IsTotalOrder}
use Rattle.std.proofs.lemmas.Cmp.{on_total, then_total, nat_cmp_total, int_cmp_total, nat_list_cmp_total, lists_total}
use Rattle.vl_values.specs.Value.{class, number, sign_class, bytes, value_cmp}
use Rattle.vl_values.specs.Row.{row_cmp}

pub value_cmp_total : IsTotalOrder value_cmp
value_cmp_total = then_total (on_total class nat_cmp_total) (then_total (on_total number int_cmp_total) (then_total (on_total sign_class nat_cmp_total) (on_total bytes nat_list_cmp_total)))

pub row_cmp_total : IsTotalOrder row_cmp
row_cmp_total = lists_total value_cmp_total
