use Rattle.std.proofs.Common.{◌∙◌}
use Rattle.std.proofs.lemmas.List.Filters.{dedup_is}
use Rattle.vl_plan.proofs.Sorting.{sorted_in_order}
use Rattle.vl_plan.proofs.in_order.in_order.Goals as goal

pub returns : goal.returns
returns c =
    c.from_vec.ensures
    ∙ sorted_in_order c.args.values.items c.without_null.new.values.items c.sort_unstable.new.self.items c.dedup.new.self.items
    c.without_null.ensures c.sort_unstable.ensures.permutation c.sort_unstable.ensures.sorted (dedup_is _ _ _ c.dedup.ensures.filtered)
