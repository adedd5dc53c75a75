use Rattle.std.proofs.Common.{rules, is_lt}
use Rattle.std.proofs.lemmas.Fn.{always_returns_same}
use Rattle.std.proofs.lemmas.List.Sorted.{ranks_by}
use Rattle.std.proofs.lemmas.Result.{on_ok_weaker}
use Rattle.vl_select.specs.Sorting.{rows_cmp}
use Rattle.vl_select.proofs.Ordered.{rows_total}
use Rattle.vl_select.proofs.sorting.sort_by_rows.Goals as goal

pub returns : goal.returns
returns c =
    let ranks = ranks_by (rows_total c.args.sorts.now) (λ x. x) in
    on_ok_weaker c.sort_by.result
    (λ sorted. record {
      same = c.sort_by.ensures.permutation;
      ordered = sorted (λ a b. is_lt (rows_cmp c.args.sorts.now a b)) ranks (always_returns_same _ _ _ (λ a r f k. search rules));
      stable = c.sort_by.ensures.stable (λ a b. is_lt (rows_cmp c.args.sorts.now a b)) ranks (always_returns_same _ _ _ (λ a r f k. search rules));
    })
    c.sort_by.ensures.sorted
