use Rattle.std.proofs.Common.{rules, is_lt}
use Rattle.std.specs.Cmp.Lexicographic.{slice_cmp}
use Rattle.std.specs.Ordering.{nat_cmp}
use Rattle.std.proofs.lemmas.Cmp.{nat_list_cmp_total}
use Rattle.std.proofs.lemmas.Fn.{always_returns_same}
use Rattle.std.proofs.lemmas.List.Sorted.{ranks_by}
use Rattle.std.proofs.lemmas.Result.{on_ok_weaker}
use Rattle.vl_local.proofs.listing.sort_names.Goals as goal

pub returns : goal.returns
returns c =
    let ranks = ranks_by nat_list_cmp_total (λ x. x) in
    on_ok_weaker c.sort_by.result
    (λ sorted. record {
      same = c.sort_by.ensures.permutation;
      ordered = sorted (λ a b. is_lt (slice_cmp nat_cmp a b)) ranks (always_returns_same _ _ _ (λ a r f k. search rules));
    })
    c.sort_by.ensures.sorted
