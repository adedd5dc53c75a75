use Rattle.std.proofs.Common.{rules}
use Rattle.std.specs.Cmp.Lexicographic.{slice_cmp}
use Rattle.std.specs.Ordering.{is_lt, nat_cmp}
use Rattle.std.proofs.lemmas.Cmp.{nat_list_cmp_total}
use Rattle.std.proofs.lemmas.List.Sorted.{answers_always, ranks_by}
use Rattle.vl_vindex.specs.KeyRange.{Range}
use Rattle.vl_vindex.proofs.Chain.{ok_sorted, err_sorted}
use Rattle.vl_vindex.proofs.ring.Ring.new.Goals as goal

pub from_sorted-requires-2-clause-order : goal.from_sorted-requires-2-clause-order
from_sorted-requires-2-clause-order c =
    c.sort_unstable_by.ensures.sorted (λ x y. is_lt (slice_cmp nat_cmp x.start y.start))
    (ranks_by nat_list_cmp_total (λ (range : Range). range.start)) (answers_always _ _ _ (λ f a r g called. search rules))

pub returns-clause-ok : goal.returns-clause-ok
returns-clause-ok c =
    ok_sorted c.args.ranges.items c.sort_unstable_by.new.self.items c.from_sorted-2.result c.sort_unstable_by.ensures.permutation
    c.from_sorted-2.ensures.ok

pub returns-clause-fault : goal.returns-clause-fault
returns-clause-fault c =
    err_sorted c.args.ranges.items c.sort_unstable_by.new.self.items c.from_sorted-2.result c.sort_unstable_by.ensures.permutation
    c.from_sorted-2.ensures.fault
