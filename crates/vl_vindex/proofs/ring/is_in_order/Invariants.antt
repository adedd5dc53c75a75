use Rattle.std.proofs.Common.{◌≡◌, ℕ, ◌+◌, ◌<◌, false, get_or}
use Rattle.vl_vindex.specs.KeyRange.{Range, comes_before}
use Rattle.vl_vindex.proofs.ring.is_in_order.Given as goal

abbrev pub invariant-loop-i : goal.invariant-loop-i
invariant-loop-i l =
    (k : ℕ) (d : Range) → k + 1 < l.i → comes_before (get_or l.ranges (k + 1) d).start (get_or l.ranges k d).start ≡ false
