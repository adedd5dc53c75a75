use Rattle.std.proofs.Common.{◌≡◌, ◌-◌, ◌<◌, ◌≤◌, true, false, length, get_or}
use Rattle.vl_vindex.specs.KeyRange.{Range, comes_before}
use Rattle.vl_vindex.proofs.ring.last_start.Given as goal

abbrev pub invariant-loop-high : goal.invariant-loop-high
invariant-loop-high l =
    (l.low < l.high) × (l.high ≤ length l.ranges)
    × ((d : Range) → comes_before l.ksid (get_or l.ranges l.low d).start ≡ false)
    × ((d : Range) → l.high < length l.ranges → comes_before l.ksid (get_or l.ranges l.high d).start ≡ true)

abbrev pub decreases-loop-high : goal.decreases-loop-high
decreases-loop-high l = l.high - l.low
