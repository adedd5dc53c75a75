use Rattle.std.proofs.Common.{◌≡◌, ◌<◌, ℕ, Some, get_or}
use Rattle.std.specs.Prelude.{position, ◌==◌}
use Rattle.vl_lookup.proofs.entry.is_each_once.Given as goal

abbrev pub invariant-loop-k : goal.invariant-loop-k
invariant-loop-k l = (k : ℕ) → k < l.k → position (λ m. m == get_or l.from k 0) l.from ≡ Some k
