use Rattle.std.proofs.Common.{ℕ, ◌<◌, [], get_or}
use Rattle.vl_vindex.specs.Ring.{CoversOnce}
use Rattle.vl_route.proofs.home.each_covers.Given as goal

abbrev pub invariant-loop-ring : goal.invariant-loop-ring
invariant-loop-ring l = (n : ℕ) → n < l.ring-index → CoversOnce (get_or l.rings n [])
