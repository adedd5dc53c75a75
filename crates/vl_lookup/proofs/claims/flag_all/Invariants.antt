use Rattle.std.proofs.Common.{◌≡◌, ◌++◌, take, drop, map}
use Rattle.vl_lookup.specs.Answering.{passed_at}
use Rattle.vl_lookup.proofs.claims.flag_all.Given as goal

abbrev pub invariant-loop-claimed : goal.invariant-loop-claimed
invariant-loop-claimed l = l.list ≡ map (passed_at l.key) (take l.claimed-index l.fn.list) ++ drop l.claimed-index l.fn.list
