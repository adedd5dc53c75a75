use Rattle.vl_serve.specs.Playing.{Played}
use Rattle.vl_serve.proofs.own_gate.play_round.Given as goal

abbrev pub invariant-loop-stmt : goal.invariant-loop-stmt
invariant-loop-stmt l = Played l.initial.cluster l.cluster
