use Rattle.vl_serve.proofs.Others.{played_more}
use Rattle.vl_serve.proofs.own_gate.play_round.Goals as goal

pub loop-stmt-preserved : goal.loop-stmt-preserved
loop-stmt-preserved c = played_more _ _ _ c.loop-stmt.invariant c.play_one.ensures
