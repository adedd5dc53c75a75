use Rattle.vl_values.proofs.Cutting.{cut_four}
use Rattle.vl_values.proofs.piece.push_why.Goals as goal

pub returns-in-Restarted : goal.returns-in-Restarted
returns-in-Restarted c =
    rw c.in-Restarted.is
    (cut_four 512 _ _ _ _ _ _ _ _ _ c.push-in-Restarted.ensures c.push_number.ensures c.push-in-Restarted-2.ensures c.push_number-in-Restarted.ensures)
