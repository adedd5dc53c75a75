use Rattle.vtgate_cl.proofs.player.Player.take.Goals as goal

pub returns-then-byte-eq10-clause-ok : goal.returns-then-byte-eq10-clause-ok
returns-then-byte-eq10-clause-ok g c = rw c.if-byte-eq10.true c.end_line.ensures.ok
