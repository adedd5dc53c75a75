use Rattle.vl_serve.proofs.Runs.{ran_none}
use Rattle.vl_serve.proofs.Turns.{not_joined, connected}
use Rattle.vl_serve.proofs.connection.serve_conn.Goals as goal

pub returns-in_default-clause-connection : goal.returns-in_default-clause-connection
returns-in_default-clause-connection g c = not_joined _ _ _ _ _ (ran_none _)

pub returns-in_default-join-clause-connection : goal.returns-in_default-join-clause-connection
returns-in_default-join-clause-connection g c = not_joined _ _ _ _ _ c.in_default-join.ensures.err

pub returns-clause-connection : goal.returns-clause-connection
returns-clause-connection g c =
    connected c.talk-pass.result.1 _ _ _ _ _ _ _ _ _ _ _ _ c.in-Ok-join.ensures.ok c.talk-pass.ensures.talked c.leave.ensures.left
