use Rattle.vl_port.specs.Calls.{IsSamePort}
use Rattle.vl_commit.proofs.Closings.{ClosesTo}
use Rattle.vl_commit.proofs.closing.close_from.Given as goal

abbrev pub invariant-loop-n : goal.invariant-loop-n
invariant-loop-n g l =
    ClosesTo (g.P.ShardPort.count l.fn.port) l.tx l.from l.n (g.P.ShardPort.told l.fn.port) (g.P.ShardPort.told l.port)
    × IsSamePort (g.P.ShardPort.catalog l.fn.port) (g.P.ShardPort.count l.fn.port) (g.P.ShardPort.catalog l.port) (g.P.ShardPort.count l.port)
