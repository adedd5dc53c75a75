use Rattle.std.proofs.Common.{arith}
use Rattle.vl_shard.proofs.Fitted.{value_fits}
use Rattle.vl_shard.proofs.tests.value.Goals as goal

pub returns : goal.returns
returns c = value_fits c.args.number (omega arith)
