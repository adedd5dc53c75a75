use Rattle.vl_script.proofs.OneLine.{one_line}
use Rattle.vl_script.proofs.read_line.read_line.Goals as goal

pub returns-in-Some-clause-only : goal.returns-in-Some-clause-only
returns-in-Some-clause-only c other is = one_line c.args.line.now c.in-Some.said other c.in-Some.ensures.some is

pub returns-in-Some-session_line-clause-only : goal.returns-in-Some-session_line-clause-only
returns-in-Some-session_line-clause-only c other is =
    one_line c.args.line.now c.in-Some-session_line.said other c.in-Some-session_line.ensures.some is

pub returns-in-Some-shard_line-clause-only : goal.returns-in-Some-shard_line-clause-only
returns-in-Some-shard_line-clause-only c other is =
    one_line c.args.line.now c.in-Some-shard_line.said other c.in-Some-shard_line.ensures.some is
