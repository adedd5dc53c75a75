use Rattle.vl_shard.proofs.shard.Shard.lose.Goals as goal

pub returns-in_default : goal.returns-in_default
returns-in_default c = c.in_default.ensures.lost c.args.fate
