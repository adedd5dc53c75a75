use Rattle.vl_commit.proofs.Leaving.{all_left}
use Rattle.vl_commit.proofs.commit.Commit.start.Goals as goal

pub returns-in-Ok-clause-left : goal.returns-in-Ok-clause-left
returns-in-Ok-clause-left c = λ count seen isin. all_left c.args.tx count seen isin
