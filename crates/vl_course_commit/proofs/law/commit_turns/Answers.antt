use Rattle.vl_course_commit.proofs.Turns.{commit_turned}
use Rattle.vl_course_commit.proofs.law.commit_turns.Goals as goal

pub returns : goal.returns
returns c = commit_turned
