use Rattle.vl_course_commit.proofs.Standing.{commit_stepped, reply_stepped}
use Rattle.vl_course_commit.proofs.law.stands_still.Goals as goal

pub returns-clause-commit : goal.returns-clause-commit
returns-clause-commit c = λ catalog limits e past step. commit_stepped catalog e past step limits

pub returns-clause-reply : goal.returns-clause-reply
returns-clause-reply c = reply_stepped
