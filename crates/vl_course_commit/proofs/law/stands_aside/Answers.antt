use Rattle.vl_course_commit.proofs.Standing.{commit_killed, commit_stays, reply_killed, reply_stays}
use Rattle.vl_course_commit.proofs.law.stands_aside.Goals as goal

pub returns-clause-commit : goal.returns-clause-commit
returns-clause-commit c = λ catalog limits e past n other. commit_stays catalog e past n other limits

pub returns-clause-reply : goal.returns-clause-reply
returns-clause-reply c = reply_stays

pub returns-clause-commit_killed : goal.returns-clause-commit_killed
returns-clause-commit_killed c = λ catalog limits e past who shard kill still told. commit_killed catalog e past who shard kill still limits

pub returns-clause-reply_killed : goal.returns-clause-reply_killed
returns-clause-reply_killed c = λ catalog e past who shard kill still told. reply_killed catalog e past who shard kill still
