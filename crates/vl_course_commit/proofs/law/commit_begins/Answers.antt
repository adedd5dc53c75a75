use Rattle.vl_run.specs.Allowed.{now_of}
use Rattle.vl_run.specs.Progress.{session}
use Rattle.vl_run.specs.Run.Point.{Happened}
use Rattle.std.proofs.Common.{◌∷◌}
use Rattle.vl_course_commit.proofs.Kept.{result_anyway}
use Rattle.vl_course_commit.proofs.law.commit_begins.Goals as goal

pub returns-clause-rows : goal.returns-clause-rows
returns-clause-rows c = λ catalog limits past e stmt plan own columns rows stays on works told. (works, result_anyway catalog (Happened e ∷ past) e.session stmt (session (now_of e past) e.session) (session (Happened e ∷ past) e.session) plan columns rows works told.1)
