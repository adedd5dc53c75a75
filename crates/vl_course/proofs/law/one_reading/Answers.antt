use Rattle.vl_course.proofs.Unique.{gathered_unique, looked_unique}
use Rattle.vl_course.proofs.law.one_reading.Goals as goal

pub returns-clause-rows : goal.returns-clause-rows
returns-clause-rows c = gathered_unique

pub returns-clause-entries : goal.returns-clause-entries
returns-clause-entries c = looked_unique
