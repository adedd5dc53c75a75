use Rattle.vl_course.proofs.Allowing.{allows_commit, allows_held, allows_more, allows_ok, allows_refusal, allows_rows, kept_open, none_to_commit}
use Rattle.vl_course.proofs.law.may_be_told.Goals as goal

pub returns-clause-more : goal.returns-clause-more
returns-clause-more c = allows_more

pub returns-clause-held : goal.returns-clause-held
returns-clause-held c = allows_held

pub returns-clause-refusal : goal.returns-clause-refusal
returns-clause-refusal c = allows_refusal

pub returns-clause-rows : goal.returns-clause-rows
returns-clause-rows c = allows_rows

pub returns-clause-ok : goal.returns-clause-ok
returns-clause-ok c = allows_ok

pub returns-clause-commit : goal.returns-clause-commit
returns-clause-commit c = allows_commit

pub returns-clause-kept : goal.returns-clause-kept
returns-clause-kept c = kept_open

pub returns-clause-empty : goal.returns-clause-empty
returns-clause-empty c = none_to_commit
