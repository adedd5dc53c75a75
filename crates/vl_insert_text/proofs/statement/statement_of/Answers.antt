use Rattle.vl_insert_text.proofs.statement.statement_of.Goals as goal

pub returns-in_default-clause-none : goal.returns-in_default-clause-none
returns-in_default-clause-none c stmt says = c.in_default.ensures.none says.0 says.1 says.2
