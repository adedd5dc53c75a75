use Rattle.vl_values.proofs.Spelled.{beyond, digits_are_utf8}
use Rattle.vl_values.proofs.fit.value_of.Goals as goal

pub returns-in_default : goal.returns-in_default
returns-in_default c = absurd (c.in_default.ensures.cases.0 (digits_are_utf8 _ c.requires))

pub returns-in-Err : goal.returns-in-Err
returns-in-Err c = beyond _ _ c.parse.result c.in-Err.field-0 c.requires c.in-Ok.ensures.cases.0 c.parse.ensures.value.0 c.in-Err.is
