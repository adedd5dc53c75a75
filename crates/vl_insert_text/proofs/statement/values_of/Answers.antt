use Rattle.vl_insert_text.proofs.Grammar.{begins_so, ends_so, values_so, numbers_so}
use Rattle.vl_insert_text.proofs.statement.values_of.Goals as goal

pub returns-in_default-clause-none : goal.returns-in_default-clause-none
returns-in_default-clause-none c id u asks =
    let cut = begins_so c.args.text.now id u asks in
    c.in_default.ensures.none cut.0 cut.1

pub returns-in_default-without_end-clause-none : goal.returns-in_default-without_end-clause-none
returns-in_default-without_end-clause-none c id u asks =
    let cut = ends_so c.args.text.now c.in-Some.rest.now id u c.in-Some.ensures.some asks in
    c.in_default-without_end.ensures.none cut.0 cut.1

pub returns-in_default-cut_at_comma-clause-none : goal.returns-in_default-cut_at_comma-clause-none
returns-in_default-cut_at_comma-clause-none c id u asks =
    c.in_default-cut_at_comma.ensures.none _ _ (values_so c.args.text.now c.in-Some.rest.now c.in-Some-without_end.values.now id u c.in-Some.ensures.some c.in-Some-without_end.ensures.some asks)

pub returns-in_default-number_of-clause-none : goal.returns-in_default-number_of-clause-none
returns-in_default-number_of-clause-none c id u asks =
    c.in_default-number_of.ensures.none id (numbers_so _ _ _ _ _ id u c.in-Some.ensures.some c.in-Some-without_end.ensures.some c.in-Some-cut_at_comma.ensures.some c.in-Some-cut_at_comma.ensures.first asks).0

pub returns-in_default-number_of-2-clause-none : goal.returns-in_default-number_of-2-clause-none
returns-in_default-number_of-2-clause-none c id u asks =
    c.in_default-number_of-2.ensures.none u (numbers_so _ _ _ _ _ id u c.in-Some.ensures.some c.in-Some-without_end.ensures.some c.in-Some-cut_at_comma.ensures.some c.in-Some-cut_at_comma.ensures.first asks).1
