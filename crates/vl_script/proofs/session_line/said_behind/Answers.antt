use Rattle.vl_script.proofs.Names.{session_word}
use Rattle.vl_script.specs.Script.{session_name}
use Rattle.vl_script.proofs.session_line.said_behind.Goals as goal

pub returns-in_default-clause-none : goal.returns-in_default-clause-none
returns-in_default-clause-none c n sql says = c.in_default.ensures.only (session_name n) sql (session_word n says.1) says.0

pub returns-in_default-session_of-clause-none : goal.returns-in_default-session_of-clause-none
returns-in_default-session_of-clause-none c n sql says =
    let same = c.in-Some.ensures.only (session_name n) sql (session_word n says.1) says.0 in
    c.in_default-session_of.ensures.none n says.1 same.0
