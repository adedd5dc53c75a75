use Rattle.vl_script.proofs.Cuts.{one_rest}
use Rattle.vl_script.proofs.Names.{none_along}
use Rattle.vl_script.specs.Script.{session_name}
use Rattle.vl_script.proofs.session_line.session_behind.Goals as goal

pub returns-clause-none : goal.returns-clause-none
returns-clause-none c =
    none_along c.session_of.result
    (λ h n is. h n is.1 (one_rest c.args.text.now c.args.keyword.now c.in-Some.name.now (session_name n) c.in-Some.ensures.some is.0))
    c.session_of.ensures.none
