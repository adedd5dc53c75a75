use Rattle.vtgate_cl.proofs.Wording.{check_denied}
use Rattle.vtgate_cl.proofs.words.read_check.Goals as goal

pub returns-in-Err-clause-err : goal.returns-in-Err-clause-err
returns-in-Err-clause-err c =
    check_denied c.args.words.now c.in-Err.fault c.requires c.in-Err.ensures.err
