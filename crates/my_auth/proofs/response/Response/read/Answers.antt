use Rattle.std.proofs.Common.{ap, ◌∙◌}
use Rattle.my_auth.specs.Reading.{response_at, viewed}
use Rattle.my_auth.proofs.Spelled.{alone, not_both, response_again}
use Rattle.my_auth.proofs.response.Response.read.Goals as goal

pub returns-in-Err-clause-written : goal.returns-in-Err-clause-written
returns-in-Err-clause-written c = λ r filler more fits long is.
    not_both c.args.bytes.now c.in-Err.fault.left r c.in-Err.ensures (ap response_at is ∙ response_again r filler more fits long)

pub returns-in-Ok-response_of-clause-written : goal.returns-in-Ok-response_of-clause-written
returns-in-Ok-response_of-clause-written c = λ r filler more fits long is.
    c.in-Ok-response_of.ensures
    ∙ alone c.args.bytes.now (viewed c.in-Ok.fields) r c.in-Ok.ensures (ap response_at is ∙ response_again r filler more fits long)
