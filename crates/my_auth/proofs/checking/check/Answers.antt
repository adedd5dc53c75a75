use Rattle.std.proofs.Common.{◌≡◌, ◌∙◌, arith}
use Rattle.std.proofs.lemmas.Grind.{common_steps}
use Rattle.my_auth.specs.Checking.{verdict}
use Rattle.my_auth.specs.declared.verdict.Verdict.TheVariants.{Deny}
use Rattle.my_auth.proofs.Tokens.{accepted}
use Rattle.my_auth.proofs.checking.check.Goals as goal

pub returns-else-is_accepted-clause-true_token : goal.returns-else-is_accepted-clause-true_token
returns-else-is_accepted-clause-true_token c = λ h.
    let exact : Deny ≡ verdict c.args.users.now c.args.salt c.args.resp.now = grind (arith, common_steps) in
    exact ∙ accepted c.args.users.now c.args.salt c.args.resp.now h
