use Rattle.std.proofs.Common.{◌≡◌, ◌∙◌, sym, ap, subst, List, ℕ, ◌∷◌}
use Rattle.vl_serve.specs.Command.{Means}
use Rattle.vl_serve.proofs.request.Request.of.Goals as goal

pub returns-in_ok-request-in-3 : goal.returns-in_ok-request-in-3
returns-in_ok-request-in-3 c =
    let text : List ℕ = c.in-Some.rest.now in
    let is : c.args.payload.now ≡ 3 ∷ text = c.in-Some.ensures.cases.0 ∙ ap (λ command. command ∷ text) c.in-3.is in
    subst (λ (payload : List ℕ). Means payload c.in_ok-request-in-3.request) (sym is) c.in_ok-request-in-3.ensures
