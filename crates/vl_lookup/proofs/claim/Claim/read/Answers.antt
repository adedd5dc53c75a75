use Rattle.std.proofs.Common.{refl, sym, ap, ◌∙◌}
use Rattle.vl_lookup.specs.Answering.{with_passed}
use Rattle.vl_lookup.specs.Progress.{Progress}
use Rattle.vl_lookup.specs.Stepping.{with_claimed}
use Rattle.vl_lookup.proofs.Stepped.{read_none, read_some}
use Rattle.vl_lookup.proofs.claim.Claim.read.Goals as goal

pub returns-in-Some-clause-read : goal.returns-in-Some-clause-read
returns-in-Some-clause-read c = (
  c.args.tx.now.claimed,
  refl,
  λ ksid is. read_some ksid c.args.shard c.args.self.now c.args.tx.now.claimed c.args.rows c.in-Some.key c.self.inside.lookup (ap (λ (p : Progress). p.lookup) c.self.view_is) (sym c.first_key.ensures ∙ c.in-Some.is),
)

pub returns-clause-read : goal.returns-clause-read
returns-clause-read c = (
  with_passed c.args.self.now.key c.args.tx.now.claimed,
  c.pass_claim.ensures ∙ ap (λ (p : Progress). with_claimed (with_passed p.key c.args.tx.now.claimed) c.args.tx.now) c.self.view_is,
  λ ksid is.
      let it = c.pass.ensures.passed ksid c.args.shard is in
      read_none ksid c.args.shard c.args.self.now c.pass.new.self c.args.tx.now.claimed c.args.rows c.pass.result (sym c.first_key.ensures ∙ c.in_default.is) it.0 it.1,
)
