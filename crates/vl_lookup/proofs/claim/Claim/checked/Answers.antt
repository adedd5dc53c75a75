use Rattle.std.proofs.Common.{refl}
use Rattle.vl_lookup.proofs.Stepped.{check_refused}
use Rattle.vl_lookup.proofs.claim.Claim.checked.Goals as goal

pub returns-in_default-clause-answered : goal.returns-in_default-clause-answered
returns-in_default-clause-answered c = (c.args.tx.now.claimed, refl, λ ksid is. check_refused ksid c.args.shard c.args.self.now c.args.tx.now.claimed c.args.answer c.refusal.result c.refusal.ensures)
