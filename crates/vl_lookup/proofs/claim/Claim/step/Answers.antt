use Rattle.std.proofs.Common.{ℕ, sym, subst}
use Rattle.vl_catalog.specs.declared.catalog.Catalog.{Catalog}
use Rattle.vl_lookup.specs.Making.{IsClaim}
use Rattle.vl_lookup.specs.Stepping.{ClaimStepped}
use Rattle.vl_lookup.proofs.claim.Claim.step.Goals as goal

pub returns-in-Check-clause-stepped : goal.returns-in-Check-clause-stepped
returns-in-Check-clause-stepped g c =
    subst (λ (k : Catalog). ClaimStepped k c.args.self.now c.args.tx.now (g.P.ShardPort.told c.args.port.now) c.check.result c.check.new.self c.check.new.tx (g.P.ShardPort.told c.check.new.port)) c.requires.agree c.check.ensures.stepped

pub returns-in-Put-clause-stepped : goal.returns-in-Put-clause-stepped
returns-in-Put-clause-stepped g c =
    subst (λ (k : Catalog). ClaimStepped k c.args.self.now c.args.tx.now (g.P.ShardPort.told c.args.port.now) c.put.result c.put.new.self c.put.new.tx (g.P.ShardPort.told c.put.new.port)) c.requires.agree c.put.ensures.stepped

pub returns-in-Check-clause-claim : goal.returns-in-Check-clause-claim
returns-in-Check-clause-claim g c =
    subst (λ (n : ℕ). IsClaim c.args.catalog.now n c.check.new.self) (sym c.check.ensures.port.counts) (c.check.ensures.claim c.args.catalog.now (g.P.ShardPort.count c.args.port.now) c.requires.claim)
