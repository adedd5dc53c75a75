use Rattle.vl_exec.specs.declared.program.Program.{Program}
use Rattle.vl_exec.specs.declared.program.Program.TheVariants as programs
use Rattle.vl_exec.specs.Stepping.{Stepped}
use Rattle.vl_exec.proofs.Telling.{by_case, still_open}
use Rattle.vl_exec.proofs.program.Program.step.Goals as goal

pub returns-in-Insert-clause-stepped : goal.returns-in-Insert-clause-stepped
returns-in-Insert-clause-stepped g c = by_case (λ (p : Program). Stepped c.args.catalog.now p c.args.tx.now (g.P.ShardPort.told c.args.port.now) c.step.result (programs.Insert c.step.new.self) c.step.new.tx (g.P.ShardPort.told c.step.new.port)) c.args.self.now (programs.Insert c.in-Insert.insert) c.in-Insert.is c.step.ensures.stepped

pub returns-in-Select-clause-stepped : goal.returns-in-Select-clause-stepped
returns-in-Select-clause-stepped g c = by_case (λ (p : Program). Stepped c.args.catalog.now p c.args.tx.now (g.P.ShardPort.told c.args.port.now) c.step-in-Select.result (programs.Select c.step-in-Select.new.self) c.step-in-Select.new.tx (g.P.ShardPort.told c.step-in-Select.new.port)) c.args.self.now (programs.Select c.in-Select.select) c.in-Select.is c.step-in-Select.ensures.stepped

pub returns-in-Select-clause-kept : goal.returns-in-Select-clause-kept
returns-in-Select-clause-kept g c = λ left. c.step-in-Select.ensures.kept (still_open c.step-in-Select.result _ left)

pub returns-in-Change-clause-stepped : goal.returns-in-Change-clause-stepped
returns-in-Change-clause-stepped g c = by_case (λ (p : Program). Stepped c.args.catalog.now p c.args.tx.now (g.P.ShardPort.told c.args.port.now) c.step-in-Change.result (programs.Change c.step-in-Change.new.self) c.step-in-Change.new.tx (g.P.ShardPort.told c.step-in-Change.new.port)) c.args.self.now (programs.Change c.in-Change.change) c.in-Change.is c.step-in-Change.ensures.stepped
