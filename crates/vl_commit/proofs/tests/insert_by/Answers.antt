use Rattle.std.proofs.Common.{Some}
use Rattle.vl_port.specs.Losses.{losses_of}
use Rattle.vl_shard.specs.Banks.{told_by}
use Rattle.vl_commit.proofs.Asks.{asked_stays}
use Rattle.vl_commit.proofs.tests.insert_by.Goals as goal

pub returns-clause-incarnations : goal.returns-clause-incarnations
returns-clause-incarnations c = λ s.
    asked_stays (told_by c.args.bank.now c.args.bank.now.link.faults (Some (losses_of c.args.bank.now.link))) (told_by c.ask.new.port c.ask.new.port.link.faults (Some (losses_of c.ask.new.port.link))) c.args.tx.now c.ask.new.tx
    c.args.group c.args.shard c.in_ok-act.act c.ask.result c.ask.ensures.asked s
