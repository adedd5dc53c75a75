use Rattle.std.proofs.Common.{Option, sym, subst}
use Rattle.vl_shard.specs.Banks.{count_of, seen_of}
use Rattle.vl_exec.specs.declared.program.Program.{Program}
use Rattle.vl_exec.specs.Staging.{IsClient}
use Rattle.vl_exec.proofs.Staged.{client_stepped, program_ready, sessions_ready}
use Rattle.vl_exec.proofs.test_stage.turn.Goals as goal

pub step-told-requires-clause-sessions : goal.step-told-requires-clause-sessions
step-told-requires-clause-sessions c = sessions_ready c.args.catalog.now (count_of c.args.bank.now) (seen_of c.args.bank.now) c.args.client.now c.requires.client c.requires.serves

pub step-told-requires-clause-made : goal.step-told-requires-clause-made
step-told-requires-clause-made c = program_ready c.args.catalog.now (count_of c.args.bank.now) (seen_of c.args.bank.now) c.args.client.now c.in_ok-program.program c.requires.client c.requires.serves (sym c.in_ok-program.ensures.value)

pub returns-clause-client : goal.returns-clause-client
returns-clause-client c =
    subst (λ (program : Option Program). IsClient c.args.catalog.now (seen_of c.step-told.new.port) (c.step-told.new.tx, program)) (sym c.put.ensures)
    (client_stepped c.args.catalog.now (count_of c.step-told.new.port) (seen_of c.args.bank.now) (seen_of c.step-told.new.port) c.args.client.now c.step-told.new.tx c.step-told.result c.step-told.new.self c.unless_over.result c.requires.client
    c.step-told.ensures.same c.step-told.ensures.serves c.step-told.ensures.sessions c.step-told.ensures.made c.unless_over.ensures)

pub returns-clause-serves : goal.returns-clause-serves
returns-clause-serves c = c.step-told.ensures.serves

pub returns-clause-number : goal.returns-clause-number
returns-clause-number c = c.step-told.ensures.same.number

pub returns-clause-foreign : goal.returns-clause-foreign
returns-clause-foreign c = c.step-told.ensures.others.sessions
