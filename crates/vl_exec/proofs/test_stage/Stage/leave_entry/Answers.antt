use Rattle.std.proofs.Common.{arith}
use Rattle.vl_shard.specs.Banks.{count_of, seen_of}
use Rattle.vl_exec.proofs.Staged.{client_at, turned}
use Rattle.vl_exec.proofs.test_stage.Stage.leave_entry.Goals as goal

pub leave_entry-requires-clause-client : goal.leave_entry-requires-clause-client
leave_entry-requires-clause-client c =
    let it = c.self.inside in
    (client_at it.catalog (count_of it.bank) (count_of it.bank) (seen_of it.bank) (seen_of it.bank) it.clients.items c.args.place c.index_mut.result.now c.index_mut.result.now c.self.invariant.0 (omega (arith, c.if-place-len.false, c.len.ensures)) c.index_mut.ensures.value).1

pub invariant_of-self : goal.invariant_of-self
invariant_of-self c =
    let it = c.self.inside in (
      turned it.catalog (count_of it.bank) (count_of c.leave_entry.new.bank) (seen_of it.bank) (seen_of c.leave_entry.new.bank) it.clients.items c.args.place c.index_mut.result.now c.leave_entry.new.client c.self.invariant.0
          (omega (arith, c.if-place-len.false, c.len.ensures)) c.index_mut.ensures.value c.leave_entry.ensures.serves c.leave_entry.ensures.client c.leave_entry.ensures.number c.leave_entry.ensures.foreign,
      c.leave_entry.ensures.agree,
    )
