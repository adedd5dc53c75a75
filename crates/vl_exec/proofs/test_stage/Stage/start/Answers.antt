use Rattle.std.proofs.Common.{◌≡◌, ◌<◌, Some, length, arith, ap, refl, subst, sym}
use Rattle.std.proofs.Math.ListN.{set}
use Rattle.vl_shard.specs.Banks.{count_of, seen_of}
use Rattle.vl_exec.specs.Staging.{AreClients, Client}
use Rattle.vl_exec.proofs.Staged.{client_at, program_started, same_read, turned}
use Rattle.vl_exec.proofs.test_stage.Stage.start.Goals as goal

pub invariant_of-self : goal.invariant_of-self
invariant_of-self c =
    let it = c.self.inside in
    let client = c.index_mut.result.now in
    let below : c.args.place < length it.clients.items = omega (arith, c.if-place-len.false, c.len.ensures) in
    let same = same_read it.clients.items c.args.place c.index.result.now client below c.index.ensures c.index_mut.ensures.value in
    subst (λ (new : Client). AreClients it.catalog (count_of it.bank) (seen_of it.bank) (set it.clients.items c.args.place new) × (it.bank.catalog ≡ it.catalog)) (sym c.begin.ensures) (
      turned it.catalog (count_of it.bank) (count_of it.bank) (seen_of it.bank) (seen_of it.bank) it.clients.items c.args.place client (client.0, Some c.in_ok-program.program) c.self.invariant.0 below c.index_mut.ensures.value
          c.self.invariant.0.serves
          (program_started it.catalog (seen_of it.bank) client c.in_ok-program.program
          (client_at it.catalog (count_of it.bank) (count_of it.bank) (seen_of it.bank) (seen_of it.bank) it.clients.items c.args.place client client c.self.invariant.0 below c.index_mut.ensures.value).1 c.in_ok-program.ensures
          (omega (arith, c.if-index-eq0.false, ap (λ (x : Client). x.0.limits.tries) same))) refl (λ shard who apart. refl),
      c.self.invariant.1,
    )
