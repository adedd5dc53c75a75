use Rattle.std.proofs.Common.{List, arith, ap, sym, subst}
use Rattle.vl_port.specs.declared.tx_state.TxState.{TxState}
use Rattle.vl_shard.specs.Banks.{count_of, seen_of}
use Rattle.vl_exec.specs.Staging.{AreClients, Client}
use Rattle.vl_exec.proofs.Staged.{joined, new_lists}
use Rattle.vl_exec.proofs.test_stage.Stage.join.Goals as goal

pub invariant_of-self-2 : goal.invariant_of-self-2
invariant_of-self-2 c =
    let it = c.self.inside in
    let number = ap (λ (t : TxState). t.number) c.new-tx.ensures in (
      subst (λ (clients : List Client). AreClients it.catalog (count_of it.bank) (seen_of it.bank) clients) (sym c.in_ok-push.ensures.items)
          (joined it.catalog (count_of it.bank) (seen_of it.bank) it.clients.items c.new-tx.result c.self.invariant.0 (omega (arith, number, c.len-place.ensures)) (omega (arith, number, c.if-place-ge-MOST_CLIENTS.false))
          (new_lists c.new-tx.result (ap (λ (t : TxState). t.pre) c.new-tx.ensures) (ap (λ (t : TxState). t.main) c.new-tx.ensures) (ap (λ (t : TxState). t.post) c.new-tx.ensures))),
      c.self.invariant.1,
    )
