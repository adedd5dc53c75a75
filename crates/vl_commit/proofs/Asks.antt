-- An action takes no shard down, and leaves to others what they have.
use Rattle.std.proofs.Common.{◌≡◌, ◌≢◌, ℕ, inl, inr, sym, ap, subst}
use Rattle.vl_values.specs.declared.group.Group.{Group}
use Rattle.vl_port.specs.declared.act.Act.{Act}
use Rattle.vl_port.specs.declared.asked.Asked.{Asked}
use Rattle.vl_port.specs.declared.asked.Asked.TheVariants.{Unlisted, Answered}
use Rattle.vl_port.specs.declared.tx_state.TxState.{TxState}
use Rattle.vl_port.specs.Asking.{HasAsked}
use Rattle.vl_port.specs.Calls.{PortView}
use Rattle.vl_port.specs.Others.{LeavesOthers}
use Rattle.vl_port.specs.Serving.{Shards}
use Rattle.vl_port.specs.Transaction.{IsIn, session_of}
use Rattle.vl_port.specs.View.{View}
use Rattle.vl_port.proofs.Leaving.{leaves_trans, same_carried, same_or_other}
use Rattle.vl_port.proofs.Strangers.{in_stranger}

pub asked_stays : (old new : PortView) (tx tx_new : TxState) (group : Group) (shard : ℕ) (act : Act) (asked : Asked) → HasAsked old tx group shard act asked tx_new new
    → (s : ℕ) → (new.shards s).incarnation ≡ (old.shards s).incarnation
asked_stays old new tx tx_new group shard act Unlisted h s = ap (λ (p : PortView). (p.shards s).incarnation) h.shown
asked_stays old new tx tx_new group shard act (Answered answer) h s =
    elim (same_or_other s shard) [
      | inl here ↦
          subst (λ (n : ℕ). (new.shards n).incarnation ≡ (old.shards n).incarnation) (sym here)
          (same_carried new.way (old.shards shard) (new.shards shard) (session_of tx group) act answer h.acts.acted)
      | inr other ↦ ap (λ (v : View). v.incarnation) (h.acts.others s other)
    ]

pub leaves_more : (tx number : ℕ) (a b c : Shards) → number ≡ tx → LeavesOthers tx a b → LeavesOthers number b c → LeavesOthers tx a c
leaves_more tx number a b c same first then = leaves_trans tx a b c first (subst (λ (n : ℕ). LeavesOthers n b c) same then)

-- the sessions of a transaction stay those that it lists when another acts
pub in_beside : (tx : TxState) (number before count : ℕ) (old new : Shards) → IsIn tx before old → LeavesOthers number old new → tx.number ≢ number → count ≡ before → IsIn tx count new
in_beside tx number before count old new isin leaves apart same =
    subst (λ (n : ℕ). IsIn tx n new) (sym same) (in_stranger tx before old new isin (λ shard group. leaves.sessions shard (session_of tx group) apart))
