-- A step of a claim: one action of one of the transaction's sessions on one shard, or none.
use Rattle.std.specs.Prelude.{◌≡◌, ◌&&◌, Bool, true, false, List}
use Rattle.vl_values.specs.declared.limit.Limit.TheVariants as quantities
use Rattle.vl_values.specs.Keyed.{is_among_keys}
use Rattle.vl_catalog.specs.declared.catalog.Catalog.{Catalog}
use Rattle.vl_port.specs.declared.answer.Answer.{Answer}
use Rattle.vl_port.specs.declared.claimed.Claimed.{Claimed}
use Rattle.vl_port.specs.declared.tx_state.TxState.{TxState}
use Rattle.vl_port.specs.Asking.{HasAnswered, IsSameTx, IsUnasked}
use Rattle.vl_port.specs.Calls.{PortView}
use Rattle.vl_port.specs.Limiting.{is_full}
use Rattle.vl_lookup.specs.declared.claim_told.ClaimTold.{ClaimTold}
use Rattle.vl_lookup.specs.declared.claim_told.ClaimTold.TheVariants as told
use Rattle.vl_lookup.specs.Answering.{ClaimAnswered}
use Rattle.vl_lookup.specs.Progress.{Progress, due, is_first}

-- the transaction with this list of claimed keys
abbrev pub with_claimed : List Claimed → TxState → TxState
with_claimed claimed tx = record tx { claimed = claimed }

-- the transaction removes the entry that the claim is about to obtain
abbrev pub is_crossed : TxState → Progress → Bool
is_crossed tx claim = is_first claim.stage && is_among_keys tx.removed claim.key

-- a step: what it told, and the claim, the transaction and the port after it
pub data ClaimStepped (catalog : Catalog) (old : Progress) (tx : TxState) (port : PortView) (tells : ClaimTold) (new : Progress) (tx_new : TxState) (port_new : PortView) : Type 0 where
  -- the key is one that the transaction removes: no shard was asked
  Crossed : is_crossed tx old ≡ true → tells ≡ told.SelfHeld old.key → new ≡ old → IsUnasked port tx tx_new port_new → ClaimStepped catalog old tx port tells new tx_new port_new
  -- the write that was due would have passed the limit of changes: no shard was asked
  Full : is_crossed tx old ≡ false → is_full tx (due old).act ≡ true → tells ≡ told.Limit quantities.Changes tx.limits.changes → new ≡ old → IsUnasked port tx tx_new port_new → ClaimStepped catalog old tx port tells new tx_new port_new
  -- there was no memory to list the session or the key, or for the action: no shard was asked
  NoRoom : tells ≡ told.Memory → new ≡ old → IsUnasked port tx tx_new port_new → ClaimStepped catalog old tx port tells new tx_new port_new
  -- the action that was due was carried, by the session of its group on its shard, and answered
  Did : (answer : Answer) (listed : TxState) (claimed : List Claimed) → is_crossed tx old ≡ false → is_full tx (due old).act ≡ false → HasAnswered port tx (due old).group (due old).shard (due old).act answer listed port_new
      → tx_new ≡ with_claimed claimed listed → ClaimAnswered catalog old tx.claimed answer tells new claimed → ClaimStepped catalog old tx port tells new tx_new port_new

-- the same transaction, but for its list of claimed keys
abbrev pub IsSameTxButClaims : TxState → TxState → Type 0
IsSameTxButClaims old new = IsSameTx old (with_claimed old.claimed new)
