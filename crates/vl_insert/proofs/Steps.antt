-- What a step keeps and changes, by what it did.
use Rattle.std.proofs.Common.{◌≡◌, ℕ, true, List, refl, sym, ap, ◌∙◌, subst}
use Rattle.vl_values.specs.declared.group.Group.TheVariants.{Main}
use Rattle.vl_values.specs.declared.key.Key.{Key}
use Rattle.vl_values.specs.declared.lost_why.LostWhy.{LostWhy}
use Rattle.vl_catalog.specs.declared.catalog.Catalog.{Catalog}
use Rattle.vl_port.specs.declared.answer.Answer.{Answer}
use Rattle.vl_port.specs.declared.answer.Answer.TheVariants.{Done, Unchanged, Rows, Found, Held, Lost, Device, Limit, Memory}
use Rattle.vl_port.specs.declared.claimed.Claimed.{Claimed}
use Rattle.vl_port.specs.declared.tx_state.TxState.{TxState}
use Rattle.vl_port.specs.Calls.{PortView}
use Rattle.vl_port.specs.Serving.{Shards}
use Rattle.vl_port.specs.Transaction.{session_of}
use Rattle.vl_lookup.specs.declared.claim_told.ClaimTold.{ClaimTold}
use Rattle.vl_lookup.specs.declared.claim_told.ClaimTold.TheVariants as claims
use Rattle.vl_lookup.specs.declared.stage.Stage.{Stage}
use Rattle.vl_lookup.specs.declared.stage.Stage.TheVariants as stages
use Rattle.vl_lookup.specs.Answering.{AnsweredAt}
use Rattle.vl_lookup.specs.Progress.{Progress as Claiming, due as claim_due, due_at}
use Rattle.vl_lookup.specs.Stepping.{ClaimStepped}
use Rattle.vl_lookup.specs.Stepping.{Crossed as ClaimCrossed, Full as ClaimFull, NoRoom as ClaimNoRoom, Did as ClaimDid}
use Rattle.vl_statement.specs.declared.program_told.ProgramTold.{ProgramTold}
use Rattle.vl_statement.specs.Refusing.{device_failed, session_lost}
use Rattle.vl_insert.specs.Answering.{ClaimMeans, RowAnswered, is_writing}
use Rattle.vl_statement.specs.Effects.{HasLocksOf, HasPendingOf}
use Rattle.vl_insert.specs.Progress.{Progress, at_claim}
use Rattle.vl_insert.specs.Stepping.{Claimed as StepClaimed, Did, Full, Idle, NoRoom, Stepped}
use Rattle.vl_statement.proofs.Leaving.{IsSpared, act_holds, act_pends}
use Rattle.vl_insert.proofs.Telling.{IsOn, IsUnwritten, unwritten_on, whole_is_off, wrote_now}

-- ---- what a claim tells of its answer

lost_told : (stage : Stage) (catalog : Catalog) (old : Claiming) (list : List Claimed) (why : LostWhy) (said : ClaimTold) (new : Claiming) (list_new : List Claimed) → AnsweredAt stage catalog old list (Lost why) said new list_new
    → (shard : ℕ) × (said ≡ claims.Lost shard why)
lost_told stages.First catalog old list why said new list_new it = (old.shard, it.says)
lost_told (stages.Check ksid shard) catalog old list why said new list_new it = (shard, it.says)
lost_told stages.Put catalog old list why said new list_new it = (old.shard, it.says)

device_told : (stage : Stage) (catalog : Catalog) (old : Claiming) (list : List Claimed) (said : ClaimTold) (new : Claiming) (list_new : List Claimed) → AnsweredAt stage catalog old list Device said new list_new
    → (shard : ℕ) × (said ≡ claims.Device shard)
device_told stages.First catalog old list said new list_new it = (old.shard, it.says)
device_told (stages.Check ksid shard) catalog old list said new list_new it = (shard, it.says)
device_told stages.Put catalog old list said new list_new it = (old.shard, it.says)

-- what was written is told as done, by a session of pre
done_told : (stage : Stage) (catalog : Catalog) (old : Claiming) (list : List Claimed) (said : ClaimTold) (new : Claiming) (list_new : List Claimed) → AnsweredAt stage catalog old list Done said new list_new
    → (said ≡ claims.Done) × (is_writing (due_at stage old).group ≡ true)
done_told stages.First catalog old list said new list_new it = (it.says, refl)
done_told (stages.Check ksid shard) catalog old list said new list_new it = absurd it.says
done_told stages.Put catalog old list said new list_new it = (it.says, refl)

-- ---- the session lives on where the transaction does

claim_spared : (catalog : Catalog) (tx : TxState) (p : Progress) (claim claim_new : Claiming) (list list_new : List Claimed) (answer : Answer) (said : ClaimTold) (tells : ProgramTold) (new : Progress)
    → AnsweredAt claim.stage catalog claim list answer said claim_new list_new → ClaimMeans catalog tx p (claim_due claim).group claim_new said tells new → IsOn tells → IsSpared answer
claim_spared catalog tx p claim claim_new list list_new Done said tells new answered means on = tt
claim_spared catalog tx p claim claim_new list list_new Unchanged said tells new answered means on = tt
claim_spared catalog tx p claim claim_new list list_new (Rows rows) said tells new answered means on = tt
claim_spared catalog tx p claim claim_new list list_new (Found key row) said tells new answered means on = tt
claim_spared catalog tx p claim claim_new list list_new (Held by key) said tells new answered means on = tt
claim_spared catalog tx p claim claim_new list list_new (Limit what count) said tells new answered means on = tt
claim_spared catalog tx p claim claim_new list list_new Memory said tells new answered means on = tt
claim_spared catalog tx p claim claim_new list list_new (Lost why) said tells new answered means on =
    let it = lost_told claim.stage catalog claim list why said claim_new list_new answered in
    whole_is_off tells (session_lost catalog (claim_due claim).group it.0 why) (subst (λ (s : ClaimTold). ClaimMeans catalog tx p (claim_due claim).group claim_new s tells new) it.1 means) on
claim_spared catalog tx p claim claim_new list list_new Device said tells new answered means on =
    let it = device_told claim.stage catalog claim list said claim_new list_new answered in
    whole_is_off tells (device_failed catalog it.0) (subst (λ (s : ClaimTold). ClaimMeans catalog tx p (claim_due claim).group claim_new s tells new) it.1 means) on

row_spared : (catalog : Catalog) (tx : TxState) (p : Progress) (shard : ℕ) (answer : Answer) (tells : ProgramTold) (new : Progress) → RowAnswered catalog tx p shard answer tells new → IsOn tells → IsSpared answer
row_spared catalog tx p shard Done tells new answered on = tt
row_spared catalog tx p shard Unchanged tells new answered on = tt
row_spared catalog tx p shard (Rows rows) tells new answered on = tt
row_spared catalog tx p shard (Found key row) tells new answered on = tt
row_spared catalog tx p shard (Held by key) tells new answered on = tt
row_spared catalog tx p shard (Limit what count) tells new answered on = tt
row_spared catalog tx p shard Memory tells new answered on = tt
row_spared catalog tx p shard (Lost why) tells new answered on = whole_is_off tells (session_lost catalog Main shard why) answered on
row_spared catalog tx p shard Device tells new answered on = whole_is_off tells (device_failed catalog shard) answered on

-- ---- before the first write

claim_wrote : (catalog : Catalog) (tx : TxState) (p : Progress) (claim claim_new : Claiming) (list list_new : List Claimed) (answer : Answer) (said : ClaimTold) (tells : ProgramTold) (new : Progress)
    → AnsweredAt claim.stage catalog claim list answer said claim_new list_new → ClaimMeans catalog tx p (claim_due claim).group claim_new said tells new → IsUnwritten tells new → answer ≡ Done → ⊥
claim_wrote catalog tx p claim claim_new list list_new answer said tells new answered means open_ is =
    let it = done_told claim.stage catalog claim list said claim_new list_new (subst (λ (a : Answer). AnsweredAt claim.stage catalog claim list a said claim_new list_new) is answered) in
    let goes = subst (λ (s : ClaimTold). ClaimMeans catalog tx p (claim_due claim).group claim_new s tells new) it.0 means in
    wrote_now tx p (is_writing (claim_due claim).group) tells new it.1 goes.0 goes.1 open_

row_wrote : (catalog : Catalog) (tx : TxState) (p : Progress) (shard : ℕ) (answer : Answer) (tells : ProgramTold) (new : Progress) → RowAnswered catalog tx p shard answer tells new → IsUnwritten tells new → answer ≡ Done → ⊥
row_wrote catalog tx p shard answer tells new answered open_ is =
    let goes = subst (λ (a : Answer). RowAnswered catalog tx p shard a tells new) is answered in
    wrote_now tx p true tells new refl goes.0 goes.1 open_

pending_same : (tx : TxState) (old new : Shards) → ((shard : ℕ) (key : Key) → (new shard).pending key ≡ (old shard).pending key) → HasPendingOf tx old new
pending_same tx old new same shard group key row = (λ h. same shard key ∙ h, λ h. sym (same shard key) ∙ h)

unmoved_pends : (tx : TxState) (port after : PortView) → after ≡ port → HasPendingOf tx port.shards after.shards
unmoved_pends tx port after shown = pending_same tx port.shards after.shards (λ shard key. ap (λ (v : PortView). (v.shards shard).pending key) shown)

claim_kept : (catalog : Catalog) (p new : Progress) (claim claim_new : Claiming) (said : ClaimTold) (tx tx_new : TxState) (port after : PortView) (tells : ProgramTold) → ClaimStepped catalog claim tx port said claim_new tx_new after
    → ClaimMeans catalog tx p (claim_due claim).group claim_new said tells new → IsUnwritten tells new → HasPendingOf tx port.shards after.shards
claim_kept catalog p new claim claim_new said tx tx_new port after tells (ClaimCrossed is says same unasked) means open_ = unmoved_pends tx port after unasked.shown
claim_kept catalog p new claim claim_new said tx tx_new port after tells (ClaimFull is full says same unasked) means open_ = unmoved_pends tx port after unasked.shown
claim_kept catalog p new claim claim_new said tx tx_new port after tells (ClaimNoRoom says same unasked) means open_ = unmoved_pends tx port after unasked.shown
claim_kept catalog p new claim claim_new said tx tx_new port after tells (ClaimDid answer listed list is within asked same answered) means open_ =
    pending_same tx port.shards after.shards
    (λ shard key.
    act_pends port after (session_of tx (claim_due claim).group) (claim_due claim).shard (claim_due claim).act answer shard key
    (claim_spared catalog tx p claim claim_new tx.claimed list answer said tells new answered means (unwritten_on tells new open_))
    (claim_wrote catalog tx p claim claim_new tx.claimed list answer said tells new answered means open_) asked.acts)

pub stepped_kept : (catalog : Catalog) (old new : Progress) (tx tx_new : TxState) (port after : PortView) (tells : ProgramTold) → Stepped catalog old tx port tells new tx_new after → IsUnwritten tells new
    → HasPendingOf tx port.shards after.shards
stepped_kept catalog old new tx tx_new port after tells (Idle none replied same unchanged shown) open_ = unmoved_pends tx port after shown
stepped_kept catalog old new tx tx_new port after tells (StepClaimed claim claim_new said is stepped means) open_ = claim_kept catalog (at_claim claim_new old) new claim claim_new said tx tx_new port after tells stepped means open_
stepped_kept catalog old new tx tx_new port after tells (Full insertion is full replied unchanged shown) open_ = unmoved_pends tx port after shown
stepped_kept catalog old new tx tx_new port after tells (NoRoom insertion is within replied unasked) open_ = unmoved_pends tx port after unasked.shown
stepped_kept catalog old new tx tx_new port after tells (Did insertion answer is within asked answered) open_ =
    pending_same tx port.shards after.shards
    (λ shard key.
    act_pends port after (session_of tx Main) insertion.shard insertion.act answer shard key (row_spared catalog tx old insertion.shard answer tells new answered (unwritten_on tells new open_))
    (row_wrote catalog tx old insertion.shard answer tells new answered open_) asked.acts)

-- ---- locks

unmoved_holds : (tx : TxState) (port after : PortView) → after ≡ port → HasLocksOf tx port.shards after.shards
unmoved_holds tx port after shown shard group key held = ap (λ (v : PortView). (v.shards shard).holder key) shown ∙ held

claim_locked : (catalog : Catalog) (p new : Progress) (claim claim_new : Claiming) (said : ClaimTold) (tx tx_new : TxState) (port after : PortView) (tells : ProgramTold) → ClaimStepped catalog claim tx port said claim_new tx_new after
    → ClaimMeans catalog tx p (claim_due claim).group claim_new said tells new → IsOn tells → HasLocksOf tx port.shards after.shards
claim_locked catalog p new claim claim_new said tx tx_new port after tells (ClaimCrossed is says same unasked) means on = unmoved_holds tx port after unasked.shown
claim_locked catalog p new claim claim_new said tx tx_new port after tells (ClaimFull is full says same unasked) means on = unmoved_holds tx port after unasked.shown
claim_locked catalog p new claim claim_new said tx tx_new port after tells (ClaimNoRoom says same unasked) means on = unmoved_holds tx port after unasked.shown
claim_locked catalog p new claim claim_new said tx tx_new port after tells (ClaimDid answer listed list is within asked same answered) means on = λ shard group key held.
    act_holds port after (session_of tx (claim_due claim).group) (session_of tx group) (claim_due claim).shard (claim_due claim).act answer shard key
    (claim_spared catalog tx p claim claim_new tx.claimed list answer said tells new answered means on) asked.acts held

pub stepped_locked : (catalog : Catalog) (old new : Progress) (tx tx_new : TxState) (port after : PortView) (tells : ProgramTold) → Stepped catalog old tx port tells new tx_new after → IsOn tells
    → HasLocksOf tx port.shards after.shards
stepped_locked catalog old new tx tx_new port after tells (Idle none replied same unchanged shown) on = unmoved_holds tx port after shown
stepped_locked catalog old new tx tx_new port after tells (StepClaimed claim claim_new said is stepped means) on = claim_locked catalog (at_claim claim_new old) new claim claim_new said tx tx_new port after tells stepped means on
stepped_locked catalog old new tx tx_new port after tells (Full insertion is full replied unchanged shown) on = unmoved_holds tx port after shown
stepped_locked catalog old new tx tx_new port after tells (NoRoom insertion is within replied unasked) on = unmoved_holds tx port after unasked.shown
stepped_locked catalog old new tx tx_new port after tells (Did insertion answer is within asked answered) on = λ shard group key held.
    act_holds port after (session_of tx Main) (session_of tx group) insertion.shard insertion.act answer shard key (row_spared catalog tx old insertion.shard answer tells new answered on) asked.acts held
