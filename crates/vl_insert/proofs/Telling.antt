-- What is told means the same for the transaction as it was before the action, and which meanings leave a
-- transaction open.
use Rattle.std.proofs.Common.{◌≡◌, ◌⊎◌, ℕ, ◌+◌, inl, inr, Bool, true, false, Option, Some, None, refl, ap, subst, arith}
use Rattle.std.specs.Prelude.{nat_lt, ◌||◌, slice_get}
use Rattle.vl_values.specs.declared.cause.Cause.{Cause}
use Rattle.vl_values.specs.declared.group.Group.{Group}
use Rattle.vl_catalog.specs.declared.catalog.Catalog.{Catalog}
use Rattle.vl_port.specs.declared.answer.Answer.{Answer}
use Rattle.vl_port.specs.declared.answer.Answer.TheVariants.{Done, Unchanged, Rows, Found, Held, Lost, Device, Limit, Memory}
use Rattle.vl_port.specs.declared.limits.Limits.{Limits}
use Rattle.vl_port.specs.declared.tx_state.TxState.{TxState}
use Rattle.vl_port.specs.Asking.{IsSameTx}
use Rattle.vl_lookup.specs.declared.claim_told.ClaimTold.{ClaimTold}
use Rattle.vl_lookup.specs.declared.claim_told.ClaimTold.TheVariants as claims
use Rattle.vl_lookup.specs.Progress.{Progress as Claiming}
use Rattle.vl_lookup.specs.Stepping.{IsSameTxButClaims}
use Rattle.vl_statement.specs.declared.program_told.ProgramTold.{ProgramTold}
use Rattle.vl_statement.specs.Refusing.{refused_whole}
use Rattle.vl_insert.specs.declared.task.Task.{Task}
use Rattle.vl_insert.specs.Answering.{ClaimMeans, RowAnswered, TellsNext, is_writing}
use Rattle.vl_statement.specs.Effects.{IsWell, LeavesOpen}
use Rattle.vl_insert.specs.Progress.{Progress, with_task, with_try}
use Rattle.vl_statement.proofs.Waited.{told_alike, told_by, waits_for}

-- ---- the transaction is the same but for its sessions, its claims and its count of changes

pub limits_kept : (tx new : TxState) → IsSameTxButClaims tx new → new.limits.tries ≡ tx.limits.tries
limits_kept tx new same = ap (λ (l : Limits). l.tries) same.limits

pub same_tx_itself : (tx : TxState) → IsSameTxButClaims tx tx
same_tx_itself tx = record { number = refl; session = refl; limits = refl; auto = refl; single = refl; changes = omega arith; claimed = refl; removed = refl }

pub same_tx_but_claims : (tx new : TxState) → IsSameTx tx new → IsSameTxButClaims tx new
same_tx_but_claims tx new same = record { number = same.number; session = same.session; limits = same.limits; auto = same.auto; single = same.single; changes = same.changes; claimed = refl; removed = same.removed }

next_for : (tx new : TxState) (o : Option Task) (p : Progress) (tells : ProgramTold) → TellsNext new o p tells → TellsNext (told_by tx new) o p tells
next_for tx new None p tells h = h
next_for tx new (Some task) p tells h = h

claim_for : (catalog : Catalog) (tx new : TxState) (p : Progress) (group : Group) (claim : Claiming) (said : ClaimTold) (tells : ProgramTold) (after : Progress) → ClaimMeans catalog new p group claim said tells after
    → ClaimMeans catalog (told_by tx new) p group claim said tells after
claim_for catalog tx new p group claim claims.More tells after h = h
claim_for catalog tx new p group claim claims.Done tells after h = (next_for tx new (slice_get p.later 0) (with_task (is_writing group) p) tells h.0, h.1)
claim_for catalog tx new p group claim (claims.Held by key) tells after h = waits_for catalog tx new (nat_lt (p.tries + 1) new.limits.tries) p.wrote p.tries by key tells (with_try p) after h
claim_for catalog tx new p group claim (claims.SelfHeld key) tells after h = h
claim_for catalog tx new p group claim (claims.Duplicate lookup shard key) tells after h = h
claim_for catalog tx new p group claim (claims.Lost shard why) tells after h = h
claim_for catalog tx new p group claim (claims.Device shard) tells after h = h
claim_for catalog tx new p group claim (claims.Limit what count) tells after h = h
claim_for catalog tx new p group claim claims.Memory tells after h = h

-- what a claim told means the same for the transaction as it was
pub claim_means : (catalog : Catalog) (tx new : TxState) (p : Progress) (group : Group) (claim : Claiming) (said : ClaimTold) (tells : ProgramTold) (after : Progress) → IsSameTxButClaims tx new
    → ClaimMeans catalog new p group claim said tells after → ClaimMeans catalog tx p group claim said tells after
claim_means catalog tx new p group claim said tells after same h = subst (λ (t : TxState). ClaimMeans catalog t p group claim said tells after) (told_alike tx new same.limits same.auto same.single) (claim_for catalog tx new p group claim said tells after h)

row_for : (catalog : Catalog) (tx new : TxState) (p : Progress) (shard : ℕ) (answer : Answer) (tells : ProgramTold) (after : Progress) → RowAnswered catalog new p shard answer tells after
    → RowAnswered catalog (told_by tx new) p shard answer tells after
row_for catalog tx new p shard Done tells after h = (next_for tx new (slice_get p.later 0) (with_task true p) tells h.0, h.1)
row_for catalog tx new p shard (Held by key) tells after h = waits_for catalog tx new (nat_lt (p.tries + 1) new.limits.tries) p.wrote p.tries by key tells (with_try p) after h
row_for catalog tx new p shard (Found key row) tells after h = h
row_for catalog tx new p shard (Limit what count) tells after h = h
row_for catalog tx new p shard (Lost why) tells after h = h
row_for catalog tx new p shard Device tells after h = h
row_for catalog tx new p shard Memory tells after h = h
row_for catalog tx new p shard Unchanged tells after h = h
row_for catalog tx new p shard (Rows rows) tells after h = h

-- and so does the answer to a row
pub row_means : (catalog : Catalog) (tx new : TxState) (p : Progress) (shard : ℕ) (answer : Answer) (tells : ProgramTold) (after : Progress) → IsSameTxButClaims tx new
    → RowAnswered catalog new p shard answer tells after → RowAnswered catalog tx p shard answer tells after
row_means catalog tx new p shard answer tells after same h = subst (λ (t : TxState). RowAnswered catalog t p shard answer tells after) (told_alike tx new same.limits same.auto same.single) (row_for catalog tx new p shard answer tells after h)

-- ---- what a reply leaves

pub ended : {X : Type 0} (tells other : ProgramTold) → tells ≡ other → (IsWell other → ⊥) → IsWell tells → X
ended tells other is over going = absurd (over (subst IsWell is going))

next_stays : (tx : TxState) (o : Option Task) (p : Progress) (tells : ProgramTold) → TellsNext tx o p tells → LeavesOpen tells → ⊥
next_stays tx None p tells is leaves = subst LeavesOpen is leaves
next_stays tx (Some task) p tells is leaves = subst LeavesOpen is leaves

-- the reply leaves the transaction open, or the program goes on
abbrev pub IsOn : ProgramTold → Type 0
IsOn tells = LeavesOpen tells ⊎ IsWell tells

-- the reply leaves the transaction open, or the program goes on and has written nothing
abbrev pub IsUnwritten : ProgramTold → Progress → Type 0
IsUnwritten tells new = LeavesOpen tells ⊎ (IsWell tells × (new.wrote ≡ false))

pub unwritten_on : (tells : ProgramTold) (new : Progress) → IsUnwritten tells new → IsOn tells
unwritten_on tells new (inl leaves) = inl leaves
unwritten_on tells new (inr goes) = inr goes.0

-- a reply that ends the transaction leaves nothing open
pub whole_is_off : {X : Type 0} (tells : ProgramTold) (cause : Cause) → tells ≡ refused_whole cause → IsOn tells → X
whole_is_off tells cause is (inl leaves) = absurd (cc (subst LeavesOpen is leaves))
whole_is_off tells cause is (inr well) = ended tells (refused_whole cause) is (λ it. it) well

or_true : (b c : Bool) → c ≡ true → (b || c) ≡ true
or_true true c is = refl
or_true false c is = is

-- a write that was done ends the time before the first one
pub wrote_now : {X : Type 0} (tx : TxState) (p : Progress) (writes : Bool) (tells : ProgramTold) (new : Progress) → writes ≡ true → TellsNext tx (with_task writes p).task (with_task writes p) tells → new ≡ with_task writes p
    → IsUnwritten tells new → X
wrote_now tx p writes tells new is next same (inl leaves) = absurd (next_stays tx (with_task writes p).task (with_task writes p) tells next leaves)
wrote_now tx p writes tells new is next same (inr goes) =
    let wrote : (p.wrote || writes) ≡ true = or_true p.wrote writes is in
    let now : new.wrote ≡ (p.wrote || writes) = ap (λ (q : Progress). q.wrote) same in
    absurd (cc (wrote, now, goes.1))
