-- What a step of a claim is, by the answer to its action.
use Rattle.std.proofs.Common.{◌≡◌, ◌<◌, ◌&&◌, ℕ, Bool, true, false, List, [], ◌∷◌, get_or, length, Option, Some, None, refl, sym, ap, ◌∙◌, subst, arith}
use Rattle.std.proofs.lemmas.Option.{same_Some}
use Rattle.vl_values.specs.declared.group.Group.TheVariants.{Pre, Main}
use Rattle.vl_values.specs.declared.key.Key.{Key}
use Rattle.vl_values.specs.declared.limit.Limit.TheVariants as quantities
use Rattle.vl_values.specs.Keyed.{is_among_keys}
use Rattle.vl_catalog.specs.declared.catalog.Catalog.{Catalog}
use Rattle.vl_port.specs.declared.act.Act.{Act}
use Rattle.vl_port.specs.declared.act.Act.TheVariants.{Insert, Put, Find}
use Rattle.vl_port.specs.declared.answer.Answer.{Answer}
use Rattle.vl_port.specs.declared.answer.Answer.TheVariants.{Done, Unchanged, Rows, Found, Held, Lost, Device, Limit, Memory}
use Rattle.vl_port.specs.declared.claimed.Claimed.{Claimed}
use Rattle.vl_port.specs.declared.tx_state.TxState.{TxState}
use Rattle.vl_port.specs.Asking.{HasAnswered, HasAsked, IsSameTx, IsUnasked}
use Rattle.vl_port.specs.declared.asked.Asked.TheVariants.{Unlisted, Answered}
use Rattle.vl_port.specs.Calls.{PortView}
use Rattle.vl_port.specs.Limiting.{is_full}
use Rattle.vl_port.specs.Transaction.{session_of}
use Rattle.vl_port.specs.View.{Values}
use Rattle.vl_lookup.specs.declared.claim_told.ClaimTold.{ClaimTold}
use Rattle.vl_lookup.specs.declared.claim_told.ClaimTold.TheVariants as told
use Rattle.vl_lookup.specs.declared.stage.Stage.{Stage}
use Rattle.vl_lookup.specs.declared.stage.Stage.TheVariants as stages
use Rattle.vl_lookup.specs.Answering.{AnsweredAt, CheckAnswered, CheckRead, FirstAnswered, IsCheckAnswer, IsFirstAnswer, IsPutAnswer, IsRefusal, PutAnswered, at_stage, claim_free, first_key, is_kept, told_free, with_passed}
use Rattle.vl_lookup.specs.Making.{IsClaim, IsStageOn}
use Rattle.vl_lookup.specs.Progress.{Progress, due_at, is_first}
use Rattle.vl_lookup.specs.Stepping.{ClaimStepped, Crossed, Did, Full, NoRoom, with_claimed}
use Rattle.vl_lookup.proofs.Answered.{check_answer, first_answer, put_answer}

-- ---- answers

pub first_is : (rows : List (Key × Values)) (x : Key × Values) → 0 < length rows → x ≡ get_or rows 0 x → Some x.0 ≡ first_key rows
first_is [] x some is = absurd (omega (arith, some))
first_is (row ∷ rows) x some is = ap (λ (r : Key × Values). Some r.0) is

pub read_some : (ksid : List ℕ) (shard : ℕ) (old : Progress) (claimed : List Claimed) (rows : List (Key × Values)) (key : Key) (lookup : ℕ) → lookup ≡ old.lookup → first_key rows ≡ Some key
    → CheckRead ksid shard old claimed rows (told.Duplicate lookup shard key) old claimed
read_some ksid shard old claimed [] key lookup lookup_is is = absurd (cc is)
read_some ksid shard old claimed (row ∷ rows) key lookup lookup_is is = record {
  says = ap (λ (l : ℕ). told.Duplicate l shard key) lookup_is ∙ ap (told.Duplicate old.lookup shard) (sym (same_Some row.0 key is));
  claim = refl;
  list = refl;
}

pub read_none : (ksid : List ℕ) (shard : ℕ) (old new : Progress) (claimed : List Claimed) (rows : List (Key × Values)) (tells : ClaimTold) → first_key rows ≡ None
    → tells ≡ told_free (is_kept ksid old) → new ≡ claim_free (is_kept ksid old) old → CheckRead ksid shard old claimed rows tells new (with_passed old.key claimed)
read_none ksid shard old new claimed [] tells is says claim = record { says = says; claim = claim; list = refl }
read_none ksid shard old new claimed (row ∷ rows) tells is says claim = absurd (cc is)

pub check_refused : (ksid : List ℕ) (shard : ℕ) (old : Progress) (claimed : List Claimed) (answer : Answer) (tells : ClaimTold) → IsRefusal shard answer tells → CheckAnswered ksid shard old claimed answer tells old claimed
check_refused ksid shard old claimed Done tells it = absurd it
check_refused ksid shard old claimed Unchanged tells it = absurd it
check_refused ksid shard old claimed (Rows rows) tells it = absurd it
check_refused ksid shard old claimed (Found key row) tells it = absurd it
check_refused ksid shard old claimed (Held by key) tells it = record { says = it; claim = refl; list = refl }
check_refused ksid shard old claimed (Lost why) tells it = record { says = it; claim = refl; list = refl }
check_refused ksid shard old claimed Device tells it = record { says = it; claim = refl; list = refl }
check_refused ksid shard old claimed (Limit what count) tells it = record { says = it; claim = refl; list = refl }
check_refused ksid shard old claimed Memory tells it = record { says = it; claim = refl; list = refl }

pub claim_put : (catalog : Catalog) (count : ℕ) (old : Progress) → IsClaim catalog count old → IsClaim catalog count (at_stage stages.Put old)
claim_put catalog count old it = record { entry = it.entry; shard = it.shard; pred = it.pred; keyspace = it.keyspace; stage = tt }

-- ---- the answer is one that the act may get

pub asked_first : (tx listed : TxState) (shard : ℕ) (act : Act) (key : Key) (row : Values) (answer : Answer) (port after : PortView) → act ≡ Insert key row → HasAsked port tx Pre shard act (Answered answer) listed after → IsFirstAnswer answer
asked_first tx listed shard act key row answer port after is it =
    let acts = subst (λ (a : Act). HasAnswered port tx Pre shard a answer listed after) is it in
    first_answer after.way (port.shards shard) (after.shards shard) (session_of tx Pre) key row answer acts.acts.acted

-- ---- a step

not_first : (tx : TxState) (old : Progress) (stage : Stage) → old.stage ≡ stage → is_first stage ≡ false → (is_first old.stage && is_among_keys tx.removed old.key) ≡ false
not_first tx old stage is later = ap (λ (b : Bool). b && is_among_keys tx.removed old.key) (ap is_first is ∙ later)

did_at : (catalog : Catalog) (old new : Progress) (tx listed tx_new : TxState) (port after : PortView) (tells : ClaimTold) (answer : Answer) (claimed : List Claimed) (stage : Stage) → old.stage ≡ stage
    → (is_first old.stage && is_among_keys tx.removed old.key) ≡ false → is_full tx (due_at stage old).act ≡ false
    → HasAnswered port tx (due_at stage old).group (due_at stage old).shard (due_at stage old).act answer listed after → tx_new ≡ with_claimed claimed listed
    → AnsweredAt stage catalog old tx.claimed answer tells new claimed → ClaimStepped catalog old tx port tells new tx_new after
did_at catalog old new tx listed tx_new port after tells answer claimed stage is uncrossed room asked tx_is answered =
    Did answer listed claimed uncrossed
    (subst (λ (s : Stage). is_full tx (due_at s old).act ≡ false) (sym is) room)
    (subst (λ (s : Stage). HasAnswered port tx (due_at s old).group (due_at s old).shard (due_at s old).act answer listed after) (sym is) asked)
    tx_is
    (subst (λ (s : Stage). AnsweredAt s catalog old tx.claimed answer tells new claimed) (sym is) answered)

pub did_check : (catalog : Catalog) (old new : Progress) (tx listed tx_new : TxState) (port after : PortView) (tells : ClaimTold) (shard : ℕ) (act : Act) (answer : Answer)
    → (ksid : List ℕ) × (old.stage ≡ stages.Check ksid shard) → act ≡ Find old.pred true → HasAsked port tx Main shard act (Answered answer) listed after → IsSameTx tx listed
    → (claimed : List Claimed) × (tx_new ≡ with_claimed claimed listed) × ((ksid : List ℕ) → old.stage ≡ stages.Check ksid shard → CheckAnswered ksid shard old listed.claimed answer tells new claimed)
    → ClaimStepped catalog old tx port tells new tx_new after
did_check catalog old new tx listed tx_new port after tells shard act answer stage is asked same answered =
    did_at catalog old new tx listed tx_new port after tells answer answered.0 (stages.Check stage.0 shard) stage.1 (not_first tx old (stages.Check stage.0 shard) stage.1 refl) refl
    (subst (λ (a : Act). HasAnswered port tx Main shard a answer listed after) is asked) answered.1
    (subst (λ (c : List Claimed). CheckAnswered stage.0 shard old c answer tells new answered.0) same.claimed (answered.2 stage.0 stage.1))

pub did_put : (catalog : Catalog) (old : Progress) (tx listed : TxState) (port after : PortView) (tells : ClaimTold) (shard : ℕ) (act : Act) (answer : Answer)
    → old.stage ≡ stages.Put → act ≡ Put old.key old.row → is_full tx act ≡ false → shard ≡ old.shard → HasAsked port tx Pre shard act (Answered answer) listed after → IsSameTx tx listed
    → ((claim : Progress) (claimed : List Claimed) → claim.shard ≡ shard → PutAnswered claim claimed answer tells claim claimed)
    → ClaimStepped catalog old tx port tells old listed after
did_put catalog old tx listed port after tells shard act answer stage is room shard_is asked same answered =
    did_at catalog old old tx listed listed port after tells answer tx.claimed stages.Put stage (not_first tx old stages.Put stage refl) (subst (λ (a : Act). is_full tx a ≡ false) is room)
    (subst (λ (n : ℕ). HasAnswered port tx Pre n (Put old.key old.row) answer listed after) shard_is (subst (λ (a : Act). HasAnswered port tx Pre shard a answer listed after) is asked))
    (ap (λ (c : List Claimed). with_claimed c listed) same.claimed)
    (answered old tx.claimed (sym shard_is))

and_false : (b : Bool) → (b && false) ≡ false
and_false true = refl
and_false false = refl

uncrossed : (tx : TxState) (old : Progress) → is_among_keys tx.removed old.key ≡ false → (is_first old.stage && is_among_keys tx.removed old.key) ≡ false
uncrossed tx old free = ap (λ (b : Bool). is_first old.stage && b) free ∙ and_false (is_first old.stage)

pub free_from : (keys removed : List Key) (k key : Key) (b : Bool) → b ≡ is_among_keys keys k → b ≡ false → keys ≡ removed → k ≡ key → is_among_keys removed key ≡ false
free_from keys removed k key b tested free keys_are key_is =
    sym (ap (λ (xs : List Key). is_among_keys xs k) keys_are ∙ ap (is_among_keys removed) key_is) ∙ sym tested ∙ free

-- the list was taken out, and given back as the answer leaves it
pub did_first : (catalog : Catalog) (old new : Progress) (tx aside listed tx_new : TxState) (port after : PortView) (tells : ClaimTold) (shard : ℕ) (act : Act) (answer : Answer) (list : List Claimed)
    → old.stage ≡ stages.First → shard ≡ old.shard → is_among_keys tx.removed old.key ≡ false → act ≡ Insert old.key old.row → is_full tx act ≡ false → aside ≡ with_claimed [] tx → list ≡ tx.claimed
    → ((c : List Claimed) → HasAsked port (with_claimed c aside) Pre shard act (Answered answer) (with_claimed c listed) after)
    → (claimed : List Claimed) × (tx_new ≡ with_claimed claimed listed) × FirstAnswered catalog old list answer tells new claimed
    → ClaimStepped catalog old tx port tells new tx_new after
did_first catalog old new tx aside listed tx_new port after tells shard act answer list stage shard_is free is room aside_is list_is asked answered =
    let whole : with_claimed tx.claimed aside ≡ tx = ap (with_claimed tx.claimed) aside_is in
    did_at catalog old new tx (with_claimed tx.claimed listed) tx_new port after tells answer answered.0 stages.First stage (uncrossed tx old free) (subst (λ (a : Act). is_full tx a ≡ false) is room)
    (subst (λ (n : ℕ). HasAnswered port tx Pre n (Insert old.key old.row) answer (with_claimed tx.claimed listed) after) shard_is
    (subst (λ (a : Act). HasAnswered port tx Pre shard a answer (with_claimed tx.claimed listed) after) is
    (subst (λ (t : TxState). HasAnswered port t Pre shard act answer (with_claimed tx.claimed listed) after) whole (asked tx.claimed))))
    answered.1
    (subst (λ (c : List Claimed). FirstAnswered catalog old c answer tells new answered.0) list_is answered.2)

-- the write that is due at the stage would pass the limit of changes
full_at : (catalog : Catalog) (old : Progress) (tx : TxState) (port : PortView) (tells : ClaimTold) (stage : Stage) → old.stage ≡ stage → (is_first old.stage && is_among_keys tx.removed old.key) ≡ false
    → is_full tx (due_at stage old).act ≡ true → tells ≡ told.Limit quantities.Changes tx.limits.changes → ClaimStepped catalog old tx port tells old tx port
full_at catalog old tx port tells stage is uncrossed full says =
    Full uncrossed (subst (λ (s : Stage). is_full tx (due_at s old).act ≡ true) (sym is) full) says refl (record { same = refl; shown = refl })

pub full_first : (catalog : Catalog) (old : Progress) (tx : TxState) (port : PortView) (tells : ClaimTold) (act : Act) → old.stage ≡ stages.First → is_among_keys tx.removed old.key ≡ false → act ≡ Insert old.key old.row
    → is_full tx act ≡ true → tells ≡ told.Limit quantities.Changes tx.limits.changes → ClaimStepped catalog old tx port tells old tx port
full_first catalog old tx port tells act stage free is full says = full_at catalog old tx port tells stages.First stage (uncrossed tx old free) (subst (λ (a : Act). is_full tx a ≡ true) is full) says

pub full_put : (catalog : Catalog) (old : Progress) (tx : TxState) (port : PortView) (tells : ClaimTold) (act : Act) → old.stage ≡ stages.Put → act ≡ Put old.key old.row → is_full tx act ≡ true
    → tells ≡ told.Limit quantities.Changes tx.limits.changes → ClaimStepped catalog old tx port tells old tx port
full_put catalog old tx port tells act stage is full says = full_at catalog old tx port tells stages.Put stage (not_first tx old stages.Put stage refl) (subst (λ (a : Act). is_full tx a ≡ true) is full) says

pub unasked_first : (catalog : Catalog) (old : Progress) (tx aside listed tx_new : TxState) (port after : PortView) (shard : ℕ) (act : Act) (list : List Claimed) → aside ≡ with_claimed [] tx → list ≡ tx.claimed
    → ((c : List Claimed) → HasAsked port (with_claimed c aside) Pre shard act Unlisted (with_claimed c listed) after) → tx_new ≡ with_claimed list listed
    → ClaimStepped catalog old tx port told.Memory old tx_new after
unasked_first catalog old tx aside listed tx_new port after shard act list aside_is list_is asked tx_is =
    let it : IsUnasked port (with_claimed tx.claimed aside) (with_claimed tx.claimed listed) after = asked tx.claimed in
    NoRoom refl refl (record { same = tx_is ∙ ap (λ (c : List Claimed). with_claimed c listed) list_is ∙ it.same ∙ ap (with_claimed tx.claimed) aside_is; shown = it.shown })
