-- A step by what it did: the claim in progress, or the row.
use Rattle.std.proofs.Common.{◌≡◌, ◌<◌, ℕ, false, Option, Some, sym, ap, ◌∙◌, subst, arith}
use Rattle.vl_values.specs.declared.cause.Cause.TheVariants.{OutOfMemory}
use Rattle.vl_values.specs.declared.group.Group.{Group}
use Rattle.vl_values.specs.declared.group.Group.TheVariants.{Main}
use Rattle.vl_catalog.specs.declared.catalog.Catalog.{Catalog}
use Rattle.vl_port.specs.declared.act.Act.{Act}
use Rattle.vl_port.specs.declared.answer.Answer.{Answer}
use Rattle.vl_port.specs.declared.tx_state.TxState.{TxState}
use Rattle.vl_port.specs.Asking.{HasAnswered, IsSameTx, IsUnasked}
use Rattle.vl_port.specs.Calls.{PortView}
use Rattle.vl_port.specs.Carrying.{Carries}
use Rattle.vl_port.specs.Limiting.{is_full}
use Rattle.vl_port.specs.Placing.{IsActOn}
use Rattle.vl_port.specs.Transaction.{session_of}
use Rattle.vl_lookup.specs.declared.claim_told.ClaimTold.{ClaimTold}
use Rattle.vl_lookup.specs.Answering.{IsFirstAnswer}
use Rattle.vl_lookup.specs.Making.{IsClaim}
use Rattle.vl_lookup.specs.Progress.{Progress as Claiming, due as claim_due}
use Rattle.vl_lookup.specs.Stepping.{ClaimStepped, IsSameTxButClaims}
use Rattle.vl_lookup.proofs.Answered.{first_answer}
use Rattle.vl_statement.specs.declared.program_told.ProgramTold.{ProgramTold}
use Rattle.vl_statement.specs.Effects.{IsWell}
use Rattle.vl_insert.specs.declared.insertion.Insertion.{Insertion}
use Rattle.vl_insert.specs.declared.task.Task.{Task}
use Rattle.vl_insert.specs.declared.task.Task.TheVariants as tasks
use Rattle.vl_insert.specs.Answering.{ClaimMeans, RowAnswered, refused_now}
use Rattle.vl_insert.specs.Making.{IsInsertion, IsMade, IsTask}
use Rattle.vl_insert.specs.Progress.{Progress, at_claim}
use Rattle.vl_insert.specs.Stepping.{Claimed as StepClaimed, Did, NoRoom, Stepped}
use Rattle.vl_insert.proofs.Nearer.{at_claim_made, claim_made, row_made}
use Rattle.vl_insert.proofs.Telling.{claim_means, limits_kept, row_means, same_tx_but_claims}

pub tries_within : (tx new : TxState) (p : Progress) → IsSameTxButClaims tx new → p.tries < tx.limits.tries → p.tries < new.limits.tries
tries_within tx new p same below = omega (arith, limits_kept tx new same, below)

made_moved : (catalog : Catalog) (count count_new : ℕ) (tx new : TxState) (p : Progress) → IsMade catalog count tx.limits.tries p → count_new ≡ count → IsSameTxButClaims tx new → IsMade catalog count_new new.limits.tries p
made_moved catalog count count_new tx new p made counts same = record {
  task = λ task is. subst (λ (n : ℕ). IsTask catalog n task) (sym counts) (made.task task is);
  later = λ task among. subst (λ (n : ℕ). IsTask catalog n task) (sym counts) (made.later task among);
  tries = tries_within tx new p same made.tries;
}

-- nothing was done
pub unmoved_made : (catalog : Catalog) (count count_new : ℕ) (tx new : TxState) (p q : Progress) → IsMade catalog count tx.limits.tries p → count_new ≡ count → IsSameTxButClaims tx new → q ≡ p → IsMade catalog count_new new.limits.tries q
unmoved_made catalog count count_new tx new p q made counts same is = subst (IsMade catalog count_new new.limits.tries) (sym is) (made_moved catalog count count_new tx new p made counts same)

-- the task that is read is the one in progress
pub task_was : (read now : Option Task) (found task : Task) → read ≡ now → read ≡ Some found → found ≡ task → now ≡ Some task
task_was read now found task same is found_is = sym same ∙ is ∙ ap (λ (t : Task). Some t) found_is

-- what holds of the program with its task put back holds of the program
pub at_row : (F : Progress → Type 0) (read now : Progress) (insertion : Insertion) → read ≡ now → now.task ≡ Some (tasks.Row insertion) → F (record read { task = Some (tasks.Row insertion) }) → F now
at_row F read now insertion same is h = subst F (λ i. record now { task = sym is i }) (subst (λ (p : Progress). F (record p { task = Some (tasks.Row insertion) })) same h)

pub at_claimed : (F : Progress → Type 0) (read now : Progress) (claim : Claiming) → read ≡ now → F (at_claim claim read) → F (at_claim claim now)
at_claimed F read now claim same h = subst (λ (p : Progress). F (at_claim claim p)) same h

-- ---- the claim in progress

pub claim_ready : (catalog : Catalog) (count limit : ℕ) (p : Progress) (claim : Claiming) → IsMade catalog count limit p → p.task ≡ Some (tasks.Claim claim) → IsClaim catalog count claim
claim_ready catalog count limit p claim made is = made.task (tasks.Claim claim) is

pub claim_did : (catalog : Catalog) (old new : Progress) (claim claim_new : Claiming) (group : Group) (shard : ℕ) (said : ClaimTold) (tx tx_new : TxState) (port after : PortView) (tells : ProgramTold) → old.task ≡ Some (tasks.Claim claim)
    → (let session : Group × ℕ = (group, shard) in session ≡ ((claim_due claim).group, (claim_due claim).shard)) → IsSameTxButClaims tx tx_new → ClaimStepped catalog claim tx port said claim_new tx_new after
    → ClaimMeans catalog tx_new (at_claim claim_new old) group claim_new said tells new → Stepped catalog old tx port tells new tx_new after
claim_did catalog old new claim claim_new group shard said tx tx_new port after tells is session same stepped means =
    StepClaimed claim claim_new said is stepped
    (subst (λ (g : Group). ClaimMeans catalog tx (at_claim claim_new old) g claim_new said tells new) (ap (λ (s : Group × ℕ). s.0) session)
    (claim_means catalog tx tx_new (at_claim claim_new old) group claim_new said tells new same means))

pub claim_makes : (catalog : Catalog) (count count_new : ℕ) (old new : Progress) (claim_new : Claiming) (group : Group) (said : ClaimTold) (tx tx_new : TxState) (tells : ProgramTold) → IsMade catalog count tx.limits.tries old → count_new ≡ count
    → IsSameTxButClaims tx tx_new → IsClaim catalog count_new claim_new → ClaimMeans catalog tx_new (at_claim claim_new old) group claim_new said tells new → IsWell tells → IsMade catalog count_new tx_new.limits.tries new
claim_makes catalog count count_new old new claim_new group said tx tx_new tells made counts same ready means well =
    claim_made catalog count_new tx_new (at_claim claim_new old) new group claim_new said tells
    (at_claim_made catalog count_new tx_new.limits.tries old claim_new (made_moved catalog count count_new tx tx_new old made counts same) ready) means well

-- ---- the row

pub row_fits : (catalog : Catalog) (count limit : ℕ) (p : Progress) (insertion : Insertion) → IsMade catalog count limit p → p.task ≡ Some (tasks.Row insertion) → (insertion.shard < count) × IsActOn catalog insertion.shard insertion.act
row_fits catalog count limit p insertion made is =
    let it : IsInsertion catalog count insertion = made.task (tasks.Row insertion) is in
    (it.shard, subst (λ (a : Act). IsActOn catalog insertion.shard a) (sym it.inserts) it.placed)

pub row_answer : (catalog : Catalog) (count limit : ℕ) (p : Progress) (insertion : Insertion) (tx tx_new : TxState) (port after : PortView) (answer : Answer) → IsMade catalog count limit p → p.task ≡ Some (tasks.Row insertion)
    → HasAnswered port tx Main insertion.shard insertion.act answer tx_new after → IsFirstAnswer answer
row_answer catalog count limit p insertion tx tx_new port after answer made is asked =
    let it : IsInsertion catalog count insertion = made.task (tasks.Row insertion) is in
    first_answer after.way (port.shards insertion.shard) (after.shards insertion.shard) (session_of tx Main) it.key it.row answer
    (subst (λ (a : Act). Carries after.way (port.shards insertion.shard) (session_of tx Main) a answer (after.shards insertion.shard)) it.inserts asked.acts.acted)

pub row_did : (catalog : Catalog) (old new : Progress) (insertion : Insertion) (answer : Answer) (tx tx_new : TxState) (port after : PortView) (tells : ProgramTold) → old.task ≡ Some (tasks.Row insertion) → is_full tx insertion.act ≡ false
    → IsSameTx tx tx_new → HasAnswered port tx Main insertion.shard insertion.act answer tx_new after → RowAnswered catalog tx_new old insertion.shard answer tells new → Stepped catalog old tx port tells new tx_new after
row_did catalog old new insertion answer tx tx_new port after tells is within same asked means =
    Did insertion answer is within asked (row_means catalog tx tx_new old insertion.shard answer tells new (same_tx_but_claims tx tx_new same) means)

pub row_unlisted : (catalog : Catalog) (old new : Progress) (insertion : Insertion) (tx tx_new : TxState) (port after : PortView) (tells : ProgramTold) → old.task ≡ Some (tasks.Row insertion) → is_full tx insertion.act ≡ false
    → IsUnasked port tx tx_new after → tells ≡ refused_now tx_new old OutOfMemory → Stepped catalog old tx port tells new tx_new after
row_unlisted catalog old new insertion tx tx_new port after tells is within none told_is =
    NoRoom insertion is within (told_is ∙ ap (λ (t : TxState). refused_now t old OutOfMemory) none.same) none

pub row_makes : (catalog : Catalog) (count count_new : ℕ) (old new : Progress) (shard : ℕ) (answer : Answer) (tx tx_new : TxState) (tells : ProgramTold) → IsMade catalog count tx.limits.tries old → count_new ≡ count → IsSameTx tx tx_new
    → RowAnswered catalog tx_new old shard answer tells new → IsWell tells → IsMade catalog count_new tx_new.limits.tries new
row_makes catalog count count_new old new shard answer tx tx_new tells made counts same means well =
    row_made catalog count_new tx_new old new shard answer tells (made_moved catalog count count_new tx tx_new old made counts (same_tx_but_claims tx tx_new same)) means well
