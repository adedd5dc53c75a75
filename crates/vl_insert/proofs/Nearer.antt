-- A step after which the program goes on: it is nearer to its end, and may be stepped again.
use Rattle.std.proofs.Common.{◌≡◌, ◌<◌, ℕ, suc, ◌+◌, inl, inr, Bool, true, false, List, [], ◌∷◌, drop, Option, Some, refl, sym, ap, ◌∙◌, subst, arith}
use Rattle.std.specs.Prelude.{Contains, nat_lt, slice_get}
use Rattle.std.specs.List.{sum_by}
use Rattle.std.specs.Option.{option_map_or}
use Rattle.std.proofs.lemmas.Bool.{ltb-true}
use Rattle.std.proofs.lemmas.List.Sums.{sum_by-cons}
use Rattle.std.proofs.lemmas.Option.{same_Some}
use Rattle.vl_values.specs.declared.cause.Cause.{Cause}
use Rattle.vl_values.specs.declared.group.Group.{Group}
use Rattle.vl_values.specs.declared.key.Key.{Key}
use Rattle.vl_catalog.specs.declared.catalog.Catalog.{Catalog}
use Rattle.vl_port.specs.declared.answer.Answer.{Answer}
use Rattle.vl_port.specs.declared.answer.Answer.TheVariants.{Done, Unchanged, Rows, Found, Held, Lost, Device, Limit, Memory}
use Rattle.vl_port.specs.declared.tx_state.TxState.{TxState}
use Rattle.vl_lookup.specs.declared.claim_told.ClaimTold.{ClaimTold}
use Rattle.vl_lookup.specs.declared.claim_told.ClaimTold.TheVariants as claims
use Rattle.vl_lookup.specs.declared.stage.Stage.{Stage}
use Rattle.vl_lookup.specs.declared.stage.Stage.TheVariants as stages
use Rattle.vl_lookup.specs.Making.{IsClaim}
use Rattle.vl_lookup.specs.Progress.{Progress as Claiming, acts_left}
use Rattle.vl_statement.specs.declared.program_told.ProgramTold.{ProgramTold}
use Rattle.vl_statement.specs.declared.program_told.ProgramTold.TheVariants as told
use Rattle.vl_statement.specs.Refusing.{IsRefusedFor, duplicate_entry, duplicate_row, lock_wait, removed_and_claimed}
use Rattle.vl_insert.specs.declared.insertion.Insertion.{Insertion}
use Rattle.vl_insert.specs.declared.task.Task.{Task}
use Rattle.vl_insert.specs.declared.task.Task.TheVariants as tasks
use Rattle.vl_insert.specs.Answering.{ClaimMeans, RowAnswered, is_writing}
use Rattle.vl_statement.specs.Effects.{IsWell}
use Rattle.vl_statement.specs.Waiting.{WaitsOn}
use Rattle.vl_insert.specs.Making.{IsMade, IsTask}
use Rattle.vl_insert.specs.Progress.{Progress, actions_left, at_claim, task_actions, with_task, with_try}
use Rattle.vl_insert.proofs.Telling.{ended}

-- ---- refusals

refused_ends : {X : Type 0} (tx : TxState) (p : Progress) (tells : ProgramTold) (cause : Cause) → IsRefusedFor tx p.wrote tells cause → IsWell tells → X
refused_ends tx p tells cause (inl is) well = ended tells _ is (λ it. it) well
refused_ends tx p tells cause (inr is) well = ended tells _ is (λ it. it) well

pub more_is_well : (tells : ProgramTold) → tells ≡ told.More → IsWell tells
more_is_well tells is = subst IsWell (sym is) tt

waits_no_more : {X : Type 0} (catalog : Catalog) (tx : TxState) (b : Bool) (p : Progress) (by : ℕ) (key : Key) (tells : ProgramTold) (new : Progress) → WaitsOn catalog tx b p.wrote p.tries by key tells (with_try p) new → tells ≡ told.More → X
waits_no_more catalog tx true p by key tells new h more = absurd (cc (h.0, more))
waits_no_more catalog tx false p by key tells new h more = refused_ends tx p tells (lock_wait catalog tx.limits.tries by key) h (more_is_well tells more)

-- ---- nearer to the end

rest_left : (list : List Task) → option_map_or task_actions (slice_get list 0) 0 + sum_by task_actions (drop 1 list) ≡ sum_by task_actions list
rest_left [] = refl
rest_left (task ∷ list) = sym (sum_by-cons task_actions task list)

some_left : (stage : Stage) → 0 < acts_left stage
some_left stages.First = omega arith
some_left (stages.Check ksid shard) = omega arith
some_left stages.Put = omega arith

pub left_with : (p : Progress) (task : Task) → p.task ≡ Some task → actions_left p ≡ task_actions task + sum_by task_actions p.later
left_with p task is = ap (λ (o : Option Task). option_map_or task_actions o 0 + sum_by task_actions p.later) is

task_nearer : (old p new : Progress) (task : Task) (writes : Bool) → old.task ≡ Some task → p.later ≡ old.later → 0 < task_actions task → new ≡ with_task writes p → actions_left new < actions_left old
task_nearer old p new task writes is same some new_is =
    let now : actions_left new ≡ sum_by task_actions p.later = ap actions_left new_is ∙ rest_left p.later in
    omega (arith, now, ap (sum_by task_actions) same, left_with old task is, some)

pub claim_nearer : (catalog : Catalog) (tx : TxState) (old new : Progress) (group : Group) (claim claim_new : Claiming) (said : ClaimTold) (tells : ProgramTold) → old.task ≡ Some (tasks.Claim claim)
    → (said ≡ claims.More → acts_left claim_new.stage < acts_left claim.stage) → ClaimMeans catalog tx (at_claim claim_new old) group claim_new said tells new → tells ≡ told.More → actions_left new < actions_left old
claim_nearer catalog tx old new group claim claim_new claims.More tells is fewer means more =
    omega (arith, ap actions_left means.1, left_with old (tasks.Claim claim) is, fewer refl)
claim_nearer catalog tx old new group claim claim_new claims.Done tells is fewer means more = task_nearer old (at_claim claim_new old) new (tasks.Claim claim) (is_writing group) is refl (some_left claim.stage) means.1
claim_nearer catalog tx old new group claim claim_new (claims.Held by key) tells is fewer means more = waits_no_more catalog tx (nat_lt (old.tries + 1) tx.limits.tries) (at_claim claim_new old) by key tells new means more
claim_nearer catalog tx old new group claim claim_new (claims.SelfHeld key) tells is fewer means more = refused_ends tx (at_claim claim_new old) tells (removed_and_claimed catalog claim_new.lookup claim_new.row) means (more_is_well tells more)
claim_nearer catalog tx old new group claim claim_new (claims.Duplicate lookup shard key) tells is fewer means more = refused_ends tx (at_claim claim_new old) tells (duplicate_entry catalog lookup claim_new.row shard key) means (more_is_well tells more)
claim_nearer catalog tx old new group claim claim_new (claims.Lost shard why) tells is fewer means more = absurd (cc (means, more))
claim_nearer catalog tx old new group claim claim_new (claims.Device shard) tells is fewer means more = absurd (cc (means, more))
claim_nearer catalog tx old new group claim claim_new (claims.Limit what count) tells is fewer means more = absurd (cc (means, more))
claim_nearer catalog tx old new group claim claim_new claims.Memory tells is fewer means more = absurd (cc (means, more))

pub row_nearer : (catalog : Catalog) (tx : TxState) (old new : Progress) (insertion : Insertion) (shard : ℕ) (answer : Answer) (tells : ProgramTold) → old.task ≡ Some (tasks.Row insertion)
    → RowAnswered catalog tx old shard answer tells new → tells ≡ told.More → actions_left new < actions_left old
row_nearer catalog tx old new insertion shard Done tells is means more = task_nearer old old new (tasks.Row insertion) true is refl (omega arith) means.1
row_nearer catalog tx old new insertion shard (Held by key) tells is means more = waits_no_more catalog tx (nat_lt (old.tries + 1) tx.limits.tries) old by key tells new means more
row_nearer catalog tx old new insertion shard (Found key row) tells is means more = refused_ends tx old tells (duplicate_row catalog shard key) means (more_is_well tells more)
row_nearer catalog tx old new insertion shard (Limit what count) tells is means more = absurd (cc (means, more))
row_nearer catalog tx old new insertion shard (Lost why) tells is means more = absurd (cc (means, more))
row_nearer catalog tx old new insertion shard Device tells is means more = absurd (cc (means, more))
row_nearer catalog tx old new insertion shard Memory tells is means more = absurd (cc (means, more))
row_nearer catalog tx old new insertion shard Unchanged tells is means more = absurd means
row_nearer catalog tx old new insertion shard (Rows rows) tells is means more = absurd means

-- ---- what the next step asks for

first_among : (list : List Task) (task : Task) → slice_get list 0 ≡ Some task → Contains list task
first_among [] task is = absurd (cc is)
first_among (first ∷ list) task is = (0, omega arith, same_Some first task is)

rest_among : (list : List Task) (task : Task) → Contains (drop 1 list) task → Contains list task
rest_among [] task among = absurd (omega (arith, among.1))
rest_among (first ∷ list) task (k, within, at) = (suc k, omega (arith, within), at)

pub at_claim_made : (catalog : Catalog) (count limit : ℕ) (p : Progress) (claim : Claiming) → IsMade catalog count limit p → IsClaim catalog count claim → IsMade catalog count limit (at_claim claim p)
at_claim_made catalog count limit p claim made ready = record {
  task = λ task is. subst (IsTask catalog count) (same_Some (tasks.Claim claim) task is) ready;
  later = made.later;
  tries = made.tries;
}

task_made : (catalog : Catalog) (count limit : ℕ) (p : Progress) (writes : Bool) → IsMade catalog count limit p → IsMade catalog count limit (with_task writes p)
task_made catalog count limit p writes made = record {
  task = λ task is. made.later task (first_among p.later task is);
  later = λ task among. made.later task (rest_among p.later task among);
  tries = omega (arith, made.tries);
}

waits_made : (catalog : Catalog) (count : ℕ) (tx : TxState) (b : Bool) (p : Progress) (by : ℕ) (key : Key) (tells : ProgramTold) (new : Progress) → nat_lt (p.tries + 1) tx.limits.tries ≡ b
    → IsMade catalog count tx.limits.tries p → WaitsOn catalog tx b p.wrote p.tries by key tells (with_try p) new → IsWell tells → IsMade catalog count tx.limits.tries new
waits_made catalog count tx true p by key tells new below made h well =
    subst (IsMade catalog count tx.limits.tries) (sym h.1) (record { task = made.task; later = made.later; tries = ltb-true (p.tries + 1) tx.limits.tries below })
waits_made catalog count tx false p by key tells new below made h well = refused_ends tx p tells (lock_wait catalog tx.limits.tries by key) h well

pub claim_made : (catalog : Catalog) (count : ℕ) (tx : TxState) (p new : Progress) (group : Group) (claim : Claiming) (said : ClaimTold) (tells : ProgramTold) → IsMade catalog count tx.limits.tries p
    → ClaimMeans catalog tx p group claim said tells new → IsWell tells → IsMade catalog count tx.limits.tries new
claim_made catalog count tx p new group claim claims.More tells made means well =
    subst (IsMade catalog count tx.limits.tries) (sym means.1) (record { task = made.task; later = made.later; tries = omega (arith, made.tries) })
claim_made catalog count tx p new group claim claims.Done tells made means well = subst (IsMade catalog count tx.limits.tries) (sym means.1) (task_made catalog count tx.limits.tries p (is_writing group) made)
claim_made catalog count tx p new group claim (claims.Held by key) tells made means well = waits_made catalog count tx (nat_lt (p.tries + 1) tx.limits.tries) p by key tells new refl made means well
claim_made catalog count tx p new group claim (claims.SelfHeld key) tells made means well = refused_ends tx p tells (removed_and_claimed catalog claim.lookup claim.row) means well
claim_made catalog count tx p new group claim (claims.Duplicate lookup shard key) tells made means well = refused_ends tx p tells (duplicate_entry catalog lookup claim.row shard key) means well
claim_made catalog count tx p new group claim (claims.Lost shard why) tells made means well = ended tells _ means (λ it. it) well
claim_made catalog count tx p new group claim (claims.Device shard) tells made means well = ended tells _ means (λ it. it) well
claim_made catalog count tx p new group claim (claims.Limit what many) tells made means well = ended tells _ means (λ it. it) well
claim_made catalog count tx p new group claim claims.Memory tells made means well = ended tells _ means (λ it. it) well

pub row_made : (catalog : Catalog) (count : ℕ) (tx : TxState) (p new : Progress) (shard : ℕ) (answer : Answer) (tells : ProgramTold) → IsMade catalog count tx.limits.tries p
    → RowAnswered catalog tx p shard answer tells new → IsWell tells → IsMade catalog count tx.limits.tries new
row_made catalog count tx p new shard Done tells made means well = subst (IsMade catalog count tx.limits.tries) (sym means.1) (task_made catalog count tx.limits.tries p true made)
row_made catalog count tx p new shard (Held by key) tells made means well = waits_made catalog count tx (nat_lt (p.tries + 1) tx.limits.tries) p by key tells new refl made means well
row_made catalog count tx p new shard (Found key row) tells made means well = refused_ends tx p tells (duplicate_row catalog shard key) means well
row_made catalog count tx p new shard (Limit what many) tells made means well = ended tells _ means (λ it. it) well
row_made catalog count tx p new shard (Lost why) tells made means well = ended tells _ means (λ it. it) well
row_made catalog count tx p new shard Device tells made means well = ended tells _ means (λ it. it) well
row_made catalog count tx p new shard Memory tells made means well = ended tells _ means (λ it. it) well
row_made catalog count tx p new shard Unchanged tells made means well = absurd means
row_made catalog count tx p new shard (Rows rows) tells made means well = absurd means
