-- No program lists a session of post: its transaction has none where it had none.
use Rattle.std.proofs.Common.{◌≡◌, ◌==◌, ◌∙◌, ◌⊎◌, inl, inr, ℕ, Bool, true, false, Option, Some, refl, sym, ap}
use Rattle.std.specs.Prelude.{if◌then◌else◌}
use Rattle.std.specs.List.{list_any}
use Rattle.std.specs.Option.{option_map}
use Rattle.vl_values.specs.declared.group.Group.{Group}
use Rattle.vl_values.specs.declared.group.Group.TheVariants.{Pre, Main, Post}
use Rattle.vl_catalog.specs.declared.catalog.Catalog.{Catalog}
use Rattle.vl_port.specs.declared.answer.Answer.{Answer}
use Rattle.vl_port.specs.declared.answer.Answer.TheVariants.{Done, Unchanged, Rows, Found, Held, Lost, Device, Limit, Memory}
use Rattle.vl_port.specs.declared.tx_state.TxState.{TxState}
use Rattle.vl_port.specs.Asking.{IsListed, Lists, reader_in}
use Rattle.vl_port.specs.Calls.{PortView}
use Rattle.vl_port.specs.Taking.{takes_keys}
use Rattle.vl_port.specs.Transaction.{Enlists, listed, session_of}
use Rattle.vl_statement.specs.declared.program_told.ProgramTold.{ProgramTold}
use Rattle.vl_lookup.specs.declared.claim_told.ClaimTold.{ClaimTold}
use Rattle.vl_lookup.specs.declared.stage.Stage.{Stage}
use Rattle.vl_lookup.specs.declared.stage.Stage.TheVariants as stages
use Rattle.vl_lookup.specs.Progress.{Progress as Claiming, due as claim_due, due_at}
use Rattle.vl_lookup.specs.Stepping.{ClaimStepped}
use Rattle.vl_lookup.specs.Stepping.ClaimStepped.{Crossed as ClaimCrossed, Did as ClaimDid, Full as ClaimFull, NoRoom as ClaimNoRoom}
use Rattle.vl_insert.specs.Progress.{Progress as Inserting}
use Rattle.vl_insert.specs.Stepping.{Stepped as InsertStepped}
use Rattle.vl_insert.specs.Stepping.Stepped.{Claimed as InsertClaimed, Did as InsertDid, Full as InsertFull, Idle as InsertIdle, NoRoom as InsertNoRoom}
use Rattle.vl_select.specs.Progress.{Action as Read, Progress as Selecting}
use Rattle.vl_select.specs.Stepping.{Stepped as SelectStepped}
use Rattle.vl_select.specs.Stepping.Stepped.{Idle as SelectIdle, Locked as SelectLocked, Looked as SelectLooked, NoRoom as SelectNoRoom}
use Rattle.vl_change.specs.Making.{IsMade as IsChangeMade}
use Rattle.vl_change.specs.Progress.{Progress as Changing}
use Rattle.vl_change.specs.Stepping.{Stepped as ChangeStepped}
use Rattle.vl_change.specs.Stepping.Stepped.{Did as ChangeDid, Full as ChangeFull, Idle as ChangeIdle, NoRoom as ChangeNoRoom}
use Rattle.vl_change.proofs.Dues.{due_is, due_main}
use Rattle.vl_exec.specs.declared.program.Program.{Program}
use Rattle.vl_exec.specs.declared.program.Program.TheVariants as programs
use Rattle.vl_exec.specs.Making.{IsMade}
use Rattle.vl_exec.specs.Stepping.{Stepped}
use Rattle.vl_course.specs.Selecting.{due_as as read_as, mark_of, reader_of}
use Rattle.vl_course.specs.Turning.{Due}
use Rattle.vl_course_program.specs.Fitting.{IsDueFit}
use Rattle.vl_course_program.specs.Programs.{due_of}

-- ---- by an answer

enlisted : (tx new : TxState) (group : Group) (shard : ℕ) (added : Bool) → (group ≡ Post → ⊥) → Enlists tx group shard added new → new.post ≡ tx.post
enlisted tx new Pre shard true other lists = ap (λ (t : TxState). t.post) lists.1
enlisted tx new Main shard true other lists = ap (λ (t : TxState). t.post) lists.1
enlisted tx new Post shard true other lists = absurd (other refl)
enlisted tx new group shard false other lists = ap (λ (t : TxState). t.post) lists.1

by_listed : (tx new : TxState) (group : Group) (shard : ℕ) → (group ≡ Post → ⊥) → IsListed tx group shard new → new.post ≡ tx.post
by_listed tx new group shard other lists = enlisted tx new group shard lists.0 other lists.1

answered : (tx new : TxState) (group : Group) (shard : ℕ) (answer : Answer) → (group ≡ Post → ⊥) → Lists tx group shard answer new → new.post ≡ tx.post
answered tx new group shard Memory other lists = ap (λ (t : TxState). t.post) lists
answered tx new group shard Done other lists = ap (λ (t : TxState). t.post) lists.2 ∙ by_listed tx lists.0 group shard other lists.1
answered tx new group shard Unchanged other lists = by_listed tx new group shard other lists
answered tx new group shard (Rows rows) other lists = by_listed tx new group shard other lists
answered tx new group shard (Found key row) other lists = by_listed tx new group shard other lists
answered tx new group shard (Held by key) other lists = by_listed tx new group shard other lists
answered tx new group shard (Lost why) other lists = by_listed tx new group shard other lists
answered tx new group shard Device other lists = by_listed tx new group shard other lists
answered tx new group shard (Limit what count) other lists = by_listed tx new group shard other lists

-- ---- by a step

main_never : Main ≡ Post → ⊥
main_never same = cc

stage_group : (stage : Stage) (claim : Claiming) → (due_at stage claim).group ≡ Post → ⊥
stage_group stages.First claim same = cc
stage_group (stages.Check ksid shard) claim same = cc
stage_group stages.Put claim same = cc

module _ (catalog : Catalog) (count tries : ℕ) (tx tx_new : TxState) (port port_new : PortView) where
  same : tx_new ≡ tx → tx_new.post ≡ tx.post
  same is = ap (λ (t : TxState). t.post) is

  claim_unlisted : (claim claim_new : Claiming) (told : ClaimTold) → ClaimStepped catalog claim tx port told claim_new tx_new port_new → tx_new.post ≡ tx.post
  claim_unlisted claim claim_new told (ClaimCrossed crossed says is unasked) = same unasked.same
  claim_unlisted claim claim_new told (ClaimFull apart full says is unasked) = same unasked.same
  claim_unlisted claim claim_new told (ClaimNoRoom says is unasked) = same unasked.same
  claim_unlisted claim claim_new told (ClaimDid answer after claimed crossed room asked is means) = ap (λ (t : TxState). t.post) is ∙ answered tx after (claim_due claim).group (claim_due claim).shard answer (stage_group claim.stage claim) asked.lists

  insert_unlisted : (p new : Inserting) (tells : ProgramTold) → InsertStepped catalog p tx port tells new tx_new port_new → tx_new.post ≡ tx.post
  insert_unlisted p new tells (InsertIdle none replies is same_tx shows) = same same_tx
  insert_unlisted p new tells (InsertClaimed claim claim_new told is stepped means) = claim_unlisted claim claim_new told stepped
  insert_unlisted p new tells (InsertFull insertion is full refused same_tx shows) = same same_tx
  insert_unlisted p new tells (InsertNoRoom insertion is room refused unasked) = same unasked.same
  insert_unlisted p new tells (InsertDid insertion answer is room asked means) = answered tx tx_new Main insertion.shard answer main_never asked.lists

  -- a read that obtains keys is one of pre or main
  reader_group : (action : Read) → takes_keys action.act ≡ true → (reader_of tx action).group ≡ Some action.group
  reader_group action takes = ap (λ b. (if b then session_of tx action.group else reader_in tx action.group (list_any (λ other. other == action.shard) (listed tx action.group))).group) takes

  read_group : (action : Read) (g : Option Group) → g ≡ Some action.group → (g ≡ Some Pre) ⊎ (g ≡ Some Main) → action.group ≡ Post → ⊥
  read_group action g is (inl pre) post = pre_never (sym pre ∙ is ∙ ap (λ (it : Group). Some it) post)
    where
      pre_never : Some Pre ≡ Some Post → ⊥
      pre_never same = cc
  read_group action g is (inr main) post = main_not (sym main ∙ is ∙ ap (λ (it : Group). Some it) post)
    where
      main_not : Some Main ≡ Some Post → ⊥
      main_not same = cc

  select_unlisted : (p new : Selecting) (tells : ProgramTold) → ((due : Due) → due_of tx (programs.Select p) ≡ Some due → IsDueFit catalog count tx due) → SelectStepped catalog p tx port tells new tx_new port_new → tx_new.post ≡ tx.post
  select_unlisted p new tells fits (SelectIdle none over same_tx shows) = same same_tx
  select_unlisted p new tells fits (SelectNoRoom action is takes refused unasked) = same unasked.same
  select_unlisted p new tells fits (SelectLocked action answer is takes asked means) =
      let fit = fits (read_as tx (mark_of p) action) (ap (λ (o : Option Read). option_map (read_as tx (mark_of p)) o) is) in
      answered tx tx_new action.group action.shard answer (read_group action (reader_of tx action).group (reader_group action takes) (fit.group takes)) asked.lists
  select_unlisted p new tells fits (SelectLooked action there answer is plain by acts same_tx means) = same same_tx

  change_unlisted : (p new : Changing) (tells : ProgramTold) → IsChangeMade catalog count tries p → ChangeStepped catalog p tx port tells new tx_new port_new → tx_new.post ≡ tx.post
  change_unlisted p new tells made (ChangeIdle none replies is same_tx shows) = same same_tx
  change_unlisted p new tells made (ChangeFull action is full refused same_tx shows) = same same_tx
  change_unlisted p new tells made (ChangeNoRoom action is room refused unasked) = same unasked.same
  change_unlisted p new tells made (ChangeDid action answer is room asked means) =
      answered tx tx_new action.group action.shard answer (λ post. main_never (sym (due_main catalog count tries p action made (due_is p action is)) ∙ post)) asked.lists

  pub step_unlisted : (program new : Program) (tells : ProgramTold) → IsMade catalog count tries program → ((due : Due) → due_of tx program ≡ Some due → IsDueFit catalog count tx due) → Stepped catalog program tx port tells new tx_new port_new → tx_new.post ≡ tx.post
  step_unlisted (programs.Insert p) (programs.Insert new) tells made fits stepped = insert_unlisted p new tells stepped
  step_unlisted (programs.Select p) (programs.Select new) tells made fits stepped = select_unlisted p new tells fits stepped
  step_unlisted (programs.Change p) (programs.Change new) tells made fits stepped = change_unlisted p new tells made stepped
  step_unlisted program new tells made fits stepped = absurd stepped
