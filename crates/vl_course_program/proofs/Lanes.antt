-- The act that is due of a program fits its shard and is in its lane.
use Rattle.std.proofs.Common.{◌≡◌, ◌==◌, ◌∙◌, ◌<◌, ◌⊎◌, inl, inr, ℕ, Bool, true, false, [], Option, Some, None, refl, sym, ap, subst}
use Rattle.std.specs.Prelude.{slice_get, nat_lt, length, if◌then◌else◌}
use Rattle.std.specs.List.{list_any}
use Rattle.std.specs.Option.{option_map, option_map_or}
use Rattle.std.proofs.lemmas.Bool.{eq-eqb}
use Rattle.std.proofs.lemmas.Map.Keys.{any_passes_from_place}
use Rattle.std.proofs.lemmas.Option.{same_Some}
use Rattle.vl_values.specs.declared.group.Group.{Group}
use Rattle.vl_values.specs.declared.group.Group.TheVariants.{Main, Pre}
use Rattle.vl_values.specs.declared.key.Key.{Key}
use Rattle.vl_values.specs.declared.pred.Pred.{Pred}
use Rattle.vl_catalog.specs.declared.catalog.Catalog.{Catalog}
use Rattle.vl_catalog.specs.declared.lookup.Lookup.{Lookup}
use Rattle.vl_catalog.specs.declared.table.Table.{Table}
use Rattle.vl_catalog.specs.Fitting.{FitsPred, key_of}
use Rattle.vl_rules.specs.Order.{Checked}
use Rattle.vl_port.specs.declared.act.Act.{Act}
use Rattle.vl_port.specs.declared.act.Act.TheVariants.{Insert, Put, Remove, RemoveIf, Find}
use Rattle.vl_port.specs.declared.limits.Limits.{Limits}
use Rattle.vl_port.specs.declared.tx_state.TxState.{TxState}
use Rattle.vl_port.specs.Asking.{reader_in}
use Rattle.vl_port.specs.Placing.{IsActOn}
use Rattle.vl_port.specs.Transaction.{listed}
use Rattle.vl_port.specs.View.{Values}
use Rattle.vl_model.specs.declared.route.Route.{Route}
use Rattle.vl_model.specs.Entries.{is_lookup_table, is_served_by}
use Rattle.vl_plan.specs.declared.insert_plan.InsertPlan.{InsertPlan}
use Rattle.vl_plan.specs.declared.plan.Plan.{Plan}
use Rattle.vl_plan.specs.declared.plan.Plan.TheVariants as plans
use Rattle.vl_plan.specs.declared.select_plan.SelectPlan.{SelectPlan}
use Rattle.vl_lookup.specs.declared.stage.Stage.{Stage}
use Rattle.vl_lookup.specs.declared.stage.Stage.TheVariants as stages
use Rattle.vl_lookup.specs.Making.{IsClaim, IsStageOn}
use Rattle.vl_lookup.specs.Progress.{Progress as Claiming}
use Rattle.vl_insert.specs.declared.insertion.Insertion.{Insertion}
use Rattle.vl_insert.specs.declared.task.Task.{Task}
use Rattle.vl_insert.specs.declared.task.Task.TheVariants as tasks
use Rattle.vl_insert.specs.Making.{IsInsertion, IsMade as IsInsertMade}
use Rattle.vl_insert.specs.Progress.{Progress as Inserting}
use Rattle.vl_select.specs.declared.entry_read.EntryRead.{EntryRead}
use Rattle.vl_select.specs.Begun.{group_of}
use Rattle.vl_select.specs.Making.{IsEntryRead, IsMade as IsSelectMade}
use Rattle.vl_select.specs.Progress.{Action as Read, Progress as Selecting, due as read_due}
use Rattle.vl_select.proofs.Dues.{Entry, IsDue as IsReadDue, Shard, contains_at, due_is as read_is}
use Rattle.vl_change.specs.declared.action.Action.{Action}
use Rattle.vl_change.specs.declared.row_change.RowChange.{RowChange}
use Rattle.vl_change.specs.declared.row_change.RowChange.TheVariants as changes
use Rattle.vl_change.specs.Making.{IsMade as IsChangeMade, IsWrite, written_key}
use Rattle.vl_change.specs.Progress.{Progress as Changing, due as change_due}
use Rattle.vl_change.proofs.Dues.{IsDue, Reads, Writes, due_fits, due_is, due_main}
use Rattle.vl_exec.specs.declared.program.Program.{Program}
use Rattle.vl_exec.specs.declared.program.Program.TheVariants as programs
use Rattle.vl_exec.specs.Making.{IsMade}
use Rattle.vl_replay.specs.Lanes.{IsActInLane, IsLane}
use Rattle.vl_replay.specs.Marks.{IsTaking}
use Rattle.vl_run.specs.declared.mark.Mark.{Mark}
use Rattle.vl_run.specs.declared.mark.Mark.TheVariants as marks
use Rattle.vl_run.specs.Machine.{is_entry}
use Rattle.vl_run.specs.Named.{key_in}
use Rattle.vl_run.specs.Run.{Run}
use Rattle.vl_course.specs.Changing.{IsChangeAt, due_as as change_as}
use Rattle.vl_course.specs.Selecting.{IsSelectAt, due_as as read_as, mark_of}
use Rattle.vl_course.specs.Turning.{Due}
use Rattle.vl_course_insert.specs.Inserting.{IsInsertAt, due_as as insert_as}
use Rattle.vl_course_insert.proofs.Dues.{known}
use Rattle.vl_course_insert.proofs.Here.{IsClaimHere, IsRowHere, claim_here, row_here}
use Rattle.vl_course_program.specs.Fitting.{IsDueFit}
use Rattle.vl_course_program.specs.Programs.{AreOf, IsProgramAt, due_of}

module _ (catalog : Catalog) (count : ℕ) (tx : TxState) where
  abbrev Fit : Due → Type 0
  Fit due = IsDueFit catalog count tx due

  -- ---- an INSERT

  -- a lookup's entries are of its table
  entry_is : (l : ℕ) (lookup : Lookup) (key : Key) → slice_get catalog.lookups l ≡ Some lookup → lookup.table ≡ Some key.table → is_entry catalog key ≡ true
  entry_is l lookup key at table =
      any_passes_from_place (λ (it : Lookup). is_served_by key.table it.table) catalog.lookups l lookup at (ap (is_served_by key.table) table ∙ eq-eqb key.table key.table refl)

  -- the key of a row is of its table
  key_of_table : (number : ℕ) (row : Values) → (key_in catalog number row).table ≡ number
  key_of_table number row = by (slice_get catalog.tables number)
    where
      by : (o : Option Table) → (let key : Key = option_map_or (λ (table : Table). key_of number table row) o (record { table = number; pk = [] }) in key.table) ≡ number
      by None = refl
      by (Some table) = refl

  module _ (checked : Checked catalog) (limits : Limits) (now : Run) (n tries : ℕ) (plan : InsertPlan) (p : Inserting) (at : IsInsertAt catalog limits now n plan p) (plain : is_lookup_table catalog plan.table ≡ false)
      (made : IsInsertMade catalog count tries p) where
    abbrev claim_as : Claiming → Stage → Due
    claim_as claim stage = insert_as tx (tasks.Claim (record claim { stage = stage }))

    stage_fits : (claim : Claiming) → IsClaimHere catalog now n plan p claim → IsClaim catalog count claim → (stage : Stage) → IsStageOn count stage → Fit (claim_as claim stage)
    stage_fits claim here ready stages.First on = record {
      within = ready.shard;
      fits = ready.entry;
      lane = entry_is here.l here.at.made.lookup claim.key here.at.made.owned.is_lookup here.at.made.needs.is_entry;
      number = refl;
      session = refl;
      mark = tt;
      group = λ takes. inl refl;
    }
    stage_fits claim here ready (stages.Check ksid shard) on = record {
      within = on;
      fits = ready.pred;
      lane = ap (is_lookup_table catalog) (known checked here ready).pred ∙ plain;
      number = refl;
      session = refl;
      mark = tt;
      group = λ takes. inr refl;
    }
    stage_fits claim here ready stages.Put on = record {
      within = ready.shard;
      fits = ready.entry;
      lane = entry_is here.l here.at.made.lookup claim.key here.at.made.owned.is_lookup here.at.made.needs.is_entry;
      number = refl;
      session = refl;
      mark = tt;
      group = λ takes. inl refl;
    }

    same_key : (a b : Key) (x y : Values) (act : Act) → act ≡ Insert a x → act ≡ Insert b y → a ≡ b
    same_key a b x y act one other = cc

    row_fits : (insertion : Insertion) → IsRowHere catalog now n plan p insertion → IsInsertion catalog count insertion → Fit (insert_as tx (tasks.Row insertion))
    row_fits insertion here it =
        let key : it.key ≡ key_in catalog plan.table here.row = same_key it.key (key_in catalog plan.table here.row) it.row here.row insertion.act it.inserts (ap (λ (i : Insertion). i.act) here.is) in
        record {
          within = it.shard;
          fits = subst (IsActOn catalog insertion.shard) (sym it.inserts) it.placed;
          lane = subst (IsActInLane catalog (Some Main)) (sym it.inserts) (ap (is_lookup_table catalog) (ap (λ (k : Key). k.table) key ∙ key_of_table plan.table here.row) ∙ plain);
          number = refl;
          session = refl;
          mark = tt;
          group = λ takes. inr refl;
        }

    task_fits : (task : Task) → p.task ≡ Some task → Fit (insert_as tx task)
    task_fits (tasks.Claim claim) is = (let ready = made.task (tasks.Claim claim) is in stage_fits claim (claim_here at is) ready claim.stage ready.stage)
    task_fits (tasks.Row insertion) is = row_fits insertion (row_here at is) (made.task (tasks.Row insertion) is)

    insert_by : (o : Option Task) → p.task ≡ o → (due : Due) → option_map (insert_as tx) o ≡ Some due → Fit due
    insert_by None is due same = absurd (cc)
    insert_by (Some task) is due same = subst Fit (same_Some (insert_as tx task) due same) (task_fits task is)

  -- ---- a SELECT

  module _ (mark : Mark) (takes : IsTaking mark) (group : Group) (shard : ℕ) (pred : Pred) (within : shard < count) (fits : FitsPred catalog pred) (grouped : (group ≡ Pre) ⊎ (group ≡ Main)) where
    abbrev find_as : Bool → Due
    find_as locking = read_as tx mark (record { group = group; shard = shard; act = Find pred locking })

    some_group : (group ≡ Pre) ⊎ (group ≡ Main) → (Some group ≡ Some Pre) ⊎ (Some group ≡ Some Main)
    some_group (inl pre) = inl (ap (λ (g : Group). Some g) pre)
    some_group (inr main) = inr (ap (λ (g : Group). Some g) main)

    reader_number : (there : Bool) → (reader_in tx group there).tx ≡ tx.number
    reader_number true = refl
    reader_number false = refl

    reader_session : (there : Bool) → (reader_in tx group there).session ≡ tx.session
    reader_session true = refl
    reader_session false = refl

    never : false ≡ true → ⊥
    never same = cc

    find_fits : (locking : Bool) → (locking ≡ true → IsLane (Some group) (is_lookup_table catalog pred.table)) → Fit (find_as locking)
    find_fits true lane = record {
      within = within;
      fits = fits;
      lane = lane refl;
      number = refl;
      session = refl;
      mark = takes;
      group = λ it. some_group grouped;
    }
    find_fits false lane =
        let there : Bool = list_any (λ other. other == shard) (listed tx group) in
        record {
          within = within;
          fits = fits;
          lane = tt;
          number = reader_number there;
          session = reader_session there;
          mark = takes;
          group = λ it. absurd (never it);
        }

  read_fits : (mark : Mark) → IsTaking mark → (action : Read) (pred : Pred) (locking : Bool) → action.act ≡ Find pred locking → action.shard < count → FitsPred catalog pred → (action.group ≡ Pre) ⊎ (action.group ≡ Main)
      → (locking ≡ true → IsLane (Some action.group) (is_lookup_table catalog pred.table)) → Fit (read_as tx mark action)
  read_fits mark takes action pred locking finds within fits grouped lane =
      subst (λ (act : Act). Fit (read_as tx mark (record { group = action.group; shard = action.shard; act = act }))) (sym finds) (find_fits mark takes action.group action.shard pred within fits grouped locking lane)

  -- rows are read in the group of their table
  lane_of : (entries : Bool) → IsLane (Some (if entries then Pre else Main)) entries
  lane_of true = refl
  lane_of false = refl

  group_by : (entries : Bool) → ((if entries then Pre else Main) ≡ Pre) ⊎ ((if entries then Pre else Main) ≡ Main)
  group_by true = inl refl
  group_by false = inr refl

  taking_by : (left : Bool) → IsTaking (if left then marks.Looks else marks.Reads)
  taking_by true = tt
  taking_by false = tt

  same_find : (a b : Pred) (x y : Bool) (act : Act) → act ≡ Find a x → act ≡ Find b y → a ≡ b
  same_find a b x y act one other = cc

  module _ (limits : Limits) (now : Run) (n tries : ℕ) (plan : SelectPlan) (p : Selecting) (at : IsSelectAt catalog limits now n plan p) (made : IsSelectMade catalog count tries p) where
    taking : IsTaking (mark_of p)
    taking = taking_by (nat_lt p.looked (length p.entries))

    entry_fits : (action : Read) (entry : EntryRead) → action.group ≡ Pre → action.shard ≡ entry.shard → action.act ≡ entry.find → IsEntryRead catalog count entry → Fit (read_as tx (mark_of p) action)
    entry_fits action entry group shard act it =
        read_fits (mark_of p) taking action it.pred false (act ∙ it.find) (subst (λ (s : ℕ). s < count) (sym shard) it.shard) it.fits (inl group) (λ same. absurd (cc))

    reads_fit : (action : Read) → IsReadDue p action → Fit (read_as tx (mark_of p) action)
    reads_fit action (Entry entry here group shard act) = entry_fits action entry group shard act (made.entries entry (contains_at p.entries p.looked entry here))
    reads_fit action (Shard none here group act) =
        let same : made.pred ≡ plan.pred = same_find made.pred plan.pred made.locking plan.locking p.find made.find at.find in
        let own : group_of catalog plan.pred.table ≡ action.group = sym (group ∙ at.group) in
        read_fits (mark_of p) taking action made.pred made.locking (act ∙ made.find) (made.shards action.shard (contains_at p.shards p.read action.shard here)) made.fits
        (subst (λ (g : Group). (g ≡ Pre) ⊎ (g ≡ Main)) own (group_by (is_lookup_table catalog plan.pred.table)))
        (λ locking. subst (λ (g : Group). IsLane (Some g) (is_lookup_table catalog made.pred.table)) own
        (subst (λ (q : Pred). IsLane (Some (group_of catalog plan.pred.table)) (is_lookup_table catalog q.table)) (sym same) (lane_of (is_lookup_table catalog plan.pred.table))))

    select_by : (o : Option Read) → read_due p ≡ o → (due : Due) → option_map (read_as tx (mark_of p)) o ≡ Some due → Fit due
    select_by None is due same = absurd (cc)
    select_by (Some action) is due same = subst Fit (same_Some (read_as tx (mark_of p) action) due same) (reads_fit action (read_is p action is))

  -- ---- an UPDATE or a DELETE

  module _ (limits : Limits) (now : Run) (n tries : ℕ) (change : RowChange) (pred : Pred) (route : Route) (p : Changing) (at : IsChangeAt catalog limits now n change pred route p) (own : AreOf pred.table p.writes) (made : IsChangeMade catalog count tries p) where
    write_lane : (act : Act) → IsWrite act → ((key : Key) → written_key act ≡ Some key → key.table ≡ pred.table) → IsActInLane catalog (Some Main) act
    write_lane (Insert key row) write of_table = absurd write
    write_lane (Put key row) write of_table = ap (is_lookup_table catalog) (of_table key refl) ∙ at.plain
    write_lane (Remove key) write of_table = ap (is_lookup_table catalog) (of_table key refl) ∙ at.plain
    write_lane (RemoveIf key column value) write of_table = absurd write
    write_lane (Find other locking) write of_table = absurd write

    change_lane : (action : Action) → IsDue p action → IsActInLane catalog (Some Main) action.act
    change_lane action (Reads here same main) = subst (IsActInLane catalog (Some Main)) (sym (same ∙ at.find)) at.plain
    change_lane action (Writes here) =
        let among = contains_at p.writes p.done action here in
        write_lane action.act (made.writes action among).write (λ key is. own action key among is)

    change_fits : (action : Action) → IsDue p action → Fit (change_as tx action)
    change_fits action is =
        let fits = due_fits catalog count tries p action made is in
        let main : Some action.group ≡ Some Main = ap (λ (g : Group). Some g) (due_main catalog count tries p action made is) in
        record {
          within = fits.0;
          fits = fits.1;
          lane = subst (λ (g : Option Group). IsActInLane catalog g action.act) (sym main) (change_lane action is);
          number = refl;
          session = refl;
          mark = tt;
          group = λ takes. inr main;
        }

    change_by : (o : Option Action) → change_due p ≡ o → (due : Due) → option_map (change_as tx) o ≡ Some due → Fit due
    change_by None is due same = absurd (cc)
    change_by (Some action) is due same = subst Fit (same_Some (change_as tx action) due same) (change_fits action (due_is p action is))

-- ---- the law

pub due_fit : (catalog : Catalog) (limits : Limits) (now : Run) (n count tries : ℕ) (plan : Plan) (tx : TxState) (program : Program) → Checked catalog → IsProgramAt catalog limits now n plan program → IsMade catalog count tries program → (due : Due) → due_of tx program ≡ Some due
    → IsDueFit catalog count tx due
due_fit catalog limits now n count tries (plans.Insert plan) tx (programs.Insert p) checked at made due is = insert_by catalog count tx checked limits now n tries plan p at.0 at.1 made p.task refl due is
due_fit catalog limits now n count tries (plans.Select plan) tx (programs.Select p) checked at made due is = select_by catalog count tx limits now n tries plan p at made (read_due p) refl due is
due_fit catalog limits now n count tries (plans.Update plan) tx (programs.Change p) checked at made due is = change_by catalog count tx limits now n tries (changes.Set plan.settings) plan.pred plan.route p at.0 at.1 made (change_due p) refl due is
due_fit catalog limits now n count tries (plans.Delete plan) tx (programs.Change p) checked at made due is = change_by catalog count tx limits now n tries changes.Remove plan.pred plan.route p at.0 at.1 made (change_due p) refl due is
due_fit catalog limits now n count tries plan tx program checked at made due is = absurd at
