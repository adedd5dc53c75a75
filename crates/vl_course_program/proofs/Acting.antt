-- A step did the act that was due, or none.
use Rattle.std.proofs.Common.{◌≡◌, ◌==◌, ◌∙◌, ◌⊎◌, inl, inr, ℕ, Bool, true, false, Option, Some, sym, ap, subst}
use Rattle.std.specs.Prelude.{◌↔◌, IsTrue, Contains, if◌then◌else◌}
use Rattle.std.specs.List.{list_any}
use Rattle.std.specs.Option.{option_map}
use Rattle.vl_catalog.specs.declared.catalog.Catalog.{Catalog}
use Rattle.vl_port.specs.declared.limits.Limits.{Limits}
use Rattle.vl_port.specs.declared.tx_state.TxState.{TxState}
use Rattle.vl_port.specs.declared.who.Who.{Who}
use Rattle.vl_port.specs.Asking.{reader_in}
use Rattle.vl_port.specs.Calls.{HasActed, PortView}
use Rattle.vl_port.specs.Taking.{takes_keys}
use Rattle.vl_port.specs.Transaction.{listed, session_of}
use Rattle.vl_plan.specs.declared.plan.Plan.{Plan}
use Rattle.vl_statement.specs.declared.program_told.ProgramTold.{ProgramTold}
use Rattle.vl_lookup.specs.declared.claim_told.ClaimTold.{ClaimTold}
use Rattle.vl_lookup.specs.Progress.{Progress as Claiming}
use Rattle.vl_lookup.specs.Stepping.{ClaimStepped}
use Rattle.vl_lookup.specs.Stepping.ClaimStepped.{Crossed as ClaimCrossed, Did as ClaimDid, Full as ClaimFull, NoRoom as ClaimNoRoom}
use Rattle.vl_insert.specs.declared.task.Task.{Task}
use Rattle.vl_insert.specs.declared.task.Task.TheVariants as tasks
use Rattle.vl_insert.specs.Progress.{Progress as Inserting}
use Rattle.vl_insert.specs.Stepping.{Stepped as InsertStepped}
use Rattle.vl_insert.specs.Stepping.Stepped.{Claimed as InsertClaimed, Did as InsertDid, Full as InsertFull, Idle as InsertIdle, NoRoom as InsertNoRoom}
use Rattle.vl_select.specs.Progress.{Action as Read, Progress as Selecting}
use Rattle.vl_select.specs.Stepping.{Stepped as SelectStepped}
use Rattle.vl_select.specs.Stepping.Stepped.{Idle as SelectIdle, Locked as SelectLocked, Looked as SelectLooked, NoRoom as SelectNoRoom}
use Rattle.vl_change.specs.declared.action.Action.{Action}
use Rattle.vl_change.specs.Progress.{Progress as Changing}
use Rattle.vl_change.specs.Stepping.{Stepped as ChangeStepped}
use Rattle.vl_change.specs.Stepping.Stepped.{Did as ChangeDid, Full as ChangeFull, Idle as ChangeIdle, NoRoom as ChangeNoRoom}
use Rattle.vl_exec.specs.declared.program.Program.{Program}
use Rattle.vl_exec.specs.declared.program.Program.TheVariants as programs
use Rattle.vl_exec.specs.Making.{IsMade}
use Rattle.vl_exec.specs.Stepping.{Stepped}
use Rattle.vl_run.specs.Run.{Run}
use Rattle.vl_course.specs.Changing.{due_as as change_as}
use Rattle.vl_course.specs.Selecting.{due_as as read_as, mark_of, reader_of}
use Rattle.vl_course.proofs.Listed.{among_as}
use Rattle.vl_course_insert.specs.Inserting.{due_as as insert_as}
use Rattle.vl_course_program.specs.Programs.{HasDone, IsProgramAt, due_of}

module _ (catalog : Catalog) (tx tx_new : TxState) (port port_new : PortView) where
  abbrev Acts : Program → Type 0
  Acts program = (port_new ≡ port) ⊎ HasDone port (due_of tx program) port_new

  claim_acts : (p : Inserting) (claim claim_new : Claiming) (told : ClaimTold) → p.task ≡ Some (tasks.Claim claim) → ClaimStepped catalog claim tx port told claim_new tx_new port_new → Acts (programs.Insert p)
  claim_acts p claim claim_new told is (ClaimCrossed crossed says same unasked) = inl unasked.shown
  claim_acts p claim claim_new told is (ClaimFull apart full says same unasked) = inl unasked.shown
  claim_acts p claim claim_new told is (ClaimNoRoom says same unasked) = inl unasked.shown
  claim_acts p claim claim_new told is (ClaimDid answer listed keys apart room asked same answered) =
      inr (record { act = insert_as tx (tasks.Claim claim); was = ap (λ (o : Option Task). option_map (insert_as tx) o) is; answer = answer; acted = asked.acts })

  insert_acts : (p new : Inserting) (tells : ProgramTold) → InsertStepped catalog p tx port tells new tx_new port_new → Acts (programs.Insert p)
  insert_acts p new tells (InsertIdle none replies same same_tx shows) = inl shows
  insert_acts p new tells (InsertClaimed claim claim_new told is stepped means) = claim_acts p claim claim_new told is stepped
  insert_acts p new tells (InsertFull insertion is full refused same_tx shows) = inl shows
  insert_acts p new tells (InsertNoRoom insertion is room refused unasked) = inl unasked.shown
  insert_acts p new tells (InsertDid insertion answer is room asked answered) =
      inr (record { act = insert_as tx (tasks.Row insertion); was = ap (λ (o : Option Task). option_map (insert_as tx) o) is; answer = answer; acted = asked.acts })

  -- a read goes by the session of its group where it obtains keys, and else by that where it is listed
  locked_by : (action : Read) → takes_keys action.act ≡ true → session_of tx action.group ≡ reader_of tx action
  locked_by action takes = sym (ap (λ b. if b then session_of tx action.group else reader_in tx action.group (list_any (λ other. other == action.shard) (listed tx action.group))) takes)

  looked_by : (action : Read) (there : Bool) → takes_keys action.act ≡ false → IsTrue there ↔ Contains (listed tx action.group) action.shard → reader_in tx action.group there ≡ reader_of tx action
  looked_by action there plain tells =
      ap (reader_in tx action.group) (among_as (listed tx action.group) action.shard there tells)
      ∙ sym (ap (λ b. if b then session_of tx action.group else reader_in tx action.group (list_any (λ other. other == action.shard) (listed tx action.group))) plain)

  select_acts : (p new : Selecting) (tells : ProgramTold) → SelectStepped catalog p tx port tells new tx_new port_new → Acts (programs.Select p)
  select_acts p new tells (SelectIdle none ends same_tx shows) = inl shows
  select_acts p new tells (SelectNoRoom action is takes refused unasked) = inl unasked.shown
  select_acts p new tells (SelectLocked action answer is takes asked answered) =
      inr (record {
        act = read_as tx (mark_of p) action;
        was = ap (λ (o : Option Read). option_map (read_as tx (mark_of p)) o) is;
        answer = answer;
        acted = subst (λ (who : Who). HasActed port who action.shard action.act answer port_new) (locked_by action takes) asked.acts;
      })
  select_acts p new tells (SelectLooked action there answer is plain by acted same answered) =
      inr (record {
        act = read_as tx (mark_of p) action;
        was = ap (λ (o : Option Read). option_map (read_as tx (mark_of p)) o) is;
        answer = answer;
        acted = subst (λ (who : Who). HasActed port who action.shard action.act answer port_new) (looked_by action there plain by) acted;
      })

  change_acts : (p new : Changing) (tells : ProgramTold) → ChangeStepped catalog p tx port tells new tx_new port_new → Acts (programs.Change p)
  change_acts p new tells (ChangeIdle none replies same same_tx shows) = inl shows
  change_acts p new tells (ChangeFull action is full refused same_tx shows) = inl shows
  change_acts p new tells (ChangeNoRoom action is room refused unasked) = inl unasked.shown
  change_acts p new tells (ChangeDid action answer is room asked answered) =
      inr (record { act = change_as tx action; was = ap (λ (o : Option Action). option_map (change_as tx) o) is; answer = answer; acted = asked.acts })

-- ---- the law

pub acts_once : (catalog : Catalog) (limits : Limits) (now : Run) (n count tries : ℕ) (plan : Plan) (tx tx_new : TxState) (program new : Program) (port port_new : PortView) (tells : ProgramTold) → IsProgramAt catalog limits now n plan program → IsMade catalog count tries program
    → Stepped catalog program tx port tells new tx_new port_new → (port_new ≡ port) ⊎ HasDone port (due_of tx program) port_new
acts_once catalog limits now n count tries plan tx tx_new (programs.Insert p) (programs.Insert new) port port_new tells at made stepped = insert_acts catalog tx tx_new port port_new p new tells stepped
acts_once catalog limits now n count tries plan tx tx_new (programs.Select p) (programs.Select new) port port_new tells at made stepped = select_acts catalog tx tx_new port port_new p new tells stepped
acts_once catalog limits now n count tries plan tx tx_new (programs.Change p) (programs.Change new) port port_new tells at made stepped = change_acts catalog tx tx_new port port_new p new tells stepped
acts_once catalog limits now n count tries plan tx tx_new program new port port_new tells at made stepped = absurd stepped
