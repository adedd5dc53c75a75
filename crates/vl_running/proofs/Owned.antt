-- A step of a program opens no session of the transaction but one of its own client session.
use Rattle.std.proofs.Common.{◌≡◌, ℕ, Bool, true, false, refl, sym, subst}
use Rattle.vl_values.specs.declared.group.Group.{Group}
use Rattle.vl_catalog.specs.declared.catalog.Catalog.{Catalog}
use Rattle.vl_port.specs.declared.act.Act.{Act}
use Rattle.vl_port.specs.declared.answer.Answer.{Answer}
use Rattle.vl_port.specs.declared.tx_state.TxState.{TxState}
use Rattle.vl_port.specs.declared.who.Who.{Who}
use Rattle.vl_port.specs.Asking.{reader_in}
use Rattle.vl_port.specs.Calls.{HasActed, PortView}
use Rattle.vl_statement.specs.declared.program_told.ProgramTold.{ProgramTold}
use Rattle.vl_lookup.specs.declared.claim_told.ClaimTold.{ClaimTold}
use Rattle.vl_lookup.specs.Progress.{Progress as Claiming}
use Rattle.vl_lookup.specs.Stepping.{ClaimStepped}
use Rattle.vl_lookup.specs.Stepping.ClaimStepped.{Crossed as ClaimCrossed, Did as ClaimDid, Full as ClaimFull, NoRoom as ClaimNoRoom}
use Rattle.vl_insert.specs.Progress.{Progress as Inserting}
use Rattle.vl_insert.specs.Stepping.{Stepped as InsertStepped}
use Rattle.vl_insert.specs.Stepping.Stepped.{Claimed as InsertClaimed, Did as InsertDid, Full as InsertFull, Idle as InsertIdle, NoRoom as InsertNoRoom}
use Rattle.vl_select.specs.Progress.{Progress as Selecting}
use Rattle.vl_select.specs.Stepping.{Stepped as SelectStepped}
use Rattle.vl_select.specs.Stepping.Stepped.{Idle as SelectIdle, Locked as SelectLocked, Looked as SelectLooked, NoRoom as SelectNoRoom}
use Rattle.vl_change.specs.Progress.{Progress as Changing}
use Rattle.vl_change.specs.Stepping.{Stepped as ChangeStepped}
use Rattle.vl_change.specs.Stepping.Stepped.{Did as ChangeDid, Full as ChangeFull, Idle as ChangeIdle, NoRoom as ChangeNoRoom}
use Rattle.vl_exec.specs.declared.program.Program.{Program}
use Rattle.vl_exec.specs.declared.program.Program.TheVariants as programs
use Rattle.vl_exec.specs.Stepping.{Stepped}
use Rattle.vl_replay.specs.Showing.{IsOwned}
use Rattle.vl_replay.proofs.Refusals.{owned_acted}

reader_session : (tx : TxState) (group : Group) (there : Bool) → (reader_in tx group there).session ≡ tx.session
reader_session tx group true = refl
reader_session tx group false = refl

module _ (catalog : Catalog) (count : ℕ) (tx tx_new : TxState) (port port_new : PortView) (owned : IsOwned tx.number tx.session count port.shards) where
  abbrev Owns : Type 0
  Owns = IsOwned tx.number tx.session count port_new.shards

  same : port_new ≡ port → Owns
  same is = subst (λ (p : PortView). IsOwned tx.number tx.session count p.shards) (sym is) owned

  acted : (who : Who) (shard : ℕ) (act : Act) (answer : Answer) → who.session ≡ tx.session → HasActed port who shard act answer port_new → Owns
  acted who shard act answer own acts = owned_acted tx.number tx.session count port port_new who shard act answer acts (λ number. own) owned

  claim_owned : (claim claim_new : Claiming) (told : ClaimTold) → ClaimStepped catalog claim tx port told claim_new tx_new port_new → Owns
  claim_owned claim claim_new told (ClaimCrossed crossed says is unasked) = same unasked.shown
  claim_owned claim claim_new told (ClaimFull apart full says is unasked) = same unasked.shown
  claim_owned claim claim_new told (ClaimNoRoom says is unasked) = same unasked.shown
  claim_owned claim claim_new told (ClaimDid answer listed keys apart room asked is answered) = acted _ _ _ answer refl asked.acts

  insert_owned : (p new : Inserting) (tells : ProgramTold) → InsertStepped catalog p tx port tells new tx_new port_new → Owns
  insert_owned p new tells (InsertIdle none replies is same_tx shows) = same shows
  insert_owned p new tells (InsertClaimed claim claim_new told is stepped means) = claim_owned claim claim_new told stepped
  insert_owned p new tells (InsertFull insertion is full refused same_tx shows) = same shows
  insert_owned p new tells (InsertNoRoom insertion is room refused unasked) = same unasked.shown
  insert_owned p new tells (InsertDid insertion answer is room asked answered) = acted _ _ _ answer refl asked.acts

  select_owned : (p new : Selecting) (tells : ProgramTold) → SelectStepped catalog p tx port tells new tx_new port_new → Owns
  select_owned p new tells (SelectIdle none over same_tx shows) = same shows
  select_owned p new tells (SelectNoRoom action is takes refused unasked) = same unasked.shown
  select_owned p new tells (SelectLocked action answer is takes asked answered) = acted _ _ _ answer refl asked.acts
  select_owned p new tells (SelectLooked action there answer is plain by acts same_tx answered) = acted (reader_in tx action.group there) action.shard action.act answer (reader_session tx action.group there) acts

  change_owned : (p new : Changing) (tells : ProgramTold) → ChangeStepped catalog p tx port tells new tx_new port_new → Owns
  change_owned p new tells (ChangeIdle none replies is same_tx shows) = same shows
  change_owned p new tells (ChangeFull action is full refused same_tx shows) = same shows
  change_owned p new tells (ChangeNoRoom action is room refused unasked) = same unasked.shown
  change_owned p new tells (ChangeDid action answer is room asked answered) = acted _ _ _ answer refl asked.acts

  pub step_owned : (program new : Program) (tells : ProgramTold) → Stepped catalog program tx port tells new tx_new port_new → IsOwned tx.number tx.session count port_new.shards
  step_owned (programs.Insert p) (programs.Insert new) tells stepped = insert_owned p new tells stepped
  step_owned (programs.Select p) (programs.Select new) tells stepped = select_owned p new tells stepped
  step_owned (programs.Change p) (programs.Change new) tells stepped = change_owned p new tells stepped
  step_owned program new tells stepped = absurd stepped
