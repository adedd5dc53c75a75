-- What a program's step hands on to the call that tells it, over the shards alone.
use Rattle.std.proofs.Common.{◌≡◌, ◌∙◌, ℕ, Option, sym, ap, subst}
use Rattle.vl_values.specs.declared.cause.Cause.TheVariants as causes
use Rattle.vl_values.specs.Reply.{refusal}
use Rattle.vl_catalog.specs.declared.catalog.Catalog.{Catalog}
use Rattle.vl_port.specs.declared.outcome.Outcome.{Outcome}
use Rattle.vl_port.specs.declared.tx_state.TxState.{TxState}
use Rattle.vl_port.specs.Calls.{PortView, without_outcome}
use Rattle.vl_port.specs.Others.{LeavesOthers}
use Rattle.vl_port.specs.Serving.{Serves, Shards}
use Rattle.vl_port.specs.Transaction.{IsIn}
use Rattle.vl_port.proofs.Leaving.{leaves_trans}
use Rattle.vl_statement.specs.declared.program_told.ProgramTold.{ProgramTold}
use Rattle.vl_lookup.specs.Stepping.{IsSameTxButClaims}
use Rattle.vl_exec.specs.declared.program.Program.{Program}
use Rattle.vl_exec.specs.Stepping.{Stepped}
use Rattle.vl_replay.specs.Showing.{IsOwned}
use Rattle.vl_course.specs.Turning.{Due}
use Rattle.vl_course_program.specs.Programs.{due_of}
use Rattle.vl_session.specs.declared.turn.Turn.{Turn}
use Rattle.vl_running.specs.declared.done.Done.{Done}
use Rattle.vl_running.specs.Ran.{IsToldAs, Ran, done_of, nothing, stays}
use Rattle.vl_running.specs.Ran.Ran.{Did, Starved}
use Rattle.vl_running.proofs.Owned.{step_owned}
use Rattle.vl_running.proofs.Replies.{refused_keeps, told_keeps}

-- ---- the outcome was taken

taken_shards : (old new : PortView) → new ≡ without_outcome old → new.shards ≡ old.shards
taken_shards old new is = ap (λ (p : PortView). p.shards) is

pub owned_on : (catalog : Catalog) (count now : ℕ) (tx after : TxState) (port between mid : PortView) (program new : Program) (told : ProgramTold) → Stepped catalog program tx port told new after between → IsSameTxButClaims tx after → mid ≡ without_outcome between → now ≡ count
    → IsOwned tx.number tx.session count port.shards → IsOwned after.number after.session now mid.shards
owned_on catalog count now tx after port between mid program new told stepped same taken counts owned =
    subst (λ (n : ℕ). IsOwned after.number after.session n mid.shards) (sym counts)
    (subst (λ (s : Shards). IsOwned after.number after.session count s) (sym (taken_shards between mid taken))
    (subst (λ (n : ℕ). IsOwned after.number n count between.shards) (sym same.session)
    (subst (λ (n : ℕ). IsOwned n tx.session count between.shards) (sym same.number) (step_owned catalog count tx after port between owned program new told stepped))))

pub others_on : (tx after : TxState) (port between mid last : PortView) → IsSameTxButClaims tx after → mid ≡ without_outcome between → LeavesOthers tx.number port.shards between.shards → LeavesOthers after.number mid.shards last.shards
    → LeavesOthers tx.number port.shards last.shards
others_on tx after port between mid last same taken first then =
    leaves_trans tx.number port.shards between.shards last.shards first
    (subst (λ (n : ℕ). LeavesOthers n between.shards last.shards) same.number (subst (λ (s : Shards). LeavesOthers after.number s last.shards) (taken_shards between mid taken) then))

pub did_on : (catalog : Catalog) (count now : ℕ) (tx after : TxState) (port between mid : PortView) (program new : Program) (told : ProgramTold) → Stepped catalog program tx port told new after between → IsSameTxButClaims tx after → now ≡ count → Serves catalog now between.shards → IsIn after now between.shards
    → mid ≡ without_outcome between → (opens : Option ℕ) (due : Option Due) (outcome : Option Outcome) (done : Done) (turn : Turn) (last : PortView) → due ≡ due_of tx program → outcome ≡ between.outcome → done ≡ done_of due outcome → IsToldAs told after new opens done mid turn last
    → Ran catalog count tx program opens port turn last
did_on catalog count now tx after port between mid program new told stepped same counts serves isin taken opens due outcome done turn last due_is outcome_is done_is is =
    Did told new after between stepped same (subst (λ (n : ℕ). IsIn after n between.shards) counts isin) (subst (λ (n : ℕ). Serves catalog n between.shards) counts serves)
    (subst (λ (d : Done). IsToldAs told after new opens d (without_outcome between) turn last)
    (done_is ∙ ap (λ (d : Option Due). done_of d outcome) due_is ∙ ap (λ (o : Option Outcome). done_of (due_of tx program) o) outcome_is) (subst (λ (p : PortView). IsToldAs told after new opens done p turn last) taken is))

-- ---- the turn keeps the transaction that was opened

pub ran_opens : (catalog : Catalog) (count : ℕ) (tx : TxState) (program : Program) (opens : Option ℕ) (port : PortView) (turn : Turn) (last : PortView) → Ran catalog count tx program opens port turn last → turn.opens ≡ opens
ran_opens catalog count tx program opens port turn last (Starved is) = (refused_keeps (stays tx program) tx opens nothing (refusal causes.OutOfMemory (stays tx program)) port last turn is).opened
ran_opens catalog count tx program opens port turn last (Did told new after between stepped same isin serves is) = (told_keeps told after new opens (done_of (due_of tx program) between.outcome) (without_outcome between) last turn is).opened
