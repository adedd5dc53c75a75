-- What each statement ensures in its own words, for all of them.
use Rattle.std.proofs.Common.{◌≡◌, ◌⊎◌, inl, inr, Bool, false, refl, sym, subst}
use Rattle.vl_port.specs.declared.tx_state.TxState.{TxState}
use Rattle.vl_port.specs.Asking.{IsSameTx}
use Rattle.vl_lookup.specs.Stepping.{IsSameTxButClaims}
use Rattle.vl_statement.specs.declared.program_told.ProgramTold.{ProgramTold}
use Rattle.vl_statement.specs.declared.program_told.ProgramTold.TheVariants as told
use Rattle.vl_statement.specs.Effects.{IsWell, LeavesOpen}
use Rattle.vl_select.specs.Answering.{GoesOn}
use Rattle.vl_exec.specs.declared.program.Program.{Program}

-- a program that goes on isn't refused
pub goes_well : (tells : ProgramTold) → GoesOn tells → IsWell tells
goes_well told.More goes = tt
goes_well (told.Held by key tries) goes = tt
goes_well (told.Reply reply) goes = absurd goes

-- a step that claims nothing leaves the claims
pub claims_nothing : (old new : TxState) → IsSameTx old new → IsSameTxButClaims old new
claims_nothing old new same = record {
  number = same.number;
  session = same.session;
  limits = same.limits;
  auto = same.auto;
  single = same.single;
  changes = same.changes;
  claimed = refl;
  removed = same.removed;
}

-- a statement that writes nothing leaves the pending versions whether it has written or not
pub still_open : (tells : ProgramTold) (b : Bool) → LeavesOpen tells ⊎ (IsWell tells × (b ≡ false)) → LeavesOpen tells ⊎ IsWell tells
still_open tells b (inl left) = inl left
still_open tells b (inr well) = inr well.0

-- what holds of the case that a program is holds of the program
pub by_case : (F : Program → Type 0) (p case : Program) → p ≡ case → F case → F p
by_case F p case is h = subst F (sym is) h
