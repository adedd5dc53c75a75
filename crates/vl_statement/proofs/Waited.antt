-- What a wait tells is all that a program owes which counted one try more, and it means the same for the
-- transaction as it was before the action.
use Rattle.std.proofs.Common.{◌≡◌, ℕ, ◌+◌, Bool, true, false, refl}
use Rattle.std.specs.Prelude.{nat_lt}
use Rattle.vl_values.specs.declared.key.Key.{Key}
use Rattle.vl_catalog.specs.declared.catalog.Catalog.{Catalog}
use Rattle.vl_port.specs.declared.tx_state.TxState.{TxState}
use Rattle.vl_statement.specs.declared.program_told.ProgramTold.{ProgramTold}
use Rattle.vl_statement.specs.Waiting.{Waits, WaitsOn}

waited_on : {P : Type 0} (again : P) (catalog : Catalog) (tx : TxState) (b wrote : Bool) (tries by : ℕ) (key : Key) (tells : ProgramTold) → WaitsOn {P = Unit {0}} catalog tx b wrote tries by key tells tt tt
    → WaitsOn catalog tx b wrote tries by key tells again again
waited_on again catalog tx true wrote tries by key tells it = (it.0, refl)
waited_on again catalog tx false wrote tries by key tells it = it

-- the program with one try more is the one after
pub waited : {P : Type 0} (again : P) (catalog : Catalog) (tx : TxState) (wrote : Bool) (tries by : ℕ) (key : Key) (tells : ProgramTold) → Waits {P = Unit {0}} catalog tx wrote tries by key tells tt tt
    → Waits catalog tx wrote tries by key tells again again
waited again catalog tx wrote tries by key tells it = waited_on again catalog tx (nat_lt (tries + 1) tx.limits.tries) wrote tries by key tells it

-- ---- the transaction before the action

-- a transaction with what another is told by: its limits and modes
abbrev pub told_by : TxState → TxState → TxState
told_by tx new = record tx { limits = new.limits; auto = new.auto; single = new.single }

pub told_alike : (tx new : TxState) → new.limits ≡ tx.limits → new.auto ≡ tx.auto → new.single ≡ tx.single → told_by tx new ≡ tx
told_alike tx new limits auto single = λ i. record tx { limits = limits i; auto = auto i; single = single i }

pub waits_for : {P : Type 0} (catalog : Catalog) (tx new : TxState) (b wrote : Bool) (tries by : ℕ) (key : Key) (tells : ProgramTold) (again after : P) → WaitsOn catalog new b wrote tries by key tells again after
    → WaitsOn catalog (told_by tx new) b wrote tries by key tells again after
waits_for catalog tx new true wrote tries by key tells again after h = h
waits_for catalog tx new false wrote tries by key tells again after h = h
