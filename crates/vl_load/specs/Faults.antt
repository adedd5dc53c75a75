-- The answers of the stages of loading.
use Rattle.std.specs.Prelude.{◌≡◌, ◌≤◌, ℕ, List, Result, Ok, Err}
use Rattle.vl_base.specs.Faults.{Rose}
use Rattle.vl_load.specs.declared.load_fault.LoadFault.{LoadFault}
use Rattle.vl_load.specs.declared.load_fault.LoadFault.TheVariants as faults
use Rattle.vl_load.specs.declared.refused.Refused.{Refused}

-- The count of faults stays, but where a load has failed: then it rose.
abbrev pub IsCounted : {T : Type 0} → ℕ → ℕ → Result T LoadFault → Type 0
IsCounted before now (Ok loaded) = now ≡ before
IsCounted before now (Err faults.Failed) = Rose before now
IsCounted before now (Err (faults.TooLong file)) = now ≡ before
IsCounted before now (Err (faults.Refused fault)) = now ≡ before
IsCounted before now (Err faults.Memory) = now ≡ before

pub record HasLoadCause {T : Type 0} (before now : ℕ) (result : Result T LoadFault) : Type 0 where
  pub later : before ≤ now
  pub counted : IsCounted before now result

-- A stage that loads nothing is left with a refusal of this kind, or for want of memory.
abbrev pub IsUnfit : (Refused → Type 0) → LoadFault → Type 0
IsUnfit refuses faults.Failed = ⊥
IsUnfit refuses (faults.TooLong file) = ⊥
IsUnfit refuses (faults.Refused fault) = refuses fault
IsUnfit refuses faults.Memory = Unit {0}

-- A stage that loads files is left because one is too long, or failed, or for want of memory.
abbrev pub IsUnloaded : (List ℕ → Type 0) → LoadFault → Type 0
IsUnloaded is_long faults.Failed = Unit {0}
IsUnloaded is_long (faults.TooLong file) = is_long file
IsUnloaded is_long (faults.Refused fault) = ⊥
IsUnloaded is_long faults.Memory = Unit {0}
