-- Faults, from one stage of loading to the next.
use Rattle.std.proofs.Common.{ℕ, List, Option}
use Rattle.vl_base.specs.Files.{FileMap}
use Rattle.vl_load.specs.Faults.{IsUnfit, IsUnloaded}
use Rattle.vl_load.specs.Files.{IsLongFile}
use Rattle.vl_load.specs.Loading.{IsFaultOf, IsRefusedFrom}
use Rattle.vl_load.specs.declared.load_fault.LoadFault.{LoadFault}
use Rattle.vl_load.specs.declared.load_fault.LoadFault.TheVariants as faults
use Rattle.vl_load.specs.declared.refused.Refused.{Refused}

pub unloaded : (P Q : List ℕ → Type 0) (fault : LoadFault) → ((file : List ℕ) → P file → Q file) → IsUnloaded P fault → IsUnloaded Q fault
unloaded P Q faults.Failed f h = tt
unloaded P Q (faults.TooLong file) f h = f file h
unloaded P Q (faults.Refused refusal) f h = absurd h
unloaded P Q faults.Memory f h = tt

pub unfit : (P Q : Refused → Type 0) (fault : LoadFault) → ((refusal : Refused) → P refusal → Q refusal) → IsUnfit P fault → IsUnfit Q fault
unfit P Q faults.Failed f h = absurd h
unfit P Q (faults.TooLong file) f h = absurd h
unfit P Q (faults.Refused refusal) f h = f refusal h
unfit P Q faults.Memory f h = tt

-- a fault of a stage is one of the whole
pub unloaded_whole : (known : Option FileMap) (name : List ℕ) (P : List ℕ → Type 0) (fault : LoadFault) → ((file : List ℕ) → P file → IsLongFile known name file) → IsUnloaded P fault → IsFaultOf known name fault
unloaded_whole known name P faults.Failed f h = tt
unloaded_whole known name P (faults.TooLong file) f h = f file h
unloaded_whole known name P (faults.Refused refusal) f h = absurd h
unloaded_whole known name P faults.Memory f h = tt

pub unfit_whole : (known : Option FileMap) (name : List ℕ) (P : Refused → Type 0) (fault : LoadFault) → ((refusal : Refused) → P refusal → IsRefusedFrom known name refusal) → IsUnfit P fault → IsFaultOf known name fault
unfit_whole known name P faults.Failed f h = absurd h
unfit_whole known name P (faults.TooLong file) f h = absurd h
unfit_whole known name P (faults.Refused refusal) f h = f refusal h
unfit_whole known name P faults.Memory f h = tt
