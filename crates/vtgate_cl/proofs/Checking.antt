-- What was told of a check.
use Rattle.std.specs.declared.option.Option.{Option}
use Rattle.std.proofs.Common.{◌≡◌, subst, refl, arith, ℕ, List, Err}
use Rattle.vl_base.proofs.Known.{appends_none, keeps_itself}
use Rattle.vl_base.specs.Files.{FileMap}
use Rattle.vl_load.specs.declared.load_fault.LoadFault.{LoadFault}
use Rattle.vl_load.specs.declared.load_fault.LoadFault.TheVariants as faults
use Rattle.vtgate_cl.specs.declared.status.Status.{Status}
use Rattle.vtgate_cl.specs.declared.status.Status.TheVariants.{Done, WriteFailed, OutOfMemory}
use Rattle.vtgate_cl.specs.Check.{IsChecked, Tells, status_of_fault}
use Rattle.vtgate_cl.specs.Check.Tells.{Whole, Unwritten}

-- ---- the statuses of faults

pub fault_not_cut : (fault : LoadFault) → status_of_fault fault ≡ WriteFailed → ⊥
fault_not_cut faults.Failed e = cc
fault_not_cut (faults.TooLong file) e = cc
fault_not_cut (faults.Refused fault) e = cc
fault_not_cut faults.Memory e = cc

pub fault_not_done : (fault : LoadFault) → status_of_fault fault ≡ Done → ⊥
fault_not_done faults.Failed e = cc
fault_not_done (faults.TooLong file) e = cc
fault_not_done (faults.Refused fault) e = cc
fault_not_done faults.Memory e = cc

-- ---- what was told

pub unwritten : (text : List ℕ) (due : Status) (held : Option (List ℕ)) → Tells text due held held OutOfMemory
unwritten text due held = Unwritten (keeps_itself held)

pub tells_as : (text said : List ℕ) (due status : Status) (held holds : Option (List ℕ)) → text ≡ said → Tells text due held holds status → Tells said due held holds status
tells_as text said due status held holds same told = subst (λ (v : List ℕ). Tells v due held holds status) same told

pub tells_due : (text : List ℕ) (due want status : Status) (held holds : Option (List ℕ)) → due ≡ want → Tells text due held holds status → Tells text want held holds status
tells_due text due want status held holds same told = subst (λ (v : Status). Tells text v held holds status) same told

-- memory was refused before the catalog's files were loaded
pub nothing_checked : (known : Option FileMap) (name : List ℕ) (count : ℕ) (held : Option (List ℕ)) → IsChecked known name count count held held OutOfMemory
nothing_checked known name count held = record {
  found = Err faults.Memory;
  is = tt;
  cause = record { later = omega arith; counted = refl };
  told = Whole (appends_none held);
}

-- the name that is asked for is that of the words
pub checked_as : (known : Option FileMap) (name said : List ℕ) (before now : ℕ) (status : Status) (held holds : Option (List ℕ)) → name ≡ said → IsChecked known name before now held holds status → IsChecked known said before now held holds status
checked_as known name said before now status held holds same checked = subst (λ (v : List ℕ). IsChecked known v before now held holds status) same checked
