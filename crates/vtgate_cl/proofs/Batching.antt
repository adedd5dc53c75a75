-- What the program's status tells, by what the words ask for.
use Rattle.std.specs.declared.alloc.Global.{Global}
use Rattle.std.specs.declared.option.Option.{Option}
use Rattle.std.specs.declared.result.Result.{Result}
use Rattle.std.proofs.Common.{◌≡◌, ◌∙◌, inl, inr, sym, subst, refl, arith, ℕ, List, [], Some, Ok, Err}
use Rattle.std.specs.Prelude.{String}
use Rattle.std.specs.Str.Lines.{lines}
use Rattle.vl_base.proofs.Known.{appends_none}
use Rattle.vl_base.specs.Files.{FileMap}
use Rattle.vl_load.specs.declared.load_fault.LoadFault.{LoadFault}
use Rattle.vl_load.specs.declared.load_fault.LoadFault.TheVariants as load_faults
use Rattle.vl_load.specs.declared.loaded.Loaded.{Loaded}
use Rattle.vtgate_cl.specs.declared.status.Status.{Status}
use Rattle.vtgate_cl.specs.declared.status.Status.TheVariants.{InvalidArguments, ReadFailed, OutOfMemory}
use Rattle.vtgate_cl.specs.declared.stop.Stop.TheVariants as stops
use Rattle.vtgate_cl.specs.declared.words_fault.WordsFault.{WordsFault}
use Rattle.vtgate_cl.specs.declared.words_fault.WordsFault.TheVariants.{Refused, Help, Memory}
use Rattle.clap.specs.Words.{App, Text}
use Rattle.vtgate_cl.specs.Check.{IsChecked, Tells, status_of_found, text_of}
use Rattle.vtgate_cl.specs.Check.Tells.{Whole, Cut, Unwritten}
use Rattle.vtgate_cl.specs.Script.{Begins}
use Rattle.vtgate_cl.specs.Status.{IsRefusalStatus, IsScriptStatus, IsTold, Prints, status_of_words}
use Rattle.vtgate_cl.specs.Words.{Denies, HasValue, IsAccepted, IsCheck, IsCheckOf, IsScript}
use Rattle.vtgate_cl.proofs.Checking.{checked_as, nothing_checked}
use Rattle.vtgate_cl.proofs.Ending.{begins_first}
use Rattle.vtgate_cl.proofs.Input.{told_break}
use Rattle.vtgate_cl.proofs.Wording.{help_refused}

-- ---- words that aren't read

pub refusal_refuses : (words : List (String Global)) (fault : WordsFault) (status : Status) → status ≡ status_of_words fault → Denies words fault → status ≡ InvalidArguments → IsAccepted words → ⊥
refusal_refuses words Refused status is denied one accepted = denied accepted
refusal_refuses words (Help text) status is denied one accepted = help_refused words denied accepted
refusal_refuses words Memory status is denied one accepted =
    let both : OutOfMemory ≡ InvalidArguments = sym is ∙ one in
    cc

refusal_known : (fault : WordsFault) → IsRefusalStatus (status_of_words fault)
refusal_known Refused = (0, omega arith, refl)
refusal_known (Help text) = (0, omega arith, refl)
refusal_known Memory = (1, omega arith, refl)

pub refusal_status : (fault : WordsFault) (status : Status) → status ≡ status_of_words fault → IsRefusalStatus status
refusal_status fault status is = subst IsRefusalStatus (sym is) (refusal_known fault)

-- no part of a script is answered before its first byte is read
begins_none : (bytes : List ℕ) → Begins bytes []
begins_none bytes = begins_first bytes [] [] (lines bytes) [] refl (refl, refl)

pub script_unread : (words : List (String Global)) (fault : WordsFault) (status : Status) (left held : Option (List ℕ)) → status ≡ status_of_words fault → Denies words fault → IsScript words
    → Prints (IsTold status) left left held held
script_unread words Refused status left held is denied script = absurd (denied (inl script))
script_unread words (Help text) status left held is denied script =
    absurd (help_refused words denied (inl script))
script_unread words Memory status left held is denied script = λ bytes known.
    ([], appends_none held, subst (λ (s : Status). IsTold s bytes left []) (sym is) (told_break stops.Memory bytes [] left (begins_none bytes)))

pub script_unread_status : (words : List (String Global)) (fault : WordsFault) (status : Status) → status ≡ status_of_words fault → Denies words fault → IsScript words → IsScriptStatus status
script_unread_status words Refused status is denied script = absurd (denied (inl script))
script_unread_status words (Help text) status is denied script =
    absurd (help_refused words denied (inl script))
script_unread_status words Memory status is denied script =
    subst IsScriptStatus (sym is) (let known : IsScriptStatus OutOfMemory = (4, omega arith, refl) in known)

pub check_unread : (words : List (String Global)) (fault : WordsFault) (status : Status) (files : Option FileMap) (name : List ℕ) (count : ℕ) (held : Option (List ℕ)) → status ≡ status_of_words fault → Denies words fault → IsCheckOf words name
    → IsChecked files name count count held held status
check_unread words Refused status files name count held is denied check =
    absurd (denied (inr check.0))
check_unread words (Help text) status files name count held is denied check =
    absurd (help_refused words denied (inr check.0))
check_unread words Memory status files name count held is denied check =
    subst (λ (s : Status). IsChecked files name count count held held s) (sym is) (nothing_checked files name count held)

pub unnamed : (words : List (String Global)) (fault : WordsFault) (status : Status) → status ≡ status_of_words fault → Denies words fault → IsCheck words → (status ≡ OutOfMemory → ⊥) → (name : List ℕ) × IsCheckOf words name
unnamed words Refused status is denied check other = absurd (denied (inr check))
unnamed words (Help text) status is denied check other =
    absurd (help_refused words denied (inr check))
unnamed words Memory status is denied check other = absurd (other is)

-- ---- a check that was made

-- the words name one catalog
same_value : (options : App) (option : Text) (words : List Text) (a b : Text) → HasValue options option words a → HasValue options option words b → a ≡ b
same_value options option words a b first second =
    let e : Some a ≡ Some b = sym first.first ∙ second.first in
    cc

pub check_told : (words : List (String Global)) (files : Option FileMap) (said name : List ℕ) (before now : ℕ) (status : Status) (held holds : Option (List ℕ)) → IsCheckOf words said → IsChecked files said before now held holds status → IsCheckOf words name
    → IsChecked files name before now held holds status
check_told words files said name before now status held holds asked checked asks =
    checked_as files said name before now status held holds (same_value _ _ _ said name asked.1 asks.1) checked

-- a check reads no script: neither words that aren't accepted nor a source that failed
abbrev IsOfCheck : Status → Type 0
IsOfCheck status = (status ≡ InvalidArguments → ⊥) × (status ≡ ReadFailed → ⊥)

due_known : (found : Result Loaded LoadFault) → IsOfCheck (status_of_found found)
due_known (Ok loaded) = (λ e. cc, λ e. cc)
due_known (Err load_faults.Failed) = (λ e. cc, λ e. cc)
due_known (Err (load_faults.TooLong file)) = (λ e. cc, λ e. cc)
due_known (Err (load_faults.Refused fault)) = (λ e. cc, λ e. cc)
due_known (Err load_faults.Memory) = (λ e. cc, λ e. cc)

told_status : (text : List ℕ) (due status : Status) (held holds : Option (List ℕ)) → IsOfCheck due → Tells text due held holds status → IsOfCheck status
told_status text due _ held holds known (Whole appends) = known
told_status text due _ held holds known (Cut part) = (λ e. cc, λ e. cc)
told_status text due _ held holds known (Unwritten keeps) = (λ e. cc, λ e. cc)

pub check_status : (files : Option FileMap) (name : List ℕ) (before now : ℕ) (status : Status) (held holds : Option (List ℕ)) → IsChecked files name before now held holds status
    → (status ≡ InvalidArguments → ⊥) × (status ≡ ReadFailed → ⊥)
check_status files name before now status held holds checked =
    told_status (text_of checked.found) (status_of_found checked.found) status held holds (due_known checked.found) checked.told
