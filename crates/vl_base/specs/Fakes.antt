-- What the sources and sinks in memory show.
use Rattle.std.specs.Prelude.{◌≡◌, ℕ, ◌-◌, Bool, true, false, List, find, length, nat_le, ◌==◌, if◌then◌else◌, Option, Some, None, Result, Ok, Err}
use Rattle.std.specs.List.{list_any}
use Rattle.std.specs.Option.{option_map}
use Rattle.std.specs.Str.{bytes_eq}
use Rattle.vl_base.specs.Faults.{next_count}
use Rattle.vl_base.specs.Files.{file_limit}
use Rattle.vl_base.specs.declared.file_fault.FileFault.{FileFault}
use Rattle.vl_base.specs.declared.file_fault.FileFault.TheVariants.{Failed, TooLong, Memory}

-- which calls fail, and how many have been made and have failed
pub record PlanState : Type 0 where
  -- the numbers of the calls that fail, the first call being 1
  pub failing : List ℕ
  pub calls : ℕ
  pub faults : ℕ

-- whether the next call is on the list of those that fail
abbrev pub fails_next : PlanState → Bool
fails_next p = list_any (λ number. number == next_count p.calls) p.failing

-- after one more call, which failed or didn't
abbrev pub plan_after : PlanState → Bool → PlanState
plan_after p failed = record p {
  calls = next_count p.calls;
  faults = (if failed then next_count p.faults else p.faults);
}

-- a source that never fails
pub record SteadyState : Type 0 where
  -- the bytes that no read has given yet
  pub left : List ℕ
  -- how many bytes a read gives at most
  pub piece : ℕ
  -- how many reads gave bytes
  pub given : ℕ

-- a source with a list of the calls that fail
pub record SourceState : Type 0 where
  pub steady : SteadyState
  pub plan : PlanState

-- a sink with room and a list of the calls that fail
pub record SinkState : Type 0 where
  -- the bytes that it took
  pub held : List ℕ
  -- how many bytes it takes in all
  pub room : ℕ
  -- how many bytes a write takes at most
  pub piece : ℕ
  pub plan : PlanState

-- how many bytes it can still take
abbrev pub room_left : SinkState → ℕ
room_left s = s.room - length s.held

-- a file in memory
pub record FileState : Type 0 where
  pub name : List ℕ
  pub bytes : List ℕ

-- files with a list of the calls that fail
pub record FilesState : Type 0 where
  pub files : List FileState
  pub plan : PlanState

-- the first file of this name
abbrev pub file_named : List FileState → List ℕ → Option FileState
file_named files name = find (λ (file : FileState). bytes_eq file.name name) files

-- what the files have, by name
abbrev pub contents_of : List FileState → List ℕ → Option (List ℕ)
contents_of files name = option_map (λ (file : FileState). file.bytes) (file_named files name)

-- what loading this file gives, where the call isn't one of those that fail
abbrev pub loaded : Option FileState → Result (List ℕ) FileFault
loaded None = Err Failed
loaded (Some file) = if nat_le (length file.bytes) file_limit then Ok file.bytes else Err TooLong

abbrev pub loaded_unless : Bool → Option FileState → Result (List ℕ) FileFault
loaded_unless fails file = if fails then Err Failed else loaded file

-- the answer is this one, or memory was refused
abbrev pub IsRefused : FileFault → Result (List ℕ) FileFault → Type 0
IsRefused Memory right = Unit {0}
IsRefused fault right = right ≡ Err fault

abbrev pub is_failed : {T : Type 0} → Result T FileFault → Bool
is_failed (Err Failed) = true
is_failed _ = false
