-- What a write does to a sink's count of faults, and what stands in a sink after a part of some bytes.
use Rattle.std.specs.Prelude.{◌≡◌, ◌<◌, ◌≤◌, ◌++◌, ℕ, List, length, Option, Result, IfOk, OnErr}
use Rattle.std.specs.Io.KnownBytes.{Appends}
use Rattle.vl_base.specs.Faults.{Rose}

-- The count of faults never falls. It rises where a write fails or takes none of the bytes that it was
-- given, and stays where it takes some, or where there were none.
pub record HasWriteCause {E : Type 0} (before now : ℕ) (result : Result ℕ E) (bytes : List ℕ) : Type 0 where
  pub later : before ≤ now
  pub took : IfOk result (λ n. 0 < n → now ≡ before)
  pub empty : IfOk result (λ n. length bytes ≡ 0 → now ≡ before)
  pub stuck : IfOk result (λ n. n ≡ 0 → 0 < length bytes → Rose before now)
  pub failed : OnErr result (Rose before now)

-- some front of the bytes was appended, maybe none and maybe all
abbrev pub WrotePart : Option (List ℕ) → Option (List ℕ) → List ℕ → Type 0
WrotePart old new bytes =
    (part : List ℕ) × (rest : List ℕ) × (bytes ≡ part ++ rest) × Appends old new part
