-- What a source counts beside its faults.
use Rattle.std.specs.Prelude.{◌≡◌, ◌<◌, ◌≤◌, ℕ, Result, IfOk, OnErr}
use Rattle.vl_base.specs.Faults.{next_count}

-- The count of reads that gave bytes never falls. It goes up by one at such a read, and stays at any other.
pub record CountsGiven {E : Type 0} (before now : ℕ) (result : Result ℕ E) : Type 0 where
  pub later : before ≤ now
  pub gave : IfOk result (λ n. 0 < n → now ≡ next_count before)
  pub ended : IfOk result (λ n. n ≡ 0 → now ≡ before)
  pub failed : OnErr result (now ≡ before)
