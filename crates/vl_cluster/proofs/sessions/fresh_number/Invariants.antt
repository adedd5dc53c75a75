use Rattle.std.proofs.Common.{◌≡◌, ◌<◌, ℕ, suc}
use Rattle.vl_cluster.specs.Numbers.{number_behind, IsFree}
use Rattle.vl_cluster.proofs.sessions.fresh_number.Given as goal

-- the numbers so far are taken
abbrev pub invariant-loop : goal.invariant-loop
invariant-loop l = (l.number ≡ number_behind l.counter l.fn.named) × ((k : ℕ) → k < l.counter → IsFree l.fn.joined (number_behind (suc k) l.fn.named) → ⊥)
