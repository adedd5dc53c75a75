-- The numbers that are drawn, as a function of the state.
use Rattle.std.specs.Prelude.{ℕ, ◌+◌, ◌*◌, ◌/◌, ◌%◌, ◌^◌}

-- the state after a draw
abbrev pub following : ℕ → ℕ
following state = (state * 6364136223846793005 + 1442695040888963407) % 2 ^ 64

-- the number below a bound that a draw gives
abbrev pub drawn : ℕ → ℕ → ℕ
drawn bound state = following state / 2 ^ 33 % bound
