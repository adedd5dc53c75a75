use Rattle.std.proofs.Common.{◌≤◌, take}
use Rattle.std.specs.List.{AllPass}
use Rattle.hex.specs.Hex.{is_hex_digit}
use Rattle.vl_vindex.proofs.reading.digit_run.Given as goal

abbrev pub invariant-loop-i : goal.invariant-loop-i
invariant-loop-i l = (l.i ≤ 32) × AllPass is_hex_digit (take l.i l.text)
