use Rattle.std.proofs.Common.{◌≡◌, ◌<◌, ◌^◌, take, drop, All}
use Rattle.std.specs.Char.{IsAsciiDigit}
use Rattle.vl_model.specs.ScriptLine.{value_behind}
use Rattle.vl_insert_text.proofs.number.number_of.Given as goal

-- the digits so far are read, and what they say goes on with the others
abbrev pub invariant-loop-digit : goal.invariant-loop-digit
invariant-loop-digit l = record {
  each : All IsAsciiDigit (take l.digit-index l.digits);
  value : value_behind l.value (drop l.digit-index l.digits) ≡ value_behind 0 l.digits;
  fits : l.value < 2 ^ 64;
}
