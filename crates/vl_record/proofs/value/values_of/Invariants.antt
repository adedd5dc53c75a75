use Rattle.std.proofs.Common.{◌≡◌, ◌-◌, []}
use Rattle.vl_record.specs.Reading.{many_at, next_value}
use Rattle.vl_record.specs.Readers.{rest_of}
use Rattle.vl_record.proofs.value.values_of.Given as goal

abbrev pub invariant-loop : goal.invariant-loop
invariant-loop l = many_at (next_value l.table l.is_key) (l.count - l.counter) l.values.items (rest_of l.rest) ≡ many_at (next_value l.table l.is_key) l.count [] (rest_of l.r)
