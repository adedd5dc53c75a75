use Rattle.std.proofs.Common.{◌≡◌, ◌-◌, []}
use Rattle.vl_record.specs.Reading.{many_at, next_part}
use Rattle.vl_record.specs.Readers.{rest_of}
use Rattle.vl_record.proofs.part.parts_of.Given as goal

abbrev pub invariant-loop : goal.invariant-loop
invariant-loop l = many_at (next_part l.catalog l.shard) (l.count - l.counter) l.parts.items (rest_of l.rest) ≡ many_at (next_part l.catalog l.shard) l.count l.fn.front.items (rest_of l.r)
