use Rattle.std.proofs.Common.{◌≡◌, ◌-◌, []}
use Rattle.vl_record.specs.Reading.{many_at, change_at}
use Rattle.vl_record.specs.Readers.{rest_of}
use Rattle.vl_record.proofs.part.changes_of.Given as goal

abbrev pub invariant-loop : goal.invariant-loop
invariant-loop l = many_at (change_at l.catalog l.shard) (l.count - l.counter) l.changes.items (rest_of l.rest) ≡ many_at (change_at l.catalog l.shard) l.count [] (rest_of l.r)
