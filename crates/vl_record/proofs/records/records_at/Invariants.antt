use Rattle.std.proofs.Common.{◌≡◌, ◌-◌, [], length}
use Rattle.vl_record.specs.Reading.{records_at}
use Rattle.vl_record.specs.Readers.{rest_of}
use Rattle.vl_record.proofs.records.records_at.Given as goal

abbrev pub invariant-loop : goal.invariant-loop
invariant-loop l = records_at l.catalog l.shard (l.most - l.counter) l.parts.items (rest_of l.rest) ≡ records_at l.catalog l.shard l.most [] (rest_of l.r)
