use Rattle.std.proofs.Common.{◌≡◌, ◌≤◌, ◌++◌, take}
use Rattle.std.specs.Prelude.{vec_capacity}
use Rattle.std.specs.List.{flat_map}
use Rattle.vl_record.specs.Spelling.{value_bytes}
use Rattle.vl_record.proofs.Putting.{HasPut}
use Rattle.vl_record.proofs.writing.put_each.Given as goal

abbrev pub invariant-loop-value : goal.invariant-loop-value
invariant-loop-value l = HasPut l.initial.out l.out (flat_map value_bytes (take l.value-index l.values))
