use Rattle.std.proofs.Common.{◌≡◌, ◌≤◌, ◌*◌, length, take}
use Rattle.std.specs.List.{flat_map}
use Rattle.vl_record.specs.Spelling.{value_bytes}
use Rattle.vl_record.proofs.Putting.{IsCounted}
use Rattle.vl_record.proofs.size.each_len.Given as goal

abbrev pub invariant-loop-value : goal.invariant-loop-value
invariant-loop-value l = IsCounted (flat_map value_bytes (take l.value-index l.values)) l.value-index l.len
