use Rattle.std.proofs.Common.{◌≡◌, take}
use Rattle.std.specs.List.{filter_map}
use Rattle.vl_model.specs.Visiting.{entry_read_in}
use Rattle.vl_route.proofs.visiting.entry_reads_in.Given as goal

abbrev pub invariant-loop-value : goal.invariant-loop-value
invariant-loop-value l = l.reads.items ≡ filter_map (entry_read_in l.catalog l.table l.column) (take l.value-index l.values)
