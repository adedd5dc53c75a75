use Rattle.std.proofs.Common.{◌≡◌, map, slice_index_or, take}
use Rattle.vl_values.specs.declared.value.Value.TheVariants.{Null}
use Rattle.vl_catalog.proofs.table.key_values.Given as goal

abbrev pub invariant-loop-column : goal.invariant-loop-column
invariant-loop-column l = l.values.items ≡ map (λ c. slice_index_or l.row c Null) (take l.column-index l.columns)
