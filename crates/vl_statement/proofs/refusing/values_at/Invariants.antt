use Rattle.std.proofs.Common.{◌≡◌, map, slice_index_or, take}
use Rattle.vl_values.specs.declared.value.Value.TheVariants.{Null}
use Rattle.vl_statement.proofs.refusing.values_at.Given as goal

abbrev pub invariant-loop-column : goal.invariant-loop-column
invariant-loop-column l = l.values.items ≡ map (λ column. slice_index_or l.entry column Null) (take l.column-index l.columns)
