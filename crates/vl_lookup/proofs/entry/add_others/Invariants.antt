use Rattle.std.proofs.Common.{◌≡◌, ◌++◌, take}
use Rattle.std.specs.Prelude.{filter, not, ◌==◌}
use Rattle.vl_lookup.proofs.entry.add_others.Given as goal

abbrev pub invariant-loop-column : goal.invariant-loop-column
invariant-loop-column l = l.columns.items ≡ l.fn.columns.items ++ filter (λ k. not (k == l.but)) (take l.column-index l.key)
