use Rattle.std.proofs.Common.{take}
use Rattle.std.specs.Prelude.{filter}
use Rattle.vl_insert.specs.Begun.{is_indexed_by}
use Rattle.vl_insert.specs.Laying.{LaysClaims}
use Rattle.vl_insert.proofs.laying.add_claims.Given as goal

abbrev pub invariant-loop-number : goal.invariant-loop-number
invariant-loop-number l = LaysClaims l.catalog l.row (filter (is_indexed_by l.catalog l.row) (take l.number-index l.lookups)) l.fn.list.items l.list.items
