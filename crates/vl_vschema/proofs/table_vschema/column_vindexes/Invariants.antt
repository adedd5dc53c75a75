use Rattle.std.proofs.Common.{◌≡◌, ◌++◌, codes, drop, map}
use Rattle.serde_json.specs.View.{view}
use Rattle.vl_vschema.specs.Vschema.{column_vindex_of, items_named}
use Rattle.vl_vschema.proofs.table_vschema.column_vindexes.Given as goal

abbrev pub invariant-loop-item : goal.invariant-loop-item
invariant-loop-item l = l.found.items ++ map column_vindex_of (map view (drop l.item-index l.item-items)) ≡ map column_vindex_of (items_named (codes "column_vindexes") (view l.fn.table))
