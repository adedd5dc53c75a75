use Rattle.std.proofs.Common.{◌≡◌, ◌++◌, drop, map}
use Rattle.serde_json.specs.View.{view}
use Rattle.vl_vschema.specs.Vschema.{text_of, items_named}
use Rattle.vl_vschema.proofs.table_vschema.texts.Given as goal

abbrev pub invariant-loop-item : goal.invariant-loop-item
invariant-loop-item l = l.texts.items ++ map text_of (map view (drop l.item-index l.item-items)) ≡ map text_of (items_named l.name (view l.fn.value))
