use Rattle.serde_json.specs.View.{view}
use Rattle.vl_vschema.proofs.Viewing.{items_of_array}
use Rattle.vl_vschema.proofs.catalog_file.keyspace_files.Goals as goal

pub loop-item-init : goal.loop-item-init
loop-item-init c =
    let all = items_of_array (view c.in-Some.list.now) c.in-Some-as_array.items.now.items c.in-Some-as_array.ensures in
    rw (← c.in-Some.ensures, all, c.deref-item-items.ensures.value, c.new-found.ensures.items)
