use Rattle.serde_json.specs.View.{view}
use Rattle.vl_vschema.proofs.Viewing.{items_of_array}
use Rattle.vl_vschema.proofs.walk.EachItemFinder.find.Goals as goal

pub loop-position-init : goal.loop-position-init
loop-position-init g c =
    let all = items_of_array (view c.args.value.now) c.in-Some.items.now.items c.in-Some.ensures in
    rw (all, c.deref-item-items.ensures.value)
