use Rattle.std.proofs.Common.{sym, ◌∙◌, ap}
use Rattle.vl_catalog.specs.Place.{place_of_value}
use Rattle.vl_route.proofs.Gathering.{take_none, take_some}
use Rattle.vl_route.proofs.visiting.places_of.Goals as goal
use Rattle.vl_route.proofs.visiting.places_of.Goals.{in-Some+in_ok-push, in_default}

pub loop-value-preserved : goal.loop-value-preserved
loop-value-preserved c =
    let gives = place_of_value c.args.catalog.now c.args.number in
    elim c.match-place_of_value.branch [
      | in-Some+in_ok-push w ↦
          take_some gives c.args.values.now c.loop-value.value-index c.value-item.result w.in-Some.place c.loop-value.places.items c.match-place_of_value.places.items c.loop-value-test.true c.value-item.is
          (sym c.place_of_value.ensures ∙ w.in-Some.is) c.loop-value.invariant (ap (λ v. v.items) w.places-is ∙ w.in_ok-push.ensures.items)
      | in_default w ↦
          ap (λ v. v.items) w.places-is
          ∙ take_none gives c.args.values.now c.loop-value.value-index c.value-item.result c.loop-value.places.items c.loop-value-test.true c.value-item.is (sym c.place_of_value.ensures ∙ w.in_default.is) c.loop-value.invariant
    ]
