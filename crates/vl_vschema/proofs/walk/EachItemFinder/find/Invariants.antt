use Rattle.std.proofs.Common.{◌≡◌, fold, drop, decimal, map}
use Rattle.std.specs.List.{flat_map, enumerate_from}
use Rattle.serde_json.specs.View.{view}
use Rattle.vl_vschema.specs.Json.{each_item}
use Rattle.vl_vschema.specs.Path.{child}
use Rattle.vl_vschema.proofs.walk.EachItemFinder.find.Given as goal

-- what is left leads to what the whole list leads to
abbrev pub invariant-loop-position : goal.invariant-loop-position
invariant-loop-position g l =
    fold g.S.PathSink.with l.sink (flat_map (λ p. g.F.Finder.found l.self.0 (child l.path (decimal p.0)) p.1) (enumerate_from l.position (map view (drop l.position l.item-items))))
    ≡ fold g.S.PathSink.with l.fn.sink (each_item (g.F.Finder.found l.self.0) l.path (view l.value))
