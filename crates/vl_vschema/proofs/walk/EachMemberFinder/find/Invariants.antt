use Rattle.std.proofs.Common.{◌≡◌, fold}
use Rattle.std.specs.List.{flat_map}
use Rattle.serde_json.specs.View.{view, members_view}
use Rattle.vl_vschema.specs.Json.{each_member, members}
use Rattle.vl_vschema.specs.Path.{child}
use Rattle.vl_vschema.proofs.walk.EachMemberFinder.find.Given as goal

-- what is left leads to what the whole object leads to
abbrev pub invariant-loop-name : goal.invariant-loop-name
invariant-loop-name g l =
    fold g.S.PathSink.with l.sink (flat_map (λ m. g.F.Finder.found l.self.0 (child l.path m.0) m.1) (members (members_view l.name-iterator)))
    ≡ fold g.S.PathSink.with l.fn.sink (each_member (g.F.Finder.found l.self.0) l.path (view l.value))
