use Rattle.std.proofs.Common.{◌≡◌, fold, map}
use Rattle.std.specs.List.{flat_map, list_any}
use Rattle.std.specs.Str.{bytes_eq}
use Rattle.serde_json.specs.View.{view, members_view}
use Rattle.vl_vschema.specs.Ignored.{others}
use Rattle.vl_vschema.specs.Json.{members, unless}
use Rattle.vl_vschema.specs.Path.{child}
use Rattle.vl_vschema.proofs.others.OthersFinder.find.Given as goal

-- what is left leads to what the whole object leads to
abbrev pub invariant-loop-name : goal.invariant-loop-name
invariant-loop-name g l =
    fold g.S.PathSink.with l.sink (flat_map (λ m. unless (list_any (bytes_eq m.0) (map (λ n. n.now) l.self.names.now)) (child l.path m.0)) (members (members_view l.name-iterator)))
    ≡ fold g.S.PathSink.with l.fn.sink (others (map (λ n. n.now) l.self.names.now) l.path (view l.value))
