use Rattle.std.proofs.Common.{◌≡◌, ℕ, List, fold, drop, map, take}
use Rattle.std.specs.BTreeSet.{contains_text}
use Rattle.std.specs.List.{flat_map, enumerate_from}
use Rattle.serde_json.specs.View.{view}
use Rattle.vl_vschema.specs.CatalogFile.{is_name_of, taken_name, taken_names}
use Rattle.vl_vschema.proofs.taken_names.TakenNamesFinder.find.Given as goal

-- the names are those of the keyspaces before, and what is left leads to what the whole list leads to
abbrev pub invariant-loop-position : goal.invariant-loop-position
invariant-loop-position g l = record {
  names : (other : List ℕ) → contains_text l.names other ≡ is_name_of (map view (take l.position l.keyspace-items)) other;
  noted : fold g.S.PathSink.with l.sink (flat_map (taken_name l.path (map view l.keyspace-items)) (enumerate_from l.position (map view (drop l.position l.keyspace-items))))
      ≡ fold g.S.PathSink.with l.fn.sink (taken_names l.path (view l.value));
}
