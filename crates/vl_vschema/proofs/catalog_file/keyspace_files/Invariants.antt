use Rattle.std.proofs.Common.{◌≡◌, ◌++◌, drop, map}
use Rattle.serde_json.specs.View.{view}
use Rattle.vl_vschema.specs.CatalogFile.{keyspace_of, keyspaces_of}
use Rattle.vl_vschema.proofs.catalog_file.keyspace_files.Given as goal

abbrev pub invariant-loop-item : goal.invariant-loop-item
invariant-loop-item l = l.found.items ++ map keyspace_of (map view (drop l.item-index l.item-items)) ≡ keyspaces_of (view l.fn.file)
