use Rattle.std.proofs.Common.{◌≡◌}
use Rattle.std.specs.Vec.Iter.{into_iter_items}
use Rattle.vl_load.specs.Files.{HasTexts}
use Rattle.vl_load.proofs.Turns.{SoFar}
use Rattle.vl_load.proofs.texts.load_texts.Given as goal

abbrev pub invariant-loop-keyspace : goal.invariant-loop-keyspace
invariant-loop-keyspace g l = record {
  same : g.F.Files.known l.files ≡ g.F.Files.known l.fn.files;
  count : g.F.Files.failures l.files ≡ g.F.Files.failures l.fn.files;
  far : SoFar (HasTexts (g.F.Files.known l.fn.files) l.folder) l.fn.keyspaces.items (into_iter_items l.keyspace-iterator) l.texts.items;
}
