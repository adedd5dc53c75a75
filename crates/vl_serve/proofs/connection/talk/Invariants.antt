use Rattle.std.proofs.Common.{◌-◌, ◌≤◌}
use Rattle.vl_serve.specs.Connection.{most_reads}
use Rattle.vl_serve.specs.Serving.{Talking}
use Rattle.vl_serve.proofs.connection.talk.Given as goal

abbrev pub invariant-reading : goal.invariant-reading
invariant-reading g l = record {
  talking : Talking l.framer l.reads l.initial.pass l.pass (g.S.Source.left l.initial.src) (g.S.Source.left l.src) (g.O.Sink.held l.initial.out) (g.O.Sink.held l.out) (g.G.Gate.seen l.initial.gate) (g.G.Gate.seen l.gate) (g.S.Source.given l.initial.src) (g.S.Source.given l.src);
  due : g.G.Gate.is_due l.initial.gate l.initial.pass → g.G.Gate.is_due l.gate l.pass;
  reads_later : g.S.Source.faults l.initial.src ≤ g.S.Source.faults l.src;
  writes_later : g.O.Sink.faults l.initial.out ≤ g.O.Sink.faults l.out;
  few : l.reads ≤ most_reads;
}

abbrev pub decreases-reading : goal.decreases-reading
decreases-reading g l = most_reads - l.reads
