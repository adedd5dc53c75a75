use Rattle.std.proofs.Common.{◌≡◌, ◌*◌, ◌≤◌, ℕ, List}
use Rattle.std.specs.Io.KnownBytes.{Consumes}
use Rattle.vtgate_cl.specs.Player.{GoesOn}
use Rattle.vtgate_cl.specs.Playing.{room}
use Rattle.vtgate_cl.proofs.batch.read_all.Given as goal

-- the bytes read so far are played
abbrev pub invariant-reading : goal.invariant-reading
invariant-reading g l = record {
  timely : l.player.client.at ≤ 2 * l.player.count;
  goes : (read : List ℕ) × Consumes (g.S.Source.left l.initial.src) (g.S.Source.left l.src) read × GoesOn l.initial.player l.player (g.O.Sink.held l.initial.out) (g.O.Sink.held l.out) read;
  same : g.S.Source.faults l.src ≡ g.S.Source.faults l.initial.src;
  kept : g.O.Sink.faults l.out ≡ g.O.Sink.faults l.initial.out;
}

abbrev pub decreases-reading : goal.decreases-reading
decreases-reading g l = room l.player.count l.player.line.items
