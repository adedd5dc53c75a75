use Rattle.std.proofs.Common.{◌≡◌, ◌+◌, ◌*◌, ◌≤◌, take}
use Rattle.vtgate_cl.specs.Player.{GoesOn}
use Rattle.vtgate_cl.specs.Playing.{room}
use Rattle.vtgate_cl.proofs.player.Player.feed.Given as goal

-- the bytes so far are played
abbrev pub invariant-loop-byte : goal.invariant-loop-byte
invariant-loop-byte g l = record {
  timely : l.self.client.at ≤ 2 * l.self.count;
  goes : GoesOn l.initial.self l.self (g.O.Sink.held l.initial.out) (g.O.Sink.held l.out) (take l.byte-index l.piece);
  shrinks : room l.self.count l.self.line.items + l.byte-index ≤ room l.initial.self.count l.initial.self.line.items;
  kept : g.O.Sink.faults l.out ≡ g.O.Sink.faults l.initial.out;
}
