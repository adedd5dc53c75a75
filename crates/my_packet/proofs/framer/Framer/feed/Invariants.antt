use Rattle.std.proofs.Common.{◌++◌, length}
use Rattle.my_packet.specs.Feeding.{Midway}
use Rattle.my_packet.proofs.framer.Framer.feed.Given as goal

abbrev pub invariant-loop-rest : goal.invariant-loop-rest
invariant-loop-rest l = Midway l.fn.self.due (l.fn.self.held ++ l.bytes) l.packets.items l.self l.rest

abbrev pub decreases-loop-rest : goal.decreases-loop-rest
decreases-loop-rest l = length l.rest
