use Rattle.std.proofs.Common.{◌∷◌, ◌++◌, List, Some, Ok, [], sym, subst, ◌≡◌, arith}
use Rattle.std.proofs.lemmas.Grind.{common_steps}
use Rattle.my_packet.proofs.Feeds.{midway_push}
use Rattle.my_packet.specs.Feeding.{Midway, Takes}
use Rattle.my_packet.specs.declared.packet.Packet.{Packet}
use Rattle.my_packet.proofs.framer.Framer.advance.Goals as goal

pub returns-else-is_err-clause-ok : goal.returns-else-is_err-clause-ok
returns-else-is_err-clause-ok c = λ due bytes rest m.
    let old = c.args.self.now in
    let new = c.take.new.self in
    let piece = c.args.piece.now in
    let ps = c.args.packets.now.items in
    let p = c.in-Ok-Some.packet in
    let takes : Takes old piece (Ok (Some p)) new = rw c.in-Ok-Some.field-0-is at c.in-Ok-Some.ensures in
    let P : List Packet → Type 0 = λ qs. Midway due bytes qs new rest in
    let pushed : c.push.new.self.items ≡ ps ++ p ∷ [] = grind (arith, common_steps) in
    subst P (sym pushed) (midway_push due bytes rest piece ps p old new takes.0 takes.1 takes.2 m)
