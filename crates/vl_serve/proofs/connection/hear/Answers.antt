use Rattle.std.proofs.Common.{List, subst}
use Rattle.my_packet.specs.declared.packet.Packet.{Packet}
use Rattle.vl_serve.specs.Serving.{Step, BringsFirst}
use Rattle.vl_serve.proofs.Steps.{heard_step, fault_heard}
use Rattle.vl_serve.proofs.connection.hear.Goals as goal

pub returns-in-Ok-clause-step : goal.returns-in-Ok-clause-step
returns-in-Ok-clause-step g c = λ read says bytes serves.
    let end = c.answer_packet.result.1 in
    let pass = c.args.pass in
    let next = c.answer_packet.result.0 in
    let core = g.G.Gate.seen c.args.gate.now in
    let now_core = g.G.Gate.seen c.answer_packet.new.gate in
    let held = g.O.Sink.held c.args.out.now in
    let now_held = g.O.Sink.held c.answer_packet.new.out in
    let step = subst (λ (ps : List Packet). Step pass next core now_core held now_held (BringsFirst ps end)) c.as_slice.ensures.value c.answer_packet.ensures.step in
    heard_step c.args.framer.now c.feed.new.self read c.args.piece.now says bytes c.in-Ok.packets.items end pass next core now_core held now_held serves c.in-Ok.ensures.read (c.in-Ok.ensures.one c.requires.within) step

pub returns-in-Err-clause-step : goal.returns-in-Err-clause-step
returns-in-Err-clause-step g c = λ read says bytes serves.
    fault_heard c.args.framer.now read c.args.piece.now says bytes c.in-Err.fault.before c.in-Err.fault.cause c.tell_fault.result _ _ _ _ serves (c.in-Err.ensures.fault serves.going) (c.in-Err.ensures.alone c.requires.within) c.tell_fault.ensures.told
