use Rattle.std.proofs.Common.{subst, sym, arith}
use Rattle.my_packet.specs.Framing.{Framing}
use Rattle.vl_serve.specs.Serving.{Talking}
use Rattle.vl_serve.proofs.Turns.{talking_none, turn_ends, turn_goes_on}
use Rattle.vl_serve.proofs.connection.talk.Goals as goal

pub reading-init : goal.reading-init
reading-init g c =
    let left = g.S.Source.left c.args.src.now in
    let held = g.O.Sink.held c.args.out.now in
    let core = g.G.Gate.seen c.args.gate.now in
    let given = g.S.Source.given c.args.src.now in
    record {
      talking = subst (λ (f : Framing). Talking f 0 c.args.pass c.args.pass left left held held core core given given) (sym c.new-framer.ensures) (talking_none c.args.pass left held core given);
      due = λ due. due;
      reads_later = omega arith;
      writes_later = omega arith;
      few = omega arith;
    }

pub returns-in-Some-clause-talked : goal.returns-in-Some-clause-talked
returns-in-Some-clause-talked g c =
    let t = c.reading.invariant.talking in
    turn_ends c.reading.framer c.turn-next.new.framer c.reading.reads _ _ _ _ _ _ _ _ _ _ _ _ _ _ _ c.turn-next.result.1 c.in-Some.end c.in-Some.is t (c.turn-next.ensures.turn t.read t.says t.bytes t.serves) c.turn-next.ensures.gave c.reading-test.true

pub reading-preserved : goal.reading-preserved
reading-preserved g c =
    let t = c.reading.invariant.talking in
    record {
      talking = turn_goes_on c.reading.framer c.turn-next.new.framer c.reading.reads _ _ _ _ _ _ _ _ _ _ _ _ _ _ _ c.turn-next.result.1 c.in_default.is t (c.turn-next.ensures.turn t.read t.says t.bytes t.serves) c.turn-next.ensures.gave;
      due = λ due. c.turn-next.ensures.due (c.reading.invariant.due due);
      reads_later = omega (arith, c.turn-next.ensures.later_read);
      writes_later = omega (arith, c.turn-next.ensures.later_write);
      few = omega arith;
    }
