use Rattle.std.proofs.Common.{take}
use Rattle.vl_serve.proofs.Turns.{consumes_none, keeps_consumes, ended_turn, failed_turn}
use Rattle.vl_serve.proofs.connection.turn.Goals as goal

pub returns-in-Ok-eq0-clause-turn : goal.returns-in-Ok-eq0-clause-turn
returns-in-Ok-eq0-clause-turn g c = λ read says bytes serves.
    ended_turn c.args.framer.now read says bytes _ _ _ _ _ serves (consumes_none _ _ c.in-Ok-eq0.field-0 c.read.new.buf c.in-Ok-eq0.field-0-test c.in-Ok-eq0.ensures.bytes.0)

pub returns-in-Ok-clause-turn : goal.returns-in-Ok-clause-turn
returns-in-Ok-clause-turn g c = λ read says bytes serves. record {
  piece = take c.in-Ok.got c.read.new.buf;
  consumes = c.in-Ok.ensures.bytes.0;
  step = c.hear.ensures.step read says bytes serves;
}

pub returns-in-Err-clause-turn : goal.returns-in-Err-clause-turn
returns-in-Err-clause-turn g c = λ read says bytes serves.
    failed_turn c.args.framer.now read says bytes _ _ _ _ _ serves (keeps_consumes _ _ c.in-Err.ensures.bytes)
