use Rattle.std.proofs.Common.{◌∙◌, ◌+◌, sym, subst, ℕ, List, [], ◌∷◌, take, drop, get_or, arith}
use Rattle.std.proofs.lemmas.List.{take_more, take_all}
use Rattle.vtgate_cl.specs.Player.{GoesOn, StopsIn}
use Rattle.vtgate_cl.proofs.Going.{goes_more, stops_more, around}
use Rattle.vtgate_cl.proofs.player.Player.feed.Goals as goal

pub returns-in-Err-clause-err : goal.returns-in-Err-clause-err
returns-in-Err-clause-err g c =
    subst
    (λ (v : List ℕ). StopsIn c.args.self.now (g.O.Sink.held c.args.out.now) (g.O.Sink.held c.take.new.out) v c.in-Err.stop)
    (around c.args.piece.now c.loop-byte.byte-index c.loop-byte-test.true)
    (stops_more c.args.self.now c.loop-byte.self (g.O.Sink.held c.args.out.now) (g.O.Sink.held c.loop-byte.out) (g.O.Sink.held c.take.new.out) (take c.loop-byte.byte-index c.args.piece.now) (get_or c.args.piece.now c.loop-byte.byte-index 0 ∷ []) (drop (c.loop-byte.byte-index + 1) c.args.piece.now) c.in-Err.stop c.loop-byte.invariant.goes c.in-Err.ensures.err)

pub loop-byte-preserved : goal.loop-byte-preserved
loop-byte-preserved g c = record {
  timely = c.in-Ok.ensures.timely;
  goes = subst
      (λ (v : List ℕ). GoesOn c.args.self.now c.take.new.self (g.O.Sink.held c.args.out.now) (g.O.Sink.held c.take.new.out) v)
      (sym (take_more c.args.piece.now c.loop-byte.byte-index 0 c.loop-byte-test.true))
      (goes_more c.args.self.now c.loop-byte.self c.take.new.self (g.O.Sink.held c.args.out.now) (g.O.Sink.held c.loop-byte.out) (g.O.Sink.held c.take.new.out) (take c.loop-byte.byte-index c.args.piece.now) (get_or c.args.piece.now c.loop-byte.byte-index 0 ∷ []) c.loop-byte.invariant.goes c.in-Ok.ensures.ok);
  shrinks = omega (arith, c.in-Ok.ensures.shrinks);
  kept = c.in-Ok.ensures.kept ∙ c.loop-byte.invariant.kept;
}

pub returns-clause-ok : goal.returns-clause-ok
returns-clause-ok g c =
    subst
    (λ (v : List ℕ). GoesOn c.args.self.now c.loop-byte.self (g.O.Sink.held c.args.out.now) (g.O.Sink.held c.loop-byte.out) v)
    (take_all c.loop-byte.byte-index c.args.piece.now (omega arith))
    c.loop-byte.invariant.goes
