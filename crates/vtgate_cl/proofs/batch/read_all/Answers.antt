use Rattle.std.proofs.Common.{◌∙◌, ap, arith, ◌++◌, take, Err}
use Rattle.vl_base.proofs.Known.{consumes_more}
use Rattle.vtgate_cl.proofs.Input.{source_breaks, end_done, end_breaks, piece_breaks}
use Rattle.vtgate_cl.proofs.Going.{goes_more}
use Rattle.vtgate_cl.proofs.batch.read_all.Goals as goal

pub returns-in-Err-clause-err : goal.returns-in-Err-clause-err
returns-in-Err-clause-err g c =
    source_breaks c.args.player.now c.reading.player (g.O.Sink.held c.args.out.now) (g.O.Sink.held c.reading.out) (g.S.Source.left c.args.src.now) (g.S.Source.left c.reading.src) (g.S.Source.left c.read.new.self) c.reading.invariant.goes.0 c.reading.invariant.goes.1 c.reading.invariant.goes.2 c.in-Err.ensures.bytes

pub returns-then-given-eq0-clause-ok : goal.returns-then-given-eq0-clause-ok
returns-then-given-eq0-clause-ok g c =
    end_done c.finish.result c.args.player.now c.reading.player (g.O.Sink.held c.args.out.now) (g.O.Sink.held c.reading.out) (g.O.Sink.held c.finish.new.out) (g.S.Source.left c.args.src.now) (g.S.Source.left c.reading.src) (g.S.Source.left c.read.new.self) c.reading.invariant.goes.0 c.read.new.buf c.in-Ok.given c.if-given-eq0.true c.reading.invariant.goes.1 c.reading.invariant.goes.2 c.in-Ok.ensures.bytes.0 (c.in-Ok.ensures.bytes.1 c.if-given-eq0.true (omega arith)) c.finish.ensures.ok

pub returns-then-given-eq0-clause-err : goal.returns-then-given-eq0-clause-err
returns-then-given-eq0-clause-err g c =
    end_breaks c.finish.result c.args.player.now c.reading.player (g.O.Sink.held c.args.out.now) (g.O.Sink.held c.reading.out) (g.O.Sink.held c.finish.new.out) (g.S.Source.left c.args.src.now) (g.S.Source.left c.reading.src) (g.S.Source.left c.read.new.self) c.reading.invariant.goes.0 c.read.new.buf c.in-Ok.given c.if-given-eq0.true c.reading.invariant.goes.1 c.reading.invariant.goes.2 c.in-Ok.ensures.bytes.0 (c.in-Ok.ensures.bytes.1 c.if-given-eq0.true (omega arith)) c.finish.ensures.read c.finish.ensures.err

pub reading-preserved : goal.reading-preserved
reading-preserved g c = record {
  timely = c.in-Ok-feed.ensures.timely;
  goes = (
    c.reading.invariant.goes.0 ++ take c.in-Ok.given c.read.new.buf,
    consumes_more (g.S.Source.left c.args.src.now) (g.S.Source.left c.reading.src) (g.S.Source.left c.read.new.self) c.reading.invariant.goes.0 (take c.in-Ok.given c.read.new.buf) c.reading.invariant.goes.1 c.in-Ok.ensures.bytes.0,
    goes_more c.args.player.now c.reading.player c.feed.new.self (g.O.Sink.held c.args.out.now) (g.O.Sink.held c.reading.out) (g.O.Sink.held c.feed.new.out) c.reading.invariant.goes.0 (take c.in-Ok.given c.read.new.buf) c.reading.invariant.goes.2 c.in-Ok-feed.ensures.ok,
  );
  same = c.in-Ok.ensures.cause.kept ∙ c.reading.invariant.same;
  kept = c.in-Ok-feed.ensures.kept ∙ c.reading.invariant.kept;
}

pub returns-in-Err-feed-clause-err : goal.returns-in-Err-feed-clause-err
returns-in-Err-feed-clause-err g c =
    piece_breaks c.in-Err-feed.stop c.args.player.now c.reading.player (g.O.Sink.held c.args.out.now) (g.O.Sink.held c.reading.out) (g.O.Sink.held c.feed.new.out) (g.S.Source.left c.args.src.now) (g.S.Source.left c.reading.src) (g.S.Source.left c.read.new.self) c.reading.invariant.goes.0 (take c.in-Ok.given c.read.new.buf) c.reading.invariant.goes.1 c.reading.invariant.goes.2 c.in-Ok.ensures.bytes.0 (λ e. c.in-Err-feed.ensures.read (ap (λ v. Err v) e)) c.in-Err-feed.ensures.err
