use Rattle.std.proofs.Common.{sym, arith, vec_len}
use Rattle.std.proofs.lemmas.Bool.{eqb-true, eqb-false}
use Rattle.vtgate_cl.proofs.Ending.{nothing_left}
use Rattle.vtgate_cl.proofs.Going.{last_finishes, last_halts}
use Rattle.vtgate_cl.proofs.player.Player.finish.Goals as goal

pub returns-then-is_empty-clause-ok : goal.returns-then-is_empty-clause-ok
returns-then-is_empty-clause-ok g c read text played =
    nothing_left (g.O.Sink.held c.args.out.now) read text c.args.self.now.line.items c.args.self.now.client.rows c.args.self.now.count played (omega (arith, c.args.self.now.line.ok.0, eqb-true (vec_len c.args.self.now.line) 0 (sym c.if-is_empty.ensures)))

pub returns-clause-ok : goal.returns-clause-ok
returns-clause-ok g c =
    last_finishes c.answer.result c.args.self.now (g.O.Sink.held c.args.out.now) (g.O.Sink.held c.answer.new.out) c.as_slice.result.now c.answer.new.client.rows c.as_slice.ensures.value (omega (arith, c.as_slice.ensures.len, eqb-false (vec_len c.args.self.now.line) 0 (sym c.if-is_empty.ensures))) c.answer.ensures.short c.answer.ensures.early c.answer.ensures.ok

pub returns-clause-err : goal.returns-clause-err
returns-clause-err g c =
    last_halts c.answer.result c.args.self.now (g.O.Sink.held c.args.out.now) (g.O.Sink.held c.answer.new.out) c.as_slice.result.now c.as_slice.ensures.value (omega (arith, c.as_slice.ensures.len, eqb-false (vec_len c.args.self.now.line) 0 (sym c.if-is_empty.ensures))) c.answer.ensures.err
