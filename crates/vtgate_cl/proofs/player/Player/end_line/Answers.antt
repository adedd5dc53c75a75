use Rattle.std.proofs.Common.{◌∙◌, ap, subst, ℕ, List}
use Rattle.std.specs.Str.Lines.{strip_carriage_return}
use Rattle.vtgate_cl.specs.Playing.{Halts}
use Rattle.vtgate_cl.proofs.Ending.{ended_stops, line_goes}
use Rattle.vtgate_cl.proofs.player.Player.end_line.Goals as goal

pub returns-in-Err-clause-err : goal.returns-in-Err-clause-err
returns-in-Err-clause-err g c read text played =
    ended_stops c.in-Err.stop (g.O.Sink.held c.args.out.now) (g.O.Sink.held c.answer.new.out) read text c.args.self.now.line.items c.args.self.now.client.rows c.args.self.now.count played
    (subst (λ (v : List ℕ). Halts c.args.self.now.count c.args.self.now.client.rows v (g.O.Sink.held c.args.out.now) (g.O.Sink.held c.answer.new.out) c.in-Err.stop) (c.without_cr-text.ensures ∙ ap strip_carriage_return c.as_slice.ensures.value) c.in-Err.ensures.err)

pub returns-clause-ok : goal.returns-clause-ok
returns-clause-ok g c read text played =
    rw c.clear.ensures.items (line_goes (g.O.Sink.held c.args.out.now) (g.O.Sink.held c.answer.new.out) read text c.args.self.now.line.items c.without_cr-text.result.now c.args.self.now.client.rows c.answer.new.client.rows c.args.self.now.count played (c.without_cr-text.ensures ∙ ap strip_carriage_return c.as_slice.ensures.value) c.in-Ok.ensures.short c.in-Ok.ensures.early c.in-Ok.ensures.ok)
