use Rattle.std.proofs.Common.{◌∙◌, ◌<◌, ap, subst, ℕ, List, [], ◌∷◌, length}
use Rattle.std.proofs.lemmas.Bool.{ne_eqb}
use Rattle.std.specs.Str.Lines.{strip_carriage_return}
use Rattle.vtgate_cl.specs.Script.{line_limit}
use Rattle.vtgate_cl.proofs.Ending.{memory_stops, long_stops, byte_goes}
use Rattle.vtgate_cl.proofs.player.Player.keep.Goals as goal

pub returns-in_default-clause-err : goal.returns-in_default-clause-err
returns-in_default-clause-err g c read text played =
    memory_stops (g.O.Sink.held c.args.out.now) read text c.args.self.now.line.items (c.args.byte ∷ []) c.args.self.now.client.rows c.args.self.now.count played

pub returns-then-without_cr-gt-LINE_LIMIT-clause-err : goal.returns-then-without_cr-gt-LINE_LIMIT-clause-err
returns-then-without_cr-gt-LINE_LIMIT-clause-err g c read text played =
    long_stops c.refuse.result (g.O.Sink.held c.args.out.now) (g.O.Sink.held c.refuse.new.out) read text c.args.self.now.line.items c.args.self.now.client.rows c.args.self.now.count c.args.byte played (ne_eqb c.args.byte 10 c.requires.other)
    (subst (λ (v : List ℕ). line_limit < length v) (c.without_cr.ensures ∙ ap strip_carriage_return (c.as_slice.ensures.value ∙ c.in-Ok.ensures.items)) c.if-without_cr-gt-LINE_LIMIT.true) c.refuse.ensures.told

pub returns-clause-ok : goal.returns-clause-ok
returns-clause-ok g c read text played =
    rw c.in-Ok.ensures.items (byte_goes (g.O.Sink.held c.args.out.now) read text c.args.self.now.line.items c.args.self.now.client.rows c.args.self.now.count c.args.byte played (ne_eqb c.args.byte 10 c.requires.other))
