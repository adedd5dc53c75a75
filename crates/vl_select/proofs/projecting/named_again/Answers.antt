use Rattle.std.proofs.Common.{List, ℕ, ◌+◌, ◌∙◌, ap, get_or}
use Rattle.std.specs.Prelude.{◌==◌}
use Rattle.std.specs.List.{list_any}
use Rattle.std.proofs.lemmas.List.{take_rest}
use Rattle.vl_select.proofs.Named.{again_more}
use Rattle.vl_select.proofs.projecting.named_again.Goals as goal

pub loop-n-preserved : goal.loop-n-preserved
loop-n-preserved c =
    again_more c.args.columns.now c.loop-n.again.items c.push.new.self.items c.loop-n.n c.contains.result c.loop-n-test.true c.loop-n.invariant
    (c.contains.ensures.value ∙ ap (λ (rest : List ℕ). list_any (λ other. other == get_or c.args.columns.now c.loop-n.n 0) rest) (take_rest c.args.columns.now (c.loop-n.n + 1))) c.in_ok-push.ensures.items
