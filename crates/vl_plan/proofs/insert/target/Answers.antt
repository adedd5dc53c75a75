use Rattle.std.proofs.Common.{ℕ, List, ap, ◌∙◌}
use Rattle.std.specs.Prelude.{position}
use Rattle.std.specs.Str.{bytes_eq}
use Rattle.vl_plan.proofs.Targeting.{target_is}
use Rattle.vl_plan.proofs.insert.target.Goals as goal

pub returns : goal.returns
returns c = λ row.
    target_is c.args.catalog.now c.args.table.now c.args.names.now row c.args.number c.args.column.now c.asks_of.result.needs_value c.asks_of.result.numbered c.position_of.result
    c.asks_of.ensures.needs_value c.asks_of.ensures.numbered
    (c.position_of.ensures ∙ ap (λ (name : List ℕ). position (λ (m : List ℕ). bytes_eq m name) c.args.names.now) c.as_slice.ensures)
