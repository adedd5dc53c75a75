use Rattle.std.proofs.Common.{◌≡◌, Ok, map, take}
use Rattle.vl_plan.specs.Conditions.{compared_by}
use Rattle.vl_plan.proofs.test_of.all_compared.Given as goal

abbrev pub invariant-loop-literal : goal.invariant-loop-literal
invariant-loop-literal l = map (compared_by l.asks.numbered l.column) (take l.literal-index l.literals) ≡ map (λ value. Ok value) l.values.items
