use Rattle.std.proofs.Common.{◌≡◌, ◌∷◌, take}
use Rattle.std.specs.List.{flat_map}
use Rattle.vl_grammar.specs.Layout.{added}
use Rattle.vl_sql.specs.Separator.{item_between}
use Rattle.vl_sql.proofs.printed.print_rest.Given as goal

abbrev pub invariant-loop-member : goal.invariant-loop-member
invariant-loop-member g l = l.writer ≡ added l.fn.writer (flat_map (λ m. item_between l.separator ∷ g.P.Printed.items m) (take l.member-index l.rest))
