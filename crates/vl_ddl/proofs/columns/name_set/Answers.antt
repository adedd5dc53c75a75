use Rattle.std.proofs.Common.{◌≡◌, ◌<◌, ◌+◌, ℕ, List, [], ◌∷◌, ◌++◌, length, take, arith, sym, ap, subst, ◌∙◌}
use Rattle.std.proofs.lemmas.List.{take_more}
use Rattle.vl_ddl.specs.Seen.{Holds}
use Rattle.vl_ddl.proofs.columns.name_set.Goals as goal

pub loop-name-preserved : goal.loop-name-preserved
loop-name-preserved c =
    let names = c.args.names.now in
    let i = c.loop-name.name-index in
    let name = c.name-item.result in
    let within : i < length names = omega arith in
    let more : take (i + 1) names ≡ take i names ++ name ∷ [] = take_more names i name within ∙ ap (λ (n : List ℕ). take i names ++ n ∷ []) (sym c.name-item.is) in
    subst (λ ns. Holds c.see.new.seen ns) (sym more)
    (subst (λ (n : List ℕ). Holds c.see.new.seen (take i names ++ n ∷ [])) c.as_slice.ensures (c.in_ok-see.ensures (take i names) c.loop-name.invariant).1)
