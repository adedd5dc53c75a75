use Rattle.std.proofs.Common.{[], ◌∷◌, ◌++◌, subst, sym, List, ℕ}
use Rattle.vl_ddl.specs.Seen.{Holds}
use Rattle.vl_ddl.proofs.parts.column_opening.Goals as goal

pub returns-clause-seen : goal.returns-clause-seen
returns-clause-seen c names holds = subst (λ (n : List ℕ). Holds c.see.new.seen (names ++ n ∷ [])) (sym c.in_ok-name.ensures) (c.in_ok-see.ensures names holds).1
