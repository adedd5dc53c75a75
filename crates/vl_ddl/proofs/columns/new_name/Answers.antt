use Rattle.std.proofs.Common.{[], ◌∷◌, ◌++◌, subst, sym, List, ℕ}
use Rattle.vl_ddl.specs.Seen.{Holds}
use Rattle.vl_ddl.proofs.columns.new_name.Goals as goal

pub returns-in_ok-name-in-len1-up-clause-seen : goal.returns-in_ok-name-in-len1-up-clause-seen
returns-in_ok-name-in-len1-up-clause-seen c names holds =
    subst (λ (n : List ℕ). Holds c.see.new.seen (names ++ n ∷ [])) (sym c.in_ok-name-in-len1-up.ensures) (c.in_ok-see-in-len1-up.ensures names holds).1
