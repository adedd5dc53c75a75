use Rattle.std.proofs.Common.{List, length, refl, ap, ◌∙◌, arith}
use Rattle.vl_values.specs.declared.test.Test.{Test}
use Rattle.vl_commit.proofs.tests.look.Goals as goal

pub returns-clause-fits : goal.returns-clause-fits
returns-clause-fits c = λ shard.
    let none = ap (λ (tests : List Test). length tests) (c.from_vec.ensures ∙ c.new.ensures.items) in
    record { table = _; is_table = refl; tests = λ test among. absurd (omega (arith, among.1, none)) }
