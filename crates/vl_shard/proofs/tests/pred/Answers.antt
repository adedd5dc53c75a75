use Rattle.std.proofs.Common.{◌≡◌, List, [], ◌∷◌, rules, arith, sym, subst}
use Rattle.vl_values.specs.declared.test.Test.{Test}
use Rattle.vl_values.specs.declared.value.Value.TheVariants.{Uint}
use Rattle.vl_catalog.specs.CatalogA.{catalog_a}
use Rattle.vl_catalog.specs.Fitting.{FitsPred}
use Rattle.vl_shard.proofs.Fitted.{pred_fits}
use Rattle.vl_shard.proofs.tests.pred.Goals as goal

pub returns : goal.returns
returns c =
    let is : c.from_vec.result ≡ record { column = c.args.column; values = Uint c.args.value ∷ [] } ∷ [] = search rules in
    subst (λ (tests : List Test). FitsPred catalog_a (record { table = 0; tests = tests })) (sym is) (pred_fits c.args.column c.args.value c.requires (omega arith))
