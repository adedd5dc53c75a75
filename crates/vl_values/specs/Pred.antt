-- Which rows match a predicate.
use Rattle.std.specs.Prelude.{Bool, List, slice_index_or}
use Rattle.std.specs.List.{list_all}
use Rattle.vl_values.specs.declared.pred.Pred.{Pred}
use Rattle.vl_values.specs.declared.test.Test.{Test}
use Rattle.vl_values.specs.declared.value.Value.{Value}
use Rattle.vl_values.specs.declared.value.Value.TheVariants.{Null}
use Rattle.vl_values.specs.Among.{is_among}

-- the row's value in the test's column isn't NULL and is among the test's values
abbrev pub is_met : Test → List Value → Bool
is_met test row = is_among (slice_index_or row test.column Null) test.values

-- a row meets each test
abbrev pub matches : Pred → List Value → Bool
matches pred row = list_all (λ test. is_met test row) pred.tests
