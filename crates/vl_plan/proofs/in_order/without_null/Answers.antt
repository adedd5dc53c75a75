use Rattle.std.proofs.Common.{rules}
use Rattle.std.specs.Prelude.{not}
use Rattle.std.proofs.lemmas.Fn.{filter_same}
use Rattle.vl_values.specs.declared.value.Value.{Value}
use Rattle.vl_values.specs.Value.{is_null}
use Rattle.vl_plan.proofs.in_order.without_null.Goals as goal

pub returns : goal.returns
returns c = filter_same _ (λ (v : Value). not (is_null v)) _ (λ x b f r. search rules) _ _ c.retain.ensures.filtered
