use Rattle.std.proofs.Common.{ℕ, Option, sym, ap, ◌∙◌, subst}
use Rattle.std.specs.Prelude.{◌≡◌, IfOk}
use Rattle.std.specs.Option.{option_map_or}
use Rattle.vl_values.specs.declared.value.Value.{Value}
use Rattle.vl_values.specs.declared.value.Value.TheVariants.{Null}
use Rattle.vl_lookup.specs.Entry.{given_at}
use Rattle.vl_lookup.proofs.entry.other_value.Goals as goal

pub returns-in-Some : goal.returns-in-Some
returns-in-Some c =
    subst (λ (o : Option ℕ). IfOk c.given_at.result (λ (value : Value). value ≡ option_map_or (given_at c.args.row.now c.args.columns.now) o Null)) (sym c.in-Some.is ∙ c.place_of.ensures) c.given_at.ensures

pub returns-in-None : goal.returns-in-None
returns-in-None c = ap (λ (o : Option ℕ). option_map_or (given_at c.args.row.now c.args.columns.now) o Null) (sym c.in-None.is ∙ c.place_of.ensures)
