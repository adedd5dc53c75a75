-- Tests and values that fit the table t1 of the built-in catalog, whose two columns have numbers of 64 bits.
use Rattle.std.proofs.Common.{◌≡◌, ◌<◌, ◌^◌, ◌-◌, ℕ, zero, suc, true, [], ◌∷◌, Contains, nat_le, arith, refl, sym, subst}
use Rattle.std.proofs.lemmas.Bool.{le-leb}
use Rattle.vl_values.specs.declared.value.Value.{Value}
use Rattle.vl_values.specs.declared.value.Value.TheVariants.{Uint}
use Rattle.vl_values.specs.declared.col_type.ColType.TheVariants.{BigUint}
use Rattle.vl_values.specs.Fit.{is_of_type}
use Rattle.vl_catalog.specs.CatalogA.{catalog_a, t1}
use Rattle.vl_catalog.specs.Fitting.{FitsPred, IsTestOf}
use Rattle.vl_port.specs.Placing.{IsValueIn}

of_64_bits : (n : ℕ) → n < 2 ^ 64 → nat_le n (2 ^ 64 - 1) ≡ true
of_64_bits n small = le-leb n (2 ^ 64 - 1) (omega (arith, small))

only_one : {X : Type 0} (x y : X) → Contains (x ∷ []) y → y ≡ x
only_one x y (zero, within, is) = sym is
only_one x y (suc k, within, is) = absurd (omega (arith, within))

-- each column has numbers of 64 bits
test_fits : (column v : ℕ) → column < 2 → v < 2 ^ 64 → IsTestOf t1 (record { column = column; values = Uint v ∷ [] })
test_fits zero v a b = record {
  column = _;
  is_column = refl;
  typed = λ w here. subst (λ (x : Value). is_of_type BigUint x ≡ true) (sym (only_one (Uint v) w here)) (of_64_bits v b);
  ascending = λ i j d first within. absurd (omega (arith, first, within));
}
test_fits (suc zero) v a b = record {
  column = _;
  is_column = refl;
  typed = λ w here. subst (λ (x : Value). is_of_type BigUint x ≡ true) (sym (only_one (Uint v) w here)) (of_64_bits v b);
  ascending = λ i j d first within. absurd (omega (arith, first, within));
}
test_fits (suc (suc column)) v a b = absurd (omega (arith, a))

pub pred_fits : (column v : ℕ) → column < 2 → v < 2 ^ 64 → FitsPred catalog_a (record { table = 0; tests = record { column = column; values = Uint v ∷ [] } ∷ [] })
pred_fits column v a b = record {
  table = t1;
  is_table = refl;
  tests = λ test here. subst (IsTestOf t1) (sym (only_one _ test here)) (test_fits column v a b);
}

pub value_fits : (v : ℕ) → v < 2 ^ 64 → IsValueIn catalog_a 0 1 (Uint v)
value_fits v b = record { table = t1; is_table = refl; column = _; is_column = refl; held = of_64_bits v b }
