-- A row matches the tests of another exactly where it has the same entry.
use Rattle.std.proofs.Common.{◌≡◌, ℕ, Bool, true, false, not, ◌&&◌, ◌||◌, List, [], ◌∷◌, map, refl, sym, ap, ◌∙◌}
use Rattle.std.specs.declared.cmp.Ordering.{Ordering}
use Rattle.std.specs.declared.cmp.Ordering.TheVariants.{Less, Equal, Greater}
use Rattle.std.specs.Cmp.Lexicographic.{slice_cmp}
use Rattle.std.specs.Prelude.{All}
use Rattle.std.specs.List.{list_all}
use Rattle.std.specs.Ordering.{is_eq, nat_cmp, ordering_then}
use Rattle.std.proofs.lemmas.Cmp.{nat_cmp_total, tied_itself}
use Rattle.vl_values.specs.declared.key.Key.{Key}
use Rattle.vl_values.specs.declared.pred.Pred.{Pred}
use Rattle.vl_values.specs.declared.value.Value.{Value}
use Rattle.vl_values.specs.declared.value.Value.TheVariants.{Null, Int, Uint, Bytes}
use Rattle.vl_values.specs.Keyed.{is_key}
use Rattle.vl_values.specs.Pred.{is_met, matches}
use Rattle.vl_values.specs.Row.{row_cmp}
use Rattle.vl_values.specs.Value.{is_null, is_same_value, value_cmp}
use Rattle.vl_port.specs.View.{Values}
use Rattle.vl_lookup.specs.Entry.{at, test_of}

eq_then : (o r : Ordering) → is_eq (ordering_then o r) ≡ (is_eq o && is_eq r)
eq_then Less r = refl
eq_then Equal r = refl
eq_then Greater r = refl

or_false : (b : Bool) → (b || false) ≡ b
or_false true = refl
or_false false = refl

-- ---- a test is met where the values are one

null_other : (w : Value) → is_null w ≡ false → is_same_value Null w ≡ false
null_other Null some = cc
null_other (Int n) some = refl
null_other (Uint n) some = refl
null_other (Bytes s) some = refl

met_same : (v w : Value) → is_null w ≡ false → (not (is_null v) && (is_same_value v w || false)) ≡ is_same_value v w
met_same Null w some = sym (null_other w some)
met_same (Int n) w some = or_false (is_same_value (Int n) w)
met_same (Uint n) w some = or_false (is_same_value (Uint n) w)
met_same (Bytes s) w some = or_false (is_same_value (Bytes s) w)

-- the rows have one value in each of the columns
abbrev pub are_same : Values → Values → List ℕ → Bool
are_same other row columns = list_all (λ n. is_same_value (at other n) (at row n)) columns

abbrev pub AreWhole : Values → List ℕ → Type 0
AreWhole row [] = Unit {0}
AreWhole row (n ∷ columns) = (is_null (at row n) ≡ false) × AreWhole row columns

both_same : (a b c d : Bool) → a ≡ b → c ≡ d → (a && c) ≡ (b && d)
both_same a b c d first second = ap (λ (x : Bool). x && c) first ∙ ap (λ (x : Bool). b && x) second

tests_same : (other row : Values) (columns : List ℕ) → AreWhole row columns → list_all (λ test. is_met test other) (map (test_of row) columns) ≡ are_same other row columns
tests_same other row [] whole = refl
tests_same other row (n ∷ columns) whole =
    both_same (is_met (test_of row n) other) (is_same_value (at other n) (at row n)) (list_all (λ test. is_met test other) (map (test_of row) columns)) (are_same other row columns)
    (met_same (at other n) (at row n) whole.0) (tests_same other row columns whole.1)

values_same : (other row : Values) (columns : List ℕ) → is_eq (row_cmp (map (at other) columns) (map (at row) columns)) ≡ are_same other row columns
values_same other row [] = refl
values_same other row (n ∷ columns) =
    eq_then (value_cmp (at other n) (at row n)) (row_cmp (map (at other) columns) (map (at row) columns))
    ∙ ap (λ (b : Bool). is_same_value (at other n) (at row n) && b) (values_same other row columns)

-- ---- a key of one table is another where the values are

key_same : (table : ℕ) (xs ys : Values) → is_key (record { table = table; pk = xs }) (record { table = table; pk = ys }) ≡ is_eq (row_cmp xs ys)
key_same table xs ys =
    ap (λ (o : Ordering). is_eq (ordering_then o (row_cmp xs ys))) (tied_itself nat_cmp_total table)

-- one that is the same isn't NULL
some_first : (a s r : Bool) → (a && (s || false)) ≡ s → (s && r) ≡ (a && (s && r))
some_first true s r met = refl
some_first false s r met = ap (λ (b : Bool). b && r) (sym met)

pub matched : (table owner column : ℕ) (columns : List ℕ) (other row : Values) → AreWhole row (column ∷ columns)
    → matches (record { table = owner; tests = map (test_of row) (column ∷ columns) }) other
    ≡ (not (is_null (at other column)) && is_key (record { table = table; pk = map (at other) (column ∷ columns) }) (record { table = table; pk = map (at row) (column ∷ columns) }))
matched table owner column columns other row whole =
    tests_same other row (column ∷ columns) whole
    ∙ some_first (not (is_null (at other column))) (is_same_value (at other column) (at row column)) (are_same other row columns) (met_same (at other column) (at row column) whole.0)
    ∙ ap (λ (b : Bool). not (is_null (at other column)) && b)
    (sym (key_same table (map (at other) (column ∷ columns)) (map (at row) (column ∷ columns)) ∙ values_same other row (column ∷ columns)))
