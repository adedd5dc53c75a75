-- The orders of values, rows and keys are total, and tell apart what differs.
use Rattle.std.proofs.Common.{◌≡◌, true, [], ◌∷◌, refl, ap, arith}
use Rattle.std.specs.declared.cmp.Ordering.{Ordering}
use Rattle.std.specs.declared.cmp.Ordering.TheVariants.{Less, Equal, Greater}
use Rattle.std.specs.Cmp.{IsTotalOrder}
use Rattle.std.specs.Cmp.Lexicographic.{slice_cmp}
use Rattle.std.specs.Ordering.{ordering_then, is_eq}
use Rattle.std.proofs.lemmas.Cmp.{on_total, then_total, nat_cmp_total, tied_itself}
use Rattle.std.proofs.lemmas.Map.Lookups.{CmpEqualImpliesEq, exact_unsigned, exact_signed, exact_bytes}
use Rattle.vl_values.specs.declared.key.Key.{Key}
use Rattle.vl_values.specs.declared.value.Value.{Value}
use Rattle.vl_values.specs.declared.value.Value.TheVariants.{Null, Int, Uint, Bytes}
use Rattle.vl_values.specs.Value.{class, number, sign_class, bytes, value_cmp}
use Rattle.vl_values.specs.Row.{row_cmp}
use Rattle.vl_values.specs.Key.{key_cmp}
use Rattle.vl_values.specs.Keyed.{is_key}
use Rattle.vl_values.specs.Order.{row_cmp_total}

both_equal : (a b : Ordering) → ordering_then a b ≡ Equal → (a ≡ Equal) × (b ≡ Equal)
both_equal Less b e = cc
both_equal Equal b e = (refl, e)
both_equal Greater b e = cc

same_value : (a b : Value) → class a ≡ class b → number a ≡ number b → sign_class a ≡ sign_class b → bytes a ≡ bytes b → a ≡ b
same_value Null Null c n s t = refl
same_value Null (Int y) c n s t = absurd (omega arith)
same_value Null (Uint y) c n s t = absurd (omega arith)
same_value Null (Bytes y) c n s t = absurd (omega arith)
same_value (Int x) Null c n s t = absurd (omega arith)
same_value (Int x) (Int y) c n s t = ap Int n
same_value (Int x) (Uint y) c n s t = absurd (omega arith)
same_value (Int x) (Bytes y) c n s t = absurd (omega arith)
same_value (Uint x) Null c n s t = absurd (omega arith)
same_value (Uint x) (Int y) c n s t = absurd (omega arith)
same_value (Uint x) (Uint y) c n s t = cc
same_value (Uint x) (Bytes y) c n s t = absurd (omega arith)
same_value (Bytes x) Null c n s t = absurd (omega arith)
same_value (Bytes x) (Int y) c n s t = absurd (omega arith)
same_value (Bytes x) (Uint y) c n s t = absurd (omega arith)
same_value (Bytes x) (Bytes y) c n s t = ap Bytes t

-- values that compare as equal are one value
pub value_cmp_exact : CmpEqualImpliesEq value_cmp
value_cmp_exact a b e =
    let by_class = both_equal _ _ e in
    let by_number = both_equal _ _ by_class.1 in
    let by_sign = both_equal _ _ by_number.1 in
    same_value a b (exact_unsigned _ _ by_class.0) (exact_signed _ _ by_number.0) (exact_unsigned _ _ by_sign.0) (exact_bytes _ _ by_sign.1)

lists_exact : {A : Type 0} (R : A → A → Ordering) → CmpEqualImpliesEq R → CmpEqualImpliesEq (slice_cmp R)
lists_exact R exact [] [] e = refl
lists_exact R exact [] (y ∷ ys) e = cc
lists_exact R exact (x ∷ xs) [] e = cc
lists_exact R exact (x ∷ xs) (y ∷ ys) e =
    let both = both_equal _ _ e in
    let first = exact x y both.0 in
    let rest = lists_exact R exact xs ys both.1 in
    cc (first, rest)

-- and so with rows
pub row_cmp_exact : CmpEqualImpliesEq row_cmp
row_cmp_exact = lists_exact value_cmp value_cmp_exact

-- and with keys
pub key_cmp_exact : CmpEqualImpliesEq key_cmp
key_cmp_exact a b e =
    let both = both_equal _ _ e in
    let table = exact_unsigned a.table b.table both.0 in
    let pk = row_cmp_exact a.pk b.pk both.1 in
    λ i. record { table = table i; pk = pk i }

-- keys are in one order
pub key_cmp_total : IsTotalOrder key_cmp
key_cmp_total = then_total (on_total (λ k. k.table) nat_cmp_total) (on_total (λ k. k.pk) row_cmp_total)

equal_from_is_eq : (o : Ordering) → is_eq o ≡ true → o ≡ Equal
equal_from_is_eq Less e = cc
equal_from_is_eq Equal e = refl
equal_from_is_eq Greater e = cc

-- keys that are one key are equal
pub is_key-true : (key other : Key) → is_key key other ≡ true → key ≡ other
is_key-true key other e = key_cmp_exact key other (equal_from_is_eq (key_cmp key other) e)

-- and a key is itself
pub is_key-same : (key : Key) → is_key key key ≡ true
is_key-same key = ap is_eq (tied_itself key_cmp_total key)
