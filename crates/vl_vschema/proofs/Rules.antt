-- The rules in their order.
use Rattle.std.proofs.Common.{◌≡◌, ℕ, zero, suc, ◌+◌, ◌-◌, ◌<◌, ◌≤◌, ◌⊎◌, inl, inr, List, [], ◌∷◌, slice_get, MatchOption, Option, Some, refl, sym, ap, ◌∙◌, subst, arith}
use Rattle.vl_vschema.specs.declared.vschema_rule.VschemaRule.{VschemaRule}
use Rattle.vl_vschema.specs.declared.vschema_rule.VschemaRule.TheVariants.{MemberKind, VindexType, LookupMembers, ColumnVindex, PlainTable, LookupFlag}
use Rattle.vl_vschema.specs.Document.{IsLeast, IsSound}
use Rattle.vl_vschema.specs.RuleNumber.{number_of}

abbrev pub rules : List VschemaRule
rules = MemberKind ∷ VindexType ∷ LookupMembers ∷ ColumnVindex ∷ PlainTable ∷ LookupFlag ∷ []

-- each rule is at the place before its number
at_number : (rule : VschemaRule) → slice_get rules (number_of rule - 1) ≡ Some rule
at_number MemberKind = refl
at_number VindexType = refl
at_number LookupMembers = refl
at_number ColumnVindex = refl
at_number PlainTable = refl
at_number LookupFlag = refl

pub some_number : (rule : VschemaRule) → (0 < number_of rule) × (number_of rule ≤ 6)
some_number MemberKind = (omega arith, omega arith)
some_number VindexType = (omega arith, omega arith)
some_number LookupMembers = (omega arith, omega arith)
some_number ColumnVindex = (omega arith, omega arith)
some_number PlainTable = (omega arith, omega arith)
some_number LookupFlag = (omega arith, omega arith)

pub number_at : (k : ℕ) (rule : VschemaRule) → slice_get rules k ≡ Some rule → number_of rule ≡ k + 1
number_at zero rule at = let same : MemberKind ≡ rule = cc in ap number_of (sym same)
number_at (suc zero) rule at = let same : VindexType ≡ rule = cc in ap number_of (sym same)
number_at (suc (suc zero)) rule at = let same : LookupMembers ≡ rule = cc in ap number_of (sym same)
number_at (suc (suc (suc zero))) rule at = let same : ColumnVindex ≡ rule = cc in ap number_of (sym same)
number_at (suc (suc (suc (suc zero)))) rule at = let same : PlainTable ≡ rule = cc in ap number_of (sym same)
number_at (suc (suc (suc (suc (suc zero))))) rule at = let same : LookupFlag ≡ rule = cc in ap number_of (sym same)
number_at (suc (suc (suc (suc (suc (suc k)))))) rule at = cc

some_same : (a b : VschemaRule) → ◌≡◌ {A = Option VschemaRule} (Some a) (Some b) → a ≡ b
some_same a b same = cc

pub same_number : (a b : VschemaRule) → number_of a ≡ number_of b → a ≡ b
same_number a b same = some_same a b (sym (at_number a) ∙ ap (λ n. slice_get rules (n - 1)) same ∙ at_number b)

-- no rule before place k is broken
abbrev pub AreKept : (VschemaRule → List (List ℕ)) → ℕ → Type 0
AreKept breaks k = (other : VschemaRule) → number_of other ≤ k → breaks other ≡ []

below_or_at : (m k : ℕ) → m ≤ k + 1 → (m ≤ k) ⊎ (m ≡ k + 1)
below_or_at zero k at_most = inl (omega arith)
below_or_at (suc m) zero at_most = inr (omega arith)
below_or_at (suc m) (suc k) at_most =
    elim (below_or_at m k (omega arith)) as (λ _. (suc m ≤ suc k) ⊎ (suc m ≡ suc k + 1)) [
      | inl below ↦ inl (omega arith)
      | inr at ↦ inr (omega arith)
    ]

pub one_more_kept : (breaks : VschemaRule → List (List ℕ)) (k : ℕ) (rule : VschemaRule) → slice_get rules k ≡ Some rule → AreKept breaks k → breaks rule ≡ []
    → AreKept breaks (k + 1)
one_more_kept breaks k rule at kept none other at_most =
    elim (below_or_at (number_of other) k at_most) as (λ _. breaks other ≡ []) [
      | inl below ↦ kept other below
      | inr here ↦ subst (λ (r : VschemaRule). breaks r ≡ []) (same_number rule other (number_at k rule at ∙ sym here)) none
    ]

pub all_kept : (breaks : VschemaRule → List (List ℕ)) → AreKept breaks 6 → IsSound breaks
all_kept breaks kept rule = kept rule (some_number rule).1

pub kept_before : (breaks : VschemaRule → List (List ℕ)) (k : ℕ) (rule : VschemaRule) → slice_get rules k ≡ Some rule → AreKept breaks k → (other : VschemaRule)
    → number_of other < number_of rule → breaks other ≡ []
kept_before breaks k rule at kept other less =
    let number : number_of rule ≡ k + 1 = number_at k rule at in
    kept other (omega arith)

pub told_least : (breaks : VschemaRule → List (List ℕ)) (found : Option (VschemaRule × List ℕ)) (rule : VschemaRule) (path : List ℕ) → found ≡ Some (rule, path)
    → MatchOption found (IsSound breaks) (λ f. IsLeast breaks f.0 f.1) → IsLeast breaks rule path
told_least breaks found rule path is least =
    subst (λ (o : Option (VschemaRule × List ℕ)). MatchOption o (IsSound breaks) (λ f. IsLeast breaks f.0 f.1)) is least
