-- The rows of INSERT that have too few values, or too many.
use Rattle.std.proofs.Common.{◌≡◌, ℕ, ◌+◌, ◌<◌, Bool, true, false, cond, eqb, List, [], ◌∷◌, ◌++◌, length, get_or, drop, Option, Some, refl, sym, ap, ◌∙◌, eq-eqb}
use Rattle.std.specs.Prelude.{slice_get}
use Rattle.std.proofs.lemmas.Bool.{ne_eqb}
use Rattle.vl_values.specs.declared.cause.Cause.{Cause}
use Rattle.vl_values.specs.declared.cause.Cause.TheVariants.{RowCount}
use Rattle.vl_values.specs.declared.value.Value.{Value}
use Rattle.vl_model.specs.Refusals.{miscounted_from}
use Rattle.vl_plan.proofs.Firsts.{rest_at}

told : (b : Bool) (cause : Cause) (causes : List Cause) → b ≡ false → slice_get (cond b [] (cause ∷ []) ++ causes) 0 ≡ Some cause
told true cause causes e = cc
told false cause causes e = refl

passed : (b : Bool) (cause : Cause) (causes : List Cause) → b ≡ true → cond b [] (cause ∷ []) ++ causes ≡ causes
passed true cause causes e = refl
passed false cause causes e = cc

pub miscounted_here : (columns i : ℕ) (rows : List (List Value)) (row : List Value) → i < length rows → row ≡ get_or rows i row
    → miscounted_from columns 1 rows ≡ miscounted_from columns (i + 1) (drop i rows) → (length row ≡ columns → ⊥)
    → slice_get (miscounted_from columns 1 rows) 0 ≡ Some (RowCount (i + 1) (length row) columns)
miscounted_here columns i rows row lt at left differ =
    ap (λ (causes : List Cause). slice_get causes 0)
    (left ∙ ap (miscounted_from columns (i + 1)) (rest_at rows i row lt at))
    ∙ told (eqb (length row) columns) (RowCount (i + 1) (length row) columns) (miscounted_from columns (i + 1 + 1) (drop (i + 1) rows)) (ne_eqb (length row) columns differ)

pub counted_here : (columns i : ℕ) (rows : List (List Value)) (row : List Value) → i < length rows → row ≡ get_or rows i row
    → miscounted_from columns 1 rows ≡ miscounted_from columns (i + 1) (drop i rows) → length row ≡ columns
    → miscounted_from columns 1 rows ≡ miscounted_from columns (i + 1 + 1) (drop (i + 1) rows)
counted_here columns i rows row lt at left same =
    left ∙ ap (miscounted_from columns (i + 1)) (rest_at rows i row lt at)
    ∙ passed (eqb (length row) columns) (RowCount (i + 1) (length row) columns) (miscounted_from columns (i + 1 + 1) (drop (i + 1) rows)) (eq-eqb (length row) columns same)
