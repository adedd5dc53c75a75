-- Rows that are counted, and bytes, one after the other.
use Rattle.std.proofs.Common.{◌≡◌, ℕ, ◌+◌, ◌<◌, ◌≤◌, List, ◌∷◌, length, get_or, drop, Option, Some, None, sym, ap, ◌∙◌}
use Rattle.std.specs.Option.{option_or}
use Rattle.std.proofs.lemmas.List.{at_drop_all, drop_more}
use Rattle.std.proofs.lemmas.List.Sums.{sum_by-drop_more}
use Rattle.vl_values.specs.declared.key.Key.{Key}
use Rattle.vl_values.specs.declared.limit.Limit.{Limit}
use Rattle.vl_values.specs.declared.value.Value.{Value}
use Rattle.vl_values.specs.Value.{text_of_value}
use Rattle.vl_port.specs.declared.limits.Limits.{Limits}
use Rattle.vl_port.specs.View.{Values}
use Rattle.vl_statement.specs.declared.tally.Tally.{Tally}
use Rattle.vl_statement.specs.Tallies.{counted, first_over, over, row_bytes, with_row}

-- the bytes of the value at a place, and those behind it
pub bytes_more : (row : Values) (i : ℕ) (value : Value) → i < length row → value ≡ get_or row i value → row_bytes (drop i row) ≡ length (text_of_value value) + row_bytes (drop (i + 1) row)
bytes_more row i value within is = sum_by-drop_more (λ (v : Value). length (text_of_value v)) row i value within ∙ ap (λ (v : Value). length (text_of_value v) + row_bytes (drop (i + 1) row)) (sym is)

pub bytes_end : (row : Values) (i : ℕ) → length row ≤ i → row_bytes (drop i row) ≡ 0
bytes_end row i past = at_drop_all row_bytes row i past

abbrev pub Found : Type 0
Found = Key × Values

rest_is : (rows : List Found) (i : ℕ) (row : Found) → i < length rows → row ≡ get_or rows i row → drop i rows ≡ row ∷ drop (i + 1) rows
rest_is rows i row within is = drop_more rows i row within ∙ ap (λ (r : Found). r ∷ drop (i + 1) rows) (sym is)

pub over_here : (limits : Limits) (tally : Tally) (rows : List Found) (i : ℕ) (row : Found) (passed : Limit × ℕ) → i < length rows → row ≡ get_or rows i row → over limits tally row.1 ≡ Some passed
    → first_over limits tally (drop i rows) ≡ Some passed
over_here limits tally rows i row passed within is here =
    ap (first_over limits tally) (rest_is rows i row within is) ∙ ap (λ (o : Option (Limit × ℕ)). option_or o (first_over limits (with_row tally row.1) (drop (i + 1) rows))) here

pub over_later : (limits : Limits) (tally : Tally) (rows : List Found) (i : ℕ) (row : Found) → i < length rows → row ≡ get_or rows i row → over limits tally row.1 ≡ None
    → first_over limits tally (drop i rows) ≡ first_over limits (with_row tally row.1) (drop (i + 1) rows)
over_later limits tally rows i row within is here =
    ap (first_over limits tally) (rest_is rows i row within is) ∙ ap (λ (o : Option (Limit × ℕ)). option_or o (first_over limits (with_row tally row.1) (drop (i + 1) rows))) here

pub counted_more : (tally : Tally) (rows : List Found) (i : ℕ) (row : Found) → i < length rows → row ≡ get_or rows i row → counted tally (drop i rows) ≡ counted (with_row tally row.1) (drop (i + 1) rows)
counted_more tally rows i row within is = ap (counted tally) (rest_is rows i row within is)

pub over_none : (limits : Limits) (tally : Tally) (rows : List Found) (i : ℕ) → length rows ≤ i → first_over limits tally (drop i rows) ≡ None
over_none limits tally rows i past = at_drop_all (first_over limits tally) rows i past

pub counted_all : (tally : Tally) (rows : List Found) (i : ℕ) → length rows ≤ i → counted tally (drop i rows) ≡ tally
counted_all tally rows i past = at_drop_all (counted tally) rows i past
