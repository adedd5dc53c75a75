-- The limits of the rows that the reads of a statement give: how many there are, and how many bytes their values have.
use Rattle.std.specs.Prelude.{◌≡◌, ℕ, ◌+◌, nat_lt, List, [], ◌∷◌, fold, length, if◌then◌else◌, Option, Some, None, Result, Ok, Err}
use Rattle.std.specs.List.{sum_by}
use Rattle.std.specs.Option.{option_or}
use Rattle.vl_values.specs.declared.key.Key.{Key}
use Rattle.vl_values.specs.declared.limit.Limit.{Limit}
use Rattle.vl_values.specs.declared.limit.Limit.TheVariants as quantities
use Rattle.vl_values.specs.Value.{text_of_value}
use Rattle.vl_port.specs.declared.limits.Limits.{Limits}
use Rattle.vl_port.specs.View.{Values}
use Rattle.vl_statement.specs.declared.tally.Tally.{Tally}

-- the bytes of a row: those of the texts of its values, of which NULL has none
abbrev pub row_bytes : Values → ℕ
row_bytes row = sum_by (λ value. length (text_of_value value)) row

-- the tally with one row more
abbrev pub with_row : Tally → Values → Tally
with_row tally row = record { rows = tally.rows + 1; bytes = tally.bytes + row_bytes row }

-- the tally with these rows
abbrev pub counted : Tally → List (Key × Values) → Tally
counted tally rows = fold (λ (so_far : Tally) (row : Key × Values). with_row so_far row.1) tally rows

-- the limit that one row more would pass, and its height: that of the rows is looked at first
abbrev pub over : Limits → Tally → Values → Option (Limit × ℕ)
over limits tally row =
    if nat_lt tally.rows limits.result_rows then (if nat_lt limits.result_bytes (tally.bytes + row_bytes row) then Some (quantities.ResultBytes, limits.result_bytes) else None)
    else Some (quantities.ResultRows, limits.result_rows)

-- the limit that the first row passes which passes one
abbrev pub first_over : Limits → Tally → List (Key × Values) → Option (Limit × ℕ)
first_over limits tally [] = None
first_over limits tally (row ∷ rows) = option_or (over limits tally row.1) (first_over limits (with_row tally row.1) rows)

-- the rows are counted, or one of them passes a limit
abbrev pub Tallied : Limits → Tally → List (Key × Values) → Result Tally (Limit × ℕ) → Type 0
Tallied limits tally rows (Ok new) = (first_over limits tally rows ≡ None) × (new ≡ counted tally rows)
Tallied limits tally rows (Err passed) = first_over limits tally rows ≡ Some passed
