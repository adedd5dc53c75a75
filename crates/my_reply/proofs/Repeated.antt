-- What is read again and again: what stands behind what was read already.
use Rattle.std.proofs.Common.{◌≡◌, ◌∙◌, ℕ, suc, ◌+◌, ◌-◌, ◌<◌, ◌≤◌, List, [], ◌∷◌, ◌++◌, Option, Ok, Err, refl, sym, ap, append_assoc, arith}
use Rattle.std.proofs.lemmas.List.{append-nil}
use Rattle.my_reply.specs.Reading.{Read, ◌>>=◌}
use Rattle.my_reply.specs.ResultSet.{next_number}
use Rattle.my_reply.specs.ResultSetReading.{value_at, values_at, column_packet_at, columns_at, said_at, rows_at, behind_row}
use Rattle.my_reply.specs.declared.said.Said.TheVariants.{Row, Eof}
use Rattle.my_reply.specs.declared.wire_column.WireColumn.{WireColumn}

-- a value of a row as it is read
abbrev pub Text : Type 0
Text = Option (List ℕ)

-- values behind others
abbrev pub with_values : List Text → Read (List Text) → Read (List Text)
with_values done (Ok (values, rest)) = Ok (done ++ values, rest)
with_values done (Err left) = Err left

-- the same of a list with something more
abbrev pub with_front : {A B : Type 0} → List A → Read (List A × B) → Read (List A × B)
with_front done (Ok ((more, b), rest)) = Ok ((done ++ more, b), rest)
with_front done (Err left) = Err left

-- ---- values

value_before : (done : List Text) (value : Text) (r : Read (List Text)) → with_values done (r >>= λ values. Ok (value ∷ values.0, values.1)) ≡ with_values (done ++ value ∷ []) r
value_before done value (Ok (values, rest)) = ap (λ (l : List Text). Ok (l, rest)) (sym (append_assoc done (value ∷ []) values))
value_before done value (Err left) = refl

values_next : (n : ℕ) (done : List Text) (rest more : List ℕ) (value : Text) → value_at rest ≡ Ok (value, more) → with_values done (values_at (suc n) rest) ≡ with_values (done ++ value ∷ []) (values_at n more)
values_next n done rest more value is = rw is (value_before done value (values_at n more))

values_fault : (n left : ℕ) (done : List Text) (rest : List ℕ) → value_at rest ≡ Err left → with_values done (values_at (suc n) rest) ≡ Err left
values_fault n left done rest is = rw is refl

pub values_first : (r : Read (List Text)) → with_values [] r ≡ r
values_first (Ok (values, rest)) = refl
values_first (Err left) = refl

pub values_last : (done : List Text) (rest : List ℕ) → with_values done (values_at 0 rest) ≡ Ok (done, rest)
values_last done rest = ap (λ (l : List Text). Ok (l, rest)) (append-nil done)

-- ---- columns

column_before : (done : List WireColumn) (column : WireColumn) (r : Read (List WireColumn × ℕ)) → with_front done (r >>= λ columns. Ok ((column ∷ columns.0.0, columns.0.1), columns.1)) ≡ with_front (done ++ column ∷ []) r
column_before done column (Ok ((columns, due), rest)) = ap (λ (l : List WireColumn). Ok ((l, due), rest)) (sym (append_assoc done (column ∷ []) columns))
column_before done column (Err left) = refl

columns_next : (n due : ℕ) (done : List WireColumn) (rest more : List ℕ) (column : WireColumn) → column_packet_at due rest ≡ Ok (column, more)
    → with_front done (columns_at (suc n) due rest) ≡ with_front (done ++ column ∷ []) (columns_at n (next_number due) more)
unfolding columns_at
columns_next n due done rest more column is = rw is (column_before done column (columns_at n (next_number due) more))

columns_fault : (n due left : ℕ) (done : List WireColumn) (rest : List ℕ) → column_packet_at due rest ≡ Err left → with_front done (columns_at (suc n) due rest) ≡ Err left
unfolding columns_at
columns_fault n due left done rest is = rw is refl

columns_last : (due : ℕ) (done : List WireColumn) (rest : List ℕ) → with_front done (columns_at 0 due rest) ≡ Ok ((done, due), rest)
unfolding columns_at
columns_last due done rest = ap (λ (l : List WireColumn). Ok ((l, due), rest)) (append-nil done)

pub first_of : {A B : Type 0} (r : Read (List A × B)) → with_front [] r ≡ r
first_of (Ok ((more, b), rest)) = refl
first_of (Err left) = refl

-- ---- rows

abbrev pub Rows : Type 0
Rows = List (List Text)

row_before : (done : Rows) (row : List Text) (r : Read (Rows × (ℕ × ℕ))) → with_front done (behind_row row r) ≡ with_front (done ++ row ∷ []) r
row_before done row (Ok ((rows, eof), rest)) = ap (λ (l : Rows). Ok ((l, eof), rest)) (sym (append_assoc done (row ∷ []) rows))
row_before done row (Err left) = refl

rows_next : (n count due : ℕ) (done : Rows) (rest more : List ℕ) (row : List Text) → said_at count due rest ≡ Ok (Row row, more)
    → with_front done (rows_at (suc n) count due rest) ≡ with_front (done ++ row ∷ []) (rows_at n count (next_number due) more)
unfolding rows_at
rows_next n count due done rest more row is = rw is (row_before done row (rows_at n count (next_number due) more))

rows_end : (n count due status warnings : ℕ) (done : Rows) (rest more : List ℕ) → said_at count due rest ≡ Ok (Eof status warnings, more)
    → with_front done (rows_at (suc n) count due rest) ≡ Ok ((done, (status, warnings)), more)
unfolding rows_at
rows_end n count due status warnings done rest more is = rw is (ap (λ (l : Rows). Ok ((l, (status, warnings)), more)) (append-nil done))

rows_fault : (n count due left : ℕ) (done : Rows) (rest : List ℕ) → said_at count due rest ≡ Err left → with_front done (rows_at (suc n) count due rest) ≡ Err left
unfolding rows_at
rows_fault n count due left done rest is = rw is refl

rows_out : (count due : ℕ) (done : Rows) (rest : List ℕ) → with_front done (rows_at 0 count due rest) ≡ Err 0
unfolding rows_at
rows_out count due done rest = refl

-- one fewer is left
one_less : (count n : ℕ) → n < count → count - n ≡ suc (count - (n + 1))
one_less count n lt = omega arith

over : (count n : ℕ) → count ≤ n → count - n ≡ 0
over count n le = omega arith

-- ---- the turns of the loops, where the whole is what the first call reads

pub values_kept : (count n : ℕ) (done now : List Text) (rest more : List ℕ) (value : Text) (whole : Read (List Text)) → n < count → value_at rest ≡ Ok (value, more) → now ≡ done ++ value ∷ []
    → with_values done (values_at (count - n) rest) ≡ whole → with_values now (values_at (count - (n + 1)) more) ≡ whole
values_kept count n done now rest more value whole lt is pushed so_far =
    ap (λ (l : List Text). with_values l (values_at (count - (n + 1)) more)) pushed
    ∙ sym (values_next (count - (n + 1)) done rest more value is)
    ∙ sym (ap (λ (k : ℕ). with_values done (values_at k rest)) (one_less count n lt))
    ∙ so_far

pub values_stop : (count n left : ℕ) (done : List Text) (rest : List ℕ) (whole : Read (List Text)) → n < count → value_at rest ≡ Err left
    → with_values done (values_at (count - n) rest) ≡ whole → whole ≡ Err left
values_stop count n left done rest whole lt is so_far =
    sym so_far ∙ ap (λ (k : ℕ). with_values done (values_at k rest)) (one_less count n lt) ∙ values_fault (count - (n + 1)) left done rest is

pub columns_kept : (count n due next : ℕ) (done now : List WireColumn) (rest more : List ℕ) (column : WireColumn) (whole : Read (List WireColumn × ℕ)) → n < count → column_packet_at due rest ≡ Ok (column, more)
    → now ≡ done ++ column ∷ [] → next ≡ next_number due → with_front done (columns_at (count - n) due rest) ≡ whole → with_front now (columns_at (count - (n + 1)) next more) ≡ whole
columns_kept count n due next done now rest more column whole lt is pushed numbered so_far =
    ap (λ (l : List WireColumn). with_front l (columns_at (count - (n + 1)) next more)) pushed
    ∙ ap (λ (k : ℕ). with_front (done ++ column ∷ []) (columns_at (count - (n + 1)) k more)) numbered
    ∙ sym (columns_next (count - (n + 1)) due done rest more column is)
    ∙ sym (ap (λ (k : ℕ). with_front done (columns_at k due rest)) (one_less count n lt))
    ∙ so_far

pub columns_stop : (count n due left : ℕ) (done : List WireColumn) (rest : List ℕ) (whole : Read (List WireColumn × ℕ)) → n < count → column_packet_at due rest ≡ Err left
    → with_front done (columns_at (count - n) due rest) ≡ whole → whole ≡ Err left
columns_stop count n due left done rest whole lt is so_far =
    sym so_far ∙ ap (λ (k : ℕ). with_front done (columns_at k due rest)) (one_less count n lt) ∙ columns_fault (count - (n + 1)) due left done rest is

pub columns_over : (count n due : ℕ) (done : List WireColumn) (rest : List ℕ) (whole : Read (List WireColumn × ℕ)) → count ≤ n
    → with_front done (columns_at (count - n) due rest) ≡ whole → whole ≡ Ok ((done, due), rest)
columns_over count n due done rest whole le so_far =
    sym so_far ∙ ap (λ (k : ℕ). with_front done (columns_at k due rest)) (over count n le) ∙ columns_last due done rest

pub rows_kept : (most n count due next : ℕ) (done now : Rows) (rest more : List ℕ) (row : List Text) (whole : Read (Rows × (ℕ × ℕ))) → n < most → said_at count due rest ≡ Ok (Row row, more)
    → now ≡ done ++ row ∷ [] → next ≡ next_number due → with_front done (rows_at (most - n) count due rest) ≡ whole → with_front now (rows_at (most - (n + 1)) count next more) ≡ whole
rows_kept most n count due next done now rest more row whole lt is pushed numbered so_far =
    ap (λ (l : Rows). with_front l (rows_at (most - (n + 1)) count next more)) pushed
    ∙ ap (λ (k : ℕ). with_front (done ++ row ∷ []) (rows_at (most - (n + 1)) count k more)) numbered
    ∙ sym (rows_next (most - (n + 1)) count due done rest more row is)
    ∙ sym (ap (λ (k : ℕ). with_front done (rows_at k count due rest)) (one_less most n lt))
    ∙ so_far

pub rows_done : (most n count due status warnings : ℕ) (done : Rows) (rest more : List ℕ) (whole : Read (Rows × (ℕ × ℕ))) → n < most → said_at count due rest ≡ Ok (Eof status warnings, more)
    → with_front done (rows_at (most - n) count due rest) ≡ whole → whole ≡ Ok ((done, (status, warnings)), more)
rows_done most n count due status warnings done rest more whole lt is so_far =
    sym so_far ∙ ap (λ (k : ℕ). with_front done (rows_at k count due rest)) (one_less most n lt) ∙ rows_end (most - (n + 1)) count due status warnings done rest more is

pub rows_stop : (most n count due left : ℕ) (done : Rows) (rest : List ℕ) (whole : Read (Rows × (ℕ × ℕ))) → n < most → said_at count due rest ≡ Err left
    → with_front done (rows_at (most - n) count due rest) ≡ whole → whole ≡ Err left
rows_stop most n count due left done rest whole lt is so_far =
    sym so_far ∙ ap (λ (k : ℕ). with_front done (rows_at k count due rest)) (one_less most n lt) ∙ rows_fault (most - (n + 1)) count due left done rest is

pub rows_over : (most n count due : ℕ) (done : Rows) (rest : List ℕ) (whole : Read (Rows × (ℕ × ℕ))) → most ≤ n
    → with_front done (rows_at (most - n) count due rest) ≡ whole → whole ≡ Err 0
rows_over most n count due done rest whole le so_far =
    sym so_far ∙ ap (λ (k : ℕ). with_front done (rows_at k count due rest)) (over most n le) ∙ rows_out count due done rest
