-- The line that a script prints for a reply; behind that of a result set, a line for each of its rows.
use Rattle.std.specs.Prelude.{ℕ, ◌+◌, Bool, true, false, cond, nat_eq, List, [], ◌∷◌, ◌++◌, codes, length, slice_get}
use Rattle.std.specs.Fmt.{decimal}
use Rattle.std.specs.List.{flat_map}
use Rattle.std.specs.Option.{option_map_or}
use Rattle.vl_values.specs.declared.col_type.ColType.{ColType}
use Rattle.vl_values.specs.declared.col_type.ColType.TheVariants.{VarBinary}
use Rattle.vl_values.specs.declared.reply.Reply.{Reply}
use Rattle.vl_values.specs.declared.reply.Reply.TheVariants.{Ok, Rows, Err}
use Rattle.vl_values.specs.declared.reply_column.ReplyColumn.{ReplyColumn}
use Rattle.vl_values.specs.declared.value.Value.{Value}
use Rattle.vl_values.specs.Cause.{cause_text, sql_state}
use Rattle.vl_text.specs.Listed.{before_value, listed}
use Rattle.vl_text.specs.Shown.{shown}

-- warnings are told where there are some
abbrev pub warnings_text : ℕ → List ℕ
warnings_text n = cond (nat_eq n 0) [] (codes " WARN " ++ decimal n)

-- an open transaction is told
abbrev pub tx_text : Bool → List ℕ
tx_text true = codes " TX"
tx_text false = []

-- the names of columns, of which the first has number n, with `, ` between each two
abbrev pub names_from : ℕ → List ReplyColumn → List ℕ
names_from n [] = []
names_from n (column ∷ rest) = before_value (codes ", ") n ++ (column.name ++ names_from (n + 1) rest)

abbrev pub names_text : List ReplyColumn → List ℕ
names_text columns = names_from 0 columns

-- the type of column n; what no column has is shown as bytes
abbrev pub type_in : List ReplyColumn → ℕ → ColType
type_in columns n = option_map_or (λ (column : ReplyColumn). column.ty) (slice_get columns n) (VarBinary 0)

-- a row's values, each by the type of its column, with `, ` between each two
abbrev pub row_text : List ReplyColumn → List Value → List ℕ
row_text columns row = listed (codes ", ") (λ n. shown (type_in columns n)) row

-- the session's name, a row and the end of the line
abbrev pub row_line : List ℕ → List ReplyColumn → List Value → List ℕ
row_line session columns row = session ++ (codes "| " ++ (row_text columns row ++ 10 ∷ []))

abbrev pub row_lines : List ℕ → List ReplyColumn → List (List Value) → List ℕ
row_lines session columns rows = flat_map (row_line session columns) rows

abbrev pub reply_text : Reply → List ℕ
reply_text (Ok affected found warnings tx auto) = codes "OK " ++ (decimal affected ++ (warnings_text warnings ++ tx_text tx))
reply_text (Rows columns rows tx auto) = codes "ROWS " ++ (decimal (length rows) ++ (codes " (" ++ (names_text columns ++ (codes ")" ++ tx_text tx))))
reply_text (Err code why tx) = codes "ERR " ++ (decimal code ++ (codes " " ++ (sql_state why ++ (codes " " ++ (cause_text why ++ tx_text tx)))))

-- what stands behind the line of a reply
abbrev pub behind_reply : List ℕ → Reply → List ℕ
behind_reply session (Ok affected found warnings tx auto) = []
behind_reply session (Rows columns rows tx auto) = row_lines session columns rows
behind_reply session (Err code why tx) = []

-- the session's name, the reply and the end of the line, and the lines of its rows
abbrev pub reply_line : List ℕ → Reply → List ℕ
reply_line session reply = session ++ (codes ": " ++ (reply_text reply ++ 10 ∷ behind_reply session reply))
