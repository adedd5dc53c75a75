-- Worked rows of the definitions.
use Rattle.std.proofs.Common.{◌≡◌, ◌-◌, ◌^◌, true, false, ℕ, negsuc, List, [], ◌∷◌, codes, refl, arith, ◌++◌, Contains}
use Rattle.std.specs.Fmt.{digits}
use Rattle.vl_values.specs.declared.cause.Cause.TheVariants.{OutOfMemory}
use Rattle.vl_values.specs.declared.col_type.ColType.{ColType}
use Rattle.vl_values.specs.declared.col_type.ColType.TheVariants.{BigInt, BigUint, VarChar}
use Rattle.vl_values.specs.declared.reply.Reply.TheVariants.{Ok, Rows}
use Rattle.vl_values.specs.declared.reply_column.ReplyColumn.{ReplyColumn}
use Rattle.vl_values.specs.declared.value.Value.TheVariants.{Null, Int, Uint, Bytes}
use Rattle.vl_values.specs.Reply.{refusal, done}
use Rattle.vl_model.specs.CatalogA.{numeric, shard_of}
use Rattle.vl_model.specs.ReplyLine.{reply_line}
use Rattle.vl_model.specs.ScriptLine.{value_behind}
use Rattle.vl_model.specs.Steps.{t1_row, duplicate, Inserts}
use Rattle.vl_model.specs.Steps.Inserts.{Done, HasU}
use Rattle.vl_model.specs.Tables.{Pair}

-- ---- digits of a script's line

pub digits_907 : value_behind 0 (codes "907") ≡ 907
digits_907 = refl

pub zeros_before : value_behind 0 (codes "007") ≡ 7
zeros_before = refl

pub largest : value_behind 0 (codes "18446744073709551615") ≡ 2 ^ 64 - 1
largest = refl

-- ---- the shards of keyspace ids: the halves meet at 2 ^ 63

pub first_id : shard_of (numeric 1) ≡ 0
first_id = refl

pub last_of_the_low_half : shard_of (numeric (2 ^ 63 - 1)) ≡ 0
last_of_the_low_half = refl

pub first_of_the_high_half : shard_of (numeric (2 ^ 63)) ≡ 1
first_of_the_high_half = refl

pub last_id : shard_of (numeric (2 ^ 64 - 1)) ≡ 1
last_id = refl

-- ---- the lines of replies

pub done_line : reply_line (codes "s1") (done 1 false true) ≡ codes "s1: OK 1" ++ 10 ∷ []
unfolding digits
done_line = refl

pub duplicate_line : reply_line (codes "s1") (duplicate 7 (codes "t1_u") 1) ≡ codes "s1: ERR 1062 23000 Duplicate entry '7' for key 't1_u': row (1) on commerce/-80" ++ 10 ∷ []
unfolding digits
duplicate_line = refl

pub no_memory_line : reply_line (codes "s1") (refusal OutOfMemory true) ≡ codes "s1: ERR 1037 HY001 Out of memory TX" ++ 10 ∷ []
unfolding digits
no_memory_line = refl

pub warned_line : reply_line (codes "s1") (Ok 2 3 4 true false) ≡ codes "s1: OK 2 WARN 4 TX" ++ 10 ∷ []
unfolding digits
warned_line = refl

-- a column of no table
abbrev pub column : List ℕ → ColType → ℕ → ReplyColumn
column name ty flags = record { schema = []; table = []; name = name; ty = ty; flags = flags }

pub warnings_lines : reply_line (codes "s1")
    (Rows (column (codes "Level") (VarChar 255) 0 ∷ column (codes "Code") BigUint 33 ∷ column (codes "Message") (VarChar 255) 0 ∷ [])
    ((Bytes (codes "Warning") ∷ Uint 1105 ∷ Bytes (codes "Post commit failed: lost commerce/-80 (link)") ∷ []) ∷ []) false true)
    ≡ codes "s1: ROWS 1 (Level, Code, Message)" ++ (10 ∷ codes "s1| 'Warning', 1105, 'Post commit failed: lost commerce/-80 (link)'") ++ 10 ∷ []
unfolding digits
warnings_lines = refl

pub rows_lines : reply_line (codes "s1") (Rows (column (codes "a") BigInt 0 ∷ column (codes "b") (VarChar 4) 0 ∷ []) ((Int (negsuc 2) ∷ Null ∷ []) ∷ (Null ∷ Bytes (codes "a b") ∷ []) ∷ []) true false)
    ≡ codes "s1: ROWS 2 (a, b) TX" ++ (10 ∷ codes "s1| -3, NULL") ++ (10 ∷ codes "s1| NULL, 'a b'") ++ 10 ∷ []
unfolding digits
rows_lines = refl

pub no_rows_line : reply_line (codes "s2") (Rows (column (codes "id") BigUint 0 ∷ []) [] false true) ≡ codes "s2: ROWS 0 (id)" ++ 10 ∷ []
unfolding digits
no_rows_line = refl

-- ---- steps of the one table

none_stands : (row : Pair) → Contains [] row → ⊥
none_stands row (k, within, is) = omega arith

pub first_row : Inserts [] 1 7 (t1_row 1 7 ∷ []) (done 1 false true)
first_row = Done (λ row h has. none_stands row h) (λ row h has. none_stands row h) ([], [], refl, refl)

-- the value is told before the id
pub same_row_again : Inserts (t1_row 1 7 ∷ []) 1 7 (t1_row 1 7 ∷ []) (duplicate 7 (codes "t1_u") 1)
same_row_again = HasU 1 (0, omega arith, refl) refl

pub value_again : Inserts (t1_row 1 7 ∷ []) 2 7 (t1_row 1 7 ∷ []) (duplicate 7 (codes "t1_u") 1)
value_again = HasU 1 (0, omega arith, refl) refl
