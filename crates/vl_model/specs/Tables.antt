-- The rows that each shard holds, and how a row is read.
use Rattle.std.specs.Prelude.{◌≢◌, ℕ, List, [], slice_index_or, Contains}
use Rattle.std.specs.List.{AllPairs}
use Rattle.vl_values.specs.declared.key.Key.{Key}
use Rattle.vl_values.specs.declared.value.Value.{Value}
use Rattle.vl_values.specs.declared.value.Value.TheVariants.{Null, Int, Uint, Bytes}

-- a row of a table, with its key
abbrev pub Pair : Type 0
Pair = Key × List Value

-- for each shard, in order, the rows that it holds
abbrev pub Tables : Type 0
Tables = List (List Pair)

abbrev pub rows_on : Tables → ℕ → List Pair
rows_on tables shard = slice_index_or tables shard []

-- no shard holds two rows with one key
abbrev pub HasKeysOnce : Tables → Type 0
HasKeysOnce tables = (shard : ℕ) → AllPairs (λ one other. one.0 ≢ other.0) (rows_on tables shard)

-- the shard holds this row
abbrev pub Stands : Tables → ℕ → Pair → Type 0
Stands tables shard pair = Contains (rows_on tables shard) pair

abbrev pub table_of : Pair → ℕ
table_of pair = pair.0.table

-- the value in a column, counted from 0
abbrev pub column : Pair → ℕ → Value
column pair n = slice_index_or pair.1 n Null

-- a number of an unsigned column
abbrev pub unsigned : Value → ℕ
unsigned Null = 0
unsigned (Int n) = 0
unsigned (Uint n) = n
unsigned (Bytes s) = 0
