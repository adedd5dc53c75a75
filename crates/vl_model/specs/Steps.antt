-- ONE table t1(id, u) with the keys id and u, both unique, as a client sees it.
use Rattle.std.specs.Prelude.{◌≡◌, ℕ, true, false, List, [], ◌∷◌, ◌++◌, codes, filter, Contains, Some, ◌==◌}
use Rattle.std.specs.List.{flat_map}
use Rattle.std.specs.Fmt.{decimal}
use Rattle.vl_values.specs.declared.cause.Cause.TheVariants.{Duplicate, OutOfMemory}
use Rattle.vl_values.specs.declared.reply.Reply.{Reply}
use Rattle.vl_values.specs.Reply.{refusal, done}
use Rattle.vl_values.specs.declared.value.Value.TheVariants.{Uint}
use Rattle.vl_sql.specs.declared.stmt.Stmt.{Stmt}
use Rattle.vl_model.specs.Taken.{insert_of}
use Rattle.vl_model.specs.Tables.{Tables, Pair, table_of, column}
use Rattle.vl_model.specs.CatalogA.{t1, numeric, shard_of, shard_name}

-- the rows of the table with their keys, in no order that matters
abbrev pub Rows : Type 0
Rows = List Pair

-- the rows of t1 among those that the shards hold
abbrev pub table_rows : Tables → Rows
table_rows = flat_map (filter (λ pair. table_of pair == t1))

-- the row that has these two values
abbrev pub t1_row : ℕ → ℕ → Pair
t1_row id u = (record { table = t1; pk = Uint id ∷ [] }, Uint id ∷ Uint u ∷ [])

-- the refusal of a value that this key has already, naming the row that has it and its shard
abbrev pub duplicate : ℕ → List ℕ → ℕ → Reply
duplicate value key id = refusal (Duplicate (decimal value) key (decimal id) (shard_name (shard_of (numeric id)))) false

-- no row has this u, no row has this id
abbrev pub IsFreeU : Rows → ℕ → Type 0
IsFreeU rows u = (row : Pair) → Contains rows row → column row 1 ≡ Uint u → ⊥

abbrev pub IsFreeId : Rows → ℕ → Type 0
IsFreeId rows id = (row : Pair) → Contains rows row → column row 0 ≡ Uint id → ⊥

-- new is old with this row added
abbrev pub Gains : Rows → Pair → Rows → Type 0
Gains old row new = (front : Rows) × (back : Rows) × (old ≡ front ++ back) × (new ≡ front ++ row ∷ back)

-- an INSERT is done where neither value stands in the table; the key of u is looked at before the
-- primary key; want of memory alone is free, and changes nothing
pub data Inserts (old : Rows) (id u : ℕ) (new : Rows) : Reply → Type 0 where
  Done : IsFreeU old u → IsFreeId old id → Gains old (t1_row id u) new → Inserts old id u new (done 1 false true)
  HasU : (other : ℕ) → Contains old (t1_row other u) → new ≡ old → Inserts old id u new (duplicate u (codes "t1_u") other)
  HasId : (other : ℕ) → IsFreeU old u → Contains old (t1_row id other) → new ≡ old → Inserts old id u new (duplicate id (codes "PRIMARY") id)
  NoRoom : new ≡ old → Inserts old id u new (refusal OutOfMemory false)

-- the statement's step from old to new, with its reply: it is an INSERT that is taken
abbrev pub Step : Rows → Stmt → Reply → Rows → Type 0
Step old stmt reply new = (id : ℕ) × (u : ℕ) × (insert_of stmt ≡ Some (id, u)) × Inserts old id u new reply
