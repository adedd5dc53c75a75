-- Which statements the core takes: the INSERT of one row of two unsigned numbers into t1(id, u).
use Rattle.std.specs.Prelude.{ℕ, Bool, false, ◌&&◌, List, [], ◌∷◌, codes, Option, Some, None, if◌then◌else◌, IsSome}
use Rattle.std.specs.Str.{bytes_eq}
use Rattle.vl_values.specs.declared.value.Value.{Value}
use Rattle.vl_values.specs.declared.value.Value.TheVariants.{Uint}
use Rattle.vl_sql.specs.declared.table.TableName.{TableName}
use Rattle.vl_sql.specs.declared.stmt.Stmt.{Stmt}
use Rattle.vl_sql.specs.declared.stmt.Stmt.TheVariants.{Insert}

-- the table's name, with no keyspace before it
abbrev pub is_plain : Option (List ℕ) → List ℕ → Bool
is_plain None name = bytes_eq name (codes "t1")
is_plain (Some keyspace) name = false

abbrev pub is_t1 : TableName → Bool
is_t1 table = is_plain table.keyspace table.name

-- id and u, in this order
abbrev pub are_id_u : List (List ℕ) → Bool
are_id_u (first ∷ second ∷ []) = bytes_eq first (codes "id") && bytes_eq second (codes "u")
are_id_u names = false

-- the two numbers of a row
abbrev pub numbers_in : List Value → Option (ℕ × ℕ)
numbers_in (Uint id ∷ Uint u ∷ []) = Some (id, u)
numbers_in values = None

-- and of the one row that there is
abbrev pub numbers_of : List (List Value) → Option (ℕ × ℕ)
numbers_of (row ∷ []) = numbers_in row
numbers_of rows = None

-- the values of id and u that `INSERT INTO t1 (id, u) VALUES (id, u)` has; none for every other statement
abbrev pub insert_of : Stmt → Option (ℕ × ℕ)
insert_of (Insert table names rows) = if is_t1 table && are_id_u names then numbers_of rows else None
insert_of stmt = None

-- the core takes the statement
abbrev pub IsTaken : Stmt → Type 0
IsTaken stmt = IsSome (insert_of stmt)

-- the one statement that has these two values
abbrev pub insert_into_t1 : ℕ → ℕ → Stmt
insert_into_t1 id u = Insert (record { keyspace = None; name = codes "t1" }) (codes "id" ∷ codes "u" ∷ []) ((Uint id ∷ Uint u ∷ []) ∷ [])
