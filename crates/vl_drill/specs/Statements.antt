-- The statements that are asked. What is drawn stands in pairs: the value, and the state behind its draws.
use Rattle.std.specs.Prelude.{ℕ, ◌+◌, ◌*◌, ◌^◌, Bool, false, List, [], ◌∷◌, if◌then◌else◌, nat_lt, None, codes}
use Rattle.vl_values.specs.declared.value.Value.TheVariants.{Uint}
use Rattle.vl_sql.specs.declared.stmt.Stmt.{Stmt}
use Rattle.vl_sql.specs.declared.stmt.Stmt.TheVariants as stmts
use Rattle.vl_sql.specs.declared.table.TableName.{TableName}
use Rattle.vl_sql.specs.declared.test.Test.{Test}
use Rattle.vl_sql.specs.declared.test.Test.TheVariants.{Equals}
use Rattle.vl_sql.specs.declared.what.What.TheVariants.{Count}
use Rattle.vl_drill.specs.Generator.{drawn, following}

abbrev pub t1 : TableName
t1 = record { keyspace = None; name = codes "t1" }

-- a column of t1 is this number
abbrev pub is : List ℕ → ℕ → List Test
is column n = Equals column (Uint n) ∷ []

-- INSERT INTO t1(id,u) VALUES(id,u)
abbrev pub insert : ℕ → ℕ → Stmt
insert id u = stmts.Insert t1 (codes "id" ∷ codes "u" ∷ []) ((Uint id ∷ Uint u ∷ []) ∷ [])

-- DELETE FROM t1 WHERE id=id
abbrev pub delete : ℕ → Stmt
delete id = stmts.Delete t1 (is (codes "id") id)

-- UPDATE t1 SET u=u WHERE id=id
abbrev pub update : ℕ → ℕ → Stmt
update id u = stmts.Update t1 (record { column = codes "u"; value = Uint u } ∷ []) (is (codes "id") id)

-- SELECT COUNT(*) FROM t1 WHERE u=u
abbrev pub count : ℕ → Stmt
count u = stmts.Select Count t1 (is (codes "u") u) [] None false

-- an id on one of the two shards
abbrev pub id_drawn : ℕ → ℕ × ℕ
id_drawn state = (drawn 2 state * 2 ^ 63 + drawn 1000 (following state), following (following state))

abbrev pub u_drawn : ℕ → ℕ × ℕ
u_drawn state = (drawn 1000 state, following state)

-- the id is drawn first
abbrev pub with_both : (ℕ → ℕ → Stmt) → ℕ → Stmt × ℕ
with_both statement state =
    let id = id_drawn state in
    let u = u_drawn id.1 in
    (statement id.0 u.0, u.1)

abbrev pub with_id : (ℕ → Stmt) → ℕ → Stmt × ℕ
with_id statement state = let id = id_drawn state in (statement id.0, id.1)

abbrev pub with_u : (ℕ → Stmt) → ℕ → Stmt × ℕ
with_u statement state = let u = u_drawn state in (statement u.0, u.1)

-- a statement of a kind, and whether a transaction is open
abbrev pub of_kind : ℕ → Bool → ℕ → Stmt × ℕ
of_kind kind has_tx state =
    if nat_lt kind 5 then with_both insert state
    else if nat_lt kind 7 then with_id delete state
    else if nat_lt kind 8 then with_both update state
    else if nat_lt kind 9 then with_u count state
    else (if has_tx then stmts.Commit else stmts.Begin, state)

-- the kind is drawn first of all
abbrev pub asked : Bool → ℕ → Stmt × ℕ
asked has_tx state = of_kind (drawn 10 state) has_tx (following state)
