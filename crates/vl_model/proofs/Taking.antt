-- The INSERT of two values is the one statement that has them.
use Rattle.std.proofs.Common.{◌≡◌, ℕ, Bool, true, false, ◌&&◌, cond, List, [], ◌∷◌, codes, refl, ◌∙◌, ap, Option, Some, None}
use Rattle.std.specs.Str.{bytes_eq}
use Rattle.std.proofs.lemmas.Slice.Eq.{bytes_eq-Decides}
use Rattle.vl_values.specs.declared.value.Value.{Value}
use Rattle.vl_values.specs.declared.value.Value.TheVariants.{Null, Uint}
use Rattle.vl_sql.specs.declared.table.TableName.{TableName}
use Rattle.vl_sql.specs.declared.stmt.Stmt.{Stmt}
use Rattle.vl_sql.specs.declared.stmt.Stmt.TheVariants.{Insert}
use Rattle.vl_model.specs.Taken.{is_plain, is_t1, are_id_u, numbers_in, numbers_of, insert_of, insert_into_t1}

-- the INSERT of two values has them
pub has_its_values : (id u : ℕ) → insert_of (insert_into_t1 id u) ≡ Some (id, u)
has_its_values id u = refl

-- ---- no other statement does

pair_is : (x y : ℕ × ℕ) → Some x ≡ Some y → x ≡ y
pair_is x y h = cc

both : (a b : Bool) → (a && b) ≡ true → (a ≡ true) × (b ≡ true)
both true b h = (refl, h)
both false b h = absurd cc

where_taken : (b : Bool) (found : Option (ℕ × ℕ)) (values : ℕ × ℕ) → cond b found None ≡ Some values → (b ≡ true) × (found ≡ Some values)
where_taken true found values h = (refl, h)
where_taken false found values h = absurd cc

plain_name : (keyspace : Option (List ℕ)) (name : List ℕ) → is_plain keyspace name ≡ true → (keyspace ≡ None) × (name ≡ codes "t1")
plain_name None name h = (refl, (bytes_eq-Decides name (codes "t1")).0 h)
plain_name (Some keyspace) name h = absurd cc

table_is : (table : TableName) → is_t1 table ≡ true → table ≡ record { keyspace = None; name = codes "t1" }
table_is table h =
    let parts : (table.keyspace ≡ None) × (table.name ≡ codes "t1") = plain_name table.keyspace table.name h in
    let plain : List ℕ → TableName = λ name. record { keyspace = None; name = name } in
    let under : Option (List ℕ) → TableName = λ keyspace. record { keyspace = keyspace; name = table.name } in
    ap under parts.0 ∙ ap plain parts.1

names_are : (names : List (List ℕ)) → are_id_u names ≡ true → names ≡ codes "id" ∷ codes "u" ∷ []
names_are [] h = absurd cc
names_are (first ∷ []) h = absurd cc
names_are (first ∷ second ∷ []) h =
    let parts : (bytes_eq first (codes "id") ≡ true) × (bytes_eq second (codes "u") ≡ true) = both (bytes_eq first (codes "id")) (bytes_eq second (codes "u")) h in
    ap (λ (name : List ℕ). name ∷ second ∷ []) ((bytes_eq-Decides first (codes "id")).0 parts.0) ∙ ap (λ (name : List ℕ). codes "id" ∷ name ∷ []) ((bytes_eq-Decides second (codes "u")).0 parts.1)
names_are (first ∷ second ∷ third ∷ others) h = absurd cc

row_is : (values : List Value) (id u : ℕ) → numbers_in values ≡ Some (id, u) → values ≡ Uint id ∷ Uint u ∷ []
row_is (Uint a ∷ Uint b ∷ []) id u h = ap (λ (p : ℕ × ℕ). Uint p.0 ∷ Uint p.1 ∷ []) (pair_is (a, b) (id, u) h)
row_is values id u h = absurd cc

rows_are : (rows : List (List Value)) (id u : ℕ) → numbers_of rows ≡ Some (id, u) → rows ≡ (Uint id ∷ Uint u ∷ []) ∷ []
rows_are (row ∷ []) id u h = ap (λ (r : List Value). r ∷ []) (row_is row id u h)
rows_are rows id u h = absurd cc

insert_is : (table : TableName) (names : List (List ℕ)) (rows : List (List Value)) (id u : ℕ) → insert_of (Insert table names rows) ≡ Some (id, u) → Insert table names rows ≡ insert_into_t1 id u
insert_is table names rows id u h =
    let found : ((is_t1 table && are_id_u names) ≡ true) × (numbers_of rows ≡ Some (id, u)) =
    where_taken (is_t1 table && are_id_u names) (numbers_of rows) (id, u) h in
    let named : (is_t1 table ≡ true) × (are_id_u names ≡ true) = both (is_t1 table) (are_id_u names) found.0 in
    ap (λ (t : TableName). Insert t names rows) (table_is table named.0)
    ∙ ap (λ (ns : List (List ℕ)). Insert (record { keyspace = None; name = codes "t1" }) ns rows) (names_are names named.1)
    ∙ ap (λ (rs : List (List Value)). Insert (record { keyspace = None; name = codes "t1" }) (codes "id" ∷ codes "u" ∷ []) rs) (rows_are rows id u found.1)

pub has_values_alone : (stmt : Stmt) (id u : ℕ) → insert_of stmt ≡ Some (id, u) → stmt ≡ insert_into_t1 id u
has_values_alone (Insert table names rows) id u h = insert_is table names rows id u h
has_values_alone stmt id u h = absurd cc

-- ---- worked: what isn't taken

pub with_a_keyspace : insert_of (Insert (record { keyspace = Some (codes "commerce"); name = codes "t1" }) (codes "id" ∷ codes "u" ∷ []) ((Uint 1 ∷ Uint 7 ∷ []) ∷ [])) ≡ None
with_a_keyspace = refl

pub another_table : insert_of (Insert (record { keyspace = None; name = codes "t2" }) (codes "id" ∷ codes "u" ∷ []) ((Uint 1 ∷ Uint 7 ∷ []) ∷ [])) ≡ None
another_table = refl

pub another_order : insert_of (Insert (record { keyspace = None; name = codes "t1" }) (codes "u" ∷ codes "id" ∷ []) ((Uint 7 ∷ Uint 1 ∷ []) ∷ [])) ≡ None
another_order = refl

pub with_null : insert_of (Insert (record { keyspace = None; name = codes "t1" }) (codes "id" ∷ codes "u" ∷ []) ((Uint 1 ∷ Null ∷ []) ∷ [])) ≡ None
with_null = refl

pub two_rows : insert_of (Insert (record { keyspace = None; name = codes "t1" }) (codes "id" ∷ codes "u" ∷ []) ((Uint 1 ∷ Uint 7 ∷ []) ∷ (Uint 2 ∷ Uint 8 ∷ []) ∷ [])) ≡ None
two_rows = refl
