-- Reading statements from the front on, rule by rule, as the program does. Each limit is `k` above its own.
use Rattle.std.specs.Prelude.{ℕ, ◌+◌, Bool, true, false, if◌then◌else◌, is_some, List, [], ◌∷◌, length, map, Option, Some, None, Result, Ok, Err, codes}
use Rattle.vl_values.specs.declared.value.Value.{Value}
use Rattle.vl_token.specs.Tok.{Tok}
use Rattle.vl_grammar.specs.Terminal.{is_key, is_mark, is_variable, key, mark, variable, name_of, literal_of, count_of, digits, bit_of, charset_of, new_name}
use Rattle.vl_grammar.specs.Reading.{Read, ◌>>=◌, one, starts, behind, either_way, items}
use Rattle.vl_sql.specs.declared.verb.Verb.{Verb}
use Rattle.vl_sql.specs.declared.verb.Verb.TheVariants as verbs
use Rattle.vl_sql.specs.declared.table.TableName.{TableName}
use Rattle.vl_sql.specs.declared.test.Test.{Test}
use Rattle.vl_sql.specs.declared.test.Test.TheVariants.{Equals, Among}
use Rattle.vl_sql.specs.declared.order.Order.{Order}
use Rattle.vl_sql.specs.declared.order.Direction.{Direction}
use Rattle.vl_sql.specs.declared.order.Direction.TheVariants.{Ascending, Descending}
use Rattle.vl_sql.specs.declared.assignment.Assignment.{Assignment}
use Rattle.vl_sql.specs.declared.what.What.{What}
use Rattle.vl_sql.specs.declared.what.What.TheVariants as whats
use Rattle.vl_sql.specs.declared.stmt.Stmt.{Stmt}
use Rattle.vl_sql.specs.declared.stmt.Stmt.TheVariants.{Insert, Select, Update, Delete, Begin, StartTransaction, Commit, Rollback, SetAutocommit, SetNames, Use, ShowTables, ShowDatabases, ShowWarnings, SelectVersionComment, SelectDatabase}

-- ---- lists

abbrev pub is_comma : Tok → Bool
is_comma t = is_mark 44 t

abbrev pub is_and : Tok → Bool
is_and t = is_key (codes "AND") t

-- as many as there are: each takes a token at least
unfoldable pub any_number : {A : Type 0} → (Tok → Bool) → (List A → List Tok → Read A) → List Tok → Read (List A)
any_number sep item ts = items sep item (length ts) [] ts

-- a member of a list in which no name stands twice: a new name, and what stands behind it
abbrev pub named_at : {A : Type 0} → (List ℕ → List Tok → Read A) → List (List ℕ) → List Tok → Read A
named_at behind_name names ts = do
  n ← one (new_name names) ts
  behind_name n.0 n.1

-- ---- parts

abbrev pub name_at : List Tok → Read (List ℕ)
name_at ts = one name_of ts

abbrev pub literal_at : List Tok → Read Value
literal_at ts = one literal_of ts

unfoldable pub table_at : List Tok → Read TableName
table_at ts = do
  n ← name_at ts
  if starts (is_mark 46) n.1
      then (do
        d ← one (mark 46) n.1
        m ← name_at d.1
        Ok (record { keyspace = Some n.0; name = m.0 }, m.1))
      else Ok (record { keyspace = None; name = n.0 }, n.1)

unfoldable pub columns_at : List Tok → Read (List (List ℕ))
columns_at ts = do
  open_ ← one (mark 40) ts
  ns ← any_number is_comma (λ before rest. named_at (λ n behind. Ok (n, behind)) (map (λ n. n) before) rest) open_.1
  shut ← one (mark 41) ns.1
  Ok (ns.0, shut.1)

unfoldable pub row_at : List Tok → Read (List Value)
row_at ts = do
  open_ ← one (mark 40) ts
  vs ← any_number is_comma (λ _ rest. literal_at rest) open_.1
  shut ← one (mark 41) vs.1
  Ok (vs.0, shut.1)

unfoldable pub rows_at : ℕ → List Tok → Read (List (List Value))
rows_at k ts = items is_comma (λ _ rest. row_at rest) (1000 + k) [] ts

unfoldable pub test_at : ℕ → List Tok → Read Test
test_at k ts = do
  n ← name_at ts
  if starts (is_key (codes "IN")) n.1
      then (do
        in_ ← one (key (codes "IN")) n.1
        open_ ← one (mark 40) in_.1
        vs ← items is_comma (λ _ rest. literal_at rest) (1000 + k) [] open_.1
        shut ← one (mark 41) vs.1
        Ok (Among n.0 vs.0, shut.1))
      else (do
        is ← one (mark 61) n.1
        v ← literal_at is.1
        Ok (Equals n.0 v.0, v.1))

unfoldable pub where_at : ℕ → List Tok → Read (List Test)
where_at k ts =
    if starts (is_key (codes "WHERE")) ts
    then (do
      w ← one (key (codes "WHERE")) ts
      any_number is_and (λ _ rest. test_at k rest) w.1)
    else Ok ([], ts)

-- behind a column's name
unfoldable pub assigned_at : List ℕ → List Tok → Read Assignment
assigned_at n ts = do
  is ← one (mark 61) ts
  v ← literal_at is.1
  Ok (record { column = n; value = v.0 }, v.1)

abbrev pub assignment_at : List Assignment → List Tok → Read Assignment
assignment_at before ts = named_at assigned_at (map (λ a. a.column) before) ts

abbrev pub direction_of : Tok → Option Direction
direction_of t = if is_key (codes "ASC") t then Some Ascending else if is_key (codes "DESC") t then Some Descending else None

abbrev pub is_direction : Tok → Bool
is_direction t = is_some (direction_of t)

unfoldable pub directed_at : List ℕ → List Tok → Read Order
directed_at n ts =
    if starts is_direction ts
    then (do
      d ← one direction_of ts
      Ok (record { column = n; direction = Some d.0 }, d.1))
    else Ok (record { column = n; direction = None }, ts)

unfoldable pub order_at : List Tok → Read Order
order_at ts = do
  n ← name_at ts
  directed_at n.0 n.1

unfoldable pub order_by_at : ℕ → List Tok → Read (List Order)
order_by_at k ts =
    if starts (is_key (codes "ORDER")) ts
    then (do
      o ← one (key (codes "ORDER")) ts
      b ← one (key (codes "BY")) o.1
      items is_comma (λ _ rest. order_at rest) (8 + k) [] b.1)
    else Ok ([], ts)

unfoldable pub limit_at : List Tok → Read (Option ℕ)
limit_at ts =
    if starts (is_key (codes "LIMIT")) ts
    then (do
      l ← one (key (codes "LIMIT")) ts
      n ← one count_of l.1
      Ok (Some n.0, n.1))
    else Ok (None, ts)

unfoldable pub for_update_at : List Tok → Read Bool
for_update_at ts =
    if starts (is_key (codes "FOR")) ts
    then (do
      f ← one (key (codes "FOR")) ts
      u ← one (key (codes "UPDATE")) f.1
      Ok (true, u.1))
    else Ok (false, ts)

-- ---- statements, behind their first keyword

abbrev pub verb_of : Tok → Option Verb
verb_of t =
    if is_key (codes "INSERT") t then Some verbs.Insert
    else if is_key (codes "SELECT") t then Some verbs.Select
    else if is_key (codes "UPDATE") t then Some verbs.Update
    else if is_key (codes "DELETE") t then Some verbs.Delete
    else if is_key (codes "BEGIN") t then Some verbs.Begin
    else if is_key (codes "START") t then Some verbs.Start
    else if is_key (codes "COMMIT") t then Some verbs.Commit
    else if is_key (codes "ROLLBACK") t then Some verbs.Rollback
    else if is_key (codes "SET") t then Some verbs.Set
    else if is_key (codes "USE") t then Some verbs.Use
    else if is_key (codes "SHOW") t then Some verbs.Show
    else None

unfoldable pub insert_at : ℕ → List Tok → Read Stmt
insert_at k ts = do
  i ← one (key (codes "INTO")) ts
  t ← table_at i.1
  ns ← columns_at t.1
  v ← one (key (codes "VALUES")) ns.1
  rs ← rows_at k v.1
  Ok (Insert t.0 ns.0 rs.0, rs.1)

unfoldable pub from_at : What → ℕ → List Tok → Read Stmt
from_at w k ts = do
  f ← one (key (codes "FROM")) ts
  t ← table_at f.1
  cs ← where_at k t.1
  os ← order_by_at k cs.1
  n ← limit_at os.1
  lock ← for_update_at n.1
  Ok (Select w t.0 cs.0 os.0 n.0 lock.0, lock.1)

unfoldable pub version_comment_at : List Tok → Read Stmt
version_comment_at ts = do
  v ← one (variable (codes "version_comment")) ts
  l ← one (key (codes "LIMIT")) v.1
  n ← one (digits (codes "1")) l.1
  Ok (SelectVersionComment, n.1)

-- behind DATABASE (
unfoldable pub database_at : List Tok → Read Stmt
database_at ts = do
  shut ← one (mark 41) ts
  Ok (SelectDatabase, shut.1)

-- behind COUNT (
unfoldable pub count_at : ℕ → List Tok → Read Stmt
count_at k ts = do
  star ← one (mark 42) ts
  shut ← one (mark 41) star.1
  from_at whats.Count k shut.1

unfoldable pub all_at : ℕ → List Tok → Read Stmt
all_at k ts = do
  star ← one (mark 42) ts
  from_at whats.All k star.1

unfoldable pub some_at : ℕ → List Tok → Read Stmt
some_at k ts = do
  ns ← items is_comma (λ _ rest. name_at rest) (1000 + k) [] ts
  from_at (whats.Columns ns.0) k ns.1

unfoldable pub select_at : ℕ → List Tok → Read Stmt
select_at k ts =
    if starts (is_variable (codes "version_comment")) ts then version_comment_at ts
    else if starts (is_mark 42) ts then all_at k ts
    else either_way (behind (is_key (codes "COUNT")) (is_mark 40) ts) (λ rest. count_at k rest)
    (either_way (behind (is_key (codes "DATABASE")) (is_mark 40) ts) (λ rest. database_at rest)
    (some_at k ts))

unfoldable pub update_at : ℕ → List Tok → Read Stmt
update_at k ts = do
  t ← table_at ts
  s ← one (key (codes "SET")) t.1
  ss ← any_number is_comma assignment_at s.1
  cs ← where_at k ss.1
  Ok (Update t.0 ss.0 cs.0, cs.1)

unfoldable pub delete_at : ℕ → List Tok → Read Stmt
delete_at k ts = do
  f ← one (key (codes "FROM")) ts
  t ← table_at f.1
  cs ← where_at k t.1
  Ok (Delete t.0 cs.0, cs.1)

unfoldable pub start_at : List Tok → Read Stmt
start_at ts = do
  t ← one (key (codes "TRANSACTION")) ts
  Ok (StartTransaction, t.1)

unfoldable pub autocommit_at : List Tok → Read Stmt
autocommit_at ts = do
  a ← one (key (codes "AUTOCOMMIT")) ts
  is ← one (mark 61) a.1
  on ← one bit_of is.1
  Ok (SetAutocommit on.0, on.1)

unfoldable pub names_at : List Tok → Read Stmt
names_at ts = do
  n ← one (key (codes "NAMES")) ts
  w ← one charset_of n.1
  Ok (SetNames w.0, w.1)

unfoldable pub set_at : List Tok → Read Stmt
set_at ts = if starts (is_key (codes "AUTOCOMMIT")) ts then autocommit_at ts else names_at ts

unfoldable pub use_at : List Tok → Read Stmt
use_at ts = do
  n ← name_at ts
  Ok (Use n.0, n.1)

abbrev pub shown : Tok → Option Stmt
shown t =
    if is_key (codes "TABLES") t then Some ShowTables
    else if is_key (codes "DATABASES") t then Some ShowDatabases
    else if is_key (codes "WARNINGS") t then Some ShowWarnings
    else None

abbrev pub body_at : Verb → ℕ → List Tok → Read Stmt
body_at verbs.Insert k ts = insert_at k ts
body_at verbs.Select k ts = select_at k ts
body_at verbs.Update k ts = update_at k ts
body_at verbs.Delete k ts = delete_at k ts
body_at verbs.Begin k ts = Ok (Begin, ts)
body_at verbs.Start k ts = start_at ts
body_at verbs.Commit k ts = Ok (Commit, ts)
body_at verbs.Rollback k ts = Ok (Rollback, ts)
body_at verbs.Set k ts = set_at ts
body_at verbs.Use k ts = use_at ts
body_at verbs.Show k ts = one shown ts

unfoldable pub statement_at : ℕ → List Tok → Read Stmt
statement_at k ts = do
  v ← one verb_of ts
  body_at v.0 k v.1

-- nothing, or a `;` and nothing
abbrev pub end_at : List Tok → Result (Unit {0}) ℕ
end_at [] = Ok tt
end_at (t ∷ []) = if is_mark 59 t then Ok tt else Err 1
end_at (t ∷ u ∷ ts) = if is_mark 59 t then Err (length (u ∷ ts)) else Err (length (t ∷ u ∷ ts))

unfoldable pub whole_at : ℕ → List Tok → Result Stmt ℕ
whole_at k ts = do
  s ← statement_at k ts
  e ← end_at s.1
  Ok s.0
