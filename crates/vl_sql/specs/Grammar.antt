-- The grammar of statements: the items that each is spelled with.
use Rattle.std.specs.Prelude.{◌≡◌, ◌⊎◌, ℕ, ◌+◌, ◌≤◌, Bool, true, false, List, [], ◌∷◌, ◌++◌, length, map, Option, Some, None, codes}
use Rattle.std.specs.List.{AllByRecursion, list_any}
use Rattle.std.specs.Str.{bytes_eq}
use Rattle.vl_values.specs.declared.value.Value.{Value}
use Rattle.vl_token.specs.Tok.{Tok}
use Rattle.vl_grammar.specs.Item.{Item, Spells, joined, in_brackets}
use Rattle.vl_grammar.specs.Lists.{HasSome, UpTo, AllInTurn}
use Rattle.vl_grammar.specs.Item.Item.{Key, Name, Literal, Sign, Count, Digits, Variable, Charset}
use Rattle.vl_sql.specs.declared.table.TableName.{TableName}
use Rattle.vl_sql.specs.declared.test.Test.{Test}
use Rattle.vl_sql.specs.declared.test.Test.TheVariants.{Equals, Among}
use Rattle.vl_sql.specs.declared.order.Order.{Order}
use Rattle.vl_sql.specs.declared.order.Direction.{Direction}
use Rattle.vl_sql.specs.declared.order.Direction.TheVariants.{Ascending, Descending}
use Rattle.vl_sql.specs.declared.assignment.Assignment.{Assignment}
use Rattle.vl_sql.specs.declared.what.What.{What}
use Rattle.vl_sql.specs.declared.what.What.TheVariants as whats
use Rattle.vl_sql.specs.declared.stmt.Stmt.{Stmt}
use Rattle.vl_sql.specs.declared.stmt.Stmt.TheVariants.{Insert, Select, Update, Delete, Begin, StartTransaction, Commit, Rollback, SetAutocommit, SetNames, Use, ShowTables, ShowDatabases, ShowWarnings, SelectVersionComment, SelectDatabase}

-- ---- parts

abbrev pub comma : Item
comma = Sign 44

abbrev pub name : List ℕ → List Item
name n = Name n ∷ []

abbrev pub literal : Value → List Item
literal v = Literal v ∷ []

-- [name.] name
abbrev pub keyspace : Option (List ℕ) → List Item
keyspace None = []
keyspace (Some k) = Name k ∷ Sign 46 ∷ []

abbrev pub table : TableName → List Item
table t = keyspace t.keyspace ++ name t.name

-- (name, ..)
abbrev pub columns : List (List ℕ) → List Item
columns ns = in_brackets (joined comma name ns)

-- (literal, ..)
abbrev pub row : List Value → List Item
row vs = in_brackets (joined comma literal vs)

abbrev pub test : Test → List Item
test (Equals n v) = Name n ∷ Sign 61 ∷ literal v
test (Among n vs) = Name n ∷ Key (codes "IN") ∷ row vs

abbrev pub where_ : List Test → List Item
where_ [] = []
where_ (t ∷ ts) = Key (codes "WHERE") ∷ joined (Key (codes "AND")) test (t ∷ ts)

abbrev pub assignment : Assignment → List Item
assignment a = Name a.column ∷ Sign 61 ∷ literal a.value

abbrev pub direction : Option Direction → List Item
direction None = []
direction (Some Ascending) = Key (codes "ASC") ∷ []
direction (Some Descending) = Key (codes "DESC") ∷ []

abbrev pub order : Order → List Item
order o = Name o.column ∷ direction o.direction

abbrev pub order_by : List Order → List Item
order_by [] = []
order_by (o ∷ os) = Key (codes "ORDER") ∷ Key (codes "BY") ∷ joined comma order (o ∷ os)

abbrev pub limit : Option ℕ → List Item
limit None = []
limit (Some n) = Key (codes "LIMIT") ∷ Count n ∷ []

abbrev pub for_update : Bool → List Item
for_update false = []
for_update true = Key (codes "FOR") ∷ Key (codes "UPDATE") ∷ []

abbrev pub what : What → List Item
what whats.All = Sign 42 ∷ []
what whats.Count = Key (codes "COUNT") ∷ Sign 40 ∷ Sign 42 ∷ Sign 41 ∷ []
what (whats.Columns ns) = joined comma name ns

abbrev pub from : TableName → List Test → List Order → Option ℕ → Bool → List Item
from t cs os n lock = Key (codes "FROM") ∷ (table t ++ (where_ cs ++ (order_by os ++ (limit n ++ for_update lock))))

abbrev pub bit : Bool → List Item
bit false = Digits (codes "0") ∷ []
bit true = Digits (codes "1") ∷ []

-- ---- statements

abbrev pub statement : Stmt → List Item
statement (Insert t ns rs) = Key (codes "INSERT") ∷ Key (codes "INTO") ∷ (table t ++ (columns ns ++ Key (codes "VALUES") ∷ joined comma row rs))
statement (Select w t cs os n lock) =
    Key (codes "SELECT") ∷ (what w ++ from t cs os n lock)
statement (Update t ss cs) = Key (codes "UPDATE") ∷ (table t ++ Key (codes "SET") ∷ (joined comma assignment ss ++ where_ cs))
statement (Delete t cs) = Key (codes "DELETE") ∷ Key (codes "FROM") ∷ (table t ++ where_ cs)
statement Begin = Key (codes "BEGIN") ∷ []
statement StartTransaction = Key (codes "START") ∷ Key (codes "TRANSACTION") ∷ []
statement Commit = Key (codes "COMMIT") ∷ []
statement Rollback = Key (codes "ROLLBACK") ∷ []
statement (SetAutocommit on) = Key (codes "SET") ∷ Key (codes "AUTOCOMMIT") ∷ Sign 61 ∷ bit on
statement (SetNames w) = Key (codes "SET") ∷ Key (codes "NAMES") ∷ Charset w ∷ []
statement (Use n) = Key (codes "USE") ∷ Name n ∷ []
statement ShowTables = Key (codes "SHOW") ∷ Key (codes "TABLES") ∷ []
statement ShowDatabases = Key (codes "SHOW") ∷ Key (codes "DATABASES") ∷ []
statement ShowWarnings = Key (codes "SHOW") ∷ Key (codes "WARNINGS") ∷ []
statement SelectVersionComment = Key (codes "SELECT") ∷ Variable (codes "version_comment") ∷ Key (codes "LIMIT") ∷ Digits (codes "1") ∷ []
statement SelectDatabase = Key (codes "SELECT") ∷ Key (codes "DATABASE") ∷ Sign 40 ∷ Sign 41 ∷ []

-- ---- which lists a statement may have: at least one member, no name twice, and at most so many; each limit is `more` above its own

abbrev pub AreDistinct : List (List ℕ) → Type 0
AreDistinct ns = AllInTurn (λ before n. list_any (bytes_eq n) before ≡ false) [] ns

abbrev pub FitsTest : ℕ → Test → Type 0
FitsTest more (Equals n v) = Unit {0}
FitsTest more (Among n vs) = UpTo (1000 + more) vs

abbrev pub FitsWhat : ℕ → What → Type 0
FitsWhat more whats.All = Unit {0}
FitsWhat more whats.Count = Unit {0}
FitsWhat more (whats.Columns ns) = UpTo (1000 + more) ns

abbrev pub Fits : ℕ → Stmt → Type 0
Fits more (Insert t ns rs) = HasSome ns × AreDistinct ns × UpTo (1000 + more) rs × AllByRecursion HasSome rs
Fits more (Select w t cs os n lock) = FitsWhat more w × AllByRecursion (FitsTest more) cs × (length os ≤ 8 + more)
Fits more (Update t ss cs) = HasSome ss × AreDistinct (map (λ s. s.column) ss) × AllByRecursion (FitsTest more) cs
Fits more (Delete t cs) = AllByRecursion (FitsTest more) cs
Fits more _ = Unit {0}

-- these tokens are this statement; a `;` may stand behind it
abbrev pub IsStatement : ℕ → Stmt → List Tok → Type 0
IsStatement more s ts = Fits more s × (Spells (statement s) ts ⊎ Spells (statement s ++ Sign 59 ∷ []) ts)
