-- A statement that is printed is read again as this statement.
use Rattle.std.proofs.Common.{◌≡◌, ℕ, Bool, true, false, List, [], ◌∷◌, ◌++◌, Option, Some, None, refl, sym, subst, inl, inr, codes, arith}
use Rattle.std.specs.List.{AllByRecursion}
use Rattle.vl_token.specs.Lexical.{tokens_in}
use Rattle.vl_values.specs.declared.value.Value.{Value}
use Rattle.vl_grammar.specs.Item.{Item, Spells, joined, in_brackets}
use Rattle.vl_grammar.specs.Layout.{laid}
use Rattle.vl_grammar.proofs.Spelling.{all_both}
use Rattle.vl_grammar.proofs.Again.{IsFixed, IsFree, fine_tokens, spelled_free, laid_again}
use Rattle.vl_sql.specs.declared.table.TableName.{TableName}
use Rattle.vl_sql.specs.declared.test.Test.{Test}
use Rattle.vl_sql.specs.declared.test.Test.TheVariants.{Equals, Among}
use Rattle.vl_sql.specs.declared.order.Order.{Order}
use Rattle.vl_sql.specs.declared.order.Direction.{Direction}
use Rattle.vl_sql.specs.declared.order.Direction.TheVariants.{Ascending, Descending}
use Rattle.vl_sql.specs.declared.what.What.{What}
use Rattle.vl_sql.specs.declared.what.What.TheVariants as whats
use Rattle.vl_sql.specs.declared.stmt.Stmt.{Stmt}
use Rattle.vl_sql.specs.declared.stmt.Stmt.TheVariants.{Insert, Select, Update, Delete, Begin, StartTransaction, Commit, Rollback, SetAutocommit, SetNames, Use, ShowTables, ShowDatabases, ShowWarnings, SelectVersionComment, SelectDatabase}
use Rattle.vl_sql.specs.Grammar as grammar
use Rattle.vl_sql.specs.Grammar.{statement, IsStatement}

abbrev AreFixed : List Item → Type 0
AreFixed is = AllByRecursion IsFixed is

fixed_both : (xs ys : List Item) → AreFixed xs → AreFixed ys → AreFixed (xs ++ ys)
fixed_both xs ys p q = all_both IsFixed xs ys p q

fixed_joined : {A : Type 0} (c : Item) (f : A → List Item) → IsFixed c → ((a : A) → AreFixed (f a)) → (xs : List A) → AreFixed (joined c f xs)
fixed_joined c f h g [] = tt
fixed_joined c f h g (a ∷ []) = g a
fixed_joined c f h g (a ∷ b ∷ xs) = fixed_both (f a) (c ∷ joined c f (b ∷ xs)) (g a) (h, fixed_joined c f h g (b ∷ xs))

fixed_brackets : (is : List Item) → AreFixed is → AreFixed (in_brackets is)
fixed_brackets is h = (refl, fixed_both is (Item.Sign 41 ∷ []) h (refl, tt))

fixed_table : (o : Option (List ℕ)) (n : List ℕ) → AreFixed (grammar.keyspace o ++ grammar.name n)
fixed_table None n = (tt, tt)
fixed_table (Some k) n = (tt, (refl, (tt, tt)))

fixed_row : (vs : List Value) → AreFixed (grammar.row vs)
fixed_row vs = fixed_brackets (joined grammar.comma grammar.literal vs) (fixed_joined grammar.comma grammar.literal refl (λ v. (tt, tt)) vs)

fixed_names : (ns : List (List ℕ)) → AreFixed (joined grammar.comma grammar.name ns)
fixed_names ns = fixed_joined grammar.comma grammar.name refl (λ n. (tt, tt)) ns

fixed_test : (t : Test) → AreFixed (grammar.test t)
fixed_test (Equals n v) = (tt, (refl, (tt, tt)))
fixed_test (Among n vs) = (tt, ((refl, refl), fixed_row vs))

fixed_where : (cs : List Test) → AreFixed (grammar.where_ cs)
fixed_where [] = tt
fixed_where (c ∷ cs) = ((refl, refl), fixed_joined (Item.Key (codes "AND")) grammar.test (refl, refl) fixed_test (c ∷ cs))

fixed_direction : (d : Option Direction) → AreFixed (grammar.direction d)
fixed_direction None = tt
fixed_direction (Some Ascending) = ((refl, refl), tt)
fixed_direction (Some Descending) = ((refl, refl), tt)

fixed_order : (o : Order) → AreFixed (grammar.order o)
fixed_order o = (tt, fixed_direction o.direction)

fixed_order_by : (os : List Order) → AreFixed (grammar.order_by os)
fixed_order_by [] = tt
fixed_order_by (o ∷ os) = ((refl, refl), ((refl, refl), fixed_joined grammar.comma grammar.order refl fixed_order (o ∷ os)))

fixed_limit : (n : Option ℕ) → AreFixed (grammar.limit n)
fixed_limit None = tt
fixed_limit (Some n) = ((refl, refl), (tt, tt))

fixed_lock : (lock : Bool) → AreFixed (grammar.for_update lock)
fixed_lock false = tt
fixed_lock true = ((refl, refl), ((refl, refl), tt))

fixed_what : (w : What) → AreFixed (grammar.what w)
fixed_what whats.All = (refl, tt)
fixed_what whats.Count = ((refl, refl), (refl, (refl, (refl, tt))))
fixed_what (whats.Columns ns) = fixed_names ns

fixed_bit : (on : Bool) → AreFixed (grammar.bit on)
fixed_bit false = ((refl, omega arith, refl), tt)
fixed_bit true = ((refl, omega arith, refl), tt)

fixed_from : (t : TableName) (cs : List Test) (os : List Order) (n : Option ℕ) (lock : Bool) → AreFixed (grammar.from t cs os n lock)
fixed_from t cs os n lock = (
  (refl, refl),
  fixed_both (grammar.table t) (grammar.where_ cs ++ (grammar.order_by os ++ (grammar.limit n ++ grammar.for_update lock))) (fixed_table t.keyspace t.name)
      (fixed_both (grammar.where_ cs) (grammar.order_by os ++ (grammar.limit n ++ grammar.for_update lock)) (fixed_where cs)
      (fixed_both (grammar.order_by os) (grammar.limit n ++ grammar.for_update lock) (fixed_order_by os) (fixed_both (grammar.limit n) (grammar.for_update lock) (fixed_limit n) (fixed_lock lock)))),
)

fixed_statement : (s : Stmt) → AreFixed (statement s)
fixed_statement (Insert t ns rs) = (
  (refl, refl),
  (
    (refl, refl),
    fixed_both (grammar.table t) (grammar.columns ns ++ Item.Key (codes "VALUES") ∷ joined grammar.comma grammar.row rs) (fixed_table t.keyspace t.name)
        (fixed_both (grammar.columns ns) (Item.Key (codes "VALUES") ∷ joined grammar.comma grammar.row rs) (fixed_brackets (joined grammar.comma grammar.name ns) (fixed_names ns))
        ((refl, refl), fixed_joined grammar.comma grammar.row refl fixed_row rs)),
  ),
)
fixed_statement (Select w t cs os n lock) = ((refl, refl), fixed_both (grammar.what w) (grammar.from t cs os n lock) (fixed_what w) (fixed_from t cs os n lock))
fixed_statement (Update t ss cs) = (
  (refl, refl),
  fixed_both (grammar.table t) (Item.Key (codes "SET") ∷ (joined grammar.comma grammar.assignment ss ++ grammar.where_ cs)) (fixed_table t.keyspace t.name)
      ((refl, refl), fixed_both (joined grammar.comma grammar.assignment ss) (grammar.where_ cs) (fixed_joined grammar.comma grammar.assignment refl (λ a. (tt, (refl, (tt, tt)))) ss) (fixed_where cs)),
)
fixed_statement (Delete t cs) = ((refl, refl), ((refl, refl), fixed_both (grammar.table t) (grammar.where_ cs) (fixed_table t.keyspace t.name) (fixed_where cs)))
fixed_statement Begin = ((refl, refl), tt)
fixed_statement StartTransaction = ((refl, refl), ((refl, refl), tt))
fixed_statement Commit = ((refl, refl), tt)
fixed_statement Rollback = ((refl, refl), tt)
fixed_statement (SetAutocommit on) = ((refl, refl), ((refl, refl), (refl, fixed_bit on)))
fixed_statement (SetNames w) = ((refl, refl), ((refl, refl), (tt, tt)))
fixed_statement (Use n) = ((refl, refl), (tt, tt))
fixed_statement ShowTables = ((refl, refl), ((refl, refl), tt))
fixed_statement ShowDatabases = ((refl, refl), ((refl, refl), tt))
fixed_statement ShowWarnings = ((refl, refl), ((refl, refl), tt))
fixed_statement SelectVersionComment = ((refl, refl), ((refl, refl), ((refl, refl), ((refl, omega arith, refl), tt))))
fixed_statement SelectDatabase = ((refl, refl), ((refl, refl), (refl, (refl, tt))))

-- the items of a statement that a text is are such as a text can have
all_front : {A : Type 0} (P : A → Type 0) (xs ys : List A) → AllByRecursion P (xs ++ ys) → AllByRecursion P xs
all_front P [] ys h = tt
all_front P (x ∷ xs) ys h = (h.0, all_front P xs ys h.1)

free_statement : (s : Stmt) (read : List ℕ) → IsStatement 0 s (tokens_in read) → AllByRecursion IsFree (statement s)
free_statement s read h = elim h.1 [
  | inl spelled ↦ spelled_free (statement s) (tokens_in read) (fine_tokens read) spelled
  | inr spelled ↦ all_front IsFree (statement s) (Item.Sign 59 ∷ []) (spelled_free (statement s ++ Item.Sign 59 ∷ []) (tokens_in read) (fine_tokens read) spelled)
]

pub printed_again : (s : Stmt) (read text : List ℕ) → text ≡ laid true (statement s) → IsStatement 0 s (tokens_in read) → IsStatement 0 s (tokens_in text)
printed_again s read text e h = (h.0, inl (subst (λ x. Spells (statement s) (tokens_in x)) (sym e) (laid_again (statement s) (fixed_statement s) (free_statement s read h))))
