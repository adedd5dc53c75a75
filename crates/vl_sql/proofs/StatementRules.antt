-- The laws of statements.
use Rattle.std.proofs.Common.{◌≡◌, ℕ, ◌+◌, ◌≤◌, Bool, true, false, not, ◌||◌, if◌then◌else◌, List, [], ◌∷◌, ◌++◌, length, map, Option, Some, None, refl, sym, ap, subst, ◌∙◌, ◌⊎◌, inl, inr, arith, codes}
use Rattle.std.specs.List.{AllByRecursion}
use Rattle.std.specs.Str.{bytes_eq, str_to_ascii_lowercase}
use Rattle.std.proofs.lemmas.Slice.Eq.{bytes_eq-Decides}
use Rattle.vl_token.specs.Tok.{Tok}
use Rattle.vl_token.specs.Tok.Tok.{Word, Quoted, Text, Hex, Number, Variable, Mark, Bad}
use Rattle.vl_token.specs.Lexical.{cut}
use Rattle.vl_values.specs.declared.value.Value.{Value}
use Rattle.vl_grammar.specs.Item.{Item, IsA, Spells, joined}
use Rattle.vl_grammar.specs.Lists.{HasSome, UpTo}
use Rattle.vl_grammar.specs.Reading.{one}
use Rattle.vl_grammar.specs.Terminal.{is_key, is_mark, is_variable, is_digits, key, name_of, bit_of}
use Rattle.vl_grammar.proofs.Spelling.{Leads, leads_both, or_false}
use Rattle.vl_grammar.proofs.Rule.{IsReal, Alive, Rule, as_it_is, such, never, one_rule, here_rule, behind_at, either, either_fits, IsLong}
use Rattle.vl_grammar.proofs.TerminalRules.{anything, key_rule, variable_rule, digits_rule, name_rule, charset_rule, word_real, key_other, key_no_mark, mark_no_key}
use Rattle.vl_grammar.proofs.Laws.{then_law, full_law, seq_law, made_law, said_law, choice_law, behind_law, stops_law}
use Rattle.vl_sql.specs.declared.verb.Verb.{Verb}
use Rattle.vl_sql.specs.declared.verb.Verb.TheVariants as verbs
use Rattle.vl_sql.specs.declared.table.TableName.{TableName}
use Rattle.vl_sql.specs.declared.test.Test.{Test}
use Rattle.vl_sql.specs.declared.order.Order.{Order}
use Rattle.vl_sql.specs.declared.assignment.Assignment.{Assignment}
use Rattle.vl_sql.specs.declared.what.What.{What}
use Rattle.vl_sql.specs.declared.what.What.TheVariants as whats
use Rattle.vl_sql.specs.declared.stmt.Stmt.{Stmt}
use Rattle.vl_sql.specs.declared.stmt.Stmt.TheVariants.{Insert, Select, Update, Delete, Begin, StartTransaction, Commit, Rollback, SetAutocommit, SetNames, Use, ShowTables, ShowDatabases, ShowWarnings, SelectVersionComment, SelectDatabase}
use Rattle.vl_sql.specs.Grammar as grammar
use Rattle.vl_sql.specs.Grammar.{AreDistinct, FitsTest, FitsWhat, Fits, statement}
use Rattle.vl_sql.specs.Reading.{is_comma, is_and, is_direction, verb_of, insert_at, from_at, version_comment_at, database_at, count_at, all_at, some_at, select_at, update_at, delete_at, start_at, autocommit_at, names_at, set_at, use_at, shown, body_at, statement_at}
use Rattle.vl_sql.proofs.PartRules.{mark_other, shut_rule, star_rule, equals_rule, table_rule, columns_rule, rows_rule, names_rule, assignments_rule, where_rule, order_by_rule, limit_rule, for_update_rule, no_direction, comma_or_more}

-- ---- what a statement begins with, and what stands behind it

abbrev pub keyword : Verb → List ℕ
keyword verbs.Insert = codes "INSERT"
keyword verbs.Select = codes "SELECT"
keyword verbs.Update = codes "UPDATE"
keyword verbs.Delete = codes "DELETE"
keyword verbs.Begin = codes "BEGIN"
keyword verbs.Start = codes "START"
keyword verbs.Commit = codes "COMMIT"
keyword verbs.Rollback = codes "ROLLBACK"
keyword verbs.Set = codes "SET"
keyword verbs.Use = codes "USE"
keyword verbs.Show = codes "SHOW"

abbrev pub verb_in : Stmt → Verb
verb_in (Insert t ns rs) = verbs.Insert
verb_in (Select w t cs os n lock) = verbs.Select
verb_in (Update t ss cs) = verbs.Update
verb_in (Delete t cs) = verbs.Delete
verb_in Begin = verbs.Begin
verb_in StartTransaction = verbs.Start
verb_in Commit = verbs.Commit
verb_in Rollback = verbs.Rollback
verb_in (SetAutocommit on) = verbs.Set
verb_in (SetNames w) = verbs.Set
verb_in (Use n) = verbs.Use
verb_in ShowTables = verbs.Show
verb_in ShowDatabases = verbs.Show
verb_in ShowWarnings = verbs.Show
verb_in SelectVersionComment = verbs.Select
verb_in SelectDatabase = verbs.Select

abbrev behind_first : List Item → List Item
behind_first [] = []
behind_first (i ∷ is) = is

abbrev pub tail : Stmt → List Item
tail s = behind_first (statement s)

abbrev pub Begins : Verb → ℕ → Stmt → Type 0
Begins v k s = Fits k s × (verb_in s ≡ v)

-- a statement ends where the text ends or a `;` stands
abbrev pub no_end : Tok → Bool
no_end t = not (is_mark 59 t)

end_is : (t : Tok) → no_end t ≡ false → is_mark 59 t ≡ true
end_is t h = by (is_mark 59 t) h
  where
    by : (b : Bool) → not b ≡ false → b ≡ true
    by true h = refl
    by false h = absurd cc

-- ---- what leads the optional parts

where_leads : (g : Tok → Bool) → ((t : Tok) → is_key (codes "WHERE") t ≡ true → g t ≡ false) → (cs : List Test) → Leads g (grammar.where_ cs)
where_leads g h [] = tt
where_leads g h (c ∷ cs) = h

order_leads : (g : Tok → Bool) → ((t : Tok) → is_key (codes "ORDER") t ≡ true → g t ≡ false) → (os : List Order) → Leads g (grammar.order_by os)
order_leads g h [] = tt
order_leads g h (o ∷ os) = h

limit_leads : (g : Tok → Bool) → ((t : Tok) → is_key (codes "LIMIT") t ≡ true → g t ≡ false) → (n : Option ℕ) → Leads g (grammar.limit n)
limit_leads g h None = tt
limit_leads g h (Some n) = h

lock_leads : (g : Tok → Bool) → ((t : Tok) → is_key (codes "FOR") t ≡ true → g t ≡ false) → (lock : Bool) → Leads g (grammar.for_update lock)
lock_leads g h false = tt
lock_leads g h true = h

abbrev dot_more : Tok → Bool
dot_more t = is_mark 46 t || false

dot_key : (k : List ℕ) (t : Tok) → is_key k t ≡ true → dot_more t ≡ false
dot_key k t h = or_false (is_mark 46 t) false (key_no_mark k 46 t h) refl

abbrev where_more : Tok → Bool
where_more t = is_key (codes "WHERE") t || ((is_and t || false) || false)

no_where : (t : Tok) → is_key (codes "WHERE") t ≡ false → is_and t ≡ false → where_more t ≡ false
no_where t a b = rw (a, b) refl

abbrev order_more : Tok → Bool
order_more t = is_key (codes "ORDER") t || ((is_comma t || (is_direction t || false)) || false)

no_order : (t : Tok) → is_key (codes "ORDER") t ≡ false → is_comma t ≡ false → is_direction t ≡ false → order_more t ≡ false
no_order t a b c = rw (a, b, c) refl

abbrev limit_more : Tok → Bool
limit_more t = is_key (codes "LIMIT") t || false

key_order : (k : List ℕ) (t : Tok) → bytes_eq (str_to_ascii_lowercase k) (str_to_ascii_lowercase (codes "ORDER")) ≡ false → bytes_eq (str_to_ascii_lowercase k) (str_to_ascii_lowercase (codes "ASC")) ≡ false
    → bytes_eq (str_to_ascii_lowercase k) (str_to_ascii_lowercase (codes "DESC")) ≡ false → is_key k t ≡ true → order_more t ≡ false
key_order k t a b c h = no_order t (key_other k (codes "ORDER") t a h) (key_no_mark k 44 t h) (no_direction t (key_other k (codes "ASC") t b h) (key_other k (codes "DESC") t c h))

key_limit : (t : Tok) → is_key (codes "FOR") t ≡ true → limit_more t ≡ false
key_limit t h = or_false (is_key (codes "LIMIT") t) false (key_other (codes "FOR") (codes "LIMIT") t refl h) refl

dot_ends : (t : Tok) → is_mark 59 t ≡ true → dot_more t ≡ false
dot_ends t h = or_false (is_mark 46 t) false (mark_other 59 46 t refl h) refl

where_ends : (t : Tok) → is_mark 59 t ≡ true → where_more t ≡ false
where_ends t h = no_where t (mark_no_key (codes "WHERE") 59 t h) (mark_no_key (codes "AND") 59 t h)

order_ends : (t : Tok) → is_mark 59 t ≡ true → order_more t ≡ false
order_ends t h = no_order t (mark_no_key (codes "ORDER") 59 t h) (mark_other 59 44 t refl h) (no_direction t (mark_no_key (codes "ASC") 59 t h) (mark_no_key (codes "DESC") 59 t h))

limit_ends : (t : Tok) → is_mark 59 t ≡ true → limit_more t ≡ false
limit_ends t h = or_false (is_key (codes "LIMIT") t) false (mark_no_key (codes "LIMIT") 59 t h) refl

abbrev from_more : Tok → Bool
from_more t = dot_more t || (where_more t || (order_more t || (limit_more t || (is_key (codes "FOR") t || false))))

from_ends : (t : Tok) → is_mark 59 t ≡ true → from_more t ≡ false
from_ends t h =
    or_false (dot_more t) (where_more t || (order_more t || (limit_more t || (is_key (codes "FOR") t || false)))) (dot_ends t h)
    (or_false (where_more t) (order_more t || (limit_more t || (is_key (codes "FOR") t || false))) (where_ends t h)
    (or_false (order_more t) (limit_more t || (is_key (codes "FOR") t || false)) (order_ends t h)
    (or_false (limit_more t) (is_key (codes "FOR") t || false) (limit_ends t h) (or_false (is_key (codes "FOR") t) false (mark_no_key (codes "FOR") 59 t h) refl))))

-- ---- FROM ..

abbrev FromParts : Type 0
FromParts = Unit {0} × (TableName × (List Test × (List Order × (Option ℕ × Bool))))

abbrev from_value : What → FromParts → Stmt
from_value w x = Select w x.1.0 x.1.1.0 x.1.1.1.0 x.1.1.1.1.0 x.1.1.1.1.1

abbrev from_fits : ℕ → FromParts → Type 0
from_fits k x = Unit {0} × (Unit {0} × (AllByRecursion (FitsTest k) x.1.1.0 × ((length x.1.1.1.0 ≤ 8 + k) × (Unit {0} × Unit {0}))))

abbrev from_items : FromParts → List Item
from_items x = grammar.from x.1.0 x.1.1.0 x.1.1.1.0 x.1.1.1.1.0 x.1.1.1.1.1

from_key_rule : Rule (λ s ts. one (key (codes "FROM")) ts) as_it_is (such anything) (λ u. Item.Key (codes "FROM") ∷ []) never
from_key_rule = key_rule (codes "FROM") refl refl

from_rule : (w : What) → Rule (from_at w) (from_value w) from_fits from_items no_end
unfolding from_at
from_rule w =
    stops_law
    (seq_law from_key_rule (λ f.
    then_law table_rule (λ t.
    then_law where_rule (λ cs.
    then_law order_by_rule (λ os.
    then_law limit_rule (λ n. made_law (λ lock. Select w t cs os n lock) for_update_rule)
    (λ y. lock_leads limit_more key_limit y))
    (λ y. leads_both order_more (grammar.limit y.0) (grammar.for_update y.1)
    (limit_leads order_more (λ t h. key_order (codes "LIMIT") t refl refl refl h) y.0)
    (lock_leads order_more (λ t h. key_order (codes "FOR") t refl refl refl h) y.1)))
    (λ y. leads_both where_more (grammar.order_by y.0) (grammar.limit y.1.0 ++ grammar.for_update y.1.1)
    (order_leads where_more (λ t h. no_where t (key_other (codes "ORDER") (codes "WHERE") t refl h) (key_other (codes "ORDER") (codes "AND") t refl h)) y.0)
    (leads_both where_more (grammar.limit y.1.0) (grammar.for_update y.1.1)
    (limit_leads where_more (λ t h. no_where t (key_other (codes "LIMIT") (codes "WHERE") t refl h) (key_other (codes "LIMIT") (codes "AND") t refl h)) y.1.0)
    (lock_leads where_more (λ t h. no_where t (key_other (codes "FOR") (codes "WHERE") t refl h) (key_other (codes "FOR") (codes "AND") t refl h)) y.1.1))))
    (λ y. leads_both dot_more (grammar.where_ y.0) (grammar.order_by y.1.0 ++ (grammar.limit y.1.1.0 ++ grammar.for_update y.1.1.1))
    (where_leads dot_more (λ t h. dot_key (codes "WHERE") t h) y.0)
    (leads_both dot_more (grammar.order_by y.1.0) (grammar.limit y.1.1.0 ++ grammar.for_update y.1.1.1)
    (order_leads dot_more (λ t h. dot_key (codes "ORDER") t h) y.1.0)
    (leads_both dot_more (grammar.limit y.1.1.0) (grammar.for_update y.1.1.1)
    (limit_leads dot_more (λ t h. dot_key (codes "LIMIT") t h) y.1.1.0)
    (lock_leads dot_more (λ t h. dot_key (codes "FOR") t h) y.1.1.1))))))
    no_end (λ t h. from_ends t (end_is t h))

-- ---- INSERT, UPDATE, DELETE

into_rule : Rule (λ s ts. one (key (codes "INTO")) ts) as_it_is (such anything) (λ u. Item.Key (codes "INTO") ∷ []) never
into_rule = key_rule (codes "INTO") refl refl

values_rule : Rule (λ s ts. one (key (codes "VALUES")) ts) as_it_is (such anything) (λ u. Item.Key (codes "VALUES") ∷ []) never
values_rule = key_rule (codes "VALUES") refl refl

set_key_rule : Rule (λ s ts. one (key (codes "SET")) ts) as_it_is (such anything) (λ u. Item.Key (codes "SET") ∷ []) never
set_key_rule = key_rule (codes "SET") refl refl

comma_ends : (t : Tok) → is_mark 59 t ≡ true → comma_or_more t ≡ false
comma_ends t h = or_false (is_comma t) false (mark_other 59 44 t refl h) refl

abbrev InsertParts : Type 0
InsertParts = Unit {0} × (TableName × (List (List ℕ) × (Unit {0} × List (List Value))))

abbrev InsertFits : ℕ → InsertParts → Type 0
InsertFits k x = Unit {0} × (Unit {0} × ((HasSome x.1.1.0 × AreDistinct x.1.1.0) × (Unit {0} × (UpTo (1000 + k) x.1.1.1.1 × AllByRecursion HasSome x.1.1.1.1))))

insert_back : (k : ℕ) (s : Stmt) → Begins verbs.Insert k s → (x : InsertParts) × (Insert x.1.0 x.1.1.0 x.1.1.1.1 ≡ s) × InsertFits k x
insert_back k (Insert t ns rs) h = ((tt, (t, (ns, (tt, rs)))), refl, (tt, (tt, ((h.0.0, h.0.1), (tt, (h.0.2, h.0.3))))))
insert_back k s h = absurd (let clash : verb_in s ≡ verbs.Insert = h.1 in cc)

insert_rule : Rule (body_at verbs.Insert) as_it_is (Begins verbs.Insert) tail no_end
unfolding insert_at
insert_rule =
    said_law
    (stops_law
    (seq_law into_rule (λ i.
    full_law table_rule (λ t. seq_law columns_rule (λ ns. seq_law values_rule (λ v. made_law (λ rs. Insert t ns rs) rows_rule)))
    (λ y t h. or_false (is_mark 46 t) false (mark_other 40 46 t refl h) refl) (λ y. tt)))
    no_end (λ t h. comma_ends t (end_is t h)))
    as_it_is (Begins verbs.Insert) tail (λ x. Insert x.1.0 x.1.1.0 x.1.1.1.1) (λ x. refl)
    (λ k x h. ((h.1.1.0.0, h.1.1.0.1, h.1.1.1.1.0, h.1.1.1.1.1), refl)) (λ k x h. refl) insert_back

abbrev UpdateParts : Type 0
UpdateParts = TableName × (Unit {0} × (List Assignment × List Test))

abbrev UpdateFits : ℕ → UpdateParts → Type 0
UpdateFits k x = Unit {0} × (Unit {0} × ((HasSome x.1.1.0 × AreDistinct (map (λ s. s.column) x.1.1.0)) × AllByRecursion (FitsTest k) x.1.1.1))

update_back : (k : ℕ) (s : Stmt) → Begins verbs.Update k s → (x : UpdateParts) × (Update x.0 x.1.1.0 x.1.1.1 ≡ s) × UpdateFits k x
update_back k (Update t ss cs) h = ((t, (tt, (ss, cs))), refl, (tt, (tt, ((h.0.0, h.0.1), h.0.2))))
update_back k s h = absurd (let clash : verb_in s ≡ verbs.Update = h.1 in cc)

comma_where : (t : Tok) → is_key (codes "WHERE") t ≡ true → comma_or_more t ≡ false
comma_where t h = or_false (is_comma t) false (key_no_mark (codes "WHERE") 44 t h) refl

update_ends : (t : Tok) → is_mark 59 t ≡ true → (comma_or_more t || where_more t) ≡ false
update_ends t h = or_false (comma_or_more t) (where_more t) (comma_ends t h) (where_ends t h)

update_rule : Rule (body_at verbs.Update) as_it_is (Begins verbs.Update) tail no_end
unfolding update_at
update_rule =
    said_law
    (stops_law
    (full_law table_rule (λ t. seq_law set_key_rule (λ u. then_law assignments_rule (λ ss. made_law (λ cs. Update t ss cs) where_rule) (λ y. where_leads comma_or_more comma_where y)))
    (λ y t h. dot_key (codes "SET") t h) (λ y. tt))
    no_end (λ t h. update_ends t (end_is t h)))
    as_it_is (Begins verbs.Update) tail (λ x. Update x.0 x.1.1.0 x.1.1.1) (λ x. refl)
    (λ k x h. ((h.1.1.0.0, h.1.1.0.1, h.1.1.1), refl)) (λ k x h. refl) update_back

abbrev DeleteParts : Type 0
DeleteParts = Unit {0} × (TableName × List Test)

delete_back : (k : ℕ) (s : Stmt) → Begins verbs.Delete k s → (x : DeleteParts) × (Delete x.1.0 x.1.1 ≡ s) × (Unit {0} × (Unit {0} × AllByRecursion (FitsTest k) x.1.1))
delete_back k (Delete t cs) h = ((tt, (t, cs)), refl, (tt, (tt, h.0)))
delete_back k s h = absurd (let clash : verb_in s ≡ verbs.Delete = h.1 in cc)

delete_ends : (t : Tok) → is_mark 59 t ≡ true → (dot_more t || where_more t) ≡ false
delete_ends t h = or_false (dot_more t) (where_more t) (dot_ends t h) (where_ends t h)

delete_rule : Rule (body_at verbs.Delete) as_it_is (Begins verbs.Delete) tail no_end
unfolding delete_at
delete_rule =
    said_law
    (stops_law
    (seq_law from_key_rule (λ f. then_law table_rule (λ t. made_law (λ cs. Delete t cs) where_rule) (λ y. where_leads dot_more (λ t h. dot_key (codes "WHERE") t h) y)))
    no_end (λ t h. delete_ends t (end_is t h)))
    as_it_is (Begins verbs.Delete) tail (λ x. Delete x.1.0 x.1.1) (λ x. refl) (λ k x h. (h.1.1, refl)) (λ k x h. refl) delete_back

-- ---- transactions

begin_back : (k : ℕ) (s : Stmt) → Begins verbs.Begin k s → (x : Unit {0}) × (Begin ≡ s) × Unit {0}
begin_back k Begin h = (tt, refl, tt)
begin_back k s h = absurd (let clash : verb_in s ≡ verbs.Begin = h.1 in cc)

begin_rule : Rule (body_at verbs.Begin) as_it_is (Begins verbs.Begin) tail no_end
begin_rule = said_law (stops_law (here_rule Begin) no_end (λ t h. refl)) as_it_is (Begins verbs.Begin) tail (λ x. Begin) (λ x. refl) (λ k x h. (tt, refl)) (λ k x h. refl) begin_back

commit_back : (k : ℕ) (s : Stmt) → Begins verbs.Commit k s → (x : Unit {0}) × (Commit ≡ s) × Unit {0}
commit_back k Commit h = (tt, refl, tt)
commit_back k s h = absurd (let clash : verb_in s ≡ verbs.Commit = h.1 in cc)

commit_rule : Rule (body_at verbs.Commit) as_it_is (Begins verbs.Commit) tail no_end
commit_rule = said_law (stops_law (here_rule Commit) no_end (λ t h. refl)) as_it_is (Begins verbs.Commit) tail (λ x. Commit) (λ x. refl) (λ k x h. (tt, refl)) (λ k x h. refl) commit_back

rollback_back : (k : ℕ) (s : Stmt) → Begins verbs.Rollback k s → (x : Unit {0}) × (Rollback ≡ s) × Unit {0}
rollback_back k Rollback h = (tt, refl, tt)
rollback_back k s h = absurd (let clash : verb_in s ≡ verbs.Rollback = h.1 in cc)

rollback_rule : Rule (body_at verbs.Rollback) as_it_is (Begins verbs.Rollback) tail no_end
rollback_rule = said_law (stops_law (here_rule Rollback) no_end (λ t h. refl)) as_it_is (Begins verbs.Rollback) tail (λ x. Rollback) (λ x. refl) (λ k x h. (tt, refl)) (λ k x h. refl) rollback_back

start_back : (k : ℕ) (s : Stmt) → Begins verbs.Start k s → (x : Unit {0}) × (StartTransaction ≡ s) × Unit {0}
start_back k StartTransaction h = (tt, refl, tt)
start_back k s h = absurd (let clash : verb_in s ≡ verbs.Start = h.1 in cc)

start_rule : Rule (body_at verbs.Start) as_it_is (Begins verbs.Start) tail no_end
unfolding start_at
start_rule = said_law (stops_law (made_law (λ u. StartTransaction) (key_rule (codes "TRANSACTION") refl refl)) no_end (λ t h. refl)) as_it_is (Begins verbs.Start) tail (λ x. StartTransaction) (λ x. refl) (λ k x h. (tt, refl)) (λ k x h. refl) start_back

-- ---- SET, USE, SHOW

bit_item : Bool → Item
bit_item false = Item.Digits (codes "0")
bit_item true = Item.Digits (codes "1")

zero_real : IsReal (Number false (codes "0"))
unfolding cut
zero_real = (codes "0", refl)

one_real : IsReal (Number false (codes "1"))
unfolding cut
one_real = (codes "1", refl)

bit_is : (b : Bool) (t : Tok) → bit_of t ≡ Some b → IsA (bit_item b) t × Unit {0}
unfolding bit_item
bit_is b t h = by (is_digits (codes "0") t) (is_digits (codes "1") t) refl refl b h
  where
    by : (x y : Bool) → is_digits (codes "0") t ≡ x → is_digits (codes "1") t ≡ y → (b : Bool) → bit_of t ≡ Some b → IsA (bit_item b) t × Unit {0}
    by true y e f false h = (e, tt)
    by true y e f true h = absurd (let clash : Some false ≡ Some true = rw e at h in cc)
    by false true e f true h = (f, tt)
    by false true e f false h = absurd (let clash : Some true ≡ Some false = rw (e, f) at h in cc)
    by false false e f b h = absurd (let clash : None ≡ Some b = rw (e, f) at h in cc)

digits_one_zero : (t : Tok) → is_digits (codes "1") t ≡ true → is_digits (codes "0") t ≡ false
digits_one_zero (Number false ds) h = ap (λ (x : List ℕ). bytes_eq x (codes "0")) ((bytes_eq-Decides ds (codes "1")).0 h)
digits_one_zero (Number true ds) h = refl
digits_one_zero (Word w) h = refl
digits_one_zero (Quoted w) h = refl
digits_one_zero (Text w) h = refl
digits_one_zero (Hex w) h = refl
digits_one_zero (Variable w) h = refl
digits_one_zero (Mark b) h = refl
digits_one_zero Bad h = refl

bit_back : (b : Bool) (t : Tok) → Unit {0} → IsA (bit_item b) t → bit_of t ≡ Some b
unfolding bit_item
bit_back false t u h = rw h refl
bit_back true t u h = rw (digits_one_zero t h, h) refl

bit_rule : Rule (λ s ts. one bit_of ts) as_it_is (such anything) (λ b. bit_item b ∷ []) never
unfolding bit_item
bit_rule = one_rule bit_of bit_item anything bit_is bit_back false (Number false (codes "0")) refl tt zero_real

abbrev SetParts : Type 0
SetParts = (Unit {0} × (Unit {0} × Bool)) ⊎ (Unit {0} × List ℕ)

abbrev set_of : SetParts → Stmt
set_of (inl z) = SetAutocommit z.1.1
set_of (inr z) = SetNames z.1

set_value : (x : SetParts) → set_of x ≡ either (λ (z : Unit {0} × (Unit {0} × Bool)). SetAutocommit z.1.1) (λ (z : Unit {0} × List ℕ). SetNames z.1) x
set_value (inl z) = refl
set_value (inr z) = refl

abbrev SetFits : ℕ → SetParts → Type 0
SetFits k x = either_fits (λ k (z : Unit {0} × (Unit {0} × Bool)). Unit {0} × (Unit {0} × Unit {0})) (λ k (z : Unit {0} × List ℕ). Unit {0} × Unit {0}) k x

set_begins : (k : ℕ) (x : SetParts) → SetFits k x → Begins verbs.Set k (set_of x)
set_begins k (inl z) h = (tt, refl)
set_begins k (inr z) h = (tt, refl)

set_items : (x : SetParts) → tail (set_of x) ≡ either (λ (z : Unit {0} × (Unit {0} × Bool)). (Item.Key (codes "AUTOCOMMIT") ∷ []) ++ ((Item.Sign 61 ∷ []) ++ (bit_item z.1.1 ∷ []))) (λ (z : Unit {0} × List ℕ). (Item.Key (codes "NAMES") ∷ []) ++ (Item.Charset z.1 ∷ [])) x
unfolding bit_item
set_items (inl (u, (v, false))) = refl
set_items (inl (u, (v, true))) = refl
set_items (inr z) = refl

set_back : (k : ℕ) (s : Stmt) → Begins verbs.Set k s → (x : SetParts) × (set_of x ≡ s) × SetFits k x
set_back k (SetAutocommit on) h = (inl (tt, (tt, on)), refl, (tt, (tt, tt)))
set_back k (SetNames w) h = (inr (tt, w), refl, (tt, tt))
set_back k s h = absurd (let clash : verb_in s ≡ verbs.Set = h.1 in cc)

set_rule : Rule (body_at verbs.Set) as_it_is (Begins verbs.Set) tail no_end
unfolding set_at autocommit_at names_at
set_rule =
    said_law
    (stops_law
    (choice_law (is_key (codes "AUTOCOMMIT"))
    (seq_law (key_rule (codes "AUTOCOMMIT") refl refl) (λ a. seq_law equals_rule (λ is. made_law (λ on. SetAutocommit on) bit_rule)))
    (seq_law (key_rule (codes "NAMES") refl refl) (λ n. made_law (λ w. SetNames w) charset_rule))
    (λ x t h. h) (λ y t h. key_other (codes "NAMES") (codes "AUTOCOMMIT") t refl h) (λ y. tt))
    no_end (λ t h. refl))
    as_it_is (Begins verbs.Set) tail set_of set_value set_begins (λ k x h. set_items x) set_back

use_back : (k : ℕ) (s : Stmt) → Begins verbs.Use k s → (n : List ℕ) × (Use n ≡ s) × Unit {0}
use_back k (Use n) h = (n, refl, tt)
use_back k s h = absurd (let clash : verb_in s ≡ verbs.Use = h.1 in cc)

use_rule : Rule (body_at verbs.Use) as_it_is (Begins verbs.Use) tail no_end
unfolding use_at
use_rule = said_law (stops_law (made_law (λ n. Use n) name_rule) no_end (λ t h. refl)) as_it_is (Begins verbs.Use) tail (λ n. Use n) (λ n. refl) (λ k n h. (tt, refl)) (λ k n h. refl) use_back

show_item : Stmt → Item
show_item ShowTables = Item.Key (codes "TABLES")
show_item ShowDatabases = Item.Key (codes "DATABASES")
show_item ShowWarnings = Item.Key (codes "WARNINGS")
show_item s = Item.Key (codes "SHOW")

shown_is : (s : Stmt) (t : Tok) → shown t ≡ Some s → IsA (show_item s) t × (verb_in s ≡ verbs.Show)
unfolding show_item
shown_is s t h = by (is_key (codes "TABLES") t) (is_key (codes "DATABASES") t) (is_key (codes "WARNINGS") t) refl refl refl
  where
    at : (s' : Stmt) → s' ≡ s → IsA (show_item s') t × (verb_in s' ≡ verbs.Show) → IsA (show_item s) t × (verb_in s ≡ verbs.Show)
    at s' e p = subst (λ x. IsA (show_item x) t × (verb_in x ≡ verbs.Show)) e p

    by : (x y z : Bool) → is_key (codes "TABLES") t ≡ x → is_key (codes "DATABASES") t ≡ y → is_key (codes "WARNINGS") t ≡ z → IsA (show_item s) t × (verb_in s ≡ verbs.Show)
    by true y z e f g = let same : Some ShowTables ≡ Some s = rw e at h in let this : ShowTables ≡ s = cc in at ShowTables this (e, refl)
    by false true z e f g = let same : Some ShowDatabases ≡ Some s = rw (e, f) at h in let this : ShowDatabases ≡ s = cc in at ShowDatabases this (f, refl)
    by false false true e f g = let same : Some ShowWarnings ≡ Some s = rw (e, f, g) at h in let this : ShowWarnings ≡ s = cc in at ShowWarnings this (g, refl)
    by false false false e f g = absurd (let clash : None ≡ Some s = rw (e, f, g) at h in cc)

shown_back : (s : Stmt) (t : Tok) → verb_in s ≡ verbs.Show → IsA (show_item s) t → shown t ≡ Some s
unfolding show_item
shown_back ShowTables t v h = rw h refl
shown_back ShowDatabases t v h = rw (key_other (codes "DATABASES") (codes "TABLES") t refl h, h) refl
shown_back ShowWarnings t v h = rw (key_other (codes "WARNINGS") (codes "TABLES") t refl h, key_other (codes "WARNINGS") (codes "DATABASES") t refl h, h) refl
shown_back s t v h = absurd (let clash : verb_in s ≡ verbs.Show = v in cc)

show_items : (k : ℕ) (s : Stmt) → verb_in s ≡ verbs.Show → tail s ≡ show_item s ∷ []
unfolding show_item
show_items k ShowTables v = refl
show_items k ShowDatabases v = refl
show_items k ShowWarnings v = refl
show_items k s v = absurd (let clash : verb_in s ≡ verbs.Show = v in cc)

show_fits : (k : ℕ) (s : Stmt) → verb_in s ≡ verbs.Show → Begins verbs.Show k s
show_fits k ShowTables v = (tt, refl)
show_fits k ShowDatabases v = (tt, refl)
show_fits k ShowWarnings v = (tt, refl)
show_fits k s v = absurd (let clash : verb_in s ≡ verbs.Show = v in cc)

show_rule : Rule (body_at verbs.Show) as_it_is (Begins verbs.Show) tail no_end
unfolding show_item
show_rule =
    said_law
    (stops_law (one_rule shown show_item (λ s. verb_in s ≡ verbs.Show) shown_is shown_back ShowTables (Word (codes "TABLES")) refl refl (word_real (codes "TABLES") refl)) no_end (λ t h. refl))
    as_it_is (Begins verbs.Show) tail (λ s. s) (λ s. refl) show_fits show_items (λ k s h. (s, refl, h.1))

-- ---- SELECT

name_no_mark : (n : List ℕ) (c : ℕ) (t : Tok) → name_of t ≡ Some n → is_mark c t ≡ false
name_no_mark n c (Word w) h = refl
name_no_mark n c (Quoted w) h = refl
name_no_mark n c (Text w) h = absurd cc
name_no_mark n c (Hex w) h = absurd cc
name_no_mark n c (Number m w) h = absurd cc
name_no_mark n c (Variable w) h = absurd cc
name_no_mark n c (Mark b) h = absurd cc
name_no_mark n c Bad h = absurd cc

name_no_variable : (n k : List ℕ) (t : Tok) → name_of t ≡ Some n → is_variable k t ≡ false
name_no_variable n k (Word w) h = refl
name_no_variable n k (Quoted w) h = refl
name_no_variable n k (Text w) h = absurd cc
name_no_variable n k (Hex w) h = absurd cc
name_no_variable n k (Number m w) h = absurd cc
name_no_variable n k (Variable w) h = absurd cc
name_no_variable n k (Mark b) h = absurd cc
name_no_variable n k Bad h = absurd cc

key_no_variable : (k l : List ℕ) (t : Tok) → is_key k t ≡ true → is_variable l t ≡ false
key_no_variable k l (Word w) h = refl
key_no_variable k l (Quoted w) h = refl
key_no_variable k l (Text w) h = refl
key_no_variable k l (Hex w) h = refl
key_no_variable k l (Number m w) h = refl
key_no_variable k l (Variable w) h = absurd (let clash : false ≡ true = h in cc)
key_no_variable k l (Mark b) h = refl
key_no_variable k l Bad h = refl

mark_no_variable : (c : ℕ) (l : List ℕ) (t : Tok) → is_mark c t ≡ true → is_variable l t ≡ false
mark_no_variable c l (Word w) h = refl
mark_no_variable c l (Quoted w) h = refl
mark_no_variable c l (Text w) h = refl
mark_no_variable c l (Hex w) h = refl
mark_no_variable c l (Number m w) h = refl
mark_no_variable c l (Variable w) h = absurd (let clash : false ≡ true = h in cc)
mark_no_variable c l (Mark b) h = refl
mark_no_variable c l Bad h = refl

key_name : (k : List ℕ) (t : Tok) → is_key k t ≡ true → (w : List ℕ) × (name_of t ≡ Some w)
key_name k (Word w) h = (w, refl)
key_name k (Quoted w) h = absurd (let clash : false ≡ true = h in cc)
key_name k (Text w) h = absurd (let clash : false ≡ true = h in cc)
key_name k (Hex w) h = absurd (let clash : false ≡ true = h in cc)
key_name k (Number m w) h = absurd (let clash : false ≡ true = h in cc)
key_name k (Variable w) h = absurd (let clash : false ≡ true = h in cc)
key_name k (Mark b) h = absurd (let clash : false ≡ true = h in cc)
key_name k Bad h = absurd (let clash : false ≡ true = h in cc)

version_real : IsReal (Variable (codes "version_comment"))
unfolding cut
version_real = (codes "@@version_comment", refl)

version_rule : Rule (λ k ts. version_comment_at ts) (λ (x : Unit {0} × (Unit {0} × Unit {0})). SelectVersionComment) (λ k x. Unit {0} × (Unit {0} × Unit {0})) (λ x. Item.Variable (codes "version_comment") ∷ Item.Key (codes "LIMIT") ∷ Item.Digits (codes "1") ∷ []) no_end
unfolding version_comment_at
version_rule =
    stops_law (seq_law (variable_rule (codes "version_comment") refl version_real) (λ v. seq_law (key_rule (codes "LIMIT") refl refl) (λ l. made_law (λ u. SelectVersionComment) (digits_rule (codes "1") refl one_real)))) no_end (λ t h. refl)

database_rule : Rule (λ k ts. database_at ts) (λ (x : Unit {0}). SelectDatabase) (λ k x. Unit {0}) (λ x. Item.Sign 41 ∷ []) no_end
unfolding database_at
database_rule = stops_law (made_law (λ u. SelectDatabase) shut_rule) no_end (λ t h. refl)

abbrev CountParts : Type 0
CountParts = Unit {0} × (Unit {0} × FromParts)

abbrev count_value : CountParts → Stmt
count_value x = from_value whats.Count x.1.1

count_rule : Rule count_at count_value (λ k x. Unit {0} × (Unit {0} × from_fits k x.1.1)) (λ x. Item.Sign 42 ∷ Item.Sign 41 ∷ from_items x.1.1) no_end
unfolding count_at
count_rule = seq_law star_rule (λ s. seq_law shut_rule (λ u. from_rule whats.Count))

all_rule : Rule all_at (λ (x : Unit {0} × FromParts). from_value whats.All x.1) (λ k x. Unit {0} × from_fits k x.1) (λ x. Item.Sign 42 ∷ from_items x.1) no_end
unfolding all_at
all_rule = seq_law star_rule (λ s. from_rule whats.All)

abbrev SomeParts : Type 0
SomeParts = List (List ℕ) × FromParts

abbrev some_value : SomeParts → Stmt
some_value x = from_value (whats.Columns x.0) x.1

abbrev some_fits : ℕ → SomeParts → Type 0
some_fits k x = UpTo (1000 + k) x.0 × from_fits k x.1

abbrev some_items : SomeParts → List Item
some_items x = joined grammar.comma grammar.name x.0 ++ from_items x.1

comma_from : (t : Tok) → is_key (codes "FROM") t ≡ true → comma_or_more t ≡ false
comma_from t h = or_false (is_comma t) false (key_no_mark (codes "FROM") 44 t h) refl

some_rule : Rule some_at some_value some_fits some_items no_end
unfolding some_at
some_rule = full_law names_rule (λ ns. from_rule (whats.Columns ns)) (λ y t h. comma_from t h) (λ y. tt)

-- what a list of names begins with
some_leads : (g : Tok → Bool) → ((n : List ℕ) (t : Tok) → name_of t ≡ Some n → g t ≡ false) → ((t : Tok) → is_key (codes "FROM") t ≡ true → g t ≡ false) → (ns : List (List ℕ)) (is : List Item) → Leads g (joined grammar.comma grammar.name ns ++ Item.Key (codes "FROM") ∷ is)
some_leads g h f [] is = f
some_leads g h f (n ∷ []) is = λ t s. h n t s
some_leads g h f (n ∷ m ∷ ns) is = λ t s. h n t s

some_has : (ns : List (List ℕ)) (is : List Item) → HasSome (joined grammar.comma grammar.name ns ++ Item.Key (codes "FROM") ∷ is)
some_has [] is = tt
some_has (n ∷ []) is = tt
some_has (n ∷ m ∷ ns) is = tt

some_long : (ns : List (List ℕ)) (t : TableName) (is : List Item) → IsLong (joined grammar.comma grammar.name ns ++ Item.Key (codes "FROM") ∷ (grammar.table t ++ is))
some_long [] t is = table_long t.keyspace
  where
    table_long : (o : Option (List ℕ)) → IsLong (Item.Key (codes "FROM") ∷ ((grammar.keyspace o ++ (Item.Name t.name ∷ [])) ++ is))
    table_long None = tt
    table_long (Some n) = tt
some_long (n ∷ []) t is = tt
some_long (n ∷ m ∷ ns) t is = tt

some_apart : (k : List ℕ) (ns : List (List ℕ)) (is : List Item) (t u : Tok) (more : List Tok) → bytes_eq (str_to_ascii_lowercase (codes "FROM")) (str_to_ascii_lowercase k) ≡ false
    → Spells (joined grammar.comma grammar.name ns ++ Item.Key (codes "FROM") ∷ is) (t ∷ u ∷ more) → is_key k t ≡ true → is_mark 40 u ≡ true → ⊥
some_apart k [] is t u more a s kt mu = let clash : false ≡ true = sym (key_other (codes "FROM") k t a s.0) ∙ kt in cc
some_apart k (n ∷ []) is t u more a s kt mu = let clash : false ≡ true = sym (key_no_mark (codes "FROM") 40 u s.1.0) ∙ mu in cc
some_apart k (n ∷ m ∷ ns) is t u more a s kt mu = let clash : false ≡ true = sym (mark_other 44 40 u refl s.1.0) ∙ mu in cc

some_alone : (k : ℕ) (l : List ℕ) (t : Tok) → is_key l t ≡ true → Alive some_fits some_items k (t ∷ [])
some_alone k l t h =
    let n = key_name l t h in
    let a = (from_rule whats.All).some k in
    record { witness = (n.0 ∷ [], a.witness); more = a.more; real = a.real; fits = ((tt, omega arith), a.fits); spelled = (n.1, a.spelled) }

abbrev DatabaseParts : Type 0
DatabaseParts = Unit {0} ⊎ SomeParts

database_or_rule : Rule (behind_at (is_key (codes "DATABASE")) (is_mark 40) (λ k ts. database_at ts) some_at) (either (λ (u : Unit {0}). SelectDatabase) some_value) (either_fits (λ k (u : Unit {0}). Unit {0}) some_fits)
    (either (λ (u : Unit {0}). Item.Key (codes "DATABASE") ∷ Item.Sign 40 ∷ Item.Sign 41 ∷ []) some_items) (λ t. no_end t || no_end t)
database_or_rule =
    behind_law (is_key (codes "DATABASE")) (is_mark 40) (Item.Key (codes "DATABASE")) (Item.Sign 40) database_rule some_rule (λ t h. h) (λ t h. h) (λ t h. h) (λ t h. h)
    (λ y. some_long y.0 y.1.1.0 (grammar.where_ y.1.1.1.0 ++ (grammar.order_by y.1.1.1.1.0 ++ (grammar.limit y.1.1.1.1.1.0 ++ grammar.for_update y.1.1.1.1.1.1))))
    (λ y t u more s a b. some_apart (codes "DATABASE") y.0 (grammar.table y.1.1.0 ++ (grammar.where_ y.1.1.1.0 ++ (grammar.order_by y.1.1.1.1.0 ++ (grammar.limit y.1.1.1.1.1.0 ++ grammar.for_update y.1.1.1.1.1.1)))) t u more refl s a b)
    (λ k t h. some_alone k (codes "DATABASE") t h)

called_apart : (y : DatabaseParts) (t u : Tok) (more : List Tok) → Spells (either (λ (u : Unit {0}). Item.Key (codes "DATABASE") ∷ Item.Sign 40 ∷ Item.Sign 41 ∷ []) some_items y) (t ∷ u ∷ more) → is_key (codes "COUNT") t ≡ true → is_mark 40 u ≡ true → ⊥
called_apart (inl v) t u more s a b = let clash : false ≡ true = sym (key_other (codes "DATABASE") (codes "COUNT") t refl s.0) ∙ a in cc
called_apart (inr y) t u more s a b = some_apart (codes "COUNT") y.0 (grammar.table y.1.1.0 ++ (grammar.where_ y.1.1.1.0 ++ (grammar.order_by y.1.1.1.1.0 ++ (grammar.limit y.1.1.1.1.1.0 ++ grammar.for_update y.1.1.1.1.1.1)))) t u more refl s a b

called_long : (y : DatabaseParts) → IsLong (either (λ (u : Unit {0}). Item.Key (codes "DATABASE") ∷ Item.Sign 40 ∷ Item.Sign 41 ∷ []) some_items y)
called_long (inl v) = tt
called_long (inr y) = some_long y.0 y.1.1.0 (grammar.where_ y.1.1.1.0 ++ (grammar.order_by y.1.1.1.1.0 ++ (grammar.limit y.1.1.1.1.1.0 ++ grammar.for_update y.1.1.1.1.1.1)))

called_alone : (k : ℕ) (t : Tok) → is_key (codes "COUNT") t ≡ true → Alive (either_fits (λ k (u : Unit {0}). Unit {0}) some_fits) (either (λ (u : Unit {0}). Item.Key (codes "DATABASE") ∷ Item.Sign 40 ∷ Item.Sign 41 ∷ []) some_items) k (t ∷ [])
called_alone k t h = let a = some_alone k (codes "COUNT") t h in record { witness = inr a.witness; more = a.more; real = a.real; fits = a.fits; spelled = a.spelled }

abbrev CalledParts : Type 0
CalledParts = CountParts ⊎ DatabaseParts

abbrev called_items : CalledParts → List Item
called_items = either (λ (x : CountParts). Item.Key (codes "COUNT") ∷ Item.Sign 40 ∷ Item.Sign 42 ∷ Item.Sign 41 ∷ from_items x.1.1) (either (λ (u : Unit {0}). Item.Key (codes "DATABASE") ∷ Item.Sign 40 ∷ Item.Sign 41 ∷ []) some_items)

abbrev called_fits : ℕ → CalledParts → Type 0
called_fits = either_fits (λ k (x : CountParts). Unit {0} × (Unit {0} × from_fits k x.1.1)) (either_fits (λ k (u : Unit {0}). Unit {0}) some_fits)

abbrev called_value : CalledParts → Stmt
called_value = either count_value (either (λ (u : Unit {0}). SelectDatabase) some_value)

called_rule : Rule (behind_at (is_key (codes "COUNT")) (is_mark 40) count_at (behind_at (is_key (codes "DATABASE")) (is_mark 40) (λ k ts. database_at ts) some_at)) called_value called_fits called_items (λ t. no_end t || (no_end t || no_end t))
called_rule =
    behind_law (is_key (codes "COUNT")) (is_mark 40) (Item.Key (codes "COUNT")) (Item.Sign 40) count_rule database_or_rule (λ t h. h) (λ t h. h) (λ t h. h) (λ t h. h) called_long called_apart called_alone

called_leads : (g : Tok → Bool) → ((n : List ℕ) (t : Tok) → name_of t ≡ Some n → g t ≡ false) → ((k : List ℕ) (t : Tok) → is_key k t ≡ true → g t ≡ false) → (y : CalledParts) → Leads g (called_items y)
called_leads g h f (inl x) = λ t s. f (codes "COUNT") t s
called_leads g h f (inr (inl u)) = λ t s. f (codes "DATABASE") t s
called_leads g h f (inr (inr y)) = some_leads g h (f (codes "FROM")) y.0 (grammar.table y.1.1.0 ++ (grammar.where_ y.1.1.1.0 ++ (grammar.order_by y.1.1.1.1.0 ++ (grammar.limit y.1.1.1.1.1.0 ++ grammar.for_update y.1.1.1.1.1.1))))

called_has : (y : CalledParts) → HasSome (called_items y)
called_has (inl x) = tt
called_has (inr (inl u)) = tt
called_has (inr (inr y)) = some_has y.0 (grammar.table y.1.1.0 ++ (grammar.where_ y.1.1.1.0 ++ (grammar.order_by y.1.1.1.1.0 ++ (grammar.limit y.1.1.1.1.1.0 ++ grammar.for_update y.1.1.1.1.1.1))))

abbrev StarParts : Type 0
StarParts = (Unit {0} × FromParts) ⊎ CalledParts

abbrev star_items : StarParts → List Item
star_items = either (λ (x : Unit {0} × FromParts). Item.Sign 42 ∷ from_items x.1) called_items

star_leads : (y : StarParts) → Leads (is_variable (codes "version_comment")) (star_items y)
star_leads (inl x) = λ t s. mark_no_variable 42 (codes "version_comment") t s
star_leads (inr y) = called_leads (is_variable (codes "version_comment")) (λ n t s. name_no_variable n (codes "version_comment") t s) (λ k t s. key_no_variable k (codes "version_comment") t s) y

star_has : (y : StarParts) → HasSome (star_items y)
star_has (inl x) = tt
star_has (inr y) = called_has y

abbrev SelectParts : Type 0
SelectParts = (Unit {0} × (Unit {0} × Unit {0})) ⊎ StarParts

abbrev select_value : SelectParts → Stmt
select_value = either (λ (x : Unit {0} × (Unit {0} × Unit {0})). SelectVersionComment) (either (λ (x : Unit {0} × FromParts). from_value whats.All x.1) called_value)

abbrev select_fits : ℕ → SelectParts → Type 0
select_fits = either_fits (λ k (x : Unit {0} × (Unit {0} × Unit {0})). Unit {0} × (Unit {0} × Unit {0})) (either_fits (λ k (x : Unit {0} × FromParts). Unit {0} × from_fits k x.1) called_fits)

abbrev select_items : SelectParts → List Item
select_items = either (λ (x : Unit {0} × (Unit {0} × Unit {0})). Item.Variable (codes "version_comment") ∷ Item.Key (codes "LIMIT") ∷ Item.Digits (codes "1") ∷ []) star_items

select_begins : (k : ℕ) (x : SelectParts) → select_fits k x → Begins verbs.Select k (select_value x)
select_begins k (inl x) h = (tt, refl)
select_begins k (inr (inl x)) h = ((tt, h.1.1.1.0, h.1.1.1.1.0), refl)
select_begins k (inr (inr (inl x))) h = ((tt, h.1.1.1.1.0, h.1.1.1.1.1.0), refl)
select_begins k (inr (inr (inr (inl u)))) h = (tt, refl)
select_begins k (inr (inr (inr (inr y)))) h = ((h.0, h.1.1.1.0, h.1.1.1.1.0), refl)

select_tail : (x : SelectParts) → tail (select_value x) ≡ select_items x
select_tail (inl x) = refl
select_tail (inr (inl x)) = refl
select_tail (inr (inr (inl x))) = refl
select_tail (inr (inr (inr (inl u)))) = refl
select_tail (inr (inr (inr (inr y)))) = refl

select_back : (k : ℕ) (s : Stmt) → Begins verbs.Select k s → (x : SelectParts) × (select_value x ≡ s) × select_fits k x
select_back k (Select whats.All t cs os n lock) h = (inr (inl (tt, (tt, (t, (cs, (os, (n, lock))))))), refl, (tt, (tt, (tt, (h.0.1, (h.0.2, (tt, tt)))))))
select_back k (Select whats.Count t cs os n lock) h = (inr (inr (inl (tt, (tt, (tt, (t, (cs, (os, (n, lock))))))))), refl, (tt, (tt, (tt, (tt, (h.0.1, (h.0.2, (tt, tt))))))))
select_back k (Select (whats.Columns ns) t cs os n lock) h = (inr (inr (inr (inr (ns, (tt, (t, (cs, (os, (n, lock))))))))), refl, (h.0.0, (tt, (tt, (h.0.1, (h.0.2, (tt, tt)))))))
select_back k SelectVersionComment h = (inl (tt, (tt, tt)), refl, (tt, (tt, tt)))
select_back k SelectDatabase h = (inr (inr (inr (inl tt))), refl, tt)
select_back k s h = absurd (let clash : verb_in s ≡ verbs.Select = h.1 in cc)

select_ends : (t : Tok) → no_end t ≡ false → (no_end t || (no_end t || (no_end t || (no_end t || no_end t)))) ≡ false
select_ends t h = rw h refl

select_rule : Rule (body_at verbs.Select) as_it_is (Begins verbs.Select) tail no_end
unfolding select_at
select_rule =
    said_law
    (stops_law
    (choice_law (is_variable (codes "version_comment")) version_rule
    (choice_law (is_mark 42) all_rule called_rule (λ x t s. s) (λ y. called_leads (is_mark 42) (λ n t s. name_no_mark n 42 t s) (λ k t s. key_no_mark k 42 t s) y) called_has)
    (λ x t s. s) star_leads star_has)
    no_end select_ends)
    as_it_is (Begins verbs.Select) tail select_value (λ x. refl) select_begins (λ k x h. select_tail x) select_back

-- ---- any statement

abbrev first_verb : List Verb → Tok → Option Verb
first_verb [] t = None
first_verb (v ∷ vs) t = if is_key (keyword v) t then Some v else first_verb vs t

abbrev all_verbs : List Verb
all_verbs = verbs.Insert ∷ verbs.Select ∷ verbs.Update ∷ verbs.Delete ∷ verbs.Begin ∷ verbs.Start ∷ verbs.Commit ∷ verbs.Rollback ∷ verbs.Set ∷ verbs.Use ∷ verbs.Show ∷ []

first_is : (vs : List Verb) (t : Tok) (w : Verb) → first_verb vs t ≡ Some w → is_key (keyword w) t ≡ true
first_is [] t w h = absurd cc
first_is (v ∷ vs) t w h = by (is_key (keyword v) t) refl (λ g. first_is vs t w g)
  where
    by : (b : Bool) → is_key (keyword v) t ≡ b → (first_verb vs t ≡ Some w → is_key (keyword w) t ≡ true) → is_key (keyword w) t ≡ true
    by true e rec = let some : Some v ≡ Some w = rw e at h in let same : v ≡ w = cc in ap (λ (x : Verb). is_key (keyword x) t) (sym same) ∙ e
    by false e rec = rec (rw e at h)

-- no verb before it in the list has its keyword
abbrev IsFirst : Verb → List Verb → Type 0
IsFirst v [] = ⊥
IsFirst v (u ∷ us) = (u ≡ v) ⊎ ((bytes_eq (str_to_ascii_lowercase (keyword v)) (str_to_ascii_lowercase (keyword u)) ≡ false) × IsFirst v us)

first_back : (vs : List Verb) (t : Tok) (v : Verb) → is_key (keyword v) t ≡ true → IsFirst v vs → first_verb vs t ≡ Some v
first_back [] t v h f = absurd f
first_back (u ∷ us) t v h (inl same) = rw (ap (λ (x : Verb). is_key (keyword x) t) same ∙ h) (ap (λ x. Some x) same)
first_back (u ∷ us) t v h (inr f) = rw (key_other (keyword v) (keyword u) t f.0 h) (first_back us t v h f.1)

verb_first : (v : Verb) → IsFirst v all_verbs
verb_first verbs.Insert = inl refl
verb_first verbs.Select = inr (refl, inl refl)
verb_first verbs.Update = inr (refl, inr (refl, inl refl))
verb_first verbs.Delete = inr (refl, inr (refl, inr (refl, inl refl)))
verb_first verbs.Begin = inr (refl, inr (refl, inr (refl, inr (refl, inl refl))))
verb_first verbs.Start = inr (refl, inr (refl, inr (refl, inr (refl, inr (refl, inl refl)))))
verb_first verbs.Commit = inr (refl, inr (refl, inr (refl, inr (refl, inr (refl, inr (refl, inl refl))))))
verb_first verbs.Rollback = inr (refl, inr (refl, inr (refl, inr (refl, inr (refl, inr (refl, inr (refl, inl refl)))))))
verb_first verbs.Set = inr (refl, inr (refl, inr (refl, inr (refl, inr (refl, inr (refl, inr (refl, inr (refl, inl refl))))))))
verb_first verbs.Use = inr (refl, inr (refl, inr (refl, inr (refl, inr (refl, inr (refl, inr (refl, inr (refl, inr (refl, inl refl)))))))))
verb_first verbs.Show = inr (refl, inr (refl, inr (refl, inr (refl, inr (refl, inr (refl, inr (refl, inr (refl, inr (refl, inr (refl, inl refl))))))))))

verb_rule : Rule (λ s ts. one verb_of ts) as_it_is (such anything) (λ v. Item.Key (keyword v) ∷ []) never
verb_rule = one_rule verb_of (λ v. Item.Key (keyword v)) anything (λ v t h. (first_is all_verbs t v h, tt)) (λ v t q h. first_back all_verbs t v h (verb_first v)) verbs.Begin (Word (codes "BEGIN")) refl tt (word_real (codes "BEGIN") refl)

body_rule : (v : Verb) → Rule (body_at v) as_it_is (Begins v) tail no_end
body_rule verbs.Insert = insert_rule
body_rule verbs.Select = select_rule
body_rule verbs.Update = update_rule
body_rule verbs.Delete = delete_rule
body_rule verbs.Begin = begin_rule
body_rule verbs.Start = start_rule
body_rule verbs.Commit = commit_rule
body_rule verbs.Rollback = rollback_rule
body_rule verbs.Set = set_rule
body_rule verbs.Use = use_rule
body_rule verbs.Show = show_rule

-- a statement is its verb and what stands behind it
split : (s : Stmt) → statement s ≡ Item.Key (keyword (verb_in s)) ∷ tail s
split (Insert t ns rs) = refl
split (Select w t cs os n lock) = refl
split (Update t ss cs) = refl
split (Delete t cs) = refl
split Begin = refl
split StartTransaction = refl
split Commit = refl
split Rollback = refl
split (SetAutocommit on) = refl
split (SetNames w) = refl
split (Use n) = refl
split ShowTables = refl
split ShowDatabases = refl
split ShowWarnings = refl
split SelectVersionComment = refl
split SelectDatabase = refl

pub statement_rule : Rule statement_at as_it_is Fits statement no_end
unfolding statement_at
statement_rule =
    said_law (seq_law verb_rule body_rule) as_it_is Fits statement (λ x. x.1) (λ x. refl) (λ k x h. h.1.0)
    (λ k x h. split x.1 ∙ ap (λ (v : Verb). Item.Key (keyword v) ∷ tail x.1) h.1.1)
    (λ k s h. ((verb_in s, s), refl, (tt, (h, refl))))
