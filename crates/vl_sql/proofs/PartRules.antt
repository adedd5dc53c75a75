-- The laws of the parts of statements.
use Rattle.std.proofs.Common.{◌≡◌, ℕ, ◌+◌, ◌≤◌, ◌==◌, eqb-true, Bool, true, false, ◌||◌, List, [], ◌∷◌, ◌++◌, length, map, Option, Some, None, Ok, refl, sym, ap, subst, ◌∙◌, ◌⊎◌, inl, inr, arith, codes}
use Rattle.std.specs.List.{AllByRecursion, list_any}
use Rattle.std.specs.Str.{bytes_eq}
use Rattle.std.proofs.lemmas.List.{map_push}
use Rattle.vl_token.specs.Tok.{Tok}
use Rattle.vl_token.specs.Tok.Tok.{Word, Quoted, Text, Hex, Number, Variable, Mark, Bad}
use Rattle.vl_token.specs.Lexical.{cut}
use Rattle.vl_values.specs.declared.value.Value.{Value}
use Rattle.vl_grammar.specs.Item.{Item, IsA, joined}
use Rattle.vl_grammar.specs.Lists.{HasSome, UpTo, AllInTurn}
use Rattle.vl_grammar.specs.Reading.{one, items}
use Rattle.vl_grammar.specs.Terminal.{is_key, is_mark, key, mark, name_of, literal_of}
use Rattle.vl_grammar.proofs.Spelling.{Heads, or_false}
use Rattle.vl_grammar.proofs.Rule.{IsReal, Rule, as_it_is, such, never, one_rule, here_rule, either, either_fits}
use Rattle.vl_grammar.proofs.ListRule.{limited_rule, any_rule}
use Rattle.vl_grammar.proofs.TerminalRules.{anything, key_rule, mark_rule, name_rule, literal_rule, count_rule, new_name_rule, is_new, word_real, key_other, mark_no_key}
use Rattle.vl_grammar.proofs.Laws.{full_law, seq_law, made_law, said_law, option_law, choice_law}
use Rattle.vl_sql.specs.declared.table.TableName.{TableName}
use Rattle.vl_sql.specs.declared.test.Test.{Test}
use Rattle.vl_sql.specs.declared.test.Test.TheVariants.{Equals, Among}
use Rattle.vl_sql.specs.declared.order.Order.{Order}
use Rattle.vl_sql.specs.declared.order.Direction.{Direction}
use Rattle.vl_sql.specs.declared.order.Direction.TheVariants.{Ascending, Descending}
use Rattle.vl_sql.specs.declared.assignment.Assignment.{Assignment}
use Rattle.vl_sql.specs.Grammar as grammar
use Rattle.vl_sql.specs.Grammar.{AreDistinct, FitsTest}
use Rattle.vl_sql.specs.Reading.{is_comma, is_and, any_number, named_at, table_at, columns_at, row_at, rows_at, test_at, where_at, assigned_at, assignment_at, directed_at, direction_of, is_direction, order_at, order_by_at, limit_at, for_update_at}

-- any value will do
abbrev pub free : {A : Type 0} → ℕ → A → Type 0
free k a = Unit {0}

-- ---- marks

pub mark_other : (c d : ℕ) (t : Tok) → (c == d) ≡ false → is_mark c t ≡ true → is_mark d t ≡ false
mark_other c d (Word w) apart h = refl
mark_other c d (Quoted w) apart h = refl
mark_other c d (Text w) apart h = refl
mark_other c d (Hex w) apart h = refl
mark_other c d (Number m w) apart h = refl
mark_other c d (Variable w) apart h = refl
mark_other c d (Mark b) apart h = let same : b ≡ c = eqb-true b c h in ap (λ (x : ℕ). x == d) same ∙ apart
mark_other c d Bad apart h = refl

open_real : IsReal (Mark 40)
unfolding cut
open_real = (40 ∷ [], refl)

shut_real : IsReal (Mark 41)
unfolding cut
shut_real = (41 ∷ [], refl)

star_real : IsReal (Mark 42)
unfolding cut
star_real = (42 ∷ [], refl)

comma_real : IsReal (Mark 44)
unfolding cut
comma_real = (44 ∷ [], refl)

dot_real : IsReal (Mark 46)
unfolding cut
dot_real = (46 ∷ [], refl)

equals_real : IsReal (Mark 61)
unfolding cut
equals_real = (61 ∷ [], refl)

pub open_rule : Rule (λ s ts. one (mark 40) ts) as_it_is (such anything) (λ u. Item.Sign 40 ∷ []) never
open_rule = mark_rule 40 refl open_real

pub shut_rule : Rule (λ s ts. one (mark 41) ts) as_it_is (such anything) (λ u. Item.Sign 41 ∷ []) never
shut_rule = mark_rule 41 refl shut_real

pub star_rule : Rule (λ s ts. one (mark 42) ts) as_it_is (such anything) (λ u. Item.Sign 42 ∷ []) never
star_rule = mark_rule 42 refl star_real

dot_rule : Rule (λ s ts. one (mark 46) ts) as_it_is (such anything) (λ u. Item.Sign 46 ∷ []) never
dot_rule = mark_rule 46 refl dot_real

pub equals_rule : Rule (λ s ts. one (mark 61) ts) as_it_is (such anything) (λ u. Item.Sign 61 ∷ []) never
equals_rule = mark_rule 61 refl equals_real

-- ---- a table

abbrev TableParts : Type 0
TableParts = List ℕ × ((Unit {0} × List ℕ) ⊎ Unit {0})

abbrev table_of : TableParts → TableName
table_of (n, inl z) = record { keyspace = Some n; name = z.1 }
table_of (n, inr u) = record { keyspace = None; name = n }

table_value : (x : TableParts) → table_of x ≡ either (λ (z : Unit {0} × List ℕ). record { keyspace = Some x.0; name = z.1 }) (λ (u : Unit {0}). record { keyspace = None; name = x.0 }) x.1
table_value (n, inl z) = refl
table_value (n, inr u) = refl

table_items : (x : TableParts) → grammar.table (table_of x) ≡ (Item.Name x.0 ∷ []) ++ either (λ (z : Unit {0} × List ℕ). (Item.Sign 46 ∷ []) ++ (Item.Name z.1 ∷ [])) (λ (u : Unit {0}). []) x.1
table_items (n, inl z) = refl
table_items (n, inr u) = refl

table_back : (k : ℕ) (o : Option (List ℕ)) (m : List ℕ) → (x : TableParts) × (table_of x ≡ record { keyspace = o; name = m }) × (Unit {0} × either_fits (λ k (z : Unit {0} × List ℕ). Unit {0} × Unit {0}) (λ k (u : Unit {0}). Unit {0}) k x.1)
table_back k (Some n) m = ((n, inl (tt, m)), refl, (tt, (tt, tt)))
table_back k None m = ((m, inr tt), refl, (tt, tt))

pub table_rule : Rule (λ k ts. table_at ts) as_it_is free grammar.table (λ t. is_mark 46 t || false)
unfolding table_at
table_rule =
    said_law
    (seq_law name_rule (λ n.
    option_law (is_mark 46)
    (seq_law dot_rule (λ d. made_law (λ m. record { keyspace = Some n; name = m }) name_rule))
    (here_rule (record { keyspace = None; name = n }))
    (λ x t h. h) (λ y. tt)))
    as_it_is free grammar.table table_of table_value (λ k x h. tt) (λ k x h. table_items x) (λ k t h. table_back k t.keyspace t.name)

-- ---- lists of names and of literals

abbrev pub comma_or_more : Tok → Bool
comma_or_more t = is_comma t || false

comma_free : (t : Tok) → is_comma t ≡ true → never t ≡ false
comma_free t h = refl

shut_stops : (t : Tok) → is_mark 41 t ≡ true → comma_or_more t ≡ false
shut_stops t h = or_false (is_comma t) false (mark_other 41 44 t refl h) refl

literals_rule : Rule (λ k ts. any_number is_comma (λ b rest. one literal_of rest) ts) as_it_is (λ k vs. HasSome vs × AllInTurn (λ b v. Unit {0}) [] vs) (joined grammar.comma grammar.literal) comma_or_more
unfolding any_number
literals_rule = any_rule (λ b k rest. one literal_of rest) (λ k b v. Unit {0}) grammar.literal never is_comma grammar.comma (λ b. literal_rule) (λ t h. h) (λ t h. h) comma_free (λ v. tt) (Mark 44) refl comma_real

pub in_turn : {A : Type 0} (P : A → Type 0) → (before xs : List A) → AllByRecursion P xs → AllInTurn (λ b a. P a) before xs
in_turn P before [] h = tt
in_turn P before (a ∷ xs) h = (h.0, in_turn P (before ++ a ∷ []) xs h.1)

pub from_turn : {A : Type 0} (P : A → Type 0) → (before xs : List A) → AllInTurn (λ b a. P a) before xs → AllByRecursion P xs
from_turn P before [] h = tt
from_turn P before (a ∷ xs) h = (h.0, from_turn P (before ++ a ∷ []) xs h.1)

each_turn : {A : Type 0} (before xs : List A) → AllInTurn (λ b a. Unit {0}) before xs
each_turn before [] = tt
each_turn before (a ∷ xs) = (tt, each_turn (before ++ a ∷ []) xs)

pub row_rule : Rule (λ k ts. row_at ts) as_it_is (λ k vs. HasSome vs) grammar.row never
unfolding row_at
row_rule =
    said_law
    (seq_law open_rule (λ o. full_law literals_rule (λ vs. made_law (λ u. vs) shut_rule) (λ y t h. shut_stops t h) (λ y. tt)))
    as_it_is (λ k vs. HasSome vs) grammar.row (λ x. x.1.0) (λ x. refl) (λ k x h. h.1.0.0) (λ k x h. refl)
    (λ k vs h. ((tt, (vs, tt)), refl, (tt, ((h, each_turn [] vs), tt))))

pub rows_rule : Rule rows_at as_it_is (λ k rs. UpTo (1000 + k) rs × AllByRecursion HasSome rs) (joined grammar.comma grammar.row) comma_or_more
unfolding rows_at
rows_rule =
    said_law
    (limited_rule (λ b k rest. row_at rest) (λ k b vs. HasSome vs) grammar.row never is_comma grammar.comma (λ b. row_rule) (λ t h. h) (λ t h. h) comma_free (λ vs. tt) (Mark 44) refl comma_real 1000 (omega arith))
    as_it_is (λ k rs. UpTo (1000 + k) rs × AllByRecursion HasSome rs) (joined grammar.comma grammar.row) (λ x. x) (λ x. refl)
    (λ k x h. (h.0, from_turn HasSome [] x h.1)) (λ k x h. refl) (λ k rs h. (rs, refl, (h.0, in_turn HasSome [] rs h.1)))

pub names_rule : Rule (λ k ts. items is_comma (λ b rest. one name_of rest) (1000 + k) [] ts) as_it_is (λ k ns. UpTo (1000 + k) ns) (joined grammar.comma grammar.name) comma_or_more
names_rule =
    said_law
    (limited_rule (λ b k rest. one name_of rest) (λ k b n. Unit {0}) grammar.name never is_comma grammar.comma (λ b. name_rule) (λ t h. h) (λ t h. h) comma_free (λ n. tt) (Mark 44) refl comma_real 1000 (omega arith))
    as_it_is (λ k ns. UpTo (1000 + k) ns) (joined grammar.comma grammar.name) (λ x. x) (λ x. refl) (λ k x h. h.0) (λ k x h. refl) (λ k ns h. (ns, refl, (h, each_turn [] ns)))

among_rule : Rule (λ k ts. items is_comma (λ b rest. one literal_of rest) (1000 + k) [] ts) as_it_is (λ k vs. UpTo (1000 + k) vs) (joined grammar.comma grammar.literal) comma_or_more
among_rule =
    said_law
    (limited_rule (λ b k rest. one literal_of rest) (λ k b v. Unit {0}) grammar.literal never is_comma grammar.comma (λ b. literal_rule) (λ t h. h) (λ t h. h) comma_free (λ v. tt) (Mark 44) refl comma_real 1000 (omega arith))
    as_it_is (λ k vs. UpTo (1000 + k) vs) (joined grammar.comma grammar.literal) (λ x. x) (λ x. refl) (λ k x h. h.0) (λ k x h. refl) (λ k vs h. (vs, refl, (h, each_turn [] vs)))

-- ---- lists in which no name stands twice

abbrev new_in : {A : Type 0} → (A → List ℕ) → List A → A → Type 0
new_in f before a = is_new (map f before) (f a)

to_distinct : {A : Type 0} (f : A → List ℕ) (before xs : List A) → AllInTurn (new_in f) before xs → AllInTurn (λ b n. list_any (bytes_eq n) b ≡ false) (map f before) (map f xs)
to_distinct f before [] h = tt
to_distinct f before (a ∷ xs) h = (h.0, subst (λ b. AllInTurn (λ b n. list_any (bytes_eq n) b ≡ false) b (map f xs)) (map_push f before a) (to_distinct f (before ++ a ∷ []) xs h.1))

from_distinct : {A : Type 0} (f : A → List ℕ) (before xs : List A) → AllInTurn (λ b n. list_any (bytes_eq n) b ≡ false) (map f before) (map f xs) → AllInTurn (new_in f) before xs
from_distinct f before [] h = tt
from_distinct f before (a ∷ xs) h = (h.0, from_distinct f (before ++ a ∷ []) xs (subst (λ b. AllInTurn (λ b n. list_any (bytes_eq n) b ≡ false) b (map f xs)) (sym (map_push f before a)) h.1))

map_same : (ns : List (List ℕ)) → map (λ n. n) ns ≡ ns
map_same [] = refl
map_same (n ∷ ns) = ap (λ (ms : List (List ℕ)). n ∷ ms) (map_same ns)

column_rule : (before : List (List ℕ)) → Rule (λ k ts. named_at (λ n behind. Ok (n, behind)) (map (λ n. n) before) ts) as_it_is (λ k n. new_in (λ n. n) before n) grammar.name never
column_rule before =
    said_law (seq_law (new_name_rule (map (λ n. n) before)) (λ n. here_rule n))
    as_it_is (λ k n. new_in (λ n. n) before n) grammar.name (λ x. x.0) (λ x. refl) (λ k x h. h.0) (λ k x h. refl) (λ k n h. ((n, tt), refl, (h, tt)))

column_list_rule : Rule (λ k ts. any_number is_comma (λ before rest. named_at (λ n behind. Ok (n, behind)) (map (λ n. n) before) rest) ts) as_it_is (λ k ns. HasSome ns × AreDistinct ns) (joined grammar.comma grammar.name) comma_or_more
unfolding any_number
column_list_rule =
    said_law
    (any_rule (λ before k rest. named_at (λ n behind. Ok (n, behind)) (map (λ n. n) before) rest) (λ k b n. new_in (λ n. n) b n) grammar.name never is_comma grammar.comma column_rule (λ t h. h) (λ t h. h) comma_free (λ n. tt) (Mark 44) refl comma_real)
    as_it_is (λ k ns. HasSome ns × AreDistinct ns) (joined grammar.comma grammar.name) (λ x. x) (λ x. refl)
    (λ k x h. (h.0, subst AreDistinct (map_same x) (to_distinct (λ n. n) [] x h.1))) (λ k x h. refl)
    (λ k ns h. (ns, refl, (h.0, from_distinct (λ n. n) [] ns (subst AreDistinct (sym (map_same ns)) h.1))))

pub columns_rule : Rule (λ k ts. columns_at ts) as_it_is (λ k ns. HasSome ns × AreDistinct ns) grammar.columns never
unfolding columns_at
columns_rule =
    said_law
    (seq_law open_rule (λ o. full_law column_list_rule (λ ns. made_law (λ u. ns) shut_rule) (λ y t h. shut_stops t h) (λ y. tt)))
    as_it_is (λ k ns. HasSome ns × AreDistinct ns) grammar.columns (λ x. x.1.0) (λ x. refl) (λ k x h. h.1.0) (λ k x h. refl)
    (λ k ns h. ((tt, (ns, tt)), refl, (tt, (h, tt))))

assigned_rule : (n : List ℕ) → Rule (λ k ts. assigned_at n ts) (λ (x : Unit {0} × Value). record { column = n; value = x.1 }) (λ k x. Unit {0} × Unit {0}) (λ x. Item.Sign 61 ∷ Item.Literal x.1 ∷ []) never
unfolding assigned_at
assigned_rule n = seq_law equals_rule (λ is. made_law (λ v. record { column = n; value = v }) literal_rule)

assignment_rule : (before : List Assignment) → Rule (λ k ts. assignment_at before ts) as_it_is (λ k a. new_in (λ a. a.column) before a) grammar.assignment never
assignment_rule before =
    said_law (seq_law (new_name_rule (map (λ a. a.column) before)) assigned_rule)
    as_it_is (λ k a. new_in (λ a. a.column) before a) grammar.assignment (λ x. record { column = x.0; value = x.1.1 }) (λ x. refl) (λ k x h. h.0) (λ k x h. refl)
    (λ k a h. ((a.column, (tt, a.value)), refl, (h, (tt, tt))))

pub assignments_rule : Rule (λ k ts. any_number is_comma assignment_at ts) as_it_is (λ k ss. HasSome ss × AreDistinct (map (λ s. s.column) ss)) (joined grammar.comma grammar.assignment) comma_or_more
unfolding any_number
assignments_rule =
    said_law
    (any_rule (λ before k rest. assignment_at before rest) (λ k b a. new_in (λ a. a.column) b a) grammar.assignment never is_comma grammar.comma assignment_rule (λ t h. h) (λ t h. h) comma_free (λ a. tt) (Mark 44) refl comma_real)
    as_it_is (λ k ss. HasSome ss × AreDistinct (map (λ s. s.column) ss)) (joined grammar.comma grammar.assignment) (λ x. x) (λ x. refl)
    (λ k x h. (h.0, to_distinct (λ a. a.column) [] x h.1)) (λ k x h. refl) (λ k ss h. (ss, refl, (h.0, from_distinct (λ a. a.column) [] ss h.1)))

-- ---- keywords

pub keyed : (k : List ℕ) (t : Tok) → is_key k t ≡ true → is_key k t ≡ true
keyed k t h = h

in_rule : Rule (λ s ts. one (key (codes "IN")) ts) as_it_is (such anything) (λ u. Item.Key (codes "IN") ∷ []) never
in_rule = key_rule (codes "IN") refl refl

where_key_rule : Rule (λ s ts. one (key (codes "WHERE")) ts) as_it_is (such anything) (λ u. Item.Key (codes "WHERE") ∷ []) never
where_key_rule = key_rule (codes "WHERE") refl refl

order_key_rule : Rule (λ s ts. one (key (codes "ORDER")) ts) as_it_is (such anything) (λ u. Item.Key (codes "ORDER") ∷ []) never
order_key_rule = key_rule (codes "ORDER") refl refl

by_key_rule : Rule (λ s ts. one (key (codes "BY")) ts) as_it_is (such anything) (λ u. Item.Key (codes "BY") ∷ []) never
by_key_rule = key_rule (codes "BY") refl refl

limit_key_rule : Rule (λ s ts. one (key (codes "LIMIT")) ts) as_it_is (such anything) (λ u. Item.Key (codes "LIMIT") ∷ []) never
limit_key_rule = key_rule (codes "LIMIT") refl refl

for_key_rule : Rule (λ s ts. one (key (codes "FOR")) ts) as_it_is (such anything) (λ u. Item.Key (codes "FOR") ∷ []) never
for_key_rule = key_rule (codes "FOR") refl refl

update_key_rule : Rule (λ s ts. one (key (codes "UPDATE")) ts) as_it_is (such anything) (λ u. Item.Key (codes "UPDATE") ∷ []) never
update_key_rule = key_rule (codes "UPDATE") refl refl

-- ---- tests

abbrev TestParts : Type 0
TestParts = List ℕ × ((Unit {0} × (Unit {0} × (List Value × Unit {0}))) ⊎ (Unit {0} × Value))

abbrev test_of : TestParts → Test
test_of (n, inl z) = Among n z.1.1.0
test_of (n, inr z) = Equals n z.1

test_value : (x : TestParts) → test_of x ≡ either (λ (z : Unit {0} × (Unit {0} × (List Value × Unit {0}))). Among x.0 z.1.1.0) (λ (z : Unit {0} × Value). Equals x.0 z.1) x.1
test_value (n, inl z) = refl
test_value (n, inr z) = refl

test_items : (x : TestParts) → grammar.test (test_of x) ≡ (Item.Name x.0 ∷ []) ++ either (λ (z : Unit {0} × (Unit {0} × (List Value × Unit {0}))). (Item.Key (codes "IN") ∷ []) ++ ((Item.Sign 40 ∷ []) ++ (joined grammar.comma grammar.literal z.1.1.0 ++ (Item.Sign 41 ∷ []))))
    (λ (z : Unit {0} × Value). (Item.Sign 61 ∷ []) ++ (Item.Literal z.1 ∷ [])) x.1
test_items (n, inl z) = refl
test_items (n, inr z) = refl

abbrev TestFits : ℕ → ((Unit {0} × (Unit {0} × (List Value × Unit {0}))) ⊎ (Unit {0} × Value)) → Type 0
TestFits k z = either_fits (λ k (z : Unit {0} × (Unit {0} × (List Value × Unit {0}))). Unit {0} × (Unit {0} × (UpTo (1000 + k) z.1.1.0 × Unit {0}))) (λ k (z : Unit {0} × Value). Unit {0} × Unit {0}) k z

test_fits : (k : ℕ) (x : TestParts) → Unit {0} × TestFits k x.1 → FitsTest k (test_of x)
test_fits k (n, inl z) h = h.1.1.1.0
test_fits k (n, inr z) h = tt

test_back : (k : ℕ) (t : Test) → FitsTest k t → (x : TestParts) × (test_of x ≡ t) × (Unit {0} × TestFits k x.1)
test_back k (Equals n v) h = ((n, inr (tt, v)), refl, (tt, (tt, tt)))
test_back k (Among n vs) h = ((n, inl (tt, (tt, (vs, tt)))), refl, (tt, (tt, (tt, (h, tt)))))

pub test_rule : Rule test_at as_it_is FitsTest grammar.test never
unfolding test_at
test_rule =
    said_law
    (seq_law name_rule (λ n.
    choice_law (is_key (codes "IN"))
    (seq_law in_rule (λ i. seq_law open_rule (λ o. full_law among_rule (λ vs. made_law (λ u. Among n vs) shut_rule) (λ y t h. shut_stops t h) (λ y. tt))))
    (seq_law equals_rule (λ is. made_law (λ v. Equals n v) literal_rule))
    (λ x t h. h) (λ y t h. mark_no_key (codes "IN") 61 t h) (λ y. tt)))
    as_it_is FitsTest grammar.test test_of test_value test_fits (λ k x h. test_items x) test_back

and_real : IsReal (Word (codes "AND"))
and_real = word_real (codes "AND") refl

pub and_or_more : Tok → Bool
and_or_more t = is_and t || false

abbrev where_more : Tok → Bool
where_more t = is_key (codes "WHERE") t || ((is_and t || false) || false)

test_full : (t : Test) → HasSome (grammar.test t)
test_full (Equals n v) = tt
test_full (Among n vs) = tt

tests_rule : Rule (λ k ts. any_number is_and (λ b rest. test_at k rest) ts) as_it_is (λ k cs. HasSome cs × AllByRecursion (FitsTest k) cs) (joined (Item.Key (codes "AND")) grammar.test) (λ t. is_and t || false)
unfolding any_number
tests_rule =
    said_law
    (any_rule (λ b k rest. test_at k rest) (λ k b c. FitsTest k c) grammar.test never is_and (Item.Key (codes "AND")) (λ b. test_rule) (λ t h. h) (λ t h. h) (λ t h. refl) test_full (Word (codes "AND")) refl and_real)
    as_it_is (λ k cs. HasSome cs × AllByRecursion (FitsTest k) cs) (joined (Item.Key (codes "AND")) grammar.test) (λ x. x) (λ x. refl)
    (λ k x h. (h.0, from_turn (FitsTest k) [] x h.1)) (λ k x h. refl) (λ k cs h. (cs, refl, (h.0, in_turn (FitsTest k) [] cs h.1)))

-- a list that may be missing
abbrev ListParts : Type 0 → Type 0
ListParts A = (Unit {0} × List A) ⊎ Unit {0}

abbrev list_of : {A : Type 0} → ListParts A → List A
list_of (inl z) = z.1
list_of (inr u) = []

list_value : {A : Type 0} (x : ListParts A) → list_of x ≡ either (λ (z : Unit {0} × List A). z.1) (λ (u : Unit {0}). []) x
list_value (inl z) = refl
list_value (inr u) = refl

where_items : (k : ℕ) (x : ListParts Test) → either_fits (λ k (z : Unit {0} × List Test). Unit {0} × (HasSome z.1 × AllByRecursion (FitsTest k) z.1)) (λ k (u : Unit {0}). Unit {0}) k x
    → grammar.where_ (list_of x) ≡ either (λ (z : Unit {0} × List Test). (Item.Key (codes "WHERE") ∷ []) ++ joined (Item.Key (codes "AND")) grammar.test z.1) (λ (u : Unit {0}). []) x
where_items k (inl (u, [])) h = absurd h.1.0
where_items k (inl (u, c ∷ cs)) h = refl
where_items k (inr u) h = refl

where_fits : (k : ℕ) (x : ListParts Test) → either_fits (λ k (z : Unit {0} × List Test). Unit {0} × (HasSome z.1 × AllByRecursion (FitsTest k) z.1)) (λ k (u : Unit {0}). Unit {0}) k x → AllByRecursion (FitsTest k) (list_of x)
where_fits k (inl z) h = h.1.1
where_fits k (inr u) h = tt

where_back : (k : ℕ) (cs : List Test) → AllByRecursion (FitsTest k) cs → (x : ListParts Test) × (list_of x ≡ cs) × either_fits (λ k (z : Unit {0} × List Test). Unit {0} × (HasSome z.1 × AllByRecursion (FitsTest k) z.1)) (λ k (u : Unit {0}). Unit {0}) k x
where_back k [] h = (inr tt, refl, tt)
where_back k (c ∷ cs) h = (inl (tt, c ∷ cs), refl, (tt, (tt, h)))

pub where_rule : Rule where_at as_it_is (λ k cs. AllByRecursion (FitsTest k) cs) grammar.where_ (λ t. is_key (codes "WHERE") t || ((is_and t || false) || false))
unfolding where_at
where_rule =
    said_law
    (option_law (is_key (codes "WHERE")) (seq_law where_key_rule (λ w. tests_rule)) (here_rule []) (λ x t h. h) (λ y. tt))
    as_it_is (λ k cs. AllByRecursion (FitsTest k) cs) grammar.where_ list_of list_value where_fits where_items where_back

-- ---- ORDER BY

direction_item : Direction → Item
direction_item Ascending = Item.Key (codes "ASC")
direction_item Descending = Item.Key (codes "DESC")

direction_is : (d : Direction) (t : Tok) → direction_of t ≡ Some d → IsA (direction_item d) t × Unit {0}
unfolding direction_item
direction_is d t h = by (is_key (codes "ASC") t) (is_key (codes "DESC") t) refl refl d h
  where
    by : (a b : Bool) → is_key (codes "ASC") t ≡ a → is_key (codes "DESC") t ≡ b → (d : Direction) → direction_of t ≡ Some d → IsA (direction_item d) t × Unit {0}
    by true b e f Ascending h = (e, tt)
    by true b e f Descending h = absurd (let clash : Some Ascending ≡ Some Descending = rw e at h in cc)
    by false true e f Ascending h = absurd (let clash : Some Descending ≡ Some Ascending = rw (e, f) at h in cc)
    by false true e f Descending h = (f, tt)
    by false false e f d h = absurd (let clash : None ≡ Some d = rw (e, f) at h in cc)

direction_back : (d : Direction) (t : Tok) → Unit {0} → IsA (direction_item d) t → direction_of t ≡ Some d
unfolding direction_item
direction_back Ascending t u h = rw h refl
direction_back Descending t u h = rw (key_other (codes "DESC") (codes "ASC") t refl h, h) refl

direction_rule : Rule (λ s ts. one direction_of ts) as_it_is (such anything) (λ d. direction_item d ∷ []) never
unfolding direction_item
direction_rule = one_rule direction_of direction_item anything direction_is direction_back Ascending (Word (codes "ASC")) refl tt (word_real (codes "ASC") refl)

abbrev OrderParts : Type 0
OrderParts = List ℕ × (Direction ⊎ Unit {0})

abbrev order_of : OrderParts → Order
order_of (n, inl d) = record { column = n; direction = Some d }
order_of (n, inr u) = record { column = n; direction = None }

order_value : (x : OrderParts) → order_of x ≡ either (λ (d : Direction). record { column = x.0; direction = Some d }) (λ (u : Unit {0}). record { column = x.0; direction = None }) x.1
order_value (n, inl d) = refl
order_value (n, inr u) = refl

order_items : (x : OrderParts) → grammar.order (order_of x) ≡ (Item.Name x.0 ∷ []) ++ either (λ (d : Direction). direction_item d ∷ []) (λ (u : Unit {0}). []) x.1
unfolding direction_item
order_items (n, inl Ascending) = refl
order_items (n, inl Descending) = refl
order_items (n, inr u) = refl

order_back : (k : ℕ) (n : List ℕ) (o : Option Direction) → (x : OrderParts) × (order_of x ≡ record { column = n; direction = o }) × (Unit {0} × either_fits (λ k (d : Direction). Unit {0}) (λ k (u : Unit {0}). Unit {0}) k x.1)
order_back k n (Some d) = ((n, inl d), refl, (tt, tt))
order_back k n None = ((n, inr tt), refl, (tt, tt))

directed_heads : (d : Direction) → Heads is_direction (direction_item d ∷ [])
unfolding direction_item
directed_heads Ascending t h = rw h refl
directed_heads Descending t h = rw (key_other (codes "DESC") (codes "ASC") t refl h, h) refl

order_rule : Rule (λ k ts. order_at ts) as_it_is free grammar.order (λ t. is_direction t || false)
unfolding order_at directed_at
order_rule =
    said_law
    (seq_law name_rule (λ n.
    option_law is_direction
    (made_law (λ d. record { column = n; direction = Some d }) direction_rule)
    (here_rule (record { column = n; direction = None }))
    directed_heads (λ y. tt)))
    as_it_is free grammar.order order_of order_value (λ k x h. tt) (λ k x h. order_items x) (λ k o h. order_back k o.column o.direction)

pub no_direction : (t : Tok) → is_key (codes "ASC") t ≡ false → is_key (codes "DESC") t ≡ false → is_direction t ≡ false
no_direction t a d = rw (a, d) refl

orders_rule : Rule (λ k ts. items is_comma (λ b rest. order_at rest) (8 + k) [] ts) as_it_is (λ k os. UpTo (8 + k) os) (joined grammar.comma grammar.order) (λ t. is_comma t || (is_direction t || false))
orders_rule =
    said_law
    (limited_rule (λ b k rest. order_at rest) (λ k b o. Unit {0}) grammar.order (λ t. is_direction t || false) is_comma grammar.comma (λ b. order_rule) (λ t h. h) (λ t h. h)
    (λ t h. or_false (is_direction t) false (no_direction t (mark_no_key (codes "ASC") 44 t h) (mark_no_key (codes "DESC") 44 t h)) refl) (λ o. tt) (Mark 44) refl comma_real 8 (omega arith))
    as_it_is (λ k os. UpTo (8 + k) os) (joined grammar.comma grammar.order) (λ x. x) (λ x. refl) (λ k x h. h.0) (λ k x h. refl) (λ k os h. (os, refl, (h, each_turn [] os)))

abbrev OrderByParts : Type 0
OrderByParts = (Unit {0} × (Unit {0} × List Order)) ⊎ Unit {0}

abbrev orders_of : OrderByParts → List Order
orders_of (inl z) = z.1.1
orders_of (inr u) = []

orders_value : (x : OrderByParts) → orders_of x ≡ either (λ (z : Unit {0} × (Unit {0} × List Order)). z.1.1) (λ (u : Unit {0}). []) x
orders_value (inl z) = refl
orders_value (inr u) = refl

abbrev OrderByFits : ℕ → OrderByParts → Type 0
OrderByFits k x = either_fits (λ k (z : Unit {0} × (Unit {0} × List Order)). Unit {0} × (Unit {0} × UpTo (8 + k) z.1.1)) (λ k (u : Unit {0}). Unit {0}) k x

orders_fit : (k : ℕ) (x : OrderByParts) → OrderByFits k x → length (orders_of x) ≤ 8 + k
orders_fit k (inl z) h = h.1.1.1
orders_fit k (inr u) h = omega arith

orders_items : (k : ℕ) (x : OrderByParts) → OrderByFits k x → grammar.order_by (orders_of x) ≡ either (λ (z : Unit {0} × (Unit {0} × List Order)). (Item.Key (codes "ORDER") ∷ []) ++ ((Item.Key (codes "BY") ∷ []) ++ joined grammar.comma grammar.order z.1.1)) (λ (u : Unit {0}). []) x
orders_items k (inl (u, (w, []))) h = absurd h.1.1.0
orders_items k (inl (u, (w, o ∷ os))) h = refl
orders_items k (inr u) h = refl

orders_back : (k : ℕ) (os : List Order) → length os ≤ 8 + k → (x : OrderByParts) × (orders_of x ≡ os) × OrderByFits k x
orders_back k [] h = (inr tt, refl, tt)
orders_back k (o ∷ os) h = (inl (tt, (tt, o ∷ os)), refl, (tt, (tt, (tt, h))))

pub order_by_rule : Rule order_by_at as_it_is (λ k os. length os ≤ 8 + k) grammar.order_by (λ t. is_key (codes "ORDER") t || ((is_comma t || (is_direction t || false)) || false))
unfolding order_by_at
order_by_rule =
    said_law
    (option_law (is_key (codes "ORDER")) (seq_law order_key_rule (λ o. seq_law by_key_rule (λ b. orders_rule))) (here_rule []) (λ x t h. h) (λ y. tt))
    as_it_is (λ k os. length os ≤ 8 + k) grammar.order_by orders_of orders_value orders_fit orders_items orders_back

-- ---- LIMIT and FOR UPDATE

abbrev limit_of : ((Unit {0} × ℕ) ⊎ Unit {0}) → Option ℕ
limit_of (inl z) = Some z.1
limit_of (inr u) = None

limit_value : (x : (Unit {0} × ℕ) ⊎ Unit {0}) → limit_of x ≡ either (λ (z : Unit {0} × ℕ). Some z.1) (λ (u : Unit {0}). None) x
limit_value (inl z) = refl
limit_value (inr u) = refl

limit_items : (x : (Unit {0} × ℕ) ⊎ Unit {0}) → grammar.limit (limit_of x) ≡ either (λ (z : Unit {0} × ℕ). (Item.Key (codes "LIMIT") ∷ []) ++ (Item.Count z.1 ∷ [])) (λ (u : Unit {0}). []) x
limit_items (inl z) = refl
limit_items (inr u) = refl

limit_back : (k : ℕ) (o : Option ℕ) → (x : (Unit {0} × ℕ) ⊎ Unit {0}) × (limit_of x ≡ o) × either_fits (λ k (z : Unit {0} × ℕ). Unit {0} × Unit {0}) (λ k (u : Unit {0}). Unit {0}) k x
limit_back k (Some n) = (inl (tt, n), refl, (tt, tt))
limit_back k None = (inr tt, refl, tt)

pub limit_rule : Rule (λ k ts. limit_at ts) as_it_is free grammar.limit (λ t. is_key (codes "LIMIT") t || false)
unfolding limit_at
limit_rule =
    said_law
    (option_law (is_key (codes "LIMIT")) (seq_law limit_key_rule (λ l. made_law (λ n. Some n) count_rule)) (here_rule None) (λ x t h. h) (λ y. tt))
    as_it_is free grammar.limit limit_of limit_value (λ k x h. tt) (λ k x h. limit_items x) (λ k o h. limit_back k o)

abbrev lock_of : ((Unit {0} × Unit {0}) ⊎ Unit {0}) → Bool
lock_of (inl z) = true
lock_of (inr u) = false

lock_value : (x : (Unit {0} × Unit {0}) ⊎ Unit {0}) → lock_of x ≡ either (λ (z : Unit {0} × Unit {0}). true) (λ (u : Unit {0}). false) x
lock_value (inl z) = refl
lock_value (inr u) = refl

lock_items : (x : (Unit {0} × Unit {0}) ⊎ Unit {0}) → grammar.for_update (lock_of x) ≡ either (λ (z : Unit {0} × Unit {0}). (Item.Key (codes "FOR") ∷ []) ++ (Item.Key (codes "UPDATE") ∷ [])) (λ (u : Unit {0}). []) x
lock_items (inl z) = refl
lock_items (inr u) = refl

lock_back : (k : ℕ) (b : Bool) → (x : (Unit {0} × Unit {0}) ⊎ Unit {0}) × (lock_of x ≡ b) × either_fits (λ k (z : Unit {0} × Unit {0}). Unit {0} × Unit {0}) (λ k (u : Unit {0}). Unit {0}) k x
lock_back k true = (inl (tt, tt), refl, (tt, tt))
lock_back k false = (inr tt, refl, tt)

pub for_update_rule : Rule (λ k ts. for_update_at ts) as_it_is free grammar.for_update (λ t. is_key (codes "FOR") t || false)
unfolding for_update_at
for_update_rule =
    said_law
    (option_law (is_key (codes "FOR")) (seq_law for_key_rule (λ f. made_law (λ u. true) update_key_rule)) (here_rule false) (λ x t h. h) (λ y. tt))
    as_it_is free grammar.for_update lock_of lock_value (λ k x h. tt) (λ k x h. lock_items x) (λ k b h. lock_back k b)
