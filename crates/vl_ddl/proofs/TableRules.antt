-- The laws of the parts of a table, and of a table.
use Rattle.std.proofs.Common.{◌≡◌, ℕ, Bool, true, false, not, ◌&&◌, ◌||◌, List, [], ◌∷◌, ◌++◌, Option, Some, None, Ok, refl, sym, ap, subst, ◌∙◌, ◌⊎◌, inl, inr, append_assoc, codes}
use Rattle.std.specs.List.{list_any, AllByRecursion}
use Rattle.std.specs.Str.{bytes_eq}
use Rattle.std.proofs.lemmas.Slice.Eq.{bytes_eq-Decides}
use Rattle.vl_token.specs.Tok.{Tok}
use Rattle.vl_token.specs.Tok.Tok.{Word, Quoted, Text, Hex, Number, Variable, Mark, Bad}
use Rattle.vl_grammar.specs.Item.{Item, IsA, Spells, joined, in_brackets}
use Rattle.vl_grammar.specs.Lists.{HasSome, AllInTurn}
use Rattle.vl_grammar.specs.Reading.{one}
use Rattle.vl_grammar.specs.Terminal.{is_key, is_mark, name_of}
use Rattle.vl_grammar.proofs.Spelling.{or_false}
use Rattle.vl_grammar.proofs.Rule.{IsReal, Alive, Rule, as_it_is, such, never, one_rule, here_rule, either, either_fits}
use Rattle.vl_grammar.proofs.ListRule.{any_rule}
use Rattle.vl_grammar.proofs.TerminalRules.{key_rule, name_rule, word_real, key_other, key_no_mark, mark_no_key}
use Rattle.vl_grammar.proofs.Laws.{then_law, full_law, seq_law, made_law, said_law, behind_law, stops_law}
use Rattle.vl_ddl.specs.Words.{is_comma, is_index, is_other_key, is_key_word, is_same, label_of, is_label}
use Rattle.vl_ddl.specs.declared.declared_type.DeclaredType.{DeclaredType}
use Rattle.vl_ddl.specs.declared.column_options.ColumnOptions.{ColumnOptions}
use Rattle.vl_ddl.specs.declared.opening.Opening.{Opening}
use Rattle.vl_ddl.specs.declared.opening.Opening.TheVariants as openings
use Rattle.vl_ddl.specs.declared.part.Part.{Part}
use Rattle.vl_ddl.specs.declared.part.Part.TheVariants.{Column, PrimaryKey, Index, OtherKey}
use Rattle.vl_ddl.specs.declared.statement.Statement.{Statement}
use Rattle.vl_ddl.specs.Grammar as grammar
use Rattle.vl_ddl.specs.Grammar.{AreDistinct, FitsType, FitsDefault, FitsUnique, Fits, FitsPart, FitsTable, column_names, has_key, Piece, Table, are_matched, pieces}
use Rattle.vl_ddl.specs.Reading.{column_opening, opening_of, index_at, primary_key_at, column_at, body_at, part_at, parts_at, created_at, missing_at, named_at, table_at}
use Rattle.vl_ddl.specs.Meaning.{has_pieces, statement_of}
use Rattle.vl_ddl.proofs.TrailerRule.{trailer_rule}
use Rattle.vl_ddl.proofs.PartRules.{mark_other, open_rule, shut_rule, comma_real, columns_rule, key_columns_rule, type_rule, type_more, options_rule, options_more, leads_options}

-- ---- what a part begins with

opening_item : Opening → Item
opening_item openings.Index = Item.Which is_index
opening_item openings.Primary = Item.Key (codes "PRIMARY")
opening_item openings.OtherKey = Item.Which is_other_key
opening_item (openings.Column n) = Item.Which (is_label n)

abbrev FitsOpening : Bool → List (List ℕ) → Bool → Opening → Type 0
FitsOpening wide names has openings.Index = Unit {0}
FitsOpening wide names has openings.Primary = has ≡ false
FitsOpening wide names has openings.OtherKey = wide ≡ true
FitsOpening wide names has (openings.Column n) = list_any (bytes_eq n) names ≡ false

same_name : (n : List ℕ) → bytes_eq n n ≡ true
same_name n = (bytes_eq-Decides n n).1 refl

-- a name that is new
column_is : (names : List (List ℕ)) (o : Option (List ℕ)) (opening : Opening) → column_opening names o ≡ Some opening → (n : List ℕ) × (o ≡ Some n) × (opening ≡ openings.Column n) × (list_any (bytes_eq n) names ≡ false)
column_is names None opening h = absurd cc
column_is names (Some m) opening h = by (list_any (bytes_eq m) names) refl h
  where
    by : (b : Bool) → list_any (bytes_eq m) names ≡ b → column_opening names (Some m) ≡ Some opening → (n : List ℕ) × (let s : Option (List ℕ) = Some m in s ≡ Some n) × (opening ≡ openings.Column n) × (list_any (bytes_eq n) names ≡ false)
    by true e h = absurd (let clash : None ≡ Some opening = rw e at h in cc)
    by false e h = let same : Some (openings.Column m) ≡ Some opening = rw e at h in (m, refl, (let at : opening ≡ openings.Column m = cc in at), e)

column_token : (wide : Bool) (names : List (List ℕ)) (has : Bool) (o : Opening) (t : Tok) → is_key_word t ≡ false → column_opening names (name_of t) ≡ Some o → IsA (opening_item o) t × FitsOpening wide names has o
unfolding opening_item
column_token wide names has o t none h =
    let c = column_is names (name_of t) o h in
    let label : label_of t ≡ Some c.0 = rw none c.1 in
    subst (λ o. IsA (opening_item o) t × FitsOpening wide names has o) (sym c.2) (here c.0 label c.3)
  where
    here : (n : List ℕ) → label_of t ≡ Some n → list_any (bytes_eq n) names ≡ false → IsA (opening_item (openings.Column n)) t × FitsOpening wide names has (openings.Column n)
    here n label new = (ap (is_same n) label ∙ same_name n, new)

opening_is : (wide : Bool) (names : List (List ℕ)) (has : Bool) (o : Opening) (t : Tok) → opening_of wide names has t ≡ Some o → IsA (opening_item o) t × FitsOpening wide names has o
unfolding opening_item
opening_is wide names has o t h = by (is_index t) (is_key (codes "PRIMARY") t) (is_other_key t) has wide refl refl refl refl refl o h
  where
    by : (a b c d w : Bool) → is_index t ≡ a → is_key (codes "PRIMARY") t ≡ b → is_other_key t ≡ c → has ≡ d → wide ≡ w → (o : Opening) → opening_of wide names has t ≡ Some o → IsA (opening_item o) t × FitsOpening wide names has o
    by true b c d w e f g i j openings.Index h = (e, tt)
    by true b c d w e f g i j openings.Primary h = absurd (let clash : Some openings.Index ≡ Some openings.Primary = rw e at h in cc)
    by true b c d w e f g i j openings.OtherKey h = absurd (let clash : Some openings.Index ≡ Some openings.OtherKey = rw e at h in cc)
    by true b c d w e f g i j (openings.Column n) h = absurd (let clash : Some openings.Index ≡ Some (openings.Column n) = rw e at h in cc)
    by false true c true w e f g i j o h = absurd (let clash : None ≡ Some o = rw (e, f, i) at h in cc)
    by false true c false w e f g i j openings.Primary h = (f, i)
    by false true c false w e f g i j openings.Index h = absurd (let clash : Some openings.Primary ≡ Some openings.Index = rw (e, f, i) at h in cc)
    by false true c false w e f g i j openings.OtherKey h = absurd (let clash : Some openings.Primary ≡ Some openings.OtherKey = rw (e, f, i) at h in cc)
    by false true c false w e f g i j (openings.Column n) h = absurd (let clash : Some openings.Primary ≡ Some (openings.Column n) = rw (e, f, i) at h in cc)
    by false false true d false e f g i j o h = absurd (let clash : None ≡ Some o = rw (e, f, g, j) at h in cc)
    by false false true d true e f g i j openings.OtherKey h = (g, j)
    by false false true d true e f g i j openings.Index h = absurd (let clash : Some openings.OtherKey ≡ Some openings.Index = rw (e, f, g, j) at h in cc)
    by false false true d true e f g i j openings.Primary h = absurd (let clash : Some openings.OtherKey ≡ Some openings.Primary = rw (e, f, g, j) at h in cc)
    by false false true d true e f g i j (openings.Column n) h = absurd (let clash : Some openings.OtherKey ≡ Some (openings.Column n) = rw (e, f, g, j) at h in cc)
    by false false false d w e f g i j o h = column_token wide names has o t (rw (e, f, g) refl) (rw (e, f, g) at h)

-- the keywords are apart
primary_index : (t : Tok) → is_key (codes "PRIMARY") t ≡ true → is_index t ≡ false
primary_index t h = or_false (is_key (codes "KEY") t) (is_key (codes "INDEX") t) (key_other (codes "PRIMARY") (codes "KEY") t refl h) (key_other (codes "PRIMARY") (codes "INDEX") t refl h)

either_key : (k l m : List ℕ) (t : Tok) → (is_key k t ≡ true → is_key m t ≡ false) → (is_key l t ≡ true → is_key m t ≡ false) → (is_key k t || is_key l t) ≡ true → is_key m t ≡ false
either_key k l m t p q h = by (is_key k t) (is_key l t) refl refl h
  where
    by : (a b : Bool) → is_key k t ≡ a → is_key l t ≡ b → (is_key k t || is_key l t) ≡ true → is_key m t ≡ false
    by true b e f h = p e
    by false true e f h = q f
    by false false e f h = absurd (let clash : false ≡ true = rw (e, f) at h in cc)

other_no : (m : List ℕ) (t : Tok) → (is_key (codes "UNIQUE") t ≡ true → is_key m t ≡ false) → (is_key (codes "FOREIGN") t ≡ true → is_key m t ≡ false) → is_other_key t ≡ true → is_key m t ≡ false
other_no m t p q h = either_key (codes "UNIQUE") (codes "FOREIGN") m t p q h

other_index : (t : Tok) → is_other_key t ≡ true → is_index t ≡ false
other_index t h = or_false (is_key (codes "KEY") t) (is_key (codes "INDEX") t)
    (other_no (codes "KEY") t (λ e. key_other (codes "UNIQUE") (codes "KEY") t refl e) (λ e. key_other (codes "FOREIGN") (codes "KEY") t refl e) h)
    (other_no (codes "INDEX") t (λ e. key_other (codes "UNIQUE") (codes "INDEX") t refl e) (λ e. key_other (codes "FOREIGN") (codes "INDEX") t refl e) h)

other_primary : (t : Tok) → is_other_key t ≡ true → is_key (codes "PRIMARY") t ≡ false
other_primary t h = other_no (codes "PRIMARY") t (λ e. key_other (codes "UNIQUE") (codes "PRIMARY") t refl e) (λ e. key_other (codes "FOREIGN") (codes "PRIMARY") t refl e) h

-- a label is a name, and begins no key
record Labelled (n : List ℕ) (t : Tok) : Type 0 where
  pub index : is_index t ≡ false
  pub primary : is_key (codes "PRIMARY") t ≡ false
  pub other : is_other_key t ≡ false
  pub name : name_of t ≡ Some n

labelled : (n : List ℕ) (t : Tok) → is_label n t ≡ true → Labelled n t
labelled n t h = by (is_index t) (is_key (codes "PRIMARY") t) (is_other_key t) refl refl refl h
  where
    named : (o : Option (List ℕ)) → is_same n o ≡ true → o ≡ Some n
    named None h = absurd cc
    named (Some m) h = ap (λ (x : List ℕ). Some x) ((bytes_eq-Decides m n).0 h)

    by : (a b c : Bool) → is_index t ≡ a → is_key (codes "PRIMARY") t ≡ b → is_other_key t ≡ c → is_label n t ≡ true → Labelled n t
    by true b c e f g h = absurd (let clash : false ≡ true = rw e at h in cc)
    by false true c e f g h = absurd (let clash : false ≡ true = rw (e, f) at h in cc)
    by false false true e f g h = absurd (let clash : false ≡ true = rw (e, f, g) at h in cc)
    by false false false e f g h = record { index = e; primary = f; other = g; name = named (name_of t) (rw (e, f, g) at h) }

opening_back : (wide : Bool) (names : List (List ℕ)) (has : Bool) (o : Opening) (t : Tok) → FitsOpening wide names has o → IsA (opening_item o) t → opening_of wide names has t ≡ Some o
unfolding opening_item
opening_back wide names has openings.Index t q h = rw h refl
opening_back wide names has openings.Primary t q h = rw (primary_index t h, h, q) refl
opening_back wide names has openings.OtherKey t q h = rw (other_index t h, other_primary t h, h, q) refl
opening_back wide names has (openings.Column n) t q h = let l = labelled n t h in rw (l.index, l.primary, l.other, l.name, q) refl

opening_rule : (wide : Bool) (names : List (List ℕ)) (has : Bool) → Rule (λ s ts. one (opening_of wide names has) ts) as_it_is (such (FitsOpening wide names has)) (λ o. opening_item o ∷ []) never
unfolding opening_item
opening_rule wide names has = one_rule (opening_of wide names has) opening_item (FitsOpening wide names has) (opening_is wide names has) (opening_back wide names has) openings.Index (Word (codes "KEY")) refl tt (word_real (codes "KEY") refl)

-- ---- a part behind its first token

opening_in : Part → Opening
opening_in (Column c) = openings.Column c.name
opening_in (PrimaryKey ns) = openings.Primary
opening_in (Index n ns) = openings.Index
opening_in OtherKey = openings.OtherKey

abbrev behind_first : List Item → List Item
behind_first [] = []
behind_first (i ∷ is) = is

abbrev tail : Part → List Item
tail p = behind_first (grammar.part p)

-- a part ends where a comma or a `)` stands
abbrev pub goes_on : Tok → Bool
goes_on t = not (is_mark 44 t || is_mark 41 t)

abbrev FitsBody : Bool → Bool → Part → Type 0
FitsBody wide has (Column c) = FitsType wide c.ty × (FitsDefault wide c.options.default × (((has && c.options.primary) ≡ false) × FitsUnique wide c.options.unique))
FitsBody wide has (PrimaryKey ns) = HasSome ns × AreDistinct ns
FitsBody wide has (Index n ns) = HasSome ns
FitsBody wide has OtherKey = Unit {0}

abbrev Behind : Bool → Bool → Opening → ℕ → Part → Type 0
Behind wide has o k p = FitsBody wide has p × (opening_in p ≡ o)

index_back : (wide has : Bool) (k : ℕ) (p : Part) → Behind wide has openings.Index k p → (x : List ℕ × List (List ℕ)) × (Index x.0 x.1 ≡ p) × (Unit {0} × HasSome x.1)
unfolding opening_in
index_back wide has k (Index n ns) h = ((n, ns), refl, (tt, h.0))
index_back wide has k (Column c) h = absurd (let clash : openings.Column c.name ≡ openings.Index = h.1 in cc)
index_back wide has k (PrimaryKey ns) h = absurd (let clash : openings.Primary ≡ openings.Index = h.1 in cc)
index_back wide has k OtherKey h = absurd (let clash : openings.OtherKey ≡ openings.Index = h.1 in cc)

index_rule : (wide has : Bool) → Rule (λ k ts. index_at ts) as_it_is (Behind wide has openings.Index) tail goes_on
unfolding index_at opening_in
index_rule wide has =
    said_law (stops_law (seq_law name_rule (λ n. made_law (λ ns. Index n ns) columns_rule)) goes_on (λ t h. refl))
    as_it_is (Behind wide has openings.Index) tail (λ x. Index x.0 x.1) (λ x. refl) (λ k x h. (h.1, refl)) (λ k x h. refl) (index_back wide has)

primary_back : (wide has : Bool) (k : ℕ) (p : Part) → Behind wide has openings.Primary k p → (x : Unit {0} × List (List ℕ)) × (PrimaryKey x.1 ≡ p) × (Unit {0} × (HasSome x.1 × AreDistinct x.1))
unfolding opening_in
primary_back wide has k (PrimaryKey ns) h = ((tt, ns), refl, (tt, h.0))
primary_back wide has k (Column c) h = absurd (let clash : openings.Column c.name ≡ openings.Primary = h.1 in cc)
primary_back wide has k (Index n ns) h = absurd (let clash : openings.Index ≡ openings.Primary = h.1 in cc)
primary_back wide has k OtherKey h = absurd (let clash : openings.OtherKey ≡ openings.Primary = h.1 in cc)

primary_key_rule : (wide has : Bool) → Rule (λ k ts. primary_key_at ts) as_it_is (Behind wide has openings.Primary) tail goes_on
unfolding primary_key_at opening_in
primary_key_rule wide has =
    said_law (stops_law (seq_law (key_rule (codes "KEY") refl refl) (λ u. made_law (λ ns. PrimaryKey ns) key_columns_rule)) goes_on (λ t h. refl))
    as_it_is (Behind wide has openings.Primary) tail (λ x. PrimaryKey x.1) (λ x. refl) (λ k x h. (h.1, refl)) (λ k x h. refl) (primary_back wide has)

other_back : (wide has : Bool) (k : ℕ) (p : Part) → Behind wide has openings.OtherKey k p → (x : Unit {0}) × (OtherKey ≡ p) × Unit {0}
unfolding opening_in
other_back wide has k OtherKey h = (tt, refl, tt)
other_back wide has k (Column c) h = absurd (let clash : openings.Column c.name ≡ openings.OtherKey = h.1 in cc)
other_back wide has k (Index n ns) h = absurd (let clash : openings.Index ≡ openings.OtherKey = h.1 in cc)
other_back wide has k (PrimaryKey ns) h = absurd (let clash : openings.Primary ≡ openings.OtherKey = h.1 in cc)

other_rule : (wide has : Bool) → Rule (λ k ts. Ok (OtherKey, ts)) as_it_is (Behind wide has openings.OtherKey) tail goes_on
unfolding opening_in
other_rule wide has =
    said_law (stops_law (here_rule OtherKey) goes_on (λ t h. refl))
    as_it_is (Behind wide has openings.OtherKey) tail (λ x. OtherKey) (λ x. refl) (λ k x h. (tt, refl)) (λ k x h. refl) (other_back wide has)

abbrev ColumnParts : Type 0
ColumnParts = DeclaredType × ColumnOptions

abbrev column_made : List ℕ → ColumnParts → Part
column_made n x = Column (record { name = n; ty = x.0; options = x.1 })

abbrev ColumnFits : Bool → Bool → ColumnParts → Type 0
ColumnFits wide has x = FitsType wide x.0 × (FitsDefault wide x.1.default × (((has && x.1.primary) ≡ false) × FitsUnique wide x.1.unique))

column_back : (wide has : Bool) (n : List ℕ) (k : ℕ) (p : Part) → Behind wide has (openings.Column n) k p → (x : ColumnParts) × (column_made n x ≡ p) × ColumnFits wide has x
unfolding opening_in
column_back wide has n k (Column c) h =
    let same : openings.Column c.name ≡ openings.Column n = h.1 in
    let name : c.name ≡ n = cc in
    ((c.ty, c.options), ap (λ (m : List ℕ). column_made m (c.ty, c.options)) (sym name), h.0)
column_back wide has n k (PrimaryKey ns) h = absurd (let clash : openings.Primary ≡ openings.Column n = h.1 in cc)
column_back wide has n k (Index m ns) h = absurd (let clash : openings.Index ≡ openings.Column n = h.1 in cc)
column_back wide has n k OtherKey h = absurd (let clash : openings.OtherKey ≡ openings.Column n = h.1 in cc)

-- a comma or a `)` ends a column
key_ends : (k : List ℕ) (t : Tok) → (is_mark 44 t ≡ true) ⊎ (is_mark 41 t ≡ true) → is_key k t ≡ false
key_ends k t h = elim h [ inl c ↦ mark_no_key k 44 t c | inr s ↦ mark_no_key k 41 t s ]

open_ends : (t : Tok) → (is_mark 44 t ≡ true) ⊎ (is_mark 41 t ≡ true) → is_mark 40 t ≡ false
open_ends t h = elim h [ inl c ↦ mark_other 44 40 t refl c | inr s ↦ mark_other 41 40 t refl s ]

ends_with : (t : Tok) → goes_on t ≡ false → (is_mark 44 t ≡ true) ⊎ (is_mark 41 t ≡ true)
ends_with t h = by (is_mark 44 t) (is_mark 41 t) refl refl h
  where
    by : (a b : Bool) → is_mark 44 t ≡ a → is_mark 41 t ≡ b → goes_on t ≡ false → (is_mark 44 t ≡ true) ⊎ (is_mark 41 t ≡ true)
    by true b e f h = inl e
    by false true e f h = inr f
    by false false e f h = absurd (let clash : true ≡ false = rw (e, f) at h in cc)

column_ends : (t : Tok) → goes_on t ≡ false → (type_more t || options_more t) ≡ false
column_ends t h =
    let e = ends_with t h in
    rw (open_ends t e, key_ends (codes "UNSIGNED") t e, key_ends (codes "NULL") t e, key_ends (codes "NOT") t e, key_ends (codes "DEFAULT") t e, key_ends (codes "AUTO_INCREMENT") t e, key_ends (codes "PRIMARY") t e, key_ends (codes "CHARACTER") t e, key_ends (codes "COLLATE") t e, key_ends (codes "UNIQUE") t e) refl

no_type_more : (k : List ℕ) (t : Tok) → is_key k t ≡ true → is_key (codes "UNSIGNED") t ≡ false → type_more t ≡ false
no_type_more k t h u = or_false (is_mark 40 t) (is_key (codes "UNSIGNED") t) (key_no_mark k 40 t h) u

column_rule : (wide has : Bool) (n : List ℕ) → Rule (λ k ts. column_at wide has n ts) as_it_is (Behind wide has (openings.Column n)) tail goes_on
unfolding column_at opening_in
column_rule wide has n =
    said_law
    (stops_law
    (then_law (type_rule wide) (λ ty. made_law (λ o. column_made n (ty, o)) (options_rule wide has))
    (λ y. leads_options type_more
    (λ t h. no_type_more (codes "NULL") t h (key_other (codes "NULL") (codes "UNSIGNED") t refl h))
    (λ t h. no_type_more (codes "NOT") t h (key_other (codes "NOT") (codes "UNSIGNED") t refl h))
    (λ t h. no_type_more (codes "DEFAULT") t h (key_other (codes "DEFAULT") (codes "UNSIGNED") t refl h))
    (λ t h. no_type_more (codes "AUTO_INCREMENT") t h (key_other (codes "AUTO_INCREMENT") (codes "UNSIGNED") t refl h))
    (λ t h. no_type_more (codes "PRIMARY") t h (key_other (codes "PRIMARY") (codes "UNSIGNED") t refl h))
    (λ t h. no_type_more (codes "CHARACTER") t h (key_other (codes "CHARACTER") (codes "UNSIGNED") t refl h))
    (λ t h. no_type_more (codes "COLLATE") t h (key_other (codes "COLLATE") (codes "UNSIGNED") t refl h))
    (λ t h. no_type_more (codes "UNIQUE") t h (key_other (codes "UNIQUE") (codes "UNSIGNED") t refl h))
    y))
    goes_on column_ends)
    as_it_is (Behind wide has (openings.Column n)) tail (column_made n) (λ x. refl) (λ k x h. (h, refl)) (λ k x h. refl) (column_back wide has n)

body_rule : (wide has : Bool) (o : Opening) → Rule (λ k ts. body_at wide has o ts) as_it_is (Behind wide has o) tail goes_on
body_rule wide has openings.Index = index_rule wide has
body_rule wide has openings.Primary = primary_key_rule wide has
body_rule wide has openings.OtherKey = other_rule wide has
body_rule wide has (openings.Column n) = column_rule wide has n

-- ---- parts

abbrev PartParts : Type 0
PartParts = Opening × Part

abbrev PartFits : Bool → List (List ℕ) → Bool → PartParts → Type 0
PartFits wide names has x = FitsOpening wide names has x.0 × (FitsBody wide has x.1 × (opening_in x.1 ≡ x.0))

part_fits : (wide : Bool) (names : List (List ℕ)) (has : Bool) (k : ℕ) (o : Opening) (p : Part) → PartFits wide names has (o, p) → Fits wide names has p
unfolding opening_in
part_fits wide names has k o p h = by p (subst (FitsOpening wide names has) (sym h.1.1) h.0) h.1.0
  where
    by : (p : Part) → FitsOpening wide names has (opening_in p) → FitsBody wide has p → Fits wide names has p
    by (Column c) f b = (f, b.0, b.1.0, b.1.1.0, b.1.1.1)
    by (PrimaryKey ns) f b = (f, b.0, b.1)
    by (Index n ns) f b = b
    by OtherKey f b = f

part_items : (o : Opening) (p : Part) → opening_in p ≡ o → grammar.part p ≡ (opening_item o ∷ []) ++ tail p
unfolding opening_in opening_item
part_items o p e = by p ∙ ap (λ (o : Opening). opening_item o ∷ tail p) e
  where
    by : (p : Part) → grammar.part p ≡ opening_item (opening_in p) ∷ tail p
    by (Column c) = refl
    by (PrimaryKey ns) = refl
    by (Index n ns) = refl
    by OtherKey = refl

part_back : (wide : Bool) (names : List (List ℕ)) (has : Bool) (k : ℕ) (p : Part) → Fits wide names has p → (x : PartParts) × (x.1 ≡ p) × PartFits wide names has x
unfolding opening_in
part_back wide names has k p h = ((opening_in p, p), refl, by p h)
  where
    by : (p : Part) → Fits wide names has p → PartFits wide names has (opening_in p, p)
    by (Column c) h = (h.0, ((h.1, (h.2, (h.3, h.4))), refl))
    by (PrimaryKey ns) h = (h.0, ((h.1, h.2), refl))
    by (Index n ns) h = (tt, (h, refl))
    by OtherKey h = (h, (tt, refl))

part_rule : (wide : Bool) (names : List (List ℕ)) (has : Bool) → Rule (λ k ts. part_at wide names has ts) as_it_is (λ k p. Fits wide names has p) grammar.part goes_on
unfolding part_at
part_rule wide names has =
    said_law (seq_law (opening_rule wide names has) (λ o. body_rule wide has o))
    as_it_is (λ k p. Fits wide names has p) grammar.part (λ x. x.1) (λ x. refl) (λ k x h. part_fits wide names has k x.0 x.1 h) (λ k x h. part_items x.0 x.1 h.1.1) (part_back wide names has)

part_full : (p : Part) → HasSome (grammar.part p)
part_full (Column c) = tt
part_full (PrimaryKey ns) = tt
part_full (Index n ns) = tt
part_full OtherKey = tt

comma_on : (t : Tok) → is_comma t ≡ true → goes_on t ≡ false
comma_on t h = rw h refl

abbrev pub parts_more : Tok → Bool
parts_more t = is_comma t || goes_on t

pub parts_rule : (wide : Bool) → Rule (λ k ts. parts_at wide ts) as_it_is (λ k ps. HasSome ps × AllInTurn (FitsPart wide) [] ps) (joined grammar.comma grammar.part) parts_more
unfolding parts_at
parts_rule wide =
    any_rule (λ b k rest. part_at wide (column_names b) (has_key b) rest) (λ k b p. FitsPart wide b p) grammar.part goes_on is_comma grammar.comma (λ b. part_rule wide (column_names b) (has_key b)) (λ t h. h) (λ t h. h) comma_on part_full (Mark 44) refl comma_real

-- ---- a table

shut_ends : (t : Tok) → is_mark 41 t ≡ true → parts_more t ≡ false
shut_ends t h = rw (mark_other 41 44 t refl h, h) refl

abbrev CreatedParts : Type 0
CreatedParts = List ℕ × (Unit {0} × (List Part × (Unit {0} × List Piece)))

abbrev Created : Type 0
Created = List ℕ × (List Part × List Piece)

abbrev created_value : Created → Statement
created_value x = record { name = x.0; parts = x.1.0; options = has_pieces x.1.1 }

abbrev created_items : Created → List Item
created_items x = Item.Name x.0 ∷ (in_brackets (joined grammar.comma grammar.part x.1.0) ++ (pieces x.1.1 ++ Item.Sign 59 ∷ []))

abbrev CreatedFits : Bool → ℕ → Created → Type 0
CreatedFits wide k x = (HasSome x.1.0 × AllInTurn (FitsPart wide) [] x.1.0) × (are_matched 0 x.1.1 ≡ true)

created_rule : (wide : Bool) → Rule (λ k ts. created_at wide ts) created_value (CreatedFits wide) created_items never
unfolding created_at
created_rule wide =
    said_law
    (seq_law name_rule (λ n.
    seq_law open_rule (λ o.
    full_law (parts_rule wide) (λ ps. seq_law shut_rule (λ u. made_law (λ b. record { name = n; parts = ps; options = b }) trailer_rule))
    (λ y t h. shut_ends t h) (λ y. tt))))
    created_value (CreatedFits wide) created_items (λ x. (x.0, (x.1.1.0, x.1.1.1.1))) (λ x. refl) (λ k x h. (h.1.1.0, h.1.1.1.1))
    (λ k x h. ap (λ is. Item.Name x.0 ∷ Item.Sign 40 ∷ is) (append_assoc (joined grammar.comma grammar.part x.1.1.0) (Item.Sign 41 ∷ []) (pieces x.1.1.1.1 ++ Item.Sign 59 ∷ [])))
    (λ k y h. ((y.0, (tt, (y.1.0, (tt, y.1.1)))), refl, (tt, (tt, (h.0, (tt, h.1))))))

missing_rule : (wide : Bool) → Rule (λ k ts. missing_at wide ts) (λ (x : Unit {0} × Created). created_value x.1) (λ k x. Unit {0} × CreatedFits wide k x.1) (λ x. Item.Key (codes "EXISTS") ∷ created_items x.1) never
unfolding missing_at
missing_rule wide = seq_law (key_rule (codes "EXISTS") refl refl) (λ e. created_rule wide)

-- IF may be a table's name
if_alone : (wide : Bool) (k : ℕ) (t : Tok) → is_key (codes "IF") t ≡ true → Alive (CreatedFits wide) created_items k (t ∷ [])
if_alone wide k (Word w) f = by ((created_rule wide).some k)
  where
    made : (x : Created) (more : List Tok) → AllByRecursion IsReal more → CreatedFits wide k x → Spells (created_items x) more → Alive (CreatedFits wide) created_items k (Word w ∷ [])
    made x [] real fits s = absurd s
    made x (t ∷ more) real fits s = record { witness = (w, x.1); more = more; real = real.1; fits = fits; spelled = (refl, s.1) }

    by : Alive (CreatedFits wide) created_items k [] → Alive (CreatedFits wide) created_items k (Word w ∷ [])
    by a = made a.witness a.more a.real a.fits a.spelled
if_alone wide k (Quoted w) f = absurd (let clash : false ≡ true = f in cc)
if_alone wide k (Text w) f = absurd (let clash : false ≡ true = f in cc)
if_alone wide k (Hex w) f = absurd (let clash : false ≡ true = f in cc)
if_alone wide k (Number m w) f = absurd (let clash : false ≡ true = f in cc)
if_alone wide k (Variable w) f = absurd (let clash : false ≡ true = f in cc)
if_alone wide k (Mark b) f = absurd (let clash : false ≡ true = f in cc)
if_alone wide k Bad f = absurd (let clash : false ≡ true = f in cc)

not_open : (y : Created) (t u : Tok) (more : List Tok) → Spells (created_items y) (t ∷ u ∷ more) → is_key (codes "IF") t ≡ true → is_key (codes "NOT") u ≡ true → ⊥
not_open y t u more s f g = let clash : false ≡ true = sym (mark_no_key (codes "NOT") 40 u s.1.0) ∙ g in absurd cc

abbrev NamedParts : Type 0
NamedParts = (Unit {0} × Created) ⊎ Created

abbrev NamedFits : Bool → ℕ → NamedParts → Type 0
NamedFits wide k x = either_fits (λ k (x : Unit {0} × Created). Unit {0} × CreatedFits wide k x.1) (CreatedFits wide) k x

abbrev named_value : NamedParts → Statement
named_value x = either (λ (x : Unit {0} × Created). created_value x.1) created_value x

abbrev named_items : NamedParts → List Item
named_items x = either (λ (x : Unit {0} × Created). Item.Key (codes "IF") ∷ Item.Key (codes "NOT") ∷ Item.Key (codes "EXISTS") ∷ created_items x.1) created_items x

named_rule : (wide : Bool) → Rule (λ k ts. named_at wide ts) named_value (NamedFits wide) named_items (λ t. never t || never t)
unfolding named_at
named_rule wide =
    behind_law (is_key (codes "IF")) (is_key (codes "NOT")) (Item.Key (codes "IF")) (Item.Key (codes "NOT")) (missing_rule wide) (created_rule wide)
    (λ t h. h) (λ t h. h) (λ t h. h) (λ t h. h) (λ y. tt) not_open (λ k t f. if_alone wide k t f)

abbrev TableParts : Type 0
TableParts = Unit {0} × (Unit {0} × NamedParts)

abbrev created_table : Bool → Created → Table
created_table b x = record { if_not_exists = b; name = x.0; parts = x.1.0; options = x.1.1 }

table_in : TableParts → Table
table_in (u, (v, inl x)) = created_table true x.1
table_in (u, (v, inr x)) = created_table false x

table_value : (x : TableParts) → statement_of (table_in x) ≡ named_value x.1.1
unfolding table_in
table_value (u, (v, inl x)) = refl
table_value (u, (v, inr x)) = refl

table_fits : (wide : Bool) (k : ℕ) (x : TableParts) → Unit {0} × (Unit {0} × NamedFits wide k x.1.1) → FitsTable wide (table_in x)
unfolding table_in
table_fits wide k (u, (v, inl x)) h = h.1.1.1
table_fits wide k (u, (v, inr x)) h = h.1.1

table_items : (x : TableParts) → grammar.table (table_in x) ≡ (Item.Key (codes "CREATE") ∷ []) ++ ((Item.Key (codes "TABLE") ∷ []) ++ named_items x.1.1)
unfolding table_in
table_items (u, (v, inl x)) = refl
table_items (u, (v, inr x)) = refl

table_back : (wide : Bool) (k : ℕ) (t : Table) → FitsTable wide t → (x : TableParts) × (table_in x ≡ t) × (Unit {0} × (Unit {0} × NamedFits wide k x.1.1))
unfolding table_in
table_back wide k t h = by t.if_not_exists refl
  where
    by : (b : Bool) → b ≡ t.if_not_exists → (x : TableParts) × (table_in x ≡ t) × (Unit {0} × (Unit {0} × NamedFits wide k x.1.1))
    by true e = ((tt, (tt, inl (tt, (t.name, (t.parts, t.options))))), ap (λ (b : Bool). created_table b (t.name, (t.parts, t.options))) e, (tt, (tt, (tt, h))))
    by false e = ((tt, (tt, inr (t.name, (t.parts, t.options)))), ap (λ (b : Bool). created_table b (t.name, (t.parts, t.options))) e, (tt, (tt, h)))

pub table_rule : (wide : Bool) → Rule (λ k ts. table_at wide ts) statement_of (λ k t. FitsTable wide t) grammar.table never
unfolding table_at
table_rule wide =
    said_law
    (stops_law
    (seq_law (key_rule (codes "CREATE") refl refl) (λ c. seq_law (key_rule (codes "TABLE") refl refl) (λ t. named_rule wide)))
    never (λ t h. refl))
    statement_of (λ k t. FitsTable wide t) grammar.table table_in table_value (table_fits wide) (λ k x h. table_items x) (table_back wide)
