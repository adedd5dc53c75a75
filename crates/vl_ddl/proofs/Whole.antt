-- A schema file as a whole: statements one behind the other.
use Rattle.std.proofs.Common.{◌≡◌, ◌≢◌, ℕ, zero, suc, ◌≤◌, ◌<◌, ltb-true, ltb-false, Bool, true, false, List, [], ◌∷◌, ◌++◌, length, map, Result, Ok, Err, refl, sym, ap, subst, ◌∙◌, inl, inr, append_assoc, arith}
use Rattle.std.specs.List.{AllByRecursion, flat_map}
use Rattle.std.proofs.lemmas.List.{append-nil, length-append, length-map}
use Rattle.vl_token.specs.Tok.{Tok}
use Rattle.vl_token.specs.declared.token.Token.{Token}
use Rattle.vl_token.specs.View.{tok, tokens_of}
use Rattle.vl_grammar.specs.Item.{Spells}
use Rattle.vl_grammar.specs.Lists.{HasSome}
use Rattle.vl_grammar.specs.Reading.{starts}
use Rattle.vl_grammar.proofs.Spelling.{spells_both, Splits, spells_split, bind_ok, bind_err}
use Rattle.vl_grammar.proofs.Rule.{never, first, same_first, Alive, Stuck}
use Rattle.vl_catalog.specs.declared.table_def.TableDef.{TableDef}
use Rattle.vl_ddl.specs.declared.statement.Statement.{Statement}
use Rattle.vl_ddl.specs.Grammar.{Table, FitsTable, table, IsSchema}
use Rattle.vl_ddl.specs.Meaning.{defined, statement_of, meaning}
use Rattle.vl_ddl.specs.Reading.{table_at, schema_at, is_further}
use Rattle.vl_ddl.specs.Fault.{Begins, IsDead, GoesOn, IsFault}
use Rattle.vl_ddl.proofs.ReadingSteps.{schema_none, schema_step}
use Rattle.vl_ddl.proofs.TableRules.{table_rule}

abbrev read_as : List Statement → Result (List Statement) ℕ
read_as ss = Ok ss

clash : {A : Type 0} (r : Result (List Statement) ℕ) (ss : List Statement) (n : ℕ) → r ≡ Ok ss → r ≡ Err n → A
clash r ss n a b = absurd (let c : read_as ss ≡ Err n = sym a ∙ b in cc)

abbrev statements_or : Result (List Statement) ℕ → List Statement → List Statement
statements_or (Ok ss) d = ss
statements_or (Err n) d = d

read_is_one : (ss qs : List Statement) → read_as ss ≡ read_as qs → ss ≡ qs
read_is_one ss qs e = ap (λ r. statements_or r ss) e

-- a statement takes a token at least
full : (t : Table) (f : List Tok) → Spells (table t) f → length f ≢ 0
full t [] s e = absurd s
full t (u ∷ f) s e = absurd (omega (arith, e))

part_full : (f r : List Tok) → length f ≢ 0 → length (f ++ r) ≢ 0
part_full [] r h e = h refl
part_full (t ∷ f) r h e = absurd (omega (arith, e))

step_ok : (wide : Bool) (n : ℕ) (before : List Statement) (ts r : List Tok) (s : Statement) → length ts ≢ 0 → table_at wide ts ≡ Ok (s, r) → schema_at wide (suc n) before ts ≡ schema_at wide n (before ++ s ∷ []) r
step_ok wide n before ts r s h e = schema_step wide n before ts h ∙ rw e refl

step_err : (wide : Bool) (n : ℕ) (before : List Statement) (ts : List Tok) (m : ℕ) → length ts ≢ 0 → table_at wide ts ≡ Err m → schema_at wide (suc n) before ts ≡ Err m
step_err wide n before ts m h e = schema_step wide n before ts h ∙ rw e refl

starts_never : (ts : List Tok) → starts never ts ≡ false
starts_never [] = refl
starts_never (t ∷ ts) = refl

-- ---- each file is read

reads : (wide : Bool) (ss : List Table) (n : ℕ) (before : List Statement) (ts : List Tok) → AllByRecursion (FitsTable wide) ss → Spells (flat_map table ss) ts → length ts ≤ n → schema_at wide n before ts ≡ Ok (before ++ map statement_of ss)
reads wide [] n before [] fits s le = schema_none wide n before [] refl ∙ ap (λ (ss : List Statement). read_as ss) (sym (append-nil before))
reads wide [] n before (t ∷ ts) fits s le = absurd s
reads wide (q ∷ ss) n before ts fits s le = by n (spells_split (table q) (flat_map table ss) ts s) le (λ n before r t le. reads wide ss n before r fits.1 t le)
  where
    parted : (m : ℕ) (f r : List Tok) → Spells (table q) f → Spells (flat_map table ss) r → length (f ++ r) ≤ suc m
        → ((n : ℕ) (before : List Statement) (r : List Tok) → Spells (flat_map table ss) r → length r ≤ n → schema_at wide n before r ≡ Ok (before ++ map statement_of ss))
        → schema_at wide (suc m) before (f ++ r) ≡ Ok (before ++ map statement_of (q ∷ ss))
    parted m f r a b le rec =
        let some : length f ≢ 0 = full q f a in
        step_ok wide m before (f ++ r) r (statement_of q) (part_full f r some) ((table_rule wide).only 0 q f r fits.0 a (starts_never r))
        ∙ rec m (before ++ statement_of q ∷ []) r b (omega (arith, length-append f r, some))
        ∙ ap (λ (ss : List Statement). read_as ss) (append_assoc before (statement_of q ∷ []) (map statement_of ss))

    by : (n : ℕ) → Splits (table q) (flat_map table ss) ts → length ts ≤ n
        → ((n : ℕ) (before : List Statement) (r : List Tok) → Spells (flat_map table ss) r → length r ≤ n → schema_at wide n before r ≡ Ok (before ++ map statement_of ss))
        → schema_at wide n before ts ≡ Ok (before ++ map statement_of (q ∷ ss))
    by zero z le rec =
        let some : length z.front ≢ 0 = full q z.front z.first in
        absurd (omega (arith, some, ap length z.parts, length-append z.front z.back))
    by (suc m) z le rec =
        ap (schema_at wide (suc m) before) z.parts ∙ parted m z.front z.back z.first z.then_ (subst (λ (x : List Tok). length x ≤ suc m) z.parts le) rec

-- ---- what is read is a file

record Reached (wide : Bool) (before : List Statement) (ts : List Tok) (all : List Statement) : Type 0 where
  pub ss : List Table
  pub is : IsSchema wide ss ts
  pub value : all ≡ before ++ map statement_of ss

none_reached : (wide : Bool) (before all : List Statement) → read_as before ≡ read_as all → Reached wide before [] all
none_reached wide before all e = record { ss = []; is = (tt, tt); value = sym (read_is_one before all e) ∙ sym (append-nil before) }

reached : (wide : Bool) (n : ℕ) (before : List Statement) (ts : List Tok) (all : List Statement) → schema_at wide n before ts ≡ Ok all → length ts ≤ n → Reached wide before ts all
reached wide n before [] all h le = none_reached wide before all (sym (schema_none wide n before [] refl) ∙ h)
reached wide zero before (t ∷ ts) all h le = absurd (omega (arith, le))
reached wide (suc n) before (t ∷ ts) all h le =
    by (bind_ok (table_at wide (t ∷ ts)) (λ s. schema_at wide n (before ++ s.0 ∷ []) s.1) all (sym (schema_step wide n before (t ∷ ts) some) ∙ h)).value.0
    (bind_ok (table_at wide (t ∷ ts)) (λ s. schema_at wide n (before ++ s.0 ∷ []) s.1) all (sym (schema_step wide n before (t ∷ ts) some) ∙ h)).value.1
    (bind_ok (table_at wide (t ∷ ts)) (λ s. schema_at wide n (before ++ s.0 ∷ []) s.1) all (sym (schema_step wide n before (t ∷ ts) some) ∙ h)).first
    (bind_ok (table_at wide (t ∷ ts)) (λ s. schema_at wide n (before ++ s.0 ∷ []) s.1) all (sym (schema_step wide n before (t ∷ ts) some) ∙ h)).then_
    (λ s r e less. reached wide n (before ++ s ∷ []) r all e less)
  where
    some : length (t ∷ ts) ≢ 0
    some e = absurd (omega (arith, e))

    by : (s : Statement) (r : List Tok) → table_at wide (t ∷ ts) ≡ Ok (s, r) → schema_at wide n (before ++ s ∷ []) r ≡ Ok all
        → ((s : Statement) (r : List Tok) → schema_at wide n (before ++ s ∷ []) r ≡ Ok all → length r ≤ n → Reached wide (before ++ s ∷ []) r all) → Reached wide before (t ∷ ts) all
    by s r g e rec =
        let l = (table_rule wide).found 0 (t ∷ ts) s r g in
        let long : length l.front ≢ 0 = full l.witness l.front l.spelled in
        let rest = rec s r e (omega (arith, long, ap length l.parts, length-append l.front r)) in
        record {
          ss = l.witness ∷ rest.ss;
          is = ((l.fits, rest.is.0), subst (Spells (flat_map table (l.witness ∷ rest.ss))) (sym l.parts) (spells_both (table l.witness) (flat_map table rest.ss) l.front r l.spelled rest.is.1));
          value = rest.value ∙ append_assoc before (s ∷ []) (map statement_of rest.ss) ∙ ap (λ (q : Statement). before ++ q ∷ map statement_of rest.ss) (sym l.is);
        }

-- ---- where reading fails

record Stopped (wide : Bool) (ts : List Tok) (n : ℕ) : Type 0 where
  pub before : List Tok
  pub rest : List Tok
  pub parts : ts ≡ before ++ rest
  pub left : length rest ≡ n
  pub begun : Begins wide before
  pub local : (other : List Tok) → first rest ≡ first other → (m : ℕ) (read : List Statement) → length (before ++ other) ≤ m → length (before ++ other) ≢ 0 → schema_at wide m read (before ++ other) ≡ Err (length other)

begins_of : (wide : Bool) (k : ℕ) (before : List Tok) → Alive (λ k t. FitsTable wide t) table k before → Begins wide before
begins_of wide k before a = record { statements = a.witness ∷ []; behind = a.more; real = a.real; is = ((a.fits, tt), subst (λ is. Spells is (before ++ a.more)) (sym (append-nil (table a.witness))) a.spelled) }

-- a statement that begins here fails
stopped_table : (wide : Bool) (ts : List Tok) (n : ℕ) → Stuck (λ k ts. table_at wide ts) (λ k t. FitsTable wide t) table 0 ts n → Stopped wide ts n
stopped_table wide ts n s = record {
  before = s.before;
  rest = s.rest;
  parts = s.parts;
  left = s.left;
  begun = elim s.cause [ inl off ↦ begins_of wide 0 s.before off.alive | inr over ↦ begins_of wide over.past.slack s.before over.past.beyond ];
  local = λ other same m read le some. failing other m read le some (elim s.cause [ inl off ↦ off.local 0 other (omega arith) same | inr over ↦ over.local other ]);
}
  where
    failing : (other : List Tok) (m : ℕ) (read : List Statement) → length (s.before ++ other) ≤ m → length (s.before ++ other) ≢ 0 → table_at wide (s.before ++ other) ≡ Err (length other) → schema_at wide m read (s.before ++ other) ≡ Err (length other)
    failing other zero read le some e = absurd (omega (arith, le, some))
    failing other (suc m) read le some e = step_err wide m read (s.before ++ other) (length other) some e

-- a statement is read, and what is behind it fails
record Behind (wide : Bool) (ts : List Tok) (n : ℕ) (s : Statement) (r : List Tok) : Type 0 where
  pub witness : Table
  pub front : List Tok
  pub parts : ts ≡ front ++ r
  pub fits : FitsTable wide witness
  pub spelled : Spells (table witness) front
  pub local : (other : List Tok) → first r ≡ first other → table_at wide (front ++ other) ≡ Ok (s, other)

stopped_behind : (wide : Bool) (ts : List Tok) (n : ℕ) (s : Statement) (r : List Tok) → Behind wide ts n s r → length r ≢ 0 → Stopped wide r n → Stopped wide ts n
stopped_behind wide ts n s r b more z = record {
  before = b.front ++ z.before;
  rest = z.rest;
  parts = b.parts ∙ ap (λ (x : List Tok). b.front ++ x) z.parts ∙ sym (append_assoc b.front z.before z.rest);
  left = z.left;
  begun = record {
    statements = b.witness ∷ z.begun.statements;
    behind = z.begun.behind;
    real = z.begun.real;
    is = (
      (b.fits, z.begun.is.0),
      subst (Spells (flat_map table (b.witness ∷ z.begun.statements))) (sym (append_assoc b.front z.before z.begun.behind))
          (spells_both (table b.witness) (flat_map table z.begun.statements) b.front (z.before ++ z.begun.behind) b.spelled z.begun.is.1),
    );
  };
  local = λ other same m read le some. failing other same m read (subst (λ (x : List Tok). length x ≤ m) (append_assoc b.front z.before other) le);
}
  where
    long : length b.front ≢ 0
    long = full b.witness b.front b.spelled

    -- as many tokens are there as were, or more
    kept : (other : List Tok) → first z.rest ≡ first other → length (z.before ++ other) ≢ 0
    kept other same e = more (ap length z.parts ∙ empty z.before z.rest other same e)
      where
        empty : (x y other : List Tok) → first y ≡ first other → length (x ++ other) ≡ 0 → length (x ++ y) ≡ 0
        empty [] [] other same e = refl
        empty [] (u ∷ y) [] same e = absurd cc
        empty [] (u ∷ y) (v ∷ other) same e = absurd (omega (arith, e))
        empty (u ∷ x) y other same e = absurd (omega (arith, e))

    failing : (other : List Tok) → first z.rest ≡ first other → (m : ℕ) (read : List Statement) → length (b.front ++ (z.before ++ other)) ≤ m → schema_at wide m read ((b.front ++ z.before) ++ other) ≡ Err (length other)
    failing other same zero read le = absurd (omega (arith, le, long, length-append b.front (z.before ++ other)))
    failing other same (suc m) read le =
        ap (schema_at wide (suc m) read) (append_assoc b.front z.before other)
        ∙ step_ok wide m read (b.front ++ (z.before ++ other)) (z.before ++ other) s (part_full b.front (z.before ++ other) long) (b.local (z.before ++ other) (ap first z.parts ∙ same_first z.before z.rest other same))
        ∙ z.local other same m (read ++ s ∷ []) (omega (arith, le, long, length-append b.front (z.before ++ other))) (kept other same)

not_err : (wide : Bool) (n : ℕ) (before : List Statement) (ts : List Tok) (m : ℕ) → length ts ≡ 0 → schema_at wide n before ts ≡ Err m → ⊥
not_err wide n before ts m e h = clash (schema_at wide n before ts) before m (schema_none wide n before ts e) h

stopped : (wide : Bool) (n : ℕ) (before : List Statement) (ts : List Tok) (m : ℕ) → schema_at wide n before ts ≡ Err m → length ts ≤ n → Stopped wide ts m
stopped wide n before [] m h le = absurd (not_err wide n before [] m refl h)
stopped wide zero before (t ∷ ts) m h le = absurd (omega (arith, le))
stopped wide (suc n) before (t ∷ ts) m h le =
    elim (bind_err (table_at wide (t ∷ ts)) (λ s. schema_at wide n (before ++ s.0 ∷ []) s.1) m (sym (schema_step wide n before (t ∷ ts) some) ∙ h)) [
      | inl e ↦ stopped_table wide (t ∷ ts) m ((table_rule wide).fault 0 (t ∷ ts) m e)
      | inr r ↦ by r.value.0 r.value.1 r.first r.then_ (λ s r e less. stopped wide n (before ++ s ∷ []) r m e less)
    ]
  where
    some : length (t ∷ ts) ≢ 0
    some e = absurd (omega (arith, e))

    by : (s : Statement) (r : List Tok) → table_at wide (t ∷ ts) ≡ Ok (s, r) → schema_at wide n (before ++ s ∷ []) r ≡ Err m
        → ((s : Statement) (r : List Tok) → schema_at wide n (before ++ s ∷ []) r ≡ Err m → length r ≤ n → Stopped wide r m) → Stopped wide (t ∷ ts) m
    by s r g e rec =
        let l = (table_rule wide).found 0 (t ∷ ts) s r g in
        let long : length l.front ≢ 0 = full l.witness l.front l.spelled in
        stopped_behind wide (t ∷ ts) m s r
        (record { witness = l.witness; front = l.front; parts = l.parts; fits = l.fits; spelled = l.spelled; local = λ other same. l.local 0 other (omega arith) same })
        (λ none. not_err wide n (before ++ s ∷ []) r m none e) (rec s r e (omega (arith, long, ap length l.parts, length-append l.front r)))

-- ---- the fault

-- with the next token no file of the language goes on
dead_of : (wide : Bool) (ts : List Tok) (n : ℕ) (z : Stopped wide ts n) → IsDead wide z.before z.rest
dead_of wide ts n z t behind other ss e is =
    clash (schema_at wide (length (z.before ++ t ∷ other)) [] (z.before ++ t ∷ other)) (map statement_of ss) (length (t ∷ other))
    (reads wide ss (length (z.before ++ t ∷ other)) [] (z.before ++ t ∷ other) is.0 is.1 (omega arith))
    (z.local (t ∷ other) (ap first e) (length (z.before ++ t ∷ other)) [] (omega arith) (λ none. absurd (omega (arith, none, length-append z.before (t ∷ other)))))

fault_of : (ts : List Tok) (n : ℕ) → Stopped false ts n → IsFault ts n
fault_of ts n z = record { before = z.before; rest = z.rest; parts = z.parts; left = z.left; begun = z.begun; dead = dead_of false ts n z }

-- two cuts of the same tokens: what one has before it begins with what the other has
record Longer (a b c d : List Tok) : Type 0 where
  pub front : List Tok
  pub first_ : c ≡ a ++ front
  pub second : b ≡ front ++ d

longer : (a b c d : List Tok) → a ++ b ≡ c ++ d → length d ≤ length b → Longer a b c d
longer [] b c d e le = record { front = c; first_ = refl; second = e }
longer (t ∷ a) b [] d e le = absurd (omega (arith, le, ap length e, length-append a b))
longer (t ∷ a) b (u ∷ c) d e le =
    let same : t ≡ u = cc in
    let rest : a ++ b ≡ c ++ d = cc in
    let l = longer a b c d rest le in
    record { front = l.front; first_ = ap (λ (x : Tok). x ∷ c) (sym same) ∙ ap (λ (x : List Tok). t ∷ x) l.first_; second = l.second }

some_of : (xs : List Tok) → length xs ≢ 0 → HasSome xs
some_of [] h = absurd (h refl)
some_of (t ∷ xs) h = tt

-- the wider language reads on
goes_on_of : (ts : List Tok) (n m : ℕ) (f : IsFault ts n) → Stopped true ts m → m < n → GoesOn f.before f.rest
goes_on_of ts n m f z lt =
    let l = longer f.before f.rest z.before z.rest (sym f.parts ∙ z.parts) (omega (arith, lt, f.left, z.left)) in
    record {
      front = l.front;
      back = z.rest;
      parts = l.second;
      some = some_of l.front (λ e. absurd (omega (arith, lt, e, f.left, z.left, ap length l.second, length-append l.front z.rest)));
      begun = subst (Begins true) l.first_ z.begun;
    }

goes_on_whole : (ts : List Tok) (n : ℕ) (f : IsFault ts n) (ss : List Table) → IsSchema true ss ts → 0 < n → GoesOn f.before f.rest
goes_on_whole ts n f ss is lt = record {
  front = f.rest;
  back = [];
  parts = sym (append-nil f.rest);
  some = some_of f.rest (λ e. absurd (omega (arith, lt, e, f.left)));
  begun = record { statements = ss; behind = []; real = tt; is = subst (IsSchema true ss) (f.parts ∙ sym (append-nil (f.before ++ f.rest))) is };
}

-- it doesn't
dead_wide : (ts : List Tok) (n m : ℕ) (f : IsFault ts n) → Stopped true ts m → n ≤ m → IsDead true f.before f.rest
dead_wide ts n m f z le t behind other ss e is =
    let l = longer z.before z.rest f.before f.rest (sym z.parts ∙ f.parts) (omega (arith, le, f.left, z.left)) in
    dead_front l.front l.first_ l.second
  where
    dead_front : (mid : List Tok) → f.before ≡ z.before ++ mid → z.rest ≡ mid ++ f.rest → ⊥
    dead_front [] a b = dead_of true ts m z t behind other ss (b ∙ e) (subst (λ (x : List Tok). IsSchema true ss (x ++ t ∷ other)) (a ∙ append-nil z.before) is)
    dead_front (u ∷ mid) a b =
        dead_of true ts m z u (mid ++ f.rest) (mid ++ t ∷ other) ss b
        (subst (IsSchema true ss) (ap (λ (x : List Tok). x ++ t ∷ other) a ∙ append_assoc z.before (u ∷ mid) (t ∷ other)) is)

nothing_dead : (ts : List Tok) (n : ℕ) (f : IsFault ts n) → n ≤ 0 → IsDead true f.before f.rest
nothing_dead ts n f le t behind other ss e is = absurd (omega (arith, le, f.left, ap length e))

-- ---- what the program's answer says of the tokens

pub read_found : (ts : List Tok) (read : List Statement) → schema_at false (length ts) [] ts ≡ Ok read → (ss : List Table) × IsSchema false ss ts × (read ≡ map statement_of ss)
read_found ts read h = let r = reached false (length ts) [] ts read h (omega arith) in (r.ss, r.is, r.value)

pub read_only : (ts : List Tok) (ss : List Table) → IsSchema false ss ts → schema_at false (length ts) [] ts ≡ Ok (map statement_of ss)
read_only ts ss is = reads false ss (length ts) [] ts is.0 is.1 (omega arith)

pub read_one : (ts : List Tok) (ss : List Table) (read : List Statement) → schema_at false (length ts) [] ts ≡ Ok read → IsSchema false ss ts → read ≡ map statement_of ss
read_one ts ss read h is = read_is_one read (map statement_of ss) (sym h ∙ read_only ts ss is)

pub read_none : (ts : List Tok) (n : ℕ) (ss : List Table) → schema_at false (length ts) [] ts ≡ Err n → IsSchema false ss ts → ⊥
read_none ts n ss h is = clash (schema_at false (length ts) [] ts) (map statement_of ss) n (read_only ts ss is) h

pub read_fault : (ts : List Tok) (n : ℕ) → schema_at false (length ts) [] ts ≡ Err n → IsFault ts n
read_fault ts n h = fault_of ts n (stopped false (length ts) [] ts n h (omega arith))

pub read_further : (ts : List Tok) (n : ℕ) (f : IsFault ts n) → true ≡ is_further n (schema_at true (length ts) [] ts) → GoesOn f.before f.rest
read_further ts n f h = by (schema_at true (length ts) [] ts) refl h
  where
    by : (r : Result (List Statement) ℕ) → schema_at true (length ts) [] ts ≡ r → true ≡ is_further n r → GoesOn f.before f.rest
    by (Ok all) e h = let r = reached true (length ts) [] ts all e (omega arith) in goes_on_whole ts n f r.ss r.is (ltb-true 0 n (sym h))
    by (Err m) e h = goes_on_of ts n m f (stopped true (length ts) [] ts m e (omega arith)) (ltb-true m n (sym h))

pub read_no_further : (ts : List Tok) (n : ℕ) (f : IsFault ts n) → false ≡ is_further n (schema_at true (length ts) [] ts) → IsDead true f.before f.rest
read_no_further ts n f h = by (schema_at true (length ts) [] ts) refl h
  where
    by : (r : Result (List Statement) ℕ) → schema_at true (length ts) [] ts ≡ r → false ≡ is_further n r → IsDead true f.before f.rest
    by (Ok all) e h = nothing_dead ts n f (omega (arith, ltb-false 0 n (sym h)))
    by (Err m) e h = dead_wide ts n m f (stopped true (length ts) [] ts m e (omega arith)) (omega (arith, ltb-false m n (sym h)))

map_both : (ss : List Table) → map defined (map statement_of ss) ≡ map meaning ss
map_both [] = refl
map_both (s ∷ ss) = ap (λ (ds : List TableDef). meaning s ∷ ds) (map_both ss)

pub defined_all : (ss : List Table) (read : List Statement) (tables : List TableDef) → tables ≡ map defined read → read ≡ map statement_of ss → tables ≡ map meaning ss
defined_all ss read tables e h = e ∙ ap (map defined) h ∙ map_both ss

pub one_meaning : (ts : List Tok) (ss qs : List Table) → IsSchema false ss ts → IsSchema false qs ts → map meaning ss ≡ map meaning qs
one_meaning ts ss qs a b =
    sym (map_both ss) ∙ ap (map defined) (read_is_one (map statement_of ss) (map statement_of qs) (sym (read_only ts ss a) ∙ read_only ts qs b)) ∙ map_both qs

-- the program's tokens are these
pub same_reading : (wide : Bool) (tokens : List Token) (ts : List Tok) → tokens_of tokens ≡ ts → schema_at wide (length tokens) [] (tokens_of tokens) ≡ schema_at wide (length ts) [] ts
same_reading wide tokens ts e =
    ap (λ (n : ℕ). schema_at wide n [] (tokens_of tokens)) (sym (length-map tokens tok)) ∙ ap (λ (ts : List Tok). schema_at wide (length ts) [] ts) e
