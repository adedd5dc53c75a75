-- Steps of the loops that read parts, options and statements.
use Rattle.std.proofs.Common.{◌≡◌, ◌≢◌, ℕ, zero, suc, ◌+◌, ◌-◌, ◌<◌, ◌≤◌, Bool, true, false, ◌||◌, List, [], ◌∷◌, ◌++◌, length, Result, Ok, Err, refl, sym, ap, ◌∙◌, append_assoc, arith}
use Rattle.std.proofs.lemmas.List.{append-nil}
use Rattle.std.specs.List.{flat_map}
use Rattle.vl_token.specs.Tok.{Tok}
use Rattle.vl_grammar.specs.declared.read_error.ReadError.{ReadError}
use Rattle.vl_grammar.specs.declared.read_error.ReadError.TheVariants as errors
use Rattle.vl_grammar.specs.Reading.{◌>>=◌, Fails}
use Rattle.vl_grammar.proofs.Loop.{turn}
use Rattle.vl_ddl.specs.Grammar.{names_in, column_names, is_primary, has_key}
use Rattle.vl_ddl.specs.Reading.{trailer_at, schema_at, table_at}
use Rattle.vl_ddl.specs.declared.part.Part.{Part}
use Rattle.vl_ddl.specs.declared.statement.Statement.{Statement}

pub flat_push : {A B : Type 0} (f : A → List B) (xs : List A) (a : A) → flat_map f (xs ++ a ∷ []) ≡ flat_map f xs ++ f a
flat_push f [] a = append-nil (f a)
flat_push f (x ∷ xs) a = ap (λ ys. f x ++ ys) (flat_push f xs a) ∙ sym (append_assoc (f x) (flat_map f xs) (f a))

pub names_push : (ps : List Part) (p : Part) → column_names (ps ++ p ∷ []) ≡ column_names ps ++ names_in p
names_push ps p = flat_push names_in ps p

or_none : (b : Bool) → (b || false) ≡ b
or_none true = refl
or_none false = refl

or_all : (a b c : Bool) → (a || (b || c)) ≡ ((a || b) || c)
or_all true b c = refl
or_all false b c = refl

pub key_push : (ps : List Part) (p : Part) → has_key (ps ++ p ∷ []) ≡ (has_key ps || is_primary p)
key_push [] p = or_none (is_primary p)
key_push (q ∷ ps) p = ap (λ (b : Bool). is_primary q || b) (key_push ps p) ∙ or_all (is_primary q) (has_key ps) (is_primary p)

pub trailer_none : (depth : ℕ) (some : Bool) (ts : List Tok) → length ts ≤ 0 → trailer_at depth some ts ≡ Err (length ts)
unfolding trailer_at
trailer_none depth some [] h = refl
trailer_none depth some (t ∷ ts) h = absurd (omega arith)

schema_empty : (wide : Bool) (n : ℕ) (before : List Statement) → schema_at wide n before [] ≡ Ok before
unfolding schema_at
schema_empty wide zero before = refl
schema_empty wide (suc n) before = refl

pub schema_none : (wide : Bool) (n : ℕ) (before : List Statement) (ts : List Tok) → length ts ≡ 0 → schema_at wide n before ts ≡ Ok before
schema_none wide n before [] h = schema_empty wide n before
schema_none wide n before (t ∷ ts) h = absurd (omega arith)

pub schema_past : (wide : Bool) (n : ℕ) (before : List Statement) (ts : List Tok) → n ≡ 0 → schema_at wide n before ts ≡ Ok before
unfolding schema_at
schema_past wide zero before ts h = refl
schema_past wide (suc n) before ts h = absurd (omega arith)

-- one more statement
pub schema_step : (wide : Bool) (n : ℕ) (before : List Statement) (ts : List Tok) → length ts ≢ 0 → schema_at wide (suc n) before ts ≡ (table_at wide ts >>= λ s. schema_at wide n (before ++ s.0 ∷ []) s.1)
unfolding schema_at
schema_step wide n before [] h = absurd (h refl)
schema_step wide n before (t ∷ ts) h = refl

turn_at : (wide : Bool) (most i : ℕ) (before : List Statement) (ts : List Tok) (all : Result (List Statement) ℕ) → schema_at wide (most - i) before ts ≡ all → i < most → length ts ≢ 0
    → (table_at wide ts >>= λ s. schema_at wide (most - (i + 1)) (before ++ s.0 ∷ []) s.1) ≡ all
turn_at wide most i before ts all whole lt full = sym (schema_step wide (most - (i + 1)) before ts full) ∙ ap (λ (n : ℕ). schema_at wide n before ts) (sym (turn most i lt)) ∙ whole

pub schema_fails : (wide : Bool) (most i : ℕ) (before : List Statement) (ts : List Tok) (all : Result (List Statement) ℕ) (e : ReadError) → schema_at wide (most - i) before ts ≡ all → i < most → length ts ≢ 0
    → Fails e (table_at wide ts) → Fails e all
schema_fails wide most i before ts all errors.Memory whole lt full h = tt
schema_fails wide most i before ts all (errors.Fault m) whole lt full h = sym (turn_at wide most i before ts all whole lt full) ∙ rw h refl

pub schema_goes : (wide : Bool) (most i : ℕ) (before : List Statement) (ts : List Tok) (all : Result (List Statement) ℕ) (s : Statement) (rest : List Tok) → schema_at wide (most - i) before ts ≡ all → i < most → length ts ≢ 0
    → table_at wide ts ≡ Ok (s, rest) → schema_at wide (most - (i + 1)) (before ++ s ∷ []) rest ≡ all
schema_goes wide most i before ts all s rest whole lt full h = sym (rw h refl) ∙ turn_at wide most i before ts all whole lt full
