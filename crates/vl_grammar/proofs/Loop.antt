-- A list that is read member by member in a loop: the members so far and what reading on gives.
use Rattle.std.proofs.Common.{◌≡◌, ℕ, zero, suc, ◌+◌, ◌-◌, ◌<◌, ◌≤◌, Bool, List, [], ◌∷◌, ◌++◌, length, Some, None, Ok, Err, refl, sym, ap, ◌∙◌, arith}
use Rattle.vl_token.specs.Tok.{Tok}
use Rattle.vl_grammar.specs.declared.read_error.ReadError.{ReadError}
use Rattle.vl_grammar.specs.declared.read_error.ReadError.TheVariants as errors
use Rattle.vl_grammar.specs.Reading.{Read, ◌>>=◌, Fails, behind_one, go_on, items}

-- a turn of the loop: the member, and then the others
pub items_step : {A : Type 0} (sep : Tok → Bool) (item : List A → List Tok → Read A) (n : ℕ) (before : List A) (ts : List Tok)
    → items sep item (suc n) before ts ≡ (item before ts >>= λ a. go_on sep (before ++ a.0 ∷ []) a.1 (λ rest. items sep item n (before ++ a.0 ∷ []) rest))
unfolding items
items_step sep item n before ts = refl

pub items_none : {A : Type 0} (sep : Tok → Bool) (item : List A → List Tok → Read A) (before : List A) (ts : List Tok) → items sep item zero before ts ≡ Err (length ts)
unfolding items
items_none sep item before ts = refl

pub turn : (most i : ℕ) → i < most → most - i ≡ suc (most - (i + 1))
turn most i lt = omega arith

pub fails : {A : Type 0} (sep : Tok → Bool) (item : List A → List Tok → Read A) (most i : ℕ) (before : List A) (ts : List Tok) (all : Read (List A)) (e : ReadError)
    → items sep item (most - i) before ts ≡ all → i < most → Fails e (item before ts) → Fails e all
fails sep item most i before ts all errors.Memory whole lt h = tt
fails sep item most i before ts all (errors.Fault m) whole lt h =
    sym whole ∙ ap (λ (n : ℕ). items sep item n before ts) (turn most i lt) ∙ items_step sep item (most - (i + 1)) before ts ∙ rw h refl

pub ends : {A : Type 0} (sep : Tok → Bool) (item : List A → List Tok → Read A) (most i : ℕ) (before : List A) (ts : List Tok) (all : Read (List A)) (a : A) (rest : List Tok)
    → items sep item (most - i) before ts ≡ all → i < most → item before ts ≡ Ok (a, rest) → None ≡ behind_one sep rest → all ≡ Ok (before ++ a ∷ [], rest)
ends sep item most i before ts all a rest whole lt h none =
    sym whole ∙ ap (λ (n : ℕ). items sep item n before ts) (turn most i lt) ∙ items_step sep item (most - (i + 1)) before ts ∙ rw (h, ← none) refl

pub goes_on : {A : Type 0} (sep : Tok → Bool) (item : List A → List Tok → Read A) (most i : ℕ) (before : List A) (ts : List Tok) (all : Read (List A)) (a : A) (rest next : List Tok)
    → items sep item (most - i) before ts ≡ all → i < most → item before ts ≡ Ok (a, rest) → Some next ≡ behind_one sep rest → items sep item (most - (i + 1)) (before ++ a ∷ []) next ≡ all
goes_on sep item most i before ts all a rest next whole lt h some =
    sym (ap (λ (n : ℕ). items sep item n before ts) (turn most i lt) ∙ items_step sep item (most - (i + 1)) before ts ∙ rw (h, ← some) refl) ∙ whole

pub past : {A : Type 0} (sep : Tok → Bool) (item : List A → List Tok → Read A) (most i : ℕ) (before : List A) (ts : List Tok) (all : Read (List A))
    → items sep item (most - i) before ts ≡ all → most ≤ i → all ≡ Err (length ts)
past sep item most i before ts all whole le =
    sym whole ∙ ap (λ (n : ℕ). items sep item n before ts) (let none : most - i ≡ 0 = omega arith in none) ∙ items_none sep item before ts
