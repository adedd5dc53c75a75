-- Reading tokens from the front on: a value and the tokens behind it, or how many tokens are left
-- where nothing goes on.
use Rattle.std.specs.Prelude.{◌≡◌, ℕ, zero, suc, Bool, false, if◌then◌else◌, List, [], ◌∷◌, ◌++◌, length, Option, Some, None, Result, Ok, Err}
use Rattle.vl_token.specs.Tok.{Tok}
use Rattle.vl_grammar.specs.declared.read_error.ReadError.{ReadError}
use Rattle.vl_grammar.specs.declared.read_error.ReadError.TheVariants as errors

abbrev pub Read : Type 0 → Type 0
Read A = Result (A × List Tok) ℕ

infixl 10 ◌>>=◌
abbrev pub ◌>>=◌ : {A B : Type 0} → Result A ℕ → (A → Result B ℕ) → Result B ℕ
(Ok x) >>= f = f x
(Err e) >>= f = Err e

-- What a function returned, seen by view, is what reading gives, unless memory ran out.
abbrev pub Fails : {Y : Type 0} → ReadError → Result Y ℕ → Type 0
Fails errors.Memory read = Unit {0}
Fails (errors.Fault n) read = read ≡ Err n

abbrev pub Gives : {X Y : Type 0} → (X → Y) → Result X ReadError → Result Y ℕ → Type 0
Gives view (Ok x) read = read ≡ Ok (view x)
Gives view (Err e) read = Fails e read

-- one token
abbrev pub of_option : {A : Type 0} → Option A → List Tok → ℕ → Read A
of_option None rest n = Err n
of_option (Some a) rest n = Ok (a, rest)

abbrev pub one : {A : Type 0} → (Tok → Option A) → List Tok → Read A
one f [] = Err 0
one f (t ∷ ts) = of_option (f t) ts (length (t ∷ ts))

abbrev pub starts : (Tok → Bool) → List Tok → Bool
starts f [] = false
starts f (t ∷ ts) = f t

-- the tokens behind two of them
abbrev pub behind : (Tok → Bool) → (Tok → Bool) → List Tok → Option (List Tok)
behind f g [] = None
behind f g (t ∷ []) = None
behind f g (t ∷ u ∷ ts) = if f t then (if g u then Some ts else None) else None

abbrev pub either_way : {A : Type 0} → Option (List Tok) → (List Tok → Read A) → Read A → Read A
either_way None p q = q
either_way (Some ts) p q = p ts

-- a list with something between its items; the item is given those before it
abbrev pub behind_one : (Tok → Bool) → List Tok → Option (List Tok)
behind_one sep [] = None
behind_one sep (t ∷ ts) = if sep t then Some ts else None

abbrev pub go_on : {A : Type 0} → (Tok → Bool) → List A → List Tok → (List Tok → Read (List A)) → Read (List A)
go_on sep xs ts next = either_way (behind_one sep ts) next (Ok (xs, ts))

-- at most n items; one too many fails where it begins
unfoldable pub items : {A : Type 0} → (Tok → Bool) → (List A → List Tok → Read A) → ℕ → List A → List Tok → Read (List A)
items sep item zero before ts = Err (length ts)
items sep item (suc n) before ts = do
  a ← item before ts
  go_on sep (before ++ a.0 ∷ []) a.1 (λ rest. items sep item n (before ++ a.0 ∷ []) rest)
