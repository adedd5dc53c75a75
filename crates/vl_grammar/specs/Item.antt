-- What a statement is spelled with: a list of items, each of them one token.
use Rattle.std.specs.Prelude.{◌≡◌, ℕ, Bool, true, List, [], ◌∷◌, ◌++◌, Some}
use Rattle.vl_token.specs.Tok.{Tok}
use Rattle.vl_values.specs.declared.value.Value.{Value}
use Rattle.vl_grammar.specs.Terminal.{is_key, is_mark, is_variable, is_digits, name_of, literal_of, count_of, charset_of}

pub data Item : Type 0 where
  Key : List ℕ → Item
  Name : List ℕ → Item
  Literal : Value → Item
  Sign : ℕ → Item
  Count : ℕ → Item
  Digits : List ℕ → Item
  Variable : List ℕ → Item
  Charset : List ℕ → Item
  -- any token that passes
  Which : (Tok → Bool) → Item

-- a token may be several items
abbrev pub IsA : Item → Tok → Type 0
IsA (Item.Key k) t = is_key k t ≡ true
IsA (Item.Name n) t = name_of t ≡ Some n
IsA (Item.Literal v) t = literal_of t ≡ Some v
IsA (Item.Sign c) t = is_mark c t ≡ true
IsA (Item.Count n) t = count_of t ≡ Some n
IsA (Item.Digits ds) t = is_digits ds t ≡ true
IsA (Item.Variable w) t = is_variable w t ≡ true
IsA (Item.Charset w) t = charset_of t ≡ Some w
IsA (Item.Which f) t = f t ≡ true

-- token by token
abbrev pub Spells : List Item → List Tok → Type 0
Spells [] [] = Unit {0}
Spells [] (t ∷ ts) = ⊥
Spells (i ∷ is) [] = ⊥
Spells (i ∷ is) (t ∷ ts) = IsA i t × Spells is ts

-- a b c as a , b , c
abbrev pub joined : {A : Type 0} → Item → (A → List Item) → List A → List Item
joined c f [] = []
joined c f (a ∷ []) = f a
joined c f (a ∷ b ∷ rest) = f a ++ c ∷ joined c f (b ∷ rest)

abbrev pub in_brackets : List Item → List Item
in_brackets is = Item.Sign 40 ∷ (is ++ Item.Sign 41 ∷ [])
