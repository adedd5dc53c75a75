-- Taking several keys one after another: what was done so far, and what is to be undone where memory is wanting.
use Rattle.std.specs.Prelude.{◌≡◌, ◌⊎◌, ℕ, List, [], ◌∷◌, ◌++◌, IsTrue}
use Rattle.std.specs.declared.option.Option.TheVariants.{Some, None}
use Rattle.vl_values.specs.declared.key.Key.{Key}
use Rattle.vl_values.specs.Keyed.{InKeyOrder, is_among_keys}
use Rattle.vl_locks.specs.Locks.{holder_of, with_holder}

-- one key was taken, and it was added to the fresh keys if nobody had it before
pub record Noted (old : List (Key × ℕ)) (fresh : List Key) (key : Key) (conn : ℕ) (new : List (Key × ℕ)) (noted : List Key) : Type 0 where
  pub holders : (other : Key) → holder_of new other ≡ with_holder (holder_of old) key (Some conn) other
  pub adds : ((holder_of old key ≡ Some conn) × (noted ≡ fresh)) ⊎ ((holder_of old key ≡ None) × (noted ≡ fresh ++ key ∷ []))

-- nobody had these keys
abbrev pub WereFree : List (Key × ℕ) → List Key → Type 0
WereFree old fresh = (key : Key) → IsTrue (is_among_keys fresh key) → holder_of old key ≡ None

-- but for these keys, which the connection may have, each key has its old holder
pub record IsOldBut (old : List (Key × ℕ)) (fresh : List Key) (conn : ℕ) (new : List (Key × ℕ)) : Type 0 where
  pub each : (key : Key) → (holder_of new key ≡ holder_of old key) ⊎ ((holder_of new key ≡ Some conn) × IsTrue (is_among_keys fresh key))

-- the connection has these keys, of which `fresh` are those that nobody had before
pub record HasTaken (old : List (Key × ℕ)) (keys : List Key) (conn : ℕ) (new : List (Key × ℕ)) (fresh : List Key) : Type 0 where
  pub others : IsOldBut old fresh conn new
  pub free : WereFree old fresh
  pub taken : (key : Key) → IsTrue (is_among_keys keys key) → holder_of new key ≡ Some conn
  pub inside : (key : Key) → IsTrue (is_among_keys fresh key) → IsTrue (is_among_keys keys key)
  pub order : InKeyOrder new
