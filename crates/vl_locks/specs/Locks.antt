-- Who holds a key, in a list of held keys with their holders.
use Rattle.std.specs.Prelude.{ℕ, List, ◌==◌, if◌then◌else◌, not, filter}
use Rattle.std.specs.declared.option.Option.{Option}
use Rattle.std.specs.declared.option.Option.TheVariants.{Some, None}
use Rattle.vl_values.specs.declared.key.Key.{Key}
use Rattle.vl_values.specs.Keyed.{value_at, is_key}

-- the connection that holds a key
abbrev pub holder_of : List (Key × ℕ) → Key → Option ℕ
holder_of = value_at

-- a holder, if it isn't this connection
abbrev pub other_than : ℕ → Option ℕ → Option ℕ
other_than conn None = None
other_than conn (Some holder) = if holder == conn then None else Some holder

-- the held keys without those of one connection
abbrev pub without : ℕ → List (Key × ℕ) → List (Key × ℕ)
without conn = filter (λ hold. not (hold.1 == conn))

-- the holders once a key has gone to this one, or to nobody
abbrev pub with_holder : (Key → Option ℕ) → Key → Option ℕ → Key → Option ℕ
with_holder holders key holder other = if is_key key other then holder else holders other
