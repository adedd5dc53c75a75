-- What rows give to an ordered map, in which the first that is given for a key stays.
use Rattle.std.specs.Prelude.{ℕ, ◌+◌, List, [], ◌∷◌, ◌++◌, Option}
use Rattle.std.specs.BTreeMap.{is_at}
use Rattle.std.specs.declared.cmp.Ordering.{Ordering}
use Rattle.std.specs.List.{filter_map}
use Rattle.std.specs.Map.{lookup}
use Rattle.vl_model.specs.Tables.{Pair, Tables}

-- what the rows of these shards give, whose numbers begin here
abbrev pub given_from : {A : Type 0} → (ℕ → Pair → Option A) → ℕ → Tables → List A
given_from gives shard [] = []
given_from gives shard (rows ∷ tables) = filter_map (gives shard) rows ++ given_from gives (shard + 1) tables

-- the first that is given for a key
abbrev pub first_given : {K V : Type 0} → (K → K → Ordering) → List (K × V) → K → Option V
first_given cmp given key = lookup (is_at (cmp key)) given
