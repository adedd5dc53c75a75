use Rattle.std.proofs.Common.{◌≡◌, ℕ, ◌≤◌, List, [], ◌∷◌, get_or, arith}
use Rattle.std.proofs.lemmas.Bool.Decides.{nat_tests}
use Rattle.vl_model.specs.CatalogA.{shard_of}
use Rattle.vl_cluster.proofs.place.shard_of.Goals as goal

-- from the byte 0x80 on, a keyspace id is of the second shard
is_high : (ksid : List ℕ) → 128 ≤ get_or ksid 0 0 → 1 ≡ shard_of ksid
is_high [] above = absurd (omega arith)
is_high (b ∷ []) above = grind (arith, nat_tests)
is_high (b ∷ c ∷ rest) above = grind (arith, nat_tests)

pub returns-else-ksid-lt128-clause-shard : goal.returns-else-ksid-lt128-clause-shard
returns-else-ksid-lt128-clause-shard c = is_high c.args.ksid c.if-ksid-lt128.false
