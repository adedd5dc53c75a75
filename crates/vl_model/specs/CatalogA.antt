-- Catalog A as far as statements reach it: keyspace commerce with the shards `-80` and `80-`, table
-- t1(id, u) and t1_u_idx(u, keyspace_id), whose primary vindex is `numeric` of their first column.
use Rattle.std.specs.Prelude.{ℕ, List, [], ◌∷◌, codes, if◌then◌else◌}
use Rattle.std.specs.Cmp.Lexicographic.{slice_cmp}
use Rattle.std.specs.Int.{to_be_bytes, w64}
use Rattle.std.specs.Ordering.{is_lt, nat_cmp}

-- the numbers of the tables
abbrev pub t1 : ℕ
t1 = 0

abbrev pub t1_u_idx : ℕ
t1_u_idx = 1

-- the vindex `numeric`: the number's eight bytes, the highest first
abbrev pub numeric : ℕ → List ℕ
numeric n = to_be_bytes w64 n

-- the shard whose range holds a keyspace id: `-80` ends before the byte 0x80, and `80-` starts there
abbrev pub shard_of : List ℕ → ℕ
shard_of ksid = if is_lt (slice_cmp nat_cmp ksid (128 ∷ [])) then 0 else 1

-- how a shard is printed
abbrev pub shard_name : ℕ → List ℕ
shard_name shard = if is_lt (nat_cmp shard 1) then codes "commerce/-80" else codes "commerce/80-"
