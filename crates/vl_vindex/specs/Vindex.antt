-- The primary vindexes: the keyspace id of a value.
use Rattle.std.specs.Prelude.{ℕ, List}
use Rattle.std.specs.Int.{to_be_bytes, w64}
use Rattle.md5.specs.Md5.{md5}

-- under `numeric`, a number's eight bytes, the highest first
abbrev pub numeric_ksid : ℕ → List ℕ
numeric_ksid n = to_be_bytes w64 n

-- under `binary_md5`, the digest of the bytes
abbrev pub md5_ksid : List ℕ → List ℕ
md5_ksid bytes = md5 bytes
