-- The keyspace id that a primary vindex gives a value.
use Rattle.std.specs.Prelude.{ℕ, pos, negsuc, List, Option, Some, None}
use Rattle.vl_values.specs.declared.value.Value.{Value}
use Rattle.vl_values.specs.declared.value.Value.TheVariants.{Null, Int, Uint, Bytes}
use Rattle.vl_values.specs.Value.{text_of_value}
use Rattle.vl_vindex.specs.Vindex.{numeric_ksid, md5_ksid}
use Rattle.vl_catalog.specs.declared.vindex.Vindex.{Vindex}
use Rattle.vl_catalog.specs.declared.vindex.Vindex.TheVariants.{Numeric, BinaryMd5}

-- a number that isn't negative
abbrev pub unsigned_of : Value → Option ℕ
unsigned_of Null = None
unsigned_of (Int (pos n)) = Some n
unsigned_of (Int (negsuc n)) = None
unsigned_of (Uint n) = Some n
unsigned_of (Bytes s) = None

abbrev pub numeric_of : Option ℕ → Option (List ℕ)
numeric_of None = None
numeric_of (Some n) = Some (numeric_ksid n)

-- `numeric` takes numbers that aren't negative, `binary_md5` the bytes of a text and the decimal text
-- of a number; NULL has no keyspace id
abbrev pub ksid_of_value : Vindex → Value → Option (List ℕ)
ksid_of_value Numeric value = numeric_of (unsigned_of value)
ksid_of_value BinaryMd5 Null = None
ksid_of_value BinaryMd5 (Int n) = Some (md5_ksid (text_of_value (Int n)))
ksid_of_value BinaryMd5 (Uint n) = Some (md5_ksid (text_of_value (Uint n)))
ksid_of_value BinaryMd5 (Bytes s) = Some (md5_ksid s)
