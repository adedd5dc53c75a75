use Rattle.std.specs.Prelude.{ℕ, List, codes}
use Rattle.vl_values.specs.declared.unsupported.Unsupported.{Unsupported}
use Rattle.vl_values.specs.declared.unsupported.Unsupported.TheVariants.{WriteToLookupTable, LockOnLookupTable, ChangeOfKeyColumn, CountWithMore, Lookups, Cursor, WriteToSequenceTable, LockOnSequenceTable}

-- what isn't supported, as the error text has it
abbrev pub unsupported_name : Unsupported → List ℕ
unsupported_name WriteToLookupTable = codes "write to a lookup table"
unsupported_name LockOnLookupTable = codes "lock on a lookup table"
unsupported_name ChangeOfKeyColumn = codes "change of a key column"
unsupported_name CountWithMore = codes "COUNT(*) with more"
unsupported_name Lookups = codes "lookups"
unsupported_name Cursor = codes "cursor"
unsupported_name WriteToSequenceTable = codes "write to a sequence table"
unsupported_name LockOnSequenceTable = codes "lock on a sequence table"
