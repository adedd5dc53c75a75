use Rattle.std.specs.Prelude.{ℕ, List, codes}
use Rattle.vl_values.specs.declared.limit.Limit.{Limit}
use Rattle.vl_values.specs.declared.limit.Limit.TheVariants.{Changes, RecordBytes, JournalBytes, ResultRows, ResultBytes, Transactions, Events, Parameters, PreparedStatements, SequenceNumbers}

-- the name of a limited quantity, as the error text has it
abbrev pub limit_name : Limit → List ℕ
limit_name Changes = codes "changes"
limit_name RecordBytes = codes "record bytes"
limit_name JournalBytes = codes "journal bytes"
limit_name ResultRows = codes "result rows"
limit_name ResultBytes = codes "result bytes"
limit_name Transactions = codes "transactions"
limit_name Events = codes "events"
limit_name Parameters = codes "parameters"
limit_name PreparedStatements = codes "prepared statements"
limit_name SequenceNumbers = codes "sequence numbers"
