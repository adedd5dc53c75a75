-- The code, the SQLSTATE and the text of each refusal.
use Rattle.std.specs.Prelude.{ℕ, List, [], ◌∷◌, codes, take}
use Rattle.std.specs.Fmt.{decimal}
use Rattle.vl_values.specs.declared.cause.Cause.{Cause}
use Rattle.vl_values.specs.declared.cause.Cause.TheVariants.{OutOfMemory, TooManySessions, BadHandshake, AccessDenied, UnknownCommand, NotNull, UnknownDatabase, UnknownColumn, Duplicate, Syntax, LostSession, LostRead, DeviceFailed, CommitLost, CommitDevice, Limit, RowCount, UnknownTable, PacketTooLarge, PacketOrder, LockWait, RemovedAndClaimed, ClaimedAndRemoved, NotSupported, ParameterType, UnknownStatement, BrokenExecute, OutOfRange, NotNumber, TooLong}
use Rattle.vl_values.specs.Group.{group_name}
use Rattle.vl_values.specs.Limit.{limit_name}
use Rattle.vl_values.specs.LostWhy.{why_text}
use Rattle.vl_values.specs.Piece.{flatten}
use Rattle.vl_values.specs.Unsupported.{unsupported_name}

abbrev pub error_code : Cause → ℕ
error_code OutOfMemory = 1037
error_code TooManySessions = 1040
error_code (BadHandshake _) = 1043
error_code (AccessDenied _) = 1045
error_code UnknownCommand = 1047
error_code (NotNull _) = 1048
error_code (UnknownDatabase _) = 1049
error_code (UnknownColumn _) = 1054
error_code (Duplicate _ _ _ _) = 1062
error_code (Syntax _) = 1064
error_code (LostSession _ _ _) = 1105
error_code (LostRead _) = 1105
error_code (DeviceFailed _) = 1105
error_code (CommitLost _ _ _ _ _) = 1105
error_code (CommitDevice _ _ _ _) = 1105
error_code (Limit _ _) = 1105
error_code (RowCount _ _ _) = 1136
error_code (UnknownTable _) = 1146
error_code (PacketTooLarge _) = 1153
error_code (PacketOrder _ _) = 1156
error_code (LockWait _ _ _ _) = 1205
error_code (RemovedAndClaimed _ _) = 1205
error_code (ClaimedAndRemoved _ _) = 1205
error_code (NotSupported _) = 1235
error_code (ParameterType _) = 1235
error_code (UnknownStatement _) = 1243
error_code (BrokenExecute _) = 1105
error_code (OutOfRange _) = 1264
error_code (NotNumber _) = 1366
error_code (TooLong _ _) = 1406

abbrev pub sql_state : Cause → List ℕ
sql_state OutOfMemory = codes "HY001"
sql_state TooManySessions = codes "08004"
sql_state (BadHandshake _) = codes "08S01"
sql_state (AccessDenied _) = codes "28000"
sql_state UnknownCommand = codes "08S01"
sql_state (NotNull _) = codes "23000"
sql_state (UnknownDatabase _) = codes "42000"
sql_state (UnknownColumn _) = codes "42S22"
sql_state (Duplicate _ _ _ _) = codes "23000"
sql_state (Syntax _) = codes "42000"
sql_state (LostSession _ _ _) = codes "HY000"
sql_state (LostRead _) = codes "HY000"
sql_state (DeviceFailed _) = codes "HY000"
sql_state (CommitLost _ _ _ _ _) = codes "HY000"
sql_state (CommitDevice _ _ _ _) = codes "HY000"
sql_state (Limit _ _) = codes "HY000"
sql_state (RowCount _ _ _) = codes "21S01"
sql_state (UnknownTable _) = codes "42S02"
sql_state (PacketTooLarge _) = codes "08S01"
sql_state (PacketOrder _ _) = codes "08S01"
sql_state (LockWait _ _ _ _) = codes "HY000"
sql_state (RemovedAndClaimed _ _) = codes "HY000"
sql_state (ClaimedAndRemoved _ _) = codes "HY000"
sql_state (NotSupported _) = codes "42000"
sql_state (ParameterType _) = codes "42000"
sql_state (UnknownStatement _) = codes "HY000"
sql_state (BrokenExecute _) = codes "HY000"
sql_state (OutOfRange _) = codes "22003"
sql_state (NotNumber _) = codes "HY000"
sql_state (TooLong _ _) = codes "22001"

-- the parts of the text, in order
abbrev pub message : Cause → List (List ℕ)
message OutOfMemory = codes "Out of memory" ∷ []
message TooManySessions = codes "Too many sessions: 1000" ∷ []
message (BadHandshake at) = codes "Bad handshake at byte " ∷ decimal at ∷ []
message (AccessDenied user) = codes "Access denied for user '" ∷ user ∷ codes "'" ∷ []
message UnknownCommand = codes "Unknown command" ∷ []
message (NotNull column) = codes "Column '" ∷ column ∷ codes "' cannot be null" ∷ []
message (UnknownDatabase name) = codes "Unknown database '" ∷ name ∷ codes "'" ∷ []
message (UnknownColumn name) = codes "Unknown column '" ∷ name ∷ codes "'" ∷ []
message (Duplicate value key row shard) = codes "Duplicate entry '" ∷ value ∷ codes "' for key '" ∷ key ∷ codes "': row (" ∷ row ∷ codes ") on " ∷ shard ∷ []
message (Syntax at) = codes "Syntax error at byte " ∷ decimal at ∷ []
message (LostSession shard group why) = codes "Lost " ∷ shard ∷ codes " " ∷ group_name group ∷ codes " session (" ∷ why_text why ∷ codes ")" ∷ []
message (LostRead shard) = codes "Lost " ∷ shard ∷ codes " read (link)" ∷ []
message (DeviceFailed shard) = codes "Device of " ∷ shard ∷ codes " failed" ∷ []
message (CommitLost group done of shard why) = codes "Commit failed in " ∷ group_name group ∷ codes " after " ∷ decimal done ∷ codes " of " ∷ decimal of ∷ codes ": lost " ∷ shard ∷ codes " (" ∷ why_text why ∷ codes ")" ∷ []
message (CommitDevice group done of shard) = codes "Commit failed in " ∷ group_name group ∷ codes " after " ∷ decimal done ∷ codes " of " ∷ decimal of ∷ codes ": device of " ∷ shard ∷ []
message (Limit what count) = codes "Limit of " ∷ limit_name what ∷ codes " reached: " ∷ decimal count ∷ []
message (RowCount row values columns) = codes "Row " ∷ decimal row ∷ codes " has " ∷ decimal values ∷ codes " values for " ∷ decimal columns ∷ codes " columns" ∷ []
message (UnknownTable name) = codes "Unknown table '" ∷ name ∷ codes "'" ∷ []
message (PacketTooLarge len) = codes "Packet of " ∷ decimal len ∷ codes " bytes is larger than 1048576" ∷ []
message (PacketOrder got due) = codes "Packet number " ∷ decimal got ∷ codes " came where " ∷ decimal due ∷ codes " was due" ∷ []
message (LockWait limit table key holder) = codes "Lock wait limit " ∷ decimal limit ∷ codes " reached on " ∷ table ∷ codes " (" ∷ key ∷ codes "), held by session " ∷ decimal holder ∷ []
message (RemovedAndClaimed value lookup) = codes "Value '" ∷ value ∷ codes "' of " ∷ lookup ∷ codes " is removed and claimed in one transaction" ∷ []
message (ClaimedAndRemoved value lookup) = codes "Value '" ∷ value ∷ codes "' of " ∷ lookup ∷ codes " is claimed and removed in one transaction" ∷ []
message (NotSupported what) = codes "Not supported: " ∷ unsupported_name what ∷ []
message (ParameterType code) = codes "Not supported: parameter type " ∷ decimal code ∷ []
message (UnknownStatement id) = codes "Unknown prepared statement " ∷ decimal id ∷ []
message (BrokenExecute at) = codes "Broken execute payload at byte " ∷ decimal at ∷ []
message (OutOfRange column) = codes "Value of '" ∷ column ∷ codes "' is out of range" ∷ []
message (NotNumber column) = codes "Value of '" ∷ column ∷ codes "' is not a number" ∷ []
message (TooLong column most) = codes "Value of '" ∷ column ∷ codes "' is longer than " ∷ decimal most ∷ codes " bytes" ∷ []

-- the text, cut after 512 bytes
abbrev pub cause_text : Cause → List ℕ
cause_text cause = take 512 (flatten (message cause))
