-- A response as clients write it, and what is read of that.
use Rattle.std.specs.Prelude.{◌≡◌, ℕ, ◌^◌, ◌<◌, nat_lt, MatchBool, if◌then◌else◌, true, false, List, [], ◌∷◌, ◌++◌, length, Option, Some, None, Result, Ok, Err}
use Rattle.std.specs.Int.{to_le_bytes, bytes_low_first, w16, w32, w64}
use Rattle.my_auth.specs.Capabilities.{has, connect_with_db, protocol_41, ssl, secure_connection, plugin_auth, connect_attrs, lenenc_client_data}
use Rattle.my_auth.specs.Handshake.{ended_by_zero}
use Rattle.my_auth.specs.Salt.{HasNoZero}
use Rattle.my_auth.specs.declared.bad_handshake.BadHandshake.{BadHandshake}
use Rattle.my_auth.specs.declared.bad_handshake.BadHandshake.TheVariants.{Memory, Wrong}
use Rattle.my_auth.specs.declared.response.Response.{Response}

-- ---- the bytes of the fields

-- a length-encoded number in its shortest form: one byte below 251, else a mark and 2, 3 or 8 bytes
abbrev pub length_encoded : ℕ → List ℕ
length_encoded n =
    if nat_lt n 251 then n ∷ [] else
    if nat_lt n (2 ^ 16) then 252 ∷ to_le_bytes w16 n else
    if nat_lt n (2 ^ 24) then 253 ∷ bytes_low_first 0 3 n else
    254 ∷ to_le_bytes w64 n

-- bytes behind their length
abbrev pub counted_bytes : List ℕ → List ℕ
counted_bytes bytes = length_encoded (length bytes) ++ bytes

-- the token, by the capabilities
abbrev pub token_bytes : ℕ → List ℕ → List ℕ
token_bytes capabilities token =
    if has capabilities lenenc_client_data then counted_bytes token else
    if has capabilities secure_connection then length token ∷ token else
    ended_by_zero token

-- a field, empty where there is none
abbrev pub or_empty : Option (List ℕ) → List ℕ
or_empty None = []
or_empty (Some bytes) = bytes

abbrev pub database_bytes : ℕ → Option (List ℕ) → List ℕ
database_bytes capabilities database = if has capabilities connect_with_db then ended_by_zero (or_empty database) else []

abbrev pub plugin_bytes : ℕ → Option (List ℕ) → List ℕ
plugin_bytes capabilities plugin = if has capabilities plugin_auth then ended_by_zero (or_empty plugin) else []

abbrev pub attributes_bytes : ℕ → Option (List ℕ) → List ℕ
attributes_bytes capabilities attributes = if has capabilities connect_attrs then counted_bytes (or_empty attributes) else []

-- the fields that the capabilities announce, and what stands behind them
abbrev pub optional_bytes : Response → List ℕ → List ℕ
optional_bytes r more =
    database_bytes r.capabilities r.database
    ++ (plugin_bytes r.capabilities r.plugin ++ (attributes_bytes r.capabilities r.attributes ++ more))

-- a response, with the 23 bytes that aren't looked at, and what stands behind the last field
abbrev pub response_bytes : List ℕ → Response → List ℕ → List ℕ
response_bytes filler r more =
    to_le_bytes w32 r.capabilities
    ++ (to_le_bytes w32 r.greatest_packet
    ++ r.charset ∷ (filler
    ++ (ended_by_zero r.user
    ++ (token_bytes r.capabilities r.token ++ optional_bytes r more))))

-- ---- what can be written so

-- a token that fits its length, or has no 0 where it has none
abbrev pub FitsToken : ℕ → List ℕ → Type 0
FitsToken capabilities token =
    MatchBool (has capabilities lenenc_client_data) (length token < 2 ^ 64)
    (MatchBool (has capabilities secure_connection) (length token < 2 ^ 8) (HasNoZero token))

-- a database isn't empty
abbrev pub IsDatabase : Option (List ℕ) → Type 0
IsDatabase None = Unit {0}
IsDatabase (Some []) = ⊥
IsDatabase (Some (byte ∷ name)) = HasNoZero (byte ∷ name)

abbrev pub IsPlugin : Option (List ℕ) → Type 0
IsPlugin None = ⊥
IsPlugin (Some name) = HasNoZero name

abbrev pub AreAttributes : Option (List ℕ) → Type 0
AreAttributes None = ⊥
AreAttributes (Some bytes) = length bytes < 2 ^ 64

-- the numbers have their sizes, texts have no 0, and the fields that aren't announced are none
pub record IsWritable (r : Response) : Type 0 where
  pub capabilities : r.capabilities < 2 ^ 32
  pub protocol : has r.capabilities protocol_41 ≡ true
  pub plain : has r.capabilities ssl ≡ false
  pub greatest_packet : r.greatest_packet < 2 ^ 32
  pub user : HasNoZero r.user
  pub token : FitsToken r.capabilities r.token
  pub database : MatchBool (has r.capabilities connect_with_db) (IsDatabase r.database) (r.database ≡ None)
  pub plugin : MatchBool (has r.capabilities plugin_auth) (IsPlugin r.plugin) (r.plugin ≡ None)
  pub attributes : MatchBool (has r.capabilities connect_attrs) (AreAttributes r.attributes) (r.attributes ≡ None)

-- this is read, unless memory runs out
abbrev pub IsRead : Response → Result Response BadHandshake → Type 0
IsRead response (Ok read) = read ≡ response
IsRead response (Err Memory) = Unit {0}
IsRead response (Err (Wrong at)) = ⊥

-- the payload is a response as clients write it, and that is read
abbrev pub ReadsWritten : List ℕ → Result Response BadHandshake → Type 0
ReadsWritten bytes result = (response : Response) (filler more : List ℕ) → IsWritable response → length filler ≡ 23
    → bytes ≡ response_bytes filler response more → IsRead response result
