-- What a client's payload says as a response to the greeting (HandshakeResponse41): a field and the bytes
-- behind it, or how many bytes are left at the first fault.
use Rattle.std.specs.Prelude.{◌≡◌, ℕ, ◌-◌, ◌&&◌, ◌==◌, nat_lt, not, if◌then◌else◌, List, [], ◌∷◌, ◌++◌, length, take, drop, Option, Some, None, Result, Ok, Err}
use Rattle.std.specs.Int.{from_le_bytes, w16, w32, w64}
use Rattle.std.specs.Option.{option_map}
use Rattle.my_auth.specs.Capabilities.{has, connect_with_db, protocol_41, ssl, secure_connection, plugin_auth, connect_attrs, lenenc_client_data}
use Rattle.my_auth.specs.declared.bad_handshake.BadHandshake.{BadHandshake}
use Rattle.my_auth.specs.declared.bad_handshake.BadHandshake.TheVariants.{Memory, Wrong}
use Rattle.my_auth.specs.declared.fault.Fault.{Fault}
use Rattle.my_auth.specs.declared.response.Response.{Response}
use Rattle.my_auth.specs.declared.response_fields.ResponseFields.{ResponseFields}

abbrev pub Read : Type 0 → Type 0
Read A = Result (A × List ℕ) ℕ

infixl 10 ◌>>=◌
abbrev pub ◌>>=◌ : {A B : Type 0} → Result A ℕ → (A → Result B ℕ) → Result B ℕ
(Ok x) >>= f = f x
(Err left) >>= f = Err left

-- ---- numbers and texts

-- as many bytes as this
abbrev pub bytes_at : ℕ → List ℕ → Read (List ℕ)
bytes_at n bytes = if nat_lt (length bytes) n then Err 0 else Ok (take n bytes, drop n bytes)

abbrev pub byte_at : List ℕ → Read ℕ
byte_at [] = Err 0
byte_at (byte ∷ rest) = Ok (byte, rest)

-- numbers of two, three, four and eight bytes, the low one first
abbrev pub two_at : List ℕ → Read ℕ
two_at bytes = if nat_lt (length bytes) 2 then Err 0 else Ok (from_le_bytes w16 (take 2 bytes), drop 2 bytes)

abbrev pub three_at : List ℕ → Read ℕ
three_at bytes = if nat_lt (length bytes) 3 then Err 0 else Ok (from_le_bytes w32 (take 3 bytes ++ 0 ∷ []), drop 3 bytes)

abbrev pub four_at : List ℕ → Read ℕ
four_at bytes = if nat_lt (length bytes) 4 then Err 0 else Ok (from_le_bytes w32 (take 4 bytes), drop 4 bytes)

abbrev pub eight_at : List ℕ → Read ℕ
eight_at bytes = if nat_lt (length bytes) 8 then Err 0 else Ok (from_le_bytes w64 (take 8 bytes), drop 8 bytes)

-- a length-encoded number, whether in its shortest form or not; 251 and 255 begin none
unfoldable pub number_at : List ℕ → Read ℕ
number_at [] = Err 0
number_at (first ∷ rest) =
    if nat_lt first 251 then Ok (first, rest) else
    if first == 252 then two_at rest else
    if first == 253 then three_at rest else
    if first == 254 then eight_at rest else
    Err (length (first ∷ rest))

-- bytes behind their length, which is length-encoded
abbrev pub counted_at : List ℕ → Read (List ℕ)
counted_at bytes = do
  len ← number_at bytes
  bytes_at len.0 len.1

-- bytes behind their length, which is one byte
abbrev pub short_at : List ℕ → Read (List ℕ)
short_at bytes = do
  len ← byte_at bytes
  bytes_at len.0 len.1

abbrev pub with_front : ℕ → Read (List ℕ) → Read (List ℕ)
with_front byte (Ok text) = Ok (byte ∷ text.0, text.1)
with_front byte (Err left) = Err left

-- a text up to the first 0
abbrev pub text_at : List ℕ → Read (List ℕ)
text_at [] = Err 0
text_at (byte ∷ rest) = if byte == 0 then Ok ([], rest) else with_front byte (text_at rest)

-- ---- the fields

-- the capabilities of a client that speaks PROTOCOL_41 and asks for no SSL; others are at fault here
unfoldable pub capabilities_at : List ℕ → Read ℕ
capabilities_at bytes = do
  capabilities ← four_at bytes
  if has capabilities.0 protocol_41 && not (has capabilities.0 ssl) then Ok capabilities else Err (length bytes)

-- the token, by the capabilities
abbrev pub token_at : ℕ → List ℕ → Read (List ℕ)
token_at capabilities bytes =
    if has capabilities lenenc_client_data then counted_at bytes else
    if has capabilities secure_connection then short_at bytes else
    text_at bytes

abbrev pub some : Read (List ℕ) → Read (Option (List ℕ))
some (Ok text) = Ok (Some text.0, text.1)
some (Err left) = Err left

abbrev pub not_empty : Option (List ℕ) → Option (List ℕ)
not_empty None = None
not_empty (Some []) = None
not_empty (Some (byte ∷ text)) = Some (byte ∷ text)

-- a text where the capabilities have this flag
abbrev pub text_if : ℕ → ℕ → List ℕ → Read (Option (List ℕ))
text_if capabilities flag bytes = if has capabilities flag then some (text_at bytes) else Ok (None, bytes)

-- the attributes, which aren't looked into
abbrev pub attributes_at : ℕ → List ℕ → Read (Option (List ℕ))
attributes_at capabilities bytes = if has capabilities connect_attrs then some (counted_at bytes) else Ok (None, bytes)

-- the fields in their order: behind the character set stand 23 bytes that aren't looked at, an empty
-- database is none, and what stands behind the last field isn't looked at
unfoldable pub response_at : List ℕ → Result Response ℕ
response_at bytes = do
  capabilities ← capabilities_at bytes
  greatest_packet ← four_at capabilities.1
  charset ← byte_at greatest_packet.1
  filler ← bytes_at 23 charset.1
  user ← text_at filler.1
  token ← token_at capabilities.0 user.1
  database ← text_if capabilities.0 connect_with_db token.1
  plugin ← text_if capabilities.0 plugin_auth database.1
  attributes ← attributes_at capabilities.0 plugin.1
  Ok (record {
    capabilities = capabilities.0;
    greatest_packet = greatest_packet.0;
    charset = charset.0;
    user = user.0;
    token = token.0;
    database = not_empty database.0;
    plugin = plugin.0;
    attributes = attributes.0;
  })

-- ---- what is read of a payload

-- the response, or the place of the first fault, counted from 0; memory can run out for a response alone
abbrev pub Reads : List ℕ → Result Response BadHandshake → Type 0
Reads bytes (Ok response) = response_at bytes ≡ Ok response
Reads bytes (Err (Wrong at)) = (left : ℕ) × (response_at bytes ≡ Err left) × (at ≡ length bytes - left)
Reads bytes (Err Memory) = (response : Response) × (response_at bytes ≡ Ok response)

-- ---- words of private functions

-- what a function of the code gives is what reading gives
abbrev pub Gives : {X Y : Type 0} → (X → Y) → Result X Fault → Result Y ℕ → Type 0
Gives view (Ok x) read = read ≡ Ok (view x)
Gives view (Err fault) read = read ≡ Err fault.left

-- a response whose fields stand in the payload
abbrev pub viewed : ResponseFields → Response
viewed fields = record {
  capabilities = fields.capabilities;
  greatest_packet = fields.greatest_packet;
  charset = fields.charset;
  user = fields.user.now;
  token = fields.token.now;
  database = option_map (λ text. text.now) fields.database;
  plugin = option_map (λ text. text.now) fields.plugin;
  attributes = option_map (λ bytes. bytes.now) fields.attributes;
}
