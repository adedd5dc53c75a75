-- The payloads that the server sends in the handshake, byte by byte.
use Rattle.std.specs.Prelude.{ℕ, ◌/◌, ◌%◌, ◌^◌, List, [], ◌∷◌, ◌++◌, codes, replicate, take, drop}
use Rattle.std.specs.Int.{to_le_bytes, w16, w32}
use Rattle.my_auth.specs.Capabilities.{offered}

-- a text behind which a 0 stands
abbrev pub ended_by_zero : List ℕ → List ℕ
ended_by_zero text = text ++ 0 ∷ []

-- the server's version
abbrev pub version : List ℕ
version = codes "8.0.30-vtgate_cl"

-- the one method of authentication
abbrev pub native_plugin : List ℕ
native_plugin = codes "mysql_native_password"

-- the low and the high two bytes of the offered capabilities
abbrev pub low_capabilities : List ℕ
low_capabilities = to_le_bytes w16 (offered % 2 ^ 16)

abbrev pub high_capabilities : List ℕ
high_capabilities = to_le_bytes w16 (offered / 2 ^ 16)

-- the character set utf8mb4
abbrev pub charset : ℕ
charset = 45

-- autocommit is on, and no transaction is open
abbrev pub first_status : List ℕ
first_status = to_le_bytes w16 2

-- the protocol's number, the version, the thread's number, the first eight bytes of the salt
abbrev pub greeting_front : List ℕ → ℕ → List ℕ
greeting_front salt thread = 10 ∷ (ended_by_zero version ++ (to_le_bytes w32 thread ++ ended_by_zero (take 8 salt)))

-- the capabilities, the character set, the status, the length of the salt with its 0, ten bytes 0
abbrev pub greeting_middle : List ℕ
greeting_middle = low_capabilities ++ charset ∷ (first_status ++ (high_capabilities ++ 21 ∷ replicate 10 0))

-- the other twelve bytes of the salt, and the plugin
abbrev pub greeting_end : List ℕ → List ℕ
greeting_end salt = ended_by_zero (drop 8 salt) ++ ended_by_zero native_plugin

-- the first payload of a connection (HandshakeV10)
abbrev pub greeting : List ℕ → ℕ → List ℕ
greeting salt thread = greeting_front salt thread ++ (greeting_middle ++ greeting_end salt)

-- what a client is sent that named another plugin (AuthSwitchRequest)
abbrev pub switch_request : List ℕ → List ℕ
switch_request salt = 254 ∷ (ended_by_zero native_plugin ++ ended_by_zero salt)
