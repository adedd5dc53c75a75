-- The capability flags of the protocol that the handshake speaks of.
use Rattle.std.specs.Prelude.{ℕ, ◌+◌, ◌==◌, bit_and, Bool, not}

abbrev pub long_password : ℕ
long_password = 0x1

abbrev pub found_rows : ℕ
found_rows = 0x2

abbrev pub connect_with_db : ℕ
connect_with_db = 0x8

abbrev pub protocol_41 : ℕ
protocol_41 = 0x200

abbrev pub ssl : ℕ
ssl = 0x800

abbrev pub transactions : ℕ
transactions = 0x2000

abbrev pub secure_connection : ℕ
secure_connection = 0x8000

abbrev pub plugin_auth : ℕ
plugin_auth = 0x80000

abbrev pub connect_attrs : ℕ
connect_attrs = 0x100000

abbrev pub lenenc_client_data : ℕ
lenenc_client_data = 0x200000

-- what the greeting offers
abbrev pub offered : ℕ
offered = long_password + found_rows + connect_with_db + protocol_41 + transactions + secure_connection
    + plugin_auth + connect_attrs + lenenc_client_data

-- the flag is among the capabilities
abbrev pub has : ℕ → ℕ → Bool
has capabilities flag = not (bit_and capabilities flag == 0)
