-- A packet as bytes.
use Rattle.std.specs.Prelude.{ℕ, ◌+◌, ◌*◌, ◌/◌, ◌%◌, List, [], ◌∷◌, ◌++◌, length}
use Rattle.my_packet.specs.declared.packet.Packet.{Packet}

-- a header: the length of the payload in three bytes, low byte first, and the packet's number
abbrev pub header : ℕ → ℕ → List ℕ
header len seq = len % 256 ∷ len / 256 % 256 ∷ len / 65536 ∷ seq ∷ []

-- a packet is its header and its payload
abbrev pub spelling : Packet → List ℕ
spelling p = header (length p.payload) p.seq ++ p.payload

-- the length that the first three bytes of a header announce
abbrev pub announced : ℕ → ℕ → ℕ → ℕ
announced low middle high = low + 256 * middle + 65536 * high

-- the most bytes that the payload of a received packet may have
abbrev pub longest_payload : ℕ
longest_payload = 1048576
