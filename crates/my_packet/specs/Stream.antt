-- What the bytes of a stream say: its packets, and what stands behind the last whole one.
use Rattle.std.specs.Prelude.{◌≡◌, ◌≢◌, ℕ, ◌-◌, ◌<◌, ◌≤◌, List, [], ◌∷◌, ◌++◌, length}
use Rattle.std.specs.List.{flat_map}
use Rattle.my_packet.specs.Bytes.{spelling, announced, longest_payload}
use Rattle.my_packet.specs.declared.packet.Packet.{Packet}
use Rattle.my_packet.specs.declared.fault.FaultCause.{FaultCause}
use Rattle.my_packet.specs.declared.fault.FaultCause.TheVariants.{TooLong, Order, Memory}

-- the first packet has the due number and each later one 0, and none is over the limit
abbrev pub AreLawful : ℕ → List Packet → Type 0
AreLawful due [] = Unit {0}
AreLawful due (p ∷ packets) = (p.seq ≡ due) × (length p.payload ≤ longest_payload) × AreLawful 0 packets

-- the number that is due behind these packets
abbrev pub due_after : ℕ → List Packet → ℕ
due_after due [] = due
due_after due (p ∷ packets) = 0

-- less than a packet: less than a header, or a lawful header and fewer bytes than it announces
abbrev pub IsUnfinished : ℕ → List ℕ → Type 0
IsUnfinished due (low ∷ middle ∷ high ∷ seq ∷ payload) =
    (announced low middle high ≤ longest_payload) × (seq ≡ due) × (length payload < announced low middle high)
IsUnfinished due _ = Unit {0}

-- how many bytes the header, or the payload behind it, still lacks
abbrev pub lacking : List ℕ → ℕ
lacking (low ∷ middle ∷ high ∷ seq ∷ payload) = announced low middle high - length payload
lacking held = 4 - length held

-- a header at fault: the length is looked at first, then the number; want of memory may come anywhere
abbrev pub IsBroken : FaultCause → ℕ → List ℕ → Type 0
IsBroken (TooLong len) due (low ∷ middle ∷ high ∷ seq ∷ more) =
    (len ≡ announced low middle high) × (longest_payload < len)
IsBroken (Order got wanted) due (low ∷ middle ∷ high ∷ seq ∷ more) =
    (announced low middle high ≤ longest_payload) × (got ≡ seq) × (wanted ≡ due) × (got ≢ wanted)
IsBroken Memory due bytes = Unit {0}
IsBroken _ due _ = ⊥

-- the bytes are these packets, and behind them one that isn't whole
pub record Spells (due : ℕ) (bytes : List ℕ) (packets : List Packet) (rest : List ℕ) : Type 0 where
  pub whole : bytes ≡ flat_map spelling packets ++ rest
  pub lawful : AreLawful due packets
  pub unfinished : IsUnfinished (due_after due packets) rest

-- the bytes are these packets, and behind them a fault
pub record Breaks (due : ℕ) (bytes : List ℕ) (packets : List Packet) (cause : FaultCause) : Type 0 where
  pub rest : List ℕ
  pub whole : bytes ≡ flat_map spelling packets ++ rest
  pub lawful : AreLawful due packets
  pub broken : IsBroken cause (due_after due packets) rest
