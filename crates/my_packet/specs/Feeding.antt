-- A feed step by step: words of the framer's private functions.
use Rattle.std.specs.Prelude.{◌≡◌, ℕ, ◌≤◌, List, [], ◌∷◌, ◌++◌, Option, Some, None, Result, Ok, Err}
use Rattle.std.specs.List.{flat_map}
use Rattle.my_packet.specs.Bytes.{header, spelling, longest_payload}
use Rattle.my_packet.specs.Stream.{AreLawful, IsUnfinished, IsBroken, due_after}
use Rattle.my_packet.specs.Framing.{Framing, started}
use Rattle.my_packet.specs.declared.packet.Packet.{Packet}
use Rattle.my_packet.specs.declared.fault.FaultCause.{FaultCause}

-- a whole header is lawful and gives this length, or this is its fault
abbrev pub Judges : ℕ → List ℕ → Result ℕ FaultCause → Type 0
Judges due bytes (Ok len) = (bytes ≡ header len due) × (len ≤ longest_payload)
Judges due bytes (Err cause) = IsBroken cause due bytes

-- a piece is added to what is in hand; it ends a packet, or doesn't, or is at fault
abbrev pub Takes : Framing → List ℕ → Result (Option Packet) FaultCause → Framing → Type 0
Takes old piece (Ok None) new =
    (new ≡ record old { held = old.held ++ piece }) × IsUnfinished old.due (old.held ++ piece)
Takes old piece (Ok (Some p)) new = (old.held ++ piece ≡ spelling p) × AreLawful old.due (p ∷ []) × (new ≡ started)
Takes old piece (Err cause) new = IsBroken cause old.due (old.held ++ piece)

-- midway: these packets are read from the bytes, this much is in hand, and the rest is still to come
pub record Midway (due : ℕ) (bytes : List ℕ) (packets : List Packet) (now : Framing) (rest : List ℕ) : Type 0 where
  pub whole : bytes ≡ flat_map spelling packets ++ (now.held ++ rest)
  pub lawful : AreLawful due packets
  pub due_is : now.due ≡ due_after due packets
  pub going : now.fault ≡ None
  pub unfinished : IsUnfinished now.due now.held
