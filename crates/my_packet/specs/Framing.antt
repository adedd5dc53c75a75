-- What contracts see of a framer, and what a feed reads.
use Rattle.std.specs.Prelude.{◌≡◌, ℕ, List, [], ◌∷◌, ◌++◌, Option, None}
use Rattle.my_packet.specs.Stream.{Spells, due_after}
use Rattle.my_packet.specs.declared.packet.Packet.{Packet}
use Rattle.my_packet.specs.declared.fault.FaultCause.{FaultCause}

-- the number due in the header in hand or the next one, the bytes of the unfinished packet in hand, and the
-- fault that ended the stream
pub record Framing : Type 0 where
  pub due : ℕ
  pub held : List ℕ
  pub fault : Option FaultCause

-- at the start, and behind each packet
abbrev pub started : Framing
started = record { due = 0; held = []; fault = None }

-- the due number once seq is expected: a whole header in hand keeps the one that it was looked at with
abbrev pub due_expecting : ℕ → List ℕ → ℕ → ℕ
due_expecting due (low ∷ middle ∷ high ∷ number ∷ payload) seq = due
due_expecting due _ seq = seq

abbrev pub expecting : Framing → ℕ → Framing
expecting framing seq = record framing { due = due_expecting framing.due framing.held seq }

-- what a framer reads from a piece: the packets of what was in hand and the piece, whose rest stays in hand
pub record Reads (old : Framing) (piece : List ℕ) (packets : List Packet) (new : Framing) : Type 0 where
  pub spells : Spells old.due (old.held ++ piece) packets new.held
  pub due : new.due ≡ due_after old.due packets
  pub was_going : old.fault ≡ None
  pub going : new.fault ≡ None

-- no packet ended, or one with nothing behind it
abbrev pub EndsAtMostOne : List Packet → List ℕ → Type 0
EndsAtMostOne [] rest = Unit {0}
EndsAtMostOne (p ∷ []) rest = rest ≡ []
EndsAtMostOne (p ∷ q ∷ packets) rest = ⊥
