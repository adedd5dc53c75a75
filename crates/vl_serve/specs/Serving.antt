-- A connection step by step: words of the private functions.
use Rattle.std.specs.Prelude.{◌≡◌, ◌+◌, ◌-◌, ◌^◌, ◌<◌, ℕ, min, false, List, [], ◌∷◌, ◌++◌, Option, Some, None}
use Rattle.std.specs.Io.KnownBytes.{Consumes, Appends}
use Rattle.vl_base.specs.Sink.{WrotePart}
use Rattle.vl_base.specs.Faults.{next_count}
use Rattle.my_packet.specs.Framing.{Framing}
use Rattle.my_packet.specs.Stream.{Spells}
use Rattle.my_packet.specs.declared.packet.Packet.{Packet}
use Rattle.my_packet.specs.declared.fault.FaultCause.{FaultCause}
use Rattle.my_packet.specs.declared.fault.FaultCause.TheVariants.{TooLong, Order, Memory as Full}
use Rattle.vl_values.specs.Cause.{error_code}
use Rattle.vl_values.specs.Reply.{refusal}
use Rattle.vl_values.specs.declared.cause.Cause.{Cause}
use Rattle.vl_values.specs.declared.cause.Cause.TheVariants.{PacketTooLarge, PacketOrder}
use Rattle.vl_sql.specs.declared.stmt.Stmt.{Stmt}
use Rattle.vl_cluster.specs.View.{View}
use Rattle.vl_cluster.specs.declared.session.Session.{Session}
use Rattle.vl_cluster.specs.declared.what.What.{What}
use Rattle.vl_cluster.specs.declared.what.What.TheVariants.{Reply, Stray}
use Rattle.vl_serve.specs.Command.{Means, IsAnswered, AreAnswered, reply_packet}
use Rattle.vl_serve.specs.Connection.{Ends, AreReads}
use Rattle.vl_serve.specs.History.{Deed, Ran, Chained}
use Rattle.vl_serve.specs.History.Deed.{Say}
use Rattle.vl_serve.specs.declared.end.ConnEnd.{ConnEnd}
use Rattle.vl_serve.specs.declared.end.ConnEnd.TheVariants.{Quit, Ended, Refused, ReadFault, WriteFault, Strayed, Spent, Memory}
use Rattle.vl_serve.specs.declared.request.Request.TheVariants.{Quit as AsksQuit, Run}

-- what one payload brings: it is answered, or it ends the connection
abbrev pub Brings : List ℕ → Option ConnEnd → List Deed → List ℕ → Type 0
Brings payload None says text = IsAnswered payload says text
Brings payload (Some Quit) says text = Means payload AsksQuit × (says ≡ []) × (text ≡ [])
Brings payload (Some Strayed) says text = (stmt : Stmt) × (pass : Session) × (next : Session) × Means payload (Run stmt) × (says ≡ Say pass stmt Stray next ∷ []) × (text ≡ [])
Brings payload (Some Memory) says text = (says ≡ []) × (text ≡ [])
Brings payload (Some WriteFault) says text = (unwritten : List ℕ) × IsAnswered payload says (text ++ unwritten)
Brings payload (Some end) says text = ⊥

-- the packet that a feed ended, if it ended one
abbrev pub BringsFirst : List Packet → Option ConnEnd → List Deed → List ℕ → Type 0
BringsFirst [] end says text = (end ≡ None) × (says ≡ []) × (text ≡ [])
BringsFirst (packet ∷ packets) end says text = Brings packet.payload end says text

-- bytes were written, or a part of them where that failed
abbrev pub Wrote : Option ConnEnd → Option (List ℕ) → Option (List ℕ) → List ℕ → Type 0
Wrote None held now_held bytes = Appends held now_held bytes
Wrote (Some WriteFault) held now_held bytes = WrotePart held now_held bytes
Wrote (Some end) held now_held bytes = ⊥

-- the reply that the core told was written; Stray ends the connection
abbrev pub TellsWhat : What → Option ConnEnd → Option (List ℕ) → Option (List ℕ) → Type 0
TellsWhat (Reply reply) end held now_held = Wrote end held now_held (reply_packet reply)
TellsWhat Stray end held now_held = (end ≡ Some Strayed) × Appends held now_held []

-- a refusal was written before the connection ends
abbrev pub Refuses : Cause → ConnEnd → Option (List ℕ) → Option (List ℕ) → Type 0
Refuses why (Refused code) held now_held = (code ≡ error_code why) × Appends held now_held (reply_packet (refusal why false))
Refuses why WriteFault held now_held = WrotePart held now_held (reply_packet (refusal why false))
Refuses why end held now_held = ⊥

-- a fault of a packet was told; want of memory isn't
abbrev pub TellsFault : FaultCause → ConnEnd → Option (List ℕ) → Option (List ℕ) → Type 0
TellsFault (TooLong len) end held now_held = Refuses (PacketTooLarge len) end held now_held
TellsFault (Order got due) end held now_held = Refuses (PacketOrder got due) end held now_held
TellsFault Full end held now_held = (end ≡ Memory) × Appends held now_held []

-- a step of the connection: what it said to the core and wrote
pub record Step (pass next : Session) (core now_core : Option View) (held now_held : Option (List ℕ)) (P : List Deed → List ℕ → Type 0) : Type 0 where
  pub says : List Deed
  pub text : List ℕ
  pub chained : Chained pass says next
  pub ran : Ran core says now_core
  pub wrote : Appends held now_held text
  pub holds : P says text

-- what was read so far is answered, and the framer has the rest in hand
pub record Serves (framing : Framing) (read : List ℕ) (says : List Deed) (bytes : List ℕ) : Type 0 where
  pub packets : List Packet
  pub spells : Spells 0 read packets framing.held
  pub answered : AreAnswered packets says bytes
  pub due : framing.due ≡ 0
  pub going : framing.fault ≡ None

-- the connection goes on, or has ended
abbrev pub Goes : Option ConnEnd → Framing → List ℕ → List Deed → List ℕ → Type 0
Goes None framing read says bytes = Serves framing read says bytes
Goes (Some end) framing read says bytes = Ends end read says bytes

-- a turn gave bytes, or read none
abbrev pub Gave : Option ConnEnd → ℕ → ℕ → Type 0
Gave (Some Ended) given now_given = now_given ≡ given
Gave (Some ReadFault) given now_given = now_given ≡ given
Gave (Some Spent) given now_given = ⊥
Gave end given now_given = now_given ≡ next_count given

-- one read, and what it brought
pub record Turn (end : Option ConnEnd) (framing : Framing) (read : List ℕ) (says : List Deed) (bytes : List ℕ)
    (pass next : Session) (left still_left held now_held : Option (List ℕ)) (core now_core : Option View) : Type 0 where
  pub piece : List ℕ
  pub consumes : Consumes left still_left piece
  pub step : Step pass next core now_core held now_held (λ more text. Goes end framing (read ++ piece) (says ++ more) (bytes ++ text))

-- a connection that goes on
pub record Talking (framing : Framing) (reads : ℕ) (first pass : Session) (left still_left held now_held : Option (List ℕ)) (core now_core : Option View) (given now_given : ℕ) : Type 0 where
  pub read : List ℕ
  pub says : List Deed
  pub bytes : List ℕ
  pub consumes : Consumes left still_left read
  pub appends : Appends held now_held bytes
  pub chained : Chained first says pass
  pub ran : Ran core says now_core
  pub serves : Serves framing read says bytes
  pub count : given < 2 ^ 64 → now_given ≡ min (given + reads) (2 ^ 64 - 1)

-- a connection that has ended, but for the session's Join and Leave
pub record Talked (end : ConnEnd) (first last : Session) (left still_left held now_held : Option (List ℕ)) (core now_core : Option View) (given now_given : ℕ) : Type 0 where
  pub read : List ℕ
  pub says : List Deed
  pub bytes : List ℕ
  pub reads : ℕ
  pub consumes : Consumes left still_left read
  pub appends : Appends held now_held bytes
  pub chained : Chained first says last
  pub ran : Ran core says now_core
  pub ends : Ends end read says bytes
  pub count : given < 2 ^ 64 → now_given ≡ min (given + reads) (2 ^ 64 - 1)
  pub few : AreReads end reads
