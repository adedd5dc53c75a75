-- What a connection has read, said and written where it ends.
use Rattle.std.specs.Prelude.{◌≡◌, ◌⊎◌, ◌+◌, ◌-◌, ◌^◌, ◌<◌, ◌≤◌, ℕ, min, false, List, [], ◌∷◌, ◌++◌, Option}
use Rattle.std.specs.Io.KnownBytes.{Consumes, Appends}
use Rattle.my_packet.specs.Stream.{Spells, Breaks}
use Rattle.my_packet.specs.declared.packet.Packet.{Packet}
use Rattle.my_packet.specs.declared.fault.FaultCause.{FaultCause}
use Rattle.my_packet.specs.declared.fault.FaultCause.TheVariants.{TooLong, Order, Memory as Full}
use Rattle.vl_values.specs.Cause.{error_code}
use Rattle.vl_values.specs.Reply.{refusal}
use Rattle.vl_values.specs.declared.cause.Cause.{Cause}
use Rattle.vl_values.specs.declared.cause.Cause.TheVariants.{PacketTooLarge, PacketOrder}
use Rattle.vl_sql.specs.declared.stmt.Stmt.{Stmt}
use Rattle.vl_cluster.specs.View.{View}
use Rattle.vl_cluster.specs.declared.session.Session.{Session}
use Rattle.vl_cluster.specs.declared.what.What.TheVariants.{Stray}
use Rattle.vl_serve.specs.Command.{Means, AreAnswered, reply_packet}
use Rattle.vl_serve.specs.History.{Deed, Ran, Chained}
use Rattle.vl_serve.specs.History.Deed.{Join, Say, Leave}
use Rattle.vl_serve.specs.declared.end.ConnEnd.{ConnEnd}
use Rattle.vl_serve.specs.declared.end.ConnEnd.TheVariants.{Quit, Ended, Refused, ReadFault, WriteFault, Strayed, Spent, Memory}
use Rattle.vl_serve.specs.declared.request.Request.TheVariants.{Quit as AsksQuit, Run}

-- the bytes are whole packets that are answered, and less than a packet behind them
abbrev pub AllAnswered : List ℕ → List Deed → List ℕ → Type 0
AllAnswered read says bytes = (packets : List Packet) × (rest : List ℕ) × Spells 0 read packets rest × AreAnswered packets says bytes

-- the bytes end with this packet, and those before it are answered
abbrev pub EndsWith : List ℕ → Packet → List Deed → List ℕ → Type 0
EndsWith read last says bytes = (packets : List Packet) × Spells 0 read (packets ++ last ∷ []) [] × AreAnswered packets says bytes

-- the refusal of a packet
abbrev pub IsFaultOf : FaultCause → Cause → Type 0
IsFaultOf (TooLong len) cause = cause ≡ PacketTooLarge len
IsFaultOf (Order got due) cause = cause ≡ PacketOrder got due
IsFaultOf Full cause = ⊥

-- the packets before a fault are answered, and the fault is told with the number after the due one
abbrev pub FaultTold : List ℕ → Cause → List Deed → List ℕ → Type 0
FaultTold read cause says bytes = (packets : List Packet) × (fault : FaultCause) × (before : List ℕ)
    × Breaks 0 read packets fault × IsFaultOf fault cause × AreAnswered packets says before × (bytes ≡ before ++ reply_packet (refusal cause false))

-- what was read, said and written where a connection ends so
abbrev pub Ends : ConnEnd → List ℕ → List Deed → List ℕ → Type 0
Ends Quit read says bytes = (last : Packet) × EndsWith read last says bytes × Means last.payload AsksQuit
Ends Ended read says bytes = AllAnswered read says bytes
Ends (Refused code) read says bytes = (cause : Cause) × FaultTold read cause says bytes × (code ≡ error_code cause)
Ends ReadFault read says bytes = AllAnswered read says bytes
Ends WriteFault read says bytes = (unwritten : List ℕ) × (AllAnswered read says (bytes ++ unwritten) ⊎ ((cause : Cause) × FaultTold read cause says (bytes ++ unwritten)))
Ends Strayed read says bytes = (last : Packet) × (stmt : Stmt) × (before : List Deed) × (pass : Session) × (next : Session)
    × EndsWith read last before bytes × Means last.payload (Run stmt) × (says ≡ before ++ Say pass stmt Stray next ∷ [])
Ends Spent read says bytes = AllAnswered read says bytes
Ends Memory read says bytes = (front : List ℕ) × (lost : List ℕ) × (read ≡ front ++ lost) × AllAnswered front says bytes

-- the most reads of a connection that give bytes
abbrev pub most_reads : ℕ
most_reads = 4611686018427387903

-- how many reads have given bytes where a connection ends so
abbrev pub AreReads : ConnEnd → ℕ → Type 0
AreReads Spent reads = reads ≡ most_reads
AreReads Ended reads = reads < most_reads
AreReads ReadFault reads = reads < most_reads
AreReads end reads = reads ≤ most_reads

-- the session's own events: one Join, what it said, and one Leave; or none, where memory lacked before it joined
abbrev pub IsSession : ConnEnd → Option View → List Deed → Option View → Type 0
IsSession end old says new = ((first : Session) × (last : Session) × Chained first says last × Ran old (Join first ∷ says ++ Leave last ∷ []) new) ⊎ ((end ≡ Memory) × (says ≡ []) × Ran old [] new)

-- a whole connection: what it took from its source, said to the core and wrote into its sink
pub record Connection (end : ConnEnd) (left still_left held now_held : Option (List ℕ)) (core now_core : Option View) (given now_given : ℕ) : Type 0 where
  pub read : List ℕ
  pub says : List Deed
  pub bytes : List ℕ
  pub reads : ℕ
  pub consumes : Consumes left still_left read
  pub appends : Appends held now_held bytes
  pub session : IsSession end core says now_core
  pub ends : Ends end read says bytes
  pub count : given < 2 ^ 64 → now_given ≡ min (given + reads) (2 ^ 64 - 1)
  pub few : AreReads end reads
