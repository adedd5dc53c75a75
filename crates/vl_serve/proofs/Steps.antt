-- What a packet, or a fault of one, brings to a connection.
use Rattle.std.proofs.Common.{◌≡◌, ◌≢◌, ◌∙◌, ap, sym, refl, subst, ℕ, inl, inr, List, [], ◌∷◌, ◌++◌, false, Option, Some, None, IsSome, append_assoc}
use Rattle.std.proofs.lemmas.List.{append-nil}
use Rattle.std.specs.List.{slice_get}
use Rattle.vl_base.proofs.Known.{appends_none}
use Rattle.my_packet.specs.Framing.{Framing, Reads, EndsAtMostOne}
use Rattle.my_packet.specs.Stream.{Spells, Breaks}
use Rattle.my_packet.specs.declared.packet.Packet.{Packet}
use Rattle.my_packet.specs.declared.fault.FaultCause.{FaultCause}
use Rattle.my_packet.specs.declared.fault.FaultCause.TheVariants.{TooLong, Order, Memory as Full}
use Rattle.my_packet.proofs.Streams.{due_after_zero, spells_joined, breaks_joined}
use Rattle.vl_values.specs.Reply.{refusal}
use Rattle.vl_values.specs.declared.cause.Cause.{Cause}
use Rattle.vl_values.specs.declared.cause.Cause.TheVariants.{PacketTooLarge, PacketOrder}
use Rattle.vl_sql.specs.declared.stmt.Stmt.{Stmt}
use Rattle.vl_model.specs.Taken.{IsTaken}
use Rattle.vl_cluster.specs.View.{View}
use Rattle.vl_cluster.specs.declared.session.Session.{Session}
use Rattle.vl_cluster.specs.declared.what.What.{What}
use Rattle.vl_cluster.specs.declared.what.What.TheVariants.{Reply, Stray}
use Rattle.vl_serve.specs.Command.{Means, IsAnswered, AreAnswered, reply_packet}
use Rattle.vl_serve.specs.Command.IsAnswered.{Replied}
use Rattle.vl_serve.specs.Connection.{Ends, IsFaultOf}
use Rattle.vl_serve.specs.History.{Deed, Ran}
use Rattle.vl_serve.specs.History.Deed.{Say}
use Rattle.vl_serve.specs.Serving.{Step, Brings, BringsFirst, Wrote, TellsWhat, TellsFault, Refuses, Serves, Goes}
use Rattle.vl_serve.specs.declared.end.ConnEnd.{ConnEnd}
use Rattle.vl_serve.specs.declared.end.ConnEnd.TheVariants.{Quit, Refused, WriteFault, Strayed, Memory}
use Rattle.vl_serve.specs.declared.request.Request.TheVariants.{Run}
use Rattle.vl_serve.proofs.Runs.{ran_none}

-- the core takes the statement of a payload
pub means_taken : (payload : List ℕ) (stmt : Stmt) → Means payload (Run stmt) → IsTaken stmt
means_taken payload stmt means = subst (λ (found : Option (ℕ × ℕ)). IsSome found) (sym means.2.3) refl

-- a statement was asked, and what was told is written
pub said_step : (pass next : Session) (core now_core : Option View) (held now_held : Option (List ℕ)) (payload : List ℕ) (stmt : Stmt) (what : What) (end : Option ConnEnd)
    → Means payload (Run stmt) → Ran core (Say pass stmt what next ∷ []) now_core → TellsWhat what end held now_held → Step pass next core now_core held now_held (Brings payload end)
said_step pass next core now_core held now_held payload stmt (Reply reply) None m r t =
    record { says = Say pass stmt (Reply reply) next ∷ []; text = reply_packet reply; chained = (refl, refl); ran = r; wrote = t; holds = Replied pass next stmt reply m }
said_step pass next core now_core held now_held payload stmt (Reply reply) (Some WriteFault) m r t =
    record {
      says = Say pass stmt (Reply reply) next ∷ [];
      text = t.0;
      chained = (refl, refl);
      ran = r;
      wrote = t.3;
      holds = (t.1, subst (λ (v : List ℕ). IsAnswered payload (Say pass stmt (Reply reply) next ∷ []) v) t.2 (Replied pass next stmt reply m));
    }
said_step pass next core now_core held now_held payload stmt (Reply reply) (Some end) m r t = absurd t
said_step pass next core now_core held now_held payload stmt Stray end m r t =
    record {
      says = Say pass stmt Stray next ∷ [];
      text = [];
      chained = (refl, refl);
      ran = r;
      wrote = t.1;
      holds = subst (λ (e : Option ConnEnd). Brings payload e (Say pass stmt Stray next ∷ []) []) (sym t.0) (stmt, pass, next, m, refl, refl);
    }

-- a payload is answered with no event
pub refused_step : (pass : Session) (core : Option View) (held now_held : Option (List ℕ)) (payload bytes : List ℕ) (end : Option ConnEnd)
    → IsAnswered payload [] bytes → Wrote end held now_held bytes → Step pass pass core core held now_held (Brings payload end)
refused_step pass core held now_held payload bytes None a w =
    record { says = []; text = bytes; chained = refl; ran = ran_none core; wrote = w; holds = a }
refused_step pass core held now_held payload bytes (Some WriteFault) a w =
    record { says = []; text = w.0; chained = refl; ran = ran_none core; wrote = w.3; holds = (w.1, subst (λ (v : List ℕ). IsAnswered payload [] v) w.2 a) }
refused_step pass core held now_held payload bytes (Some end) a w = absurd w

-- memory lacked for its statement
pub lost_step : (pass : Session) (core : Option View) (held : Option (List ℕ)) (payload : List ℕ) → Step pass pass core core held held (Brings payload (Some Memory))
lost_step pass core held payload = record { says = []; text = []; chained = refl; ran = ran_none core; wrote = appends_none held; holds = (refl, refl) }

-- no packet ended
pub none_step : (pass : Session) (core : Option View) (held : Option (List ℕ)) (packets : List Packet) → slice_get packets 0 ≡ None → Step pass pass core core held held (BringsFirst packets None)
none_step pass core held [] e = record { says = []; text = []; chained = refl; ran = ran_none core; wrote = appends_none held; holds = (refl, refl, refl) }
none_step pass core held (p ∷ packets) e = absurd (cc)

-- one packet more is answered
pub answered_more : (packets : List Packet) (p : Packet) (says more : List Deed) (bytes text : List ℕ) → AreAnswered packets says bytes → IsAnswered p.payload more text → AreAnswered (packets ++ p ∷ []) (says ++ more) (bytes ++ text)
answered_more [] p says more bytes text a one = (
  more,
  [],
  text,
  [],
  ap (λ v. v ++ more) a.0 ∙ sym (append-nil more),
  ap (λ v. v ++ text) a.1 ∙ sym (append-nil text),
  one,
  (refl, refl),
)
answered_more (q ∷ packets) p says more bytes text a one = (
  a.0,
  a.1 ++ more,
  a.2,
  a.3 ++ text,
  ap (λ v. v ++ more) a.4 ∙ append_assoc a.0 a.1 more,
  ap (λ v. v ++ text) a.5 ∙ append_assoc a.2 a.3 text,
  a.6,
  answered_more packets p a.1 more a.3 text a.7 one,
)

-- the packets of the stream so far and of one piece more
spelled_more : (framing now : Framing) (read piece : List ℕ) (before packets : List Packet) → Spells 0 read before framing.held → framing.due ≡ 0 → Reads framing piece packets now → Spells 0 (read ++ piece) (before ++ packets) now.held
spelled_more framing now read piece before packets s due r =
    spells_joined piece s (subst (λ (d : ℕ). Spells d (framing.held ++ piece) packets now.held) (due ∙ sym (due_after_zero before)) r.spells)

-- no bytes, no deeds
nothing_said : (says more : List Deed) → more ≡ [] → says ++ more ≡ says
nothing_said says more e = ap (λ v. says ++ v) e ∙ append-nil says

nothing_written : (bytes text : List ℕ) → text ≡ [] → bytes ++ text ≡ bytes
nothing_written bytes text e = ap (λ v. bytes ++ v) e ∙ append-nil bytes

-- what one packet more brings
one_heard : (framing now : Framing) (read piece : List ℕ) (says more : List Deed) (bytes text : List ℕ) (p : Packet) (end : Option ConnEnd)
    → Serves framing read says bytes → Reads framing piece (p ∷ []) now → now.held ≡ [] → Brings p.payload end more text → Goes end now (read ++ piece) (says ++ more) (bytes ++ text)
one_heard framing now read piece says more bytes text p None s r e b =
    record {
      packets = s.packets ++ p ∷ [];
      spells = spelled_more framing now read piece s.packets (p ∷ []) s.spells s.due r;
      answered = answered_more s.packets p says more bytes text s.answered b;
      due = r.due;
      going = r.going;
    }
one_heard framing now read piece says more bytes text p (Some Quit) s r e b =
    let whole = spelled_more framing now read piece s.packets (p ∷ []) s.spells s.due r in
    let said = subst (λ (v : List Deed). AreAnswered s.packets v bytes) (sym (nothing_said says more b.1)) s.answered in
    let written = subst (λ (v : List ℕ). AreAnswered s.packets (says ++ more) v) (sym (nothing_written bytes text b.2)) said in
    (p, (s.packets, subst (λ (v : List ℕ). Spells 0 (read ++ piece) (s.packets ++ p ∷ []) v) e whole, written), b.0)
one_heard framing now read piece says more bytes text p (Some Strayed) s r e b =
    let whole = spelled_more framing now read piece s.packets (p ∷ []) s.spells s.due r in
    let written = subst (λ (v : List ℕ). AreAnswered s.packets says v) (sym (nothing_written bytes text b.5)) s.answered in
    (p, b.0, says, b.1, b.2, (s.packets, subst (λ (v : List ℕ). Spells 0 (read ++ piece) (s.packets ++ p ∷ []) v) e whole, written), b.3, ap (λ v. says ++ v) b.4)
one_heard framing now read piece says more bytes text p (Some WriteFault) s r e b =
    let whole = spelled_more framing now read piece s.packets (p ∷ []) s.spells s.due r in
    let answered = answered_more s.packets p says more bytes (text ++ b.0) s.answered b.1 in
    (b.0, inl (s.packets ++ p ∷ [], now.held, whole, subst (λ (v : List ℕ). AreAnswered (s.packets ++ p ∷ []) (says ++ more) v) (sym (append_assoc bytes text b.0)) answered))
one_heard framing now read piece says more bytes text p (Some Memory) s r e b =
    let said = subst (λ (v : List Deed). AreAnswered s.packets v bytes) (sym (nothing_said says more b.0)) s.answered in
    let written = subst (λ (v : List ℕ). AreAnswered s.packets (says ++ more) v) (sym (nothing_written bytes text b.1)) said in
    (read, piece, refl, (s.packets, framing.held, s.spells, written))
one_heard framing now read piece says more bytes text p (Some end) s r e b = absurd b

-- what a feed brings that ends at most one packet
pub heard : (framing now : Framing) (read piece : List ℕ) (says more : List Deed) (bytes text : List ℕ) (packets : List Packet) (end : Option ConnEnd)
    → Serves framing read says bytes → Reads framing piece packets now → EndsAtMostOne packets now.held → BringsFirst packets end more text → Goes end now (read ++ piece) (says ++ more) (bytes ++ text)
heard framing now read piece says more bytes text [] end s r one b =
    let serves : Serves now (read ++ piece) says bytes = record {
      packets = s.packets;
      spells = subst (λ (ps : List Packet). Spells 0 (read ++ piece) ps now.held) (append-nil s.packets) (spelled_more framing now read piece s.packets [] s.spells s.due r);
      answered = s.answered;
      due = r.due ∙ s.due;
      going = r.going;
    } in
    let said = subst (λ (v : List Deed). Serves now (read ++ piece) v bytes) (sym (nothing_said says more b.1)) serves in
    let written = subst (λ (v : List ℕ). Serves now (read ++ piece) (says ++ more) v) (sym (nothing_written bytes text b.2)) said in
    subst (λ (v : Option ConnEnd). Goes v now (read ++ piece) (says ++ more) (bytes ++ text)) (sym b.0) written
heard framing now read piece says more bytes text (p ∷ []) end s r one b = one_heard framing now read piece says more bytes text p end s r one b
heard framing now read piece says more bytes text (p ∷ q ∷ packets) end s r one b = absurd one

-- a refusal is told behind the answers
refused_end : (read : List ℕ) (says : List Deed) (bytes : List ℕ) (packets : List Packet) (fault : FaultCause) (why : Cause) (end : ConnEnd) (pass : Session) (core : Option View) (held now_held : Option (List ℕ))
    → Breaks 0 read packets fault → IsFaultOf fault why → AreAnswered packets says bytes → Refuses why end held now_held
    → Step pass pass core core held now_held (λ more text. Ends end read (says ++ more) (bytes ++ text))
refused_end read says bytes packets fault why (Refused code) pass core held now_held b f a w =
    let said = subst (λ (v : List Deed). AreAnswered packets v bytes) (sym (append-nil says)) a in
    record {
      says = [];
      text = reply_packet (refusal why false);
      chained = refl;
      ran = ran_none core;
      wrote = w.1;
      holds = (why, (packets, fault, bytes, b, f, said, refl), w.0);
    }
refused_end read says bytes packets fault why WriteFault pass core held now_held b f a w =
    let said = subst (λ (v : List Deed). AreAnswered packets v bytes) (sym (append-nil says)) a in
    record {
      says = [];
      text = w.0;
      chained = refl;
      ran = ran_none core;
      wrote = w.3;
      holds = (w.1, inr (why, (packets, fault, bytes, b, f, said, append_assoc bytes w.0 w.1 ∙ ap (λ v. bytes ++ v) (sym w.2))));
    }
refused_end read says bytes packets fault why end pass core held now_held b f a w = absurd w

-- the fault of a packet, behind the answers so far
broken_more : (framing : Framing) (read piece : List ℕ) (says : List Deed) (bytes : List ℕ) (before : List Packet) (fault : FaultCause)
    → (s : Serves framing read says bytes) → Breaks framing.due (framing.held ++ piece) before fault → before ≡ [] → Breaks 0 (read ++ piece) s.packets fault
broken_more framing read piece says bytes before fault s b none =
    let whole = breaks_joined piece s.spells (subst (λ (d : ℕ). Breaks d (framing.held ++ piece) before fault) (s.due ∙ sym (due_after_zero s.packets)) b) in
    subst (λ (ps : List Packet). Breaks 0 (read ++ piece) ps fault) (ap (λ v. s.packets ++ v) none ∙ append-nil s.packets) whole

pub fault_heard : (framing : Framing) (read piece : List ℕ) (says : List Deed) (bytes : List ℕ) (before : List Packet) (fault : FaultCause) (end : ConnEnd) (pass : Session) (core : Option View) (held now_held : Option (List ℕ))
    → Serves framing read says bytes → Breaks framing.due (framing.held ++ piece) before fault → (fault ≢ Full → before ≡ []) → TellsFault fault end held now_held
    → Step pass pass core core held now_held (λ more text. Ends end (read ++ piece) (says ++ more) (bytes ++ text))
fault_heard framing read piece says bytes before (TooLong len) end pass core held now_held s b alone t =
    refused_end (read ++ piece) says bytes s.packets (TooLong len) (PacketTooLarge len) end pass core held now_held (broken_more framing read piece says bytes before (TooLong len) s b (alone (λ e. cc))) refl s.answered t
fault_heard framing read piece says bytes before (Order got due) end pass core held now_held s b alone t =
    refused_end (read ++ piece) says bytes s.packets (Order got due) (PacketOrder got due) end pass core held now_held (broken_more framing read piece says bytes before (Order got due) s b (alone (λ e. cc))) refl s.answered t
fault_heard framing read piece says bytes before Full end pass core held now_held s b alone t =
    let said = subst (λ (v : List Deed). AreAnswered s.packets v bytes) (sym (append-nil says)) s.answered in
    let written = subst (λ (v : List ℕ). AreAnswered s.packets (says ++ []) v) (sym (append-nil bytes)) said in
    record {
      says = [];
      text = [];
      chained = refl;
      ran = ran_none core;
      wrote = t.1;
      holds = subst (λ (e : ConnEnd). Ends e (read ++ piece) (says ++ []) (bytes ++ [])) (sym t.0) (read, piece, refl, (s.packets, framing.held, s.spells, written));
    }

-- a step that goes on from what was read so far
pub heard_step : (framing now : Framing) (read piece : List ℕ) (says : List Deed) (bytes : List ℕ) (packets : List Packet) (end : Option ConnEnd) (pass next : Session) (core now_core : Option View) (held now_held : Option (List ℕ))
    → Serves framing read says bytes → Reads framing piece packets now → EndsAtMostOne packets now.held → Step pass next core now_core held now_held (BringsFirst packets end)
    → Step pass next core now_core held now_held (λ more text. Goes end now (read ++ piece) (says ++ more) (bytes ++ text))
heard_step framing now read piece says bytes packets end pass next core now_core held now_held s r one step =
    record { says = step.says; text = step.text; chained = step.chained; ran = step.ran; wrote = step.wrote; holds = heard framing now read piece says step.says bytes step.text packets end s r one step.holds }
