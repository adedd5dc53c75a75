-- Reads of a connection, one behind another.
use Rattle.std.proofs.Common.{◌≡◌, ◌∙◌, sym, refl, subst, ℕ, ◌+◌, ◌-◌, ◌^◌, ◌<◌, min, arith, inl, inr, List, [], ◌∷◌, ◌++◌, Option, Some, None, take}
use Rattle.std.proofs.lemmas.List.{append-nil}
use Rattle.std.specs.Io.KnownBytes.{Consumes, Keeps}
use Rattle.vl_base.proofs.Known.{appends_none, appends_more, consumes_more}
use Rattle.my_packet.specs.Framing.{Framing, started}
use Rattle.my_packet.specs.Stream.{Spells}
use Rattle.vl_cluster.specs.View.{View}
use Rattle.vl_cluster.specs.declared.session.Session.{Session}
use Rattle.vl_serve.specs.Connection.{AllAnswered, AreReads, Connection, most_reads}
use Rattle.vl_serve.specs.History.{Deed, Ran}
use Rattle.vl_serve.specs.History.Deed.{Join, Leave}
use Rattle.vl_serve.specs.Serving.{Serves, Gave, Turn, Talking, Talked}
use Rattle.vl_serve.specs.declared.end.ConnEnd.{ConnEnd}
use Rattle.vl_serve.specs.declared.end.ConnEnd.TheVariants.{Quit, Ended, Refused, ReadFault, WriteFault, Strayed, Spent, Memory}
use Rattle.vl_serve.proofs.Runs.{ran_none, ran_more, chained_more}

-- what is kept is consumed by none
pub keeps_consumes : (old new : Option (List ℕ)) → Keeps old new → Consumes old new []
keeps_consumes None new k = tt
keeps_consumes (Some o) None k = absurd k
keeps_consumes (Some o) (Some n) k = sym k

pub consumes_none : (old new : Option (List ℕ)) (n : ℕ) (buf : List ℕ) → n ≡ 0 → Consumes old new (take n buf) → Consumes old new []
consumes_none old new n buf e c = subst (λ (k : ℕ). Consumes old new (take k buf)) e c

-- nothing more was read, said or written
all_same : (read : List ℕ) (says : List Deed) (bytes : List ℕ) → AllAnswered read says bytes → AllAnswered (read ++ []) (says ++ []) (bytes ++ [])
all_same read says bytes a =
    subst (λ (v : List ℕ). AllAnswered v (says ++ []) (bytes ++ [])) (sym (append-nil read))
    (subst (λ (v : List Deed). AllAnswered read v (bytes ++ [])) (sym (append-nil says))
    (subst (λ (v : List ℕ). AllAnswered read says v) (sym (append-nil bytes)) a))

serves_all : (framing : Framing) (read : List ℕ) (says : List Deed) (bytes : List ℕ) → Serves framing read says bytes → AllAnswered read says bytes
serves_all framing read says bytes s = (s.packets, framing.held, s.spells, s.answered)

-- the source was at its end, or failed
pub ended_turn : (framing : Framing) (read : List ℕ) (says : List Deed) (bytes : List ℕ) (pass : Session) (left still_left held : Option (List ℕ)) (core : Option View)
    → Serves framing read says bytes → Consumes left still_left [] → Turn (Some Ended) framing read says bytes pass pass left still_left held held core core
ended_turn framing read says bytes pass left still_left held core s c = record {
  piece = [];
  consumes = c;
  step = record { says = []; text = []; chained = refl; ran = ran_none core; wrote = appends_none held; holds = all_same read says bytes (serves_all framing read says bytes s) };
}

pub failed_turn : (framing : Framing) (read : List ℕ) (says : List Deed) (bytes : List ℕ) (pass : Session) (left still_left held : Option (List ℕ)) (core : Option View)
    → Serves framing read says bytes → Consumes left still_left [] → Turn (Some ReadFault) framing read says bytes pass pass left still_left held held core core
failed_turn framing read says bytes pass left still_left held core s c = record {
  piece = [];
  consumes = c;
  step = record { says = []; text = []; chained = refl; ran = ran_none core; wrote = appends_none held; holds = all_same read says bytes (serves_all framing read says bytes s) };
}

no_packets : Spells 0 [] [] []
no_packets = record { whole = refl; lawful = tt; unfinished = tt }

pub consumes_nothing : (known : Option (List ℕ)) → Consumes known known []
consumes_nothing None = tt
consumes_nothing (Some xs) = refl

-- at the first read
pub talking_none : (pass : Session) (left held : Option (List ℕ)) (core : Option View) (given : ℕ) → Talking started 0 pass pass left left held held core core given given
talking_none pass left held core given = record {
  read = [];
  says = [];
  bytes = [];
  consumes = consumes_nothing left;
  appends = appends_none held;
  chained = refl;
  ran = ran_none core;
  serves = record { packets = []; spells = no_packets; answered = (refl, refl); due = refl; going = refl };
  count = λ fits. omega arith;
}

-- a turn behind what was read so far
pub talking_more : (framing now : Framing) (reads : ℕ) (first pass next : Session) (left mid_left new_left held mid_held new_held : Option (List ℕ)) (core mid_core new_core : Option View) (given mid_given new_given : ℕ)
    → (t : Talking framing reads first pass left mid_left held mid_held core mid_core given mid_given) → Turn None now t.read t.says t.bytes pass next mid_left new_left mid_held new_held mid_core new_core → Gave None mid_given new_given
    → Talking now (reads + 1) first next left new_left held new_held core new_core given new_given
talking_more framing now reads first pass next left mid_left new_left held mid_held new_held core mid_core new_core given mid_given new_given t turn gave = record {
  read = t.read ++ turn.piece;
  says = t.says ++ turn.step.says;
  bytes = t.bytes ++ turn.step.text;
  consumes = consumes_more left mid_left new_left t.read turn.piece t.consumes turn.consumes;
  appends = appends_more held mid_held new_held t.bytes turn.step.text t.appends turn.step.wrote;
  chained = chained_more first pass next t.says turn.step.says t.chained turn.step.chained;
  ran = ran_more core mid_core new_core t.says turn.step.says t.ran turn.step.ran;
  serves = turn.step.holds;
  count = λ fits. omega (arith, t.count fits, gave);
}

-- how many reads gave bytes, where the last turn ended the connection
last_count : (end : ConnEnd) (reads given mid_given new_given : ℕ) → reads < most_reads → (given < 2 ^ 64 → mid_given ≡ min (given + reads) (2 ^ 64 - 1)) → Gave (Some end) mid_given new_given
    → (n : ℕ) × (given < 2 ^ 64 → new_given ≡ min (given + n) (2 ^ 64 - 1)) × AreReads end n
last_count Ended reads given mid_given new_given few count gave = (reads, λ fits. gave ∙ count fits, few)
last_count ReadFault reads given mid_given new_given few count gave = (reads, λ fits. gave ∙ count fits, few)
last_count Spent reads given mid_given new_given few count gave = absurd gave
last_count Quit reads given mid_given new_given few count gave = (reads + 1, λ fits. omega (arith, count fits, gave), omega arith)
last_count (Refused code) reads given mid_given new_given few count gave = (reads + 1, λ fits. omega (arith, count fits, gave), omega arith)
last_count WriteFault reads given mid_given new_given few count gave = (reads + 1, λ fits. omega (arith, count fits, gave), omega arith)
last_count Strayed reads given mid_given new_given few count gave = (reads + 1, λ fits. omega (arith, count fits, gave), omega arith)
last_count Memory reads given mid_given new_given few count gave = (reads + 1, λ fits. omega (arith, count fits, gave), omega arith)

-- a turn that ends the connection
pub talked_last : (framing now : Framing) (reads : ℕ) (first pass next : Session) (left mid_left new_left held mid_held new_held : Option (List ℕ)) (core mid_core new_core : Option View) (given mid_given new_given : ℕ) (end : ConnEnd)
    → (t : Talking framing reads first pass left mid_left held mid_held core mid_core given mid_given) → Turn (Some end) now t.read t.says t.bytes pass next mid_left new_left mid_held new_held mid_core new_core → Gave (Some end) mid_given new_given
    → reads < most_reads → Talked end first next left new_left held new_held core new_core given new_given
talked_last framing now reads first pass next left mid_left new_left held mid_held new_held core mid_core new_core given mid_given new_given end t turn gave few =
    let n = last_count end reads given mid_given new_given few t.count gave in
    record {
      read = t.read ++ turn.piece;
      says = t.says ++ turn.step.says;
      bytes = t.bytes ++ turn.step.text;
      reads = n.0;
      consumes = consumes_more left mid_left new_left t.read turn.piece t.consumes turn.consumes;
      appends = appends_more held mid_held new_held t.bytes turn.step.text t.appends turn.step.wrote;
      chained = chained_more first pass next t.says turn.step.says t.chained turn.step.chained;
      ran = ran_more core mid_core new_core t.says turn.step.says t.ran turn.step.ran;
      ends = turn.step.holds;
      count = n.1;
      few = n.2;
    }

-- the same of a turn's answer
pub turn_goes_on : (framing now : Framing) (reads : ℕ) (first pass next : Session) (left mid_left new_left held mid_held new_held : Option (List ℕ)) (core mid_core new_core : Option View) (given mid_given new_given : ℕ) (answer : Option ConnEnd)
    → answer ≡ None → (t : Talking framing reads first pass left mid_left held mid_held core mid_core given mid_given) → Turn answer now t.read t.says t.bytes pass next mid_left new_left mid_held new_held mid_core new_core → Gave answer mid_given new_given
    → Talking now (reads + 1) first next left new_left held new_held core new_core given new_given
turn_goes_on framing now reads first pass next left mid_left new_left held mid_held new_held core mid_core new_core given mid_given new_given None e t turn gave =
    talking_more framing now reads first pass next left mid_left new_left held mid_held new_held core mid_core new_core given mid_given new_given t turn gave
turn_goes_on framing now reads first pass next left mid_left new_left held mid_held new_held core mid_core new_core given mid_given new_given (Some end) e t turn gave = absurd (cc)

pub turn_ends : (framing now : Framing) (reads : ℕ) (first pass next : Session) (left mid_left new_left held mid_held new_held : Option (List ℕ)) (core mid_core new_core : Option View) (given mid_given new_given : ℕ) (answer : Option ConnEnd) (end : ConnEnd)
    → answer ≡ Some end → (t : Talking framing reads first pass left mid_left held mid_held core mid_core given mid_given) → Turn answer now t.read t.says t.bytes pass next mid_left new_left mid_held new_held mid_core new_core → Gave answer mid_given new_given
    → reads < most_reads → Talked end first next left new_left held new_held core new_core given new_given
turn_ends framing now reads first pass next left mid_left new_left held mid_held new_held core mid_core new_core given mid_given new_given None end e t turn gave few = absurd (cc)
turn_ends framing now reads first pass next left mid_left new_left held mid_held new_held core mid_core new_core given mid_given new_given (Some other) end e t turn gave few =
    let same : other ≡ end = cc in
    subst (λ (v : ConnEnd). Talked v first next left new_left held new_held core new_core given new_given) same
    (talked_last framing now reads first pass next left mid_left new_left held mid_held new_held core mid_core new_core given mid_given new_given other t turn gave few)

-- the session joined before, and left behind
pub connected : (end : ConnEnd) (first last : Session) (left new_left held new_held : Option (List ℕ)) (core joined_core talked_core new_core : Option View) (given new_given : ℕ)
    → Ran core (Join first ∷ []) joined_core → Talked end first last left new_left held new_held joined_core talked_core given new_given → Ran talked_core (Leave last ∷ []) new_core
    → Connection end left new_left held new_held core new_core given new_given
connected end first last left new_left held new_held core joined_core talked_core new_core given new_given j t l = record {
  read = t.read;
  says = t.says;
  bytes = t.bytes;
  reads = t.reads;
  consumes = t.consumes;
  appends = t.appends;
  session = inl (first, last, t.chained, ran_more core talked_core new_core (Join first ∷ t.says) (Leave last ∷ []) (ran_more core joined_core talked_core (Join first ∷ []) t.says j t.ran) l);
  ends = t.ends;
  count = t.count;
  few = t.few;
}

-- memory lacked before the session joined
pub not_joined : (left held : Option (List ℕ)) (core new_core : Option View) (given : ℕ) → Ran core [] new_core → Connection Memory left left held held core new_core given given
not_joined left held core new_core given r =
    record {
      read = [];
      says = [];
      bytes = [];
      reads = 0;
      consumes = consumes_nothing left;
      appends = appends_none held;
      session = inr (refl, refl, r);
      ends = ([], [], refl, ([], [], no_packets, (refl, refl)));
      count = λ fits. omega arith;
      few = omega arith;
    }
