-- A client session that an event isn't of stands where it stood, with all that the shards have of it.
use Rattle.std.proofs.Common.{◌≡◌, ◌≢◌, ◌∙◌, ◌==◌, ◌||◌, ◌++◌, ◌↔◌, if◌then◌else◌, ℕ, Bool, true, false, ◌∷◌, Contains, Option, Some, None, ap, refl, sym, subst, arith}
use Rattle.std.specs.Option.{is_some}
use Rattle.std.proofs.lemmas.Bool.{eq-eqb, true≢false}
use Rattle.std.proofs.lemmas.Option.{same_Some}
use Rattle.vl_catalog.specs.declared.catalog.Catalog.{Catalog}
use Rattle.vl_port.specs.declared.limits.Limits.{Limits}
use Rattle.vl_port.specs.declared.opened.Opened.{Opened}
use Rattle.vl_port.specs.declared.tx_state.TxState.{TxState}
use Rattle.vl_port.specs.declared.who.Who.{Who}
use Rattle.vl_port.specs.Life.{loss_in, loss_of}
use Rattle.vl_port.specs.Serving.{Shards}
use Rattle.vl_port.specs.Transaction.{IsIn, listed, session_of}
use Rattle.vl_commit.specs.Sessions.{AreLeft, IsOpen, Session as ShardSession}
use Rattle.vl_replay.specs.Showing.{IsOwned}
use Rattle.vl_run.specs.declared.event.Event.{Event}
use Rattle.vl_run.specs.Allowed.{asked, now_of}
use Rattle.vl_run.specs.Gathered.{shown}
use Rattle.vl_run.specs.Progress.{session, warned, warnings_before, warnings_by}
use Rattle.vl_run.specs.Run.{Run, kills, next_tx, was_killed}
use Rattle.vl_run.specs.Run.Point.{Happened}
use Rattle.vl_run.specs.Session.{Owned, Session}
use Rattle.vl_run.proofs.Others.{seat_stays, session_stays}
use Rattle.vl_course.specs.Answered.{IsMarkedAs}
use Rattle.vl_course.specs.Course.{AreNumbered, HasNext, IsApart}
use Rattle.vl_course.proofs.Bystanders.{course_stays, tx_stays}
use Rattle.vl_course.proofs.Numbers.{deed_apart, owned_asked}
use Rattle.vl_course_commit.proofs.Standing.{commit_stays, reply_stays}
use Rattle.vl_course_program.specs.Programs.{tries_of}
use Rattle.vl_course_program.proofs.Cases.{others_at}
use Rattle.vl_exec.specs.Progress.{wrote}
use Rattle.vl_session.specs.declared.work.Work.{Work}
use Rattle.vl_session.specs.declared.work.Work.TheVariants as works
use Rattle.vl_session.specs.Ready.{IsReady, IsTxIn, IsWorkMarked}
use Rattle.vl_session.specs.Saying.{LeavesBut}
use Rattle.vl_session.specs.Standing.{IsHeldBy, IsWorkAt}
use Rattle.vl_seats.specs.declared.seat.Seat.{Seat}
use Rattle.vl_seats.specs.Seating.{IsSeatAt}
use Rattle.vl_seats.specs.Staying.{IsSteady, MayHaveDone, acting_in, tx_in}

-- ---- whose transaction a work has

-- the open transaction of the session has this number
pub data Has (past : Run) (m number : ℕ) : Type 0 where
  Owns : (own : Owned) → (session past m).owned ≡ Some own → own.number ≡ number → Has past m number

held_has : (limits : Limits) (past : Run) (m : ℕ) (owned : Option Owned) (tx : TxState) → (session past m).owned ≡ owned → IsHeldBy limits past m owned (Some tx) → Has past m tx.number
held_has limits past m None tx same held = absurd held
held_has limits past m (Some own) tx same held = Owns own same (sym held.is_tx.number)

pub work_has : (catalog : Catalog) (limits : Limits) (past : Run) (m : ℕ) (w : Work) (number : ℕ) → IsWorkAt catalog limits past m w → tx_in w ≡ Some number → Has past m number
work_has catalog limits past m (works.Idle None) number at is = absurd (cc)
work_has catalog limits past m (works.Idle (Some tx)) number at is = subst (Has past m) (same_Some tx.number number is) (held_has limits past m (session past m).owned tx refl at.held)
work_has catalog limits past m (works.Running tx program) number at is =
    let (stmt, plan, own, it) = at in
    subst (Has past m) (same_Some tx.number number is) (Owns own it.course.owned (sym it.course.is_tx.number))
work_has catalog limits past m (works.Committing commit reply purpose) number at is =
    let (stmt, plan, own, it) = at in
    subst (Has past m) (same_Some commit.tx.number number is) (Owns own it.at.owned (sym it.at.is_tx.number))

-- ---- what the run says

module _ (catalog : Catalog) (limits : Limits) (past : Run) (e : Event) (m : ℕ) (other : (e.session == m) ≡ false) (apart : (own : Owned) → (session past m).owned ≡ Some own → IsApart e.deed own.number) where
  same : session (Happened e ∷ past) m ≡ session past m
  same = session_stays e past m other

  held_stays : (owned : Option Owned) (tx : Option TxState) → (session past m).owned ≡ owned → IsHeldBy limits past m owned tx → IsHeldBy limits (Happened e ∷ past) m owned tx
  held_stays None None is held = tt
  held_stays None (Some tx) is held = absurd held
  held_stays (Some own) None is held = absurd held
  held_stays (Some own) (Some tx) is held = record {
    is_tx = tx_stays limits e past m own tx (apart own is) held.is_tx;
    plural = held.plural;
    auto = held.auto ∙ sym (ap (λ (s : Session). s.auto) same);
    unclaimed = held.unclaimed;
  }

  pub work_stays : (w : Work) → IsWorkAt catalog limits past m w → IsWorkAt catalog limits (Happened e ∷ past) m w
  work_stays (works.Idle tx) at = record {
    idle = ap (λ (s : Session). s.doing) same ∙ at.idle;
    held = subst (λ (o : Option Owned). IsHeldBy limits (Happened e ∷ past) m o tx) (sym (ap (λ (s : Session). s.owned) same)) (held_stays (session past m).owned tx refl at.held);
  }
  work_stays (works.Running tx program) at =
      let (stmt, plan, own, it) = at in (
        stmt,
        plan,
        own,
        record {
          course = course_stays catalog limits e past m other stmt plan own tx (tries_of program) (wrote program) (apart own it.course.owned) it.course;
          stands = others_at catalog limits e past m other plan program it.stands;
          unclaimed = it.unclaimed;
        },
      )
  work_stays (works.Committing commit reply purpose) at =
      let (stmt, plan, own, it) = at in (
        stmt,
        plan,
        own,
        record {
          at = commit_stays catalog e past m other limits stmt plan own commit (apart own it.at.owned) it.at;
          reply_is = reply_stays catalog e past m other stmt plan reply it.reply_is;
          purpose_is = it.purpose_is;
          auto = it.auto ∙ sym (ap (λ (s : Session). s.auto) same);
          unclaimed = it.unclaimed;
          unwarned = it.unwarned;
        },
      )

  pub warned_stay : warned catalog (Happened e ∷ past) m ≡ warned catalog past m
  warned_stay = ap (λ b. if b then warnings_before e.request (warned catalog past m) ++ warnings_by catalog e.deed e.fault else warned catalog past m) other

-- ---- what the shards have

-- the shards have the same sessions of the transaction
abbrev pub SameSessions : ℕ → Shards → Shards → Type 0
SameSessions number old new = (shard : ℕ) (who : Who) → who.tx ≡ number → (new shard).sessions who ≡ (old shard).sessions who

pub same_sessions : (acts : Option ℕ) (old new : Shards) (number : ℕ) → LeavesBut acts old new → ((tx : ℕ) → acts ≡ Some tx → number ≢ tx) → SameSessions number old new
same_sessions None old new number leaves apart = λ shard who is. ap (λ (s : Shards). (s shard).sessions who) leaves
same_sessions (Some tx) old new number leaves apart = λ shard who is. leaves.sessions shard who (λ same. apart tx refl (sym is ∙ same))

module _ (count number : ℕ) (old new : Shards) (sames : SameSessions number old new) where
  in_stays : (tx : TxState) → tx.number ≡ number → IsIn tx count old → IsIn tx count new
  in_stays tx is before = record {
    known = λ group shard below. subst (λ (o : Option Opened). Contains (listed tx group) shard ↔ (is_some o ≡ true)) (sym (sames shard (session_of tx group) is)) (before.known group shard below);
    within = before.within;
    once = before.once;
  }

  owned_stays : (n : ℕ) → IsOwned number n count old → IsOwned number n count new
  owned_stays n before = record { own = λ shard who below there is. before.own shard who below (sym (ap is_some (sames shard who is)) ∙ there) is }

  open_stays : (tx : TxState) → tx.number ≡ number → (it : ShardSession) → IsOpen tx count old it → IsOpen tx count new it
  open_stays tx is it there = (there.0, ap is_some (sames it.1 (session_of tx it.0) is) ∙ there.1)

  open_back : (tx : TxState) → tx.number ≡ number → (it : ShardSession) → IsOpen tx count new it → IsOpen tx count old it
  open_back tx is it there = (there.0, sym (ap is_some (sames it.1 (session_of tx it.0) is)) ∙ there.1)

  left_stays : (tx : TxState) (from : ℕ) → tx.number ≡ number → AreLeft tx from count old → AreLeft tx from count new
  left_stays tx from is left = record {
    opened = λ n it above gets. open_stays tx is it (left.opened n it above gets);
    only = λ it there. left.only it (open_back tx is it there);
    once = left.once;
  }

  pub tx_in_stays : (tx : TxState) → tx.number ≡ number → IsTxIn count tx old → IsTxIn count tx new
  tx_in_stays tx is ready = record {
    number = ready.number;
    sessions = in_stays tx is ready.sessions;
    owned = subst (λ (k : ℕ). IsOwned k tx.session count new) (sym is) (owned_stays tx.session (subst (λ (k : ℕ). IsOwned k tx.session count old) is ready.owned));
  }

pub ready_stays : (catalog : Catalog) (count : ℕ) (old new : Shards) (w : Work) → ((number : ℕ) → tx_in w ≡ Some number → SameSessions number old new) → IsReady catalog count old w → IsReady catalog count new w
ready_stays catalog count old new (works.Idle None) sames ready = tt
ready_stays catalog count old new (works.Idle (Some tx)) sames ready = tx_in_stays count tx.number old new (sames tx.number refl) tx refl ready
ready_stays catalog count old new (works.Running tx program) sames ready = (tx_in_stays count tx.number old new (sames tx.number refl) tx refl ready.0, ready.1)
ready_stays catalog count old new (works.Committing commit reply purpose) sames ready = record {
  number = ready.number;
  left = left_stays count commit.tx.number old new (sames commit.tx.number refl) commit.tx commit.at refl ready.left;
  owned = owned_stays count commit.tx.number old new (sames commit.tx.number refl) commit.tx.session ready.owned;
}

-- ---- marks

module _ (past : Run) (e : Event) (spares : (who : Who) (shard : ℕ) → kills e.request shard who ≡ false) (old new : Shards) (steady : IsSteady old new) where
  spared_stays : (who : Who) (shard : ℕ) → was_killed (Happened e ∷ past) who shard ≡ was_killed past who shard
  spared_stays who shard = ap (λ b. b || was_killed past who shard) (spares who shard)

  loss_stays : (number : ℕ) → SameSessions number old new → (who : Who) (shard : ℕ) → who.tx ≡ number → loss_of (new shard) who ≡ loss_of (old shard) who
  loss_stays number sames who shard is = ap (λ (k : ℕ). loss_in k ((new shard).sessions who)) (steady shard) ∙ ap (loss_in (old shard).incarnation) (sames shard who is)

  mark_stays : (number : ℕ) → SameSessions number old new → (who : Who) (shard : ℕ) → who.tx ≡ number → IsMarkedAs past who shard (loss_of (old shard) who) → IsMarkedAs (Happened e ∷ past) who shard (loss_of (new shard) who)
  mark_stays number sames who shard is marked =
      let same_loss = loss_stays number sames who shard is in
      record {
        killed = λ was. same_loss ∙ marked.killed (sym (spared_stays who shard) ∙ was);
        dropped = λ lost. spared_stays who shard ∙ marked.dropped (sym same_loss ∙ lost);
        young = λ had current lost. marked.young had current (sym same_loss ∙ lost);
        plain = λ none. same_loss ∙ marked.plain none;
      }

  pub marks_stay : (w : Work) → ((number : ℕ) → tx_in w ≡ Some number → SameSessions number old new) → IsWorkMarked past old w → IsWorkMarked (Happened e ∷ past) new w
  marks_stay (works.Idle None) sames marked = tt
  marks_stay (works.Idle (Some tx)) sames marked = λ who shard is. mark_stays tx.number (sames tx.number refl) who shard is (marked who shard is)
  marks_stay (works.Running tx program) sames marked = λ who shard is. mark_stays tx.number (sames tx.number refl) who shard is (marked who shard is)
  marks_stay (works.Committing commit reply purpose) sames marked = λ place it above gets. mark_stays commit.tx.number (sames commit.tx.number refl) (session_of commit.tx it.0) it.1 refl (marked place it above gets)

-- ---- all of it

module _ (catalog : Catalog) (limits : Limits) (past : Run) (count : ℕ) (old new : Shards) (e : Event) (m : ℕ) (other : (e.session == m) ≡ false) where
  -- a deed of another transaction, and shards that have the same sessions of its own
  pub seat_stays_by : ((own : Owned) → (session past m).owned ≡ Some own → IsApart e.deed own.number) → ((who : Who) (shard : ℕ) → kills e.request shard who ≡ false) → IsSteady old new → (it : Seat)
      → ((number : ℕ) → tx_in it.work ≡ Some number → SameSessions number old new) → IsSeatAt catalog limits past count old m it → IsSeatAt catalog limits (Happened e ∷ past) count new m it
  seat_stays_by apart spares steady it sames at = record {
    at = seat_stays e past m other ∙ at.at;
    auto = at.auto ∙ sym (ap (λ (x : Session). x.auto) (session_stays e past m other));
    keyspace = at.keyspace ∙ sym (ap (λ (x : Session). x.keyspace) (session_stays e past m other));
    stands = work_stays catalog limits past e m other apart it.work at.stands;
    ready = ready_stays catalog count old new it.work sames at.ready;
    marked = marks_stay past e spares old new steady it.work sames at.marked;
    unwarned = warned_stay catalog limits past e m other apart ∙ at.unwarned;
  }

module _ (catalog : Catalog) (limits : Limits) (past : Run) (count : ℕ) (old new : Shards) (e : Event) (n m : ℕ) (other : (n == m) ≡ false) (by : e.session ≡ n) (s : Seat) where
  apart_event : (e.session == m) ≡ false
  apart_event = ap (λ (k : ℕ). k == m) by ∙ other

  by_owner : AreNumbered past → (number mine : ℕ) → Has past m number → Has past n mine → number ≢ mine
  by_owner numbered number mine (Owns own owned is) (Owns own_n owned_n is_n) same =
      absurd (true≢false (sym (eq-eqb own_n.number own.number (is_n ∙ sym same ∙ sym is)) ∙ numbered.owned.apart n m own_n own other owned_n owned))

  by_opened : AreNumbered past → (number : ℕ) → Has past m number → (opens : Option ℕ) → HasNext (next_tx past) opens → (tx : ℕ) → opens ≡ Some tx → number ≢ tx
  by_opened numbered number has None next tx is_tx same = absurd (cc)
  by_opened numbered number (Owns own owned is) (Some it) next tx is_tx same = absurd (omega (arith, numbered.owned.given m own owned, is, next, same_Some it tx is_tx, same))

  -- the transaction of another session isn't the one that the event acts for
  pub acts_apart : AreNumbered past → (opens : Option ℕ) → HasNext (next_tx past) opens → IsSeatAt catalog limits past count old n s → (number : ℕ) → Has past m number → (tx : ℕ) → acting_in (tx_in s.work) opens ≡ Some tx → number ≢ tx
  acts_apart numbered opens next at number has tx is_tx = by_work (tx_in s.work) refl is_tx
    where
      by_work : (mine : Option ℕ) → tx_in s.work ≡ mine → acting_in mine opens ≡ Some tx → number ≢ tx
      by_work None is acts = by_opened numbered number has opens next tx acts
      by_work (Some mine) is acts = subst (λ (k : ℕ). number ≢ k) (same_Some mine tx acts) (by_owner numbered number mine has (work_has catalog limits past n s.work mine at.stands is))

  pub seat_aside : MayHaveDone catalog past e → HasNext (next_tx past) e.opens → AreNumbered past → ((who : Who) (shard : ℕ) → kills e.request shard who ≡ false) → IsSteady old new → IsSeatAt catalog limits past count old n s
      → LeavesBut (acting_in (tx_in s.work) e.opens) old new → (it : Seat) → IsSeatAt catalog limits past count old m it → IsSeatAt catalog limits (Happened e ∷ past) count new m it
  seat_aside done next numbered spares steady own leaves it at =
      seat_stays_by catalog limits past count old new e m apart_event deeds_apart spares steady it
      (λ number is. same_sessions (acting_in (tx_in s.work) e.opens) old new number leaves (acts_apart numbered e.opens next own number (work_has catalog limits past m it.work number at.stands is))) at
    where
      deeds_apart : (it : Owned) → (session past m).owned ≡ Some it → IsApart e.deed it.number
      deeds_apart it owned =
          deed_apart catalog (shown catalog past) (now_of e past) e.session m done.0 e.deed it (owned_asked e past next numbered.owned) done.1 apart_event (ap (λ (x : Session). x.owned) (session_stays (asked e) past m apart_event) ∙ owned)
