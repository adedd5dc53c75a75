-- A client session behind its own event.
use Rattle.std.proofs.Common.{◌≡◌, ◌∙◌, ◌==◌, ◌∷◌, if◌then◌else◌, ℕ, Bool, true, List, Option, Some, None, ap, refl, sym, subst}
use Rattle.std.proofs.lemmas.Bool.{eq-eqb}
use Rattle.vl_values.specs.declared.reply.Reply.TheVariants as replies
use Rattle.vl_catalog.specs.declared.catalog.Catalog.{Catalog}
use Rattle.vl_sql.specs.declared.stmt.Stmt.{Stmt}
use Rattle.vl_port.specs.declared.limits.Limits.{Limits}
use Rattle.vl_port.specs.Serving.{Shards}
use Rattle.vl_run.specs.declared.event.Event.{Event}
use Rattle.vl_run.specs.declared.request.Request.{Request}
use Rattle.vl_run.specs.declared.request.Request.TheVariants as requests
use Rattle.vl_run.specs.declared.tag.Tag.{Tag}
use Rattle.vl_run.specs.declared.tag.Tag.TheVariants as tags
use Rattle.vl_run.specs.declared.what.What.{What}
use Rattle.vl_run.specs.declared.what.What.TheVariants as whats
use Rattle.vl_run.specs.Allowed.{IsStill, tag_of}
use Rattle.vl_run.specs.Numbers.{next_event}
use Rattle.vl_run.specs.Progress.{session, warnings_by}
use Rattle.vl_run.specs.Run.{Run, at, seat, seat_after}
use Rattle.vl_run.specs.Run.Point.{Happened}
use Rattle.vl_run.specs.Session.{IsTold, Session, answered, goes_on, said, session_after}
use Rattle.vl_course.specs.Course.{AreNumbered}
use Rattle.vl_session.specs.declared.turn.Turn.{Turn}
use Rattle.vl_session.specs.declared.work.Work.TheVariants as works
use Rattle.vl_session.specs.Ready.{IsReady}
use Rattle.vl_session.specs.Standing.{IsHeldBy}
use Rattle.vl_session.specs.Turning.{Answering, IsTurn}
use Rattle.vl_seats.specs.declared.seat.Seat.{Seat}
use Rattle.vl_seats.specs.Seating.{IsSeatAt}
use Rattle.vl_seats.specs.Staying.{IsSitting, auto_behind}
use Rattle.vl_seats.proofs.Unwarned.{stays_unwarned, unwarned_by}

-- ---- autocommit

said_auto : (stmt : Stmt) (opens : Option ℕ) (s : Session) → (said stmt opens s).auto ≡ s.auto
said_auto stmt None s = refl
said_auto stmt (Some number) s = refl

-- what isn't a reply, and a refusal
abbrev IsMute : Tag → Type 0
IsMute tags.Nothing = Unit {0}
IsMute tags.More = Unit {0}
IsMute (tags.Held by tries) = Unit {0}
IsMute (tags.Ok affected found warnings tx auto) = ⊥
IsMute (tags.Rows tx auto) = ⊥
IsMute (tags.Err code tx) = Unit {0}

mute_auto : (told : Tag) (stmt : Stmt) (opens : Option ℕ) (s : Session) → IsMute told → (answered told stmt opens s).auto ≡ s.auto
mute_auto tags.Nothing stmt opens s mute = refl
mute_auto tags.More stmt opens s mute = refl
mute_auto (tags.Held by tries) stmt opens s mute = refl
mute_auto (tags.Ok affected found warnings tx auto) stmt opens s mute = absurd mute
mute_auto (tags.Rows tx auto) stmt opens s mute = absurd mute
mute_auto (tags.Err code tx) stmt opens s mute = refl

goes_auto : (told : Tag) (opens : Option ℕ) (s : Session) (doing : Option Stmt) → IsMute told → (goes_on told opens s doing).auto ≡ s.auto
goes_auto told opens s None mute = refl
goes_auto told opens s (Some stmt) mute = mute_auto told stmt opens s mute

kept_auto : (request : Request) (told : Tag) (opens : Option ℕ) (s : Session) → IsSitting request → (request ≡ requests.Reset → ⊥) → IsMute told → (session_after request told opens s).auto ≡ s.auto
kept_auto requests.Join told opens s sits reset mute = absurd sits
kept_auto (requests.Say stmt) told opens s sits reset mute = mute_auto told stmt opens (said stmt opens s) mute ∙ said_auto stmt opens s
kept_auto requests.Reset told opens s sits reset mute = absurd (reset refl)
kept_auto requests.Step told opens s sits reset mute = goes_auto told opens s s.doing mute
kept_auto requests.Leave told opens s sits reset mute = absurd sits
kept_auto (requests.Kill who shard) told opens s sits reset mute = absurd sits

pub seated_after : (request : Request) (at : ℕ) (before : Option ℕ) → IsSitting request → seat_after request at before ≡ Some at
seated_after requests.Join at before sits = absurd sits
seated_after (requests.Say stmt) at before sits = refl
seated_after requests.Reset at before sits = refl
seated_after requests.Step at before sits = refl
seated_after requests.Leave at before sits = absurd sits
seated_after (requests.Kill who shard) at before sits = absurd sits

module _ (past : Run) (e : Event) where
  own : (e.session == e.session) ≡ true
  own = eq-eqb e.session e.session refl

  pub session_behind : session (Happened e ∷ past) e.session ≡ session_after e.request e.told e.opens (session past e.session)
  session_behind = ap (λ b. if b then session_after e.request e.told e.opens (session past e.session) else session past e.session) own

  pub seat_behind : seat (Happened e ∷ past) e.session ≡ seat_after e.request (next_event (at past)) (seat past e.session)
  seat_behind = ap (λ b. if b then seat_after e.request (next_event (at past)) (seat past e.session) else seat past e.session) own

  auto_told : IsSitting e.request → (e.request ≡ requests.Reset → ⊥) → (what : What) (auto : Bool) → e.told ≡ tag_of what → IsTold e.told (session (Happened e ∷ past) e.session) → auto ≡ (session past e.session).auto
      → auto_behind what auto ≡ (session (Happened e ∷ past) e.session).auto
  auto_told sits reset (whats.Reply (replies.Ok affected found warnings tx on)) auto told true_ same = (subst (λ (t : Tag). IsTold t (session (Happened e ∷ past) e.session)) told true_).1
  auto_told sits reset (whats.Reply (replies.Rows columns rows tx on)) auto told true_ same = (subst (λ (t : Tag). IsTold t (session (Happened e ∷ past) e.session)) told true_).1
  auto_told sits reset (whats.Reply (replies.Err code why tx)) auto told true_ same = same ∙ sym (ap (λ (s : Session). s.auto) session_behind ∙ kept_auto e.request e.told e.opens (session past e.session) sits reset (subst IsMute (sym told) tt))
  auto_told sits reset whats.More auto told true_ same = same ∙ sym (ap (λ (s : Session). s.auto) session_behind ∙ kept_auto e.request e.told e.opens (session past e.session) sits reset (subst IsMute (sym told) tt))
  auto_told sits reset (whats.Held by key tries) auto told true_ same = same ∙ sym (ap (λ (s : Session). s.auto) session_behind ∙ kept_auto e.request e.told e.opens (session past e.session) sits reset (subst IsMute (sym told) tt))
  auto_told sits reset whats.Stray auto told true_ same = same ∙ sym (ap (λ (s : Session). s.auto) session_behind ∙ kept_auto e.request e.told e.opens (session past e.session) sits reset (subst IsMute (sym told) tt))

pub sits_on : (catalog : Catalog) (limits : Limits) (past : Run) (count : ℕ) (old new : Shards) (e : Event) (turn : Turn) (n : ℕ) (s : Seat) (keyspace : Option (List ℕ)) → e.session ≡ n → IsSitting e.request → (e.request ≡ requests.Reset → ⊥) → IsTurn e turn
    → AreNumbered past → IsSeatAt catalog limits past count old n s → Answering catalog limits past count e turn new → IsReady catalog count new turn.work → keyspace ≡ (session (Happened e ∷ past) n).keyspace
    → IsSeatAt catalog limits (Happened e ∷ past) count new n (record { at = next_event (at past); auto = auto_behind turn.what s.auto; keyspace = keyspace; work = turn.work })
sits_on catalog limits past count old new e turn n s keyspace by sits reset is_turn numbered seated answering ready chosen = subst (λ (m : ℕ). IsSeatAt catalog limits (Happened e ∷ past) count new m behind) by mine
  where
    behind : Seat
    behind = record { at = next_event (at past); auto = auto_behind turn.what s.auto; keyspace = keyspace; work = turn.work }

    before : IsSeatAt catalog limits past count old e.session s
    before = subst (λ (m : ℕ). IsSeatAt catalog limits past count old m s) (sym by) seated

    mine : IsSeatAt catalog limits (Happened e ∷ past) count new e.session behind
    mine = record {
      at = seat_behind past e ∙ seated_after e.request (next_event (at past)) (seat past e.session) sits;
      auto = auto_told past e sits reset turn.what s.auto is_turn.told answering.true_ before.auto;
      keyspace = subst (λ (m : ℕ). keyspace ≡ (session (Happened e ∷ past) m).keyspace) (sym by) chosen;
      stands = answering.stands;
      ready = ready;
      marked = answering.marked;
      unwarned = stays_unwarned catalog limits past e sits answering.done answering.opens numbered s.work before.stands before.unwarned;
    }

pub sits_anew : (catalog : Catalog) (limits : Limits) (past : Run) (count : ℕ) (old new : Shards) (e : Event) (n : ℕ) (s : Seat) → e.session ≡ n → e.request ≡ requests.Reset → IsStill e → IsSeatAt catalog limits past count old n s
    → IsSeatAt catalog limits (Happened e ∷ past) count new n (record { at = next_event (at past); auto = true; keyspace = s.keyspace; work = works.Idle None })
sits_anew catalog limits past count old new e n s by reset still seated = subst (λ (m : ℕ). IsSeatAt catalog limits (Happened e ∷ past) count new m behind) by mine
  where
    behind : Seat
    behind = record { at = next_event (at past); auto = true; keyspace = s.keyspace; work = works.Idle None }

    before : IsSeatAt catalog limits past count old e.session s
    before = subst (λ (m : ℕ). IsSeatAt catalog limits past count old m s) (sym by) seated

    same : session (Happened e ∷ past) e.session ≡ session_after requests.Reset e.told e.opens (session past e.session)
    same = session_behind past e ∙ ap (λ (r : Request). session_after r e.told e.opens (session past e.session)) reset

    mine : IsSeatAt catalog limits (Happened e ∷ past) count new e.session behind
    mine = record {
      at = seat_behind past e ∙ ap (λ (r : Request). seat_after r (next_event (at past)) (seat past e.session)) reset;
      auto = sym (ap (λ (x : Session). x.auto) same);
      keyspace = before.keyspace ∙ sym (ap (λ (x : Session). x.keyspace) same);
      stands = record {
        idle = ap (λ (x : Session). x.doing) same;
        held = subst (λ o. IsHeldBy limits (Happened e ∷ past) e.session o None) (sym (ap (λ (x : Session). x.owned) same)) tt;
      };
      ready = tt;
      marked = tt;
      unwarned = unwarned_by catalog limits past e before.unwarned (ap (λ d. warnings_by catalog d e.fault) still.deed);
    }
