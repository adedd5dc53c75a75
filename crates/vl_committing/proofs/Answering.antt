-- What a step of a commit came to is an answer that the run allows.
use Rattle.std.proofs.Common.{◌≡◌, ◌∙◌, ◌∷◌, ◌&&◌, ◌||◌, ◌++◌, ◌+◌, ◌≤◌, ◌<◌, not, nat_lt, ℕ, Bool, true, false, [], List, length, map, Option, Some, None, refl, sym, ap, subst, arith}
use Rattle.std.specs.Option.{is_some}
use Rattle.std.proofs.lemmas.Bool.{ltb-true, ne_eqb}
use Rattle.vl_values.specs.declared.cause.Cause.{Cause}
use Rattle.vl_values.specs.declared.cause.Cause.TheVariants as causes
use Rattle.vl_values.specs.declared.group.Group.{Group}
use Rattle.vl_values.specs.declared.group.Group.TheVariants.{Pre, Main, Post}
use Rattle.vl_values.specs.declared.limit.Limit.TheVariants as quantities
use Rattle.vl_values.specs.declared.reply.Reply.{Reply}
use Rattle.vl_values.specs.declared.reply.Reply.TheVariants as replies
use Rattle.vl_values.specs.Cause.{error_code}
use Rattle.vl_values.specs.Reply.{refusal}
use Rattle.vl_catalog.specs.declared.catalog.Catalog.{Catalog}
use Rattle.vl_sql.specs.declared.stmt.Stmt.{Stmt}
use Rattle.vl_port.specs.declared.committed.Committed.TheVariants as outcomes
use Rattle.vl_port.specs.declared.limits.Limits.{Limits}
use Rattle.vl_port.specs.declared.tx_state.TxState.{TxState}
use Rattle.vl_port.specs.Calls.{PortView}
use Rattle.vl_port.specs.Transaction.{last_tx}
use Rattle.vl_plan.specs.declared.plan.Plan.{Plan}
use Rattle.vl_commit.specs.declared.commit_told.CommitTold.{CommitTold}
use Rattle.vl_commit.specs.declared.commit_told.CommitTold.TheVariants as told
use Rattle.vl_commit.specs.declared.failure.Failure.{Failure}
use Rattle.vl_commit.specs.declared.warning.Warning.{Warning}
use Rattle.vl_commit.specs.Sessions.{Session as ShardSession, of_group, sessions}
use Rattle.vl_commit.specs.Stepping.{Committing, IsOver, TellsOf, due, passed}
use Rattle.vl_run.specs.declared.ends.Ends.TheVariants as ends
use Rattle.vl_run.specs.declared.event.Event.{Event}
use Rattle.vl_run.specs.declared.tag.Tag.{Tag}
use Rattle.vl_run.specs.declared.tag.Tag.TheVariants as tags
use Rattle.vl_run.specs.declared.what.What.TheVariants as whats
use Rattle.vl_run.specs.Allowed.{Allows, HasCommitted, IsDone, IsOk, IsVisit, ends_due, failed_one, now_of, unless_kept}
use Rattle.vl_run.specs.Gathered.{shown}
use Rattle.vl_run.specs.Named.{sessions as run_sessions}
use Rattle.vl_run.specs.Progress.{commits, has_begun_to_commit, has_written, session}
use Rattle.vl_run.specs.Refused.{MayDo}
use Rattle.vl_run.specs.Refused.Refuses.{NumberTaken}
use Rattle.vl_run.specs.Run.{Run, next_tx, used}
use Rattle.vl_run.specs.Run.Point.{Happened}
use Rattle.vl_run.specs.Session.{IsTold, Kind, Owned, Session, auto_done, done_by, is_committing, is_kept, kind_of, owned_done, refused_by}
use Rattle.vl_run.specs.Session.Kind.{Begins}
use Rattle.vl_replay.specs.Ending.{IsNoAct}
use Rattle.vl_replay.specs.Showing.{Shows}
use Rattle.vl_course.specs.Course.{IsTx, IsUnused}
use Rattle.vl_course.specs.Turning.{IsOfStmt}
use Rattle.vl_course.proofs.Behind.{session_more}
use Rattle.vl_course.proofs.Bystanders.{tx_stays}
use Rattle.vl_course_commit.specs.Committing.{completed}
use Rattle.vl_course_commit.specs.Dealing.{CommitTurned, HasTag, IsDoneTag, MayAnswer, cause_of, ends_of, failure_told, refusal_of}
use Rattle.vl_course_commit.proofs.Leaving.{tx_after}
use Rattle.vl_course_commit.proofs.Turns.{commit_turned}
use Rattle.vl_session.specs.declared.purpose.Purpose.{Purpose}
use Rattle.vl_session.specs.declared.purpose.Purpose.TheVariants as purposes
use Rattle.vl_session.specs.declared.work.Work.{Work}
use Rattle.vl_session.specs.declared.work.Work.TheVariants as works
use Rattle.vl_session.specs.Ready.{AreLeftMarked, IsUnopened, IsWorkMarked}
use Rattle.vl_session.specs.Standing.{IsHeldBy, IsPurposeOf, IsWorkAt}
use Rattle.vl_session.specs.Turning.{Answering, IsTurn}
use Rattle.vl_session.proofs.Opening.{next_opened}
use Rattle.vl_committing.specs.Telling.{CanBegin, begins, counted, dealt, ended, is_done, next_of, over, refused, told_as, turn}
use Rattle.vl_committing.proofs.Dealings.{Went}
use Rattle.vl_committing.proofs.Dealings.Went.{Done, Idled, Lost}
use Rattle.vl_committing.proofs.Facts.{IsStepOf, answers_by as answers_of, asks as asks_of, dealt_so, fewer as fewer_of, goes_as, left_none as none_of, left_open as open_of, no_act as no_act_of, purpose_stays, told_none as told_of, turned as turned_of, unwarned as unwarned_of, went_so as went_of}
use Rattle.vl_committing.proofs.Keeping.{none_listed}
use Rattle.vl_committing.proofs.Marks.{left_marked, unopened_marked}
use Rattle.vl_committing.proofs.Parts.{auto_set, auto_stays, begins_by, counts, done_tag, no_act_apart, no_begin_auto, no_begin_commit, no_begin_statement, none_stays, of_session, session_done, session_refused, told_truly}
use Rattle.vl_committing.proofs.Shown.{IsUnfailed, stays_shown, whole_shown}

-- a transaction that has begun to commit isn't kept
gone_by : (single written fault begun : Bool) → begun ≡ true → (not single && (not written && not (fault || begun))) ≡ false
gone_by true written fault begun is = refl
gone_by false true fault begun is = refl
gone_by false false true begun is = refl
gone_by false false false begun is = ap not is

same_sessions : (tx : TxState) (now : Run) (limits : Limits) (n : ℕ) (own : Owned) → IsTx limits now n own tx → run_sessions now own.number ≡ sessions tx
same_sessions tx now limits n own is =
    ap (λ (shards : List ℕ). map (of_group Pre) shards ++ (map (of_group Main) (used now own.number Main) ++ map (of_group Post) (used now own.number Post))) (is.used Pre)
    ∙ ap (λ (shards : List ℕ). map (of_group Pre) tx.pre ++ (map (of_group Main) shards ++ map (of_group Post) (used now own.number Post))) (is.used Main)
    ∙ ap (λ (shards : List ℕ). map (of_group Pre) tx.pre ++ (map (of_group Main) tx.main ++ map (of_group Post) shards)) (is.used Post)

-- the transaction that opens has no deed yet
next_is_tx : (e : Event) (past : Run) (limits : Limits) (tx : TxState) (next : ℕ) → tx.session ≡ e.session → tx.limits ≡ limits → IsUnused past next → IsTx limits past e.session (record { number = next; single = false }) (next_of tx next)
next_is_tx e past limits tx next mine bounds unused = record {
  number = refl;
  session = mine;
  single = refl;
  limits = bounds;
  used = λ group. unused.used group ∙ sym (none_listed tx next group);
  changes = sym unused.changes;
  below = omega arith;
  claimed = sym unused.claimed;
  removed = sym unused.removed;
}

-- the limit of numbers
abbrev full : Cause
full = causes.Limit quantities.Transactions last_tx

module _ (catalog : Catalog) (past : Run) (count : ℕ) (e : Event) (stmt : Stmt) (plan : Plan) (own : Owned) (reply : Reply) (purpose : Purpose) (c new : Committing) (tells : CommitTold) (old mid : PortView) (step : IsStepOf catalog past count e stmt plan own reply purpose c new tells old mid) where
  abbrev Asked : Session
  Asked = session (now_of e past) e.session

  abbrev Then : Session
  Then = session (Happened e ∷ past) e.session

  asks : IsOfStmt e.request stmt
  asks = asks_of catalog past count e stmt plan own reply purpose c new tells old mid step

  went : Went c new tells old mid
  went = went_of catalog past count e stmt plan own reply purpose c new tells old mid step

  no_act : IsNoAct e.deed
  no_act = no_act_of catalog past count e stmt plan own reply purpose c new tells old mid step

  turned : HasTag catalog tells e.told → CommitTurned catalog c.tx.limits past e stmt plan own tells new
  turned tag = turned_of catalog past count e stmt plan own reply purpose c new tells old mid step tag

  number : new.tx.number ≡ own.number
  number = ap (λ (t : TxState). t.number) step.same ∙ step.at.at.is_tx.number

  -- the shards show its event where the transaction goes on or is done, and where all of it ended
  goes_shown : IsUnfailed tells → e.ends ≡ failed_one e.deed → Shows catalog (Happened e ∷ past) count mid.shards
  goes_shown unfailed gone = stays_shown catalog past count e c new tells old mid step.event.shows step.ready step.up step.deed went unfailed gone

  ends_shown : IsOver tells → e.ends ≡ ends.Whole new.tx.number → Shows catalog (Happened e ∷ past) count mid.shards
  ends_shown over gone = whole_shown catalog past count e c new tells old mid step.event.shows step.ready step.up step.deed went over step.at.at.bounded (gone ∙ ap (λ (t : TxState). ends.Whole t.number) step.same)

  ends_all : (code : ℕ) → e.told ≡ tags.Err code false → e.ends ≡ ends.Whole new.tx.number → e.ends ≡ ends_due e.told (kind_of stmt) e.deed Asked.owned
  ends_all code tag gone =
      gone ∙ ap (λ (n : ℕ). ends.Whole n) number ∙ sym (ap (λ (t : Tag). ends_due t (kind_of stmt) e.deed Asked.owned) tag ∙ ap (λ (o : Option Owned). unless_kept false o) step.at.at.owned)

  -- ---- it goes on

  marked_more : tells ≡ told.More → Went c new tells old mid → AreLeftMarked (Happened e ∷ past) new mid.shards
  marked_more is (Idled none says same) = absurd (apart (sym (subst (λ (o : Option ShardSession). TellsOf o c tells new) none says).0 ∙ is))
    where
      apart : told.Ok c.warnings ≡ told.More → ⊥
      apart same = cc
  marked_more is (Done it due_is commits done says) =
      subst (λ (n : Committing). AreLeftMarked (Happened e ∷ past) n mid.shards) (sym (goes_as (due (passed c)) (passed c) tells new is says))
      (left_marked e past stmt asks c it outcomes.Done count old mid step.ready.left due_is commits (step.up it.1 (step.ready.left.opened c.at it (omega arith) due_is).0) step.marks)
  marked_more is (Lost it reason between due_is commits up_between undone ended) = absurd (cc (is, ended.refused))

  pub more_answering : tells ≡ told.More → IsTurn e (turn (dealt c tells new) (works.Committing new reply purpose) None (failed_one (dealt c tells new).deed) whats.More)
      → Answering catalog c.tx.limits past count e (turn (dealt c tells new) (works.Committing new reply purpose) None (failed_one (dealt c tells new).deed) whats.More) mid.shards
  more_answering is is_turn =
      let same : Then ≡ Asked = session_more e past stmt asks is_turn.told in
      let allows = turned (subst (λ (t : CommitTold). HasTag catalog t e.told) (sym is) is_turn.told) in
      let gone : e.ends ≡ failed_one e.deed = is_turn.ends ∙ sym (ap failed_one step.deed) in
      let said = answers_of catalog past count e stmt plan own reply purpose c new tells old mid step whats.More is_turn.told allows.done allows.may allows.visit
      (gone ∙ sym (allows.ends ∙ ap (λ (t : CommitTold). ends_of t own e.deed) is)) (subst (MayAnswer catalog c.tx.limits past e stmt plan own) is allows.answers) (subst (λ (t : Tag). IsTold t Then) (sym is_turn.told) tt)
      (open_of catalog past count e stmt plan own reply purpose c new tells old mid step (ap (λ (s : Session). s.owned) same ∙ step.at.at.owned)) in
      record {
        answers = λ clear. said;
        done = (said.stmt, said.done);
        opens = next_opened past e stmt (session past e.session).owned e.opens step.event.opens;
        true_ = said.true_;
        shows = goes_shown (subst IsUnfailed (sym is) tt) gone;
        stands = (
          stmt,
          plan,
          own,
          record {
            at = allows.stands is;
            reply_is = allows.keeps is reply step.at.reply_is;
            purpose_is = purpose_stays catalog c.tx (now_of e past) (Happened e ∷ past) e.session (kind_of stmt) purpose step.at.purpose_is;
            auto = ap (λ (t : TxState). t.auto) step.same ∙ step.at.auto ∙ sym (ap (λ (s : Session). s.auto) same);
            unclaimed = ap (λ (t : TxState). t.post) step.same ∙ step.at.unclaimed;
            unwarned = unwarned_of catalog past count e stmt plan own reply purpose c new tells old mid step;
          },
        );
        marked = marked_more is went;
      }

  -- ---- it is refused, and nothing of its transaction is left

  refused_answering : (code : ℕ) (why : Cause) → IsTurn e (refused (dealt c tells new) new.tx.number (replies.Err code why false)) → IsOver tells
      → IsDone catalog (shown catalog past) (now_of e past) e.session stmt Asked.owned e.deed → MayDo c.tx.limits (now_of e past) e.deed → IsVisit catalog (shown catalog past) (now_of e past) e.session stmt Asked.owned e.deed e.visits
      → Allows catalog c.tx.limits past e e.session stmt Asked (whats.Reply (replies.Err code why false))
      → Answering catalog c.tx.limits past count e (refused (dealt c tells new) new.tx.number (replies.Err code why false)) mid.shards
  refused_answering code why is_turn over done may visit allowed =
      let behind : Then ≡ refused_by false Asked = session_refused e past stmt code asks step.at.at.doing is_turn.told in
      let shows = ends_shown over is_turn.ends in
      let said = answers_of catalog past count e stmt plan own reply purpose c new tells old mid step (whats.Reply (replies.Err code why false)) is_turn.told done may visit (ends_all code is_turn.told is_turn.ends) allowed
      (subst (λ (t : Tag). IsTold t Then) (sym is_turn.told) (sym (ap (λ (s : Session). is_some s.owned) behind)))
      (none_of catalog past count e stmt plan own reply purpose c new tells old mid step shows over) in
      record {
        answers = λ clear. said;
        done = (said.stmt, said.done);
        opens = next_opened past e stmt (session past e.session).owned e.opens step.event.opens;
        true_ = said.true_;
        shows = shows;
        stands = record { idle = ap (λ (s : Session). s.doing) behind; held = subst (λ (o : Option Owned). IsHeldBy c.tx.limits (Happened e ∷ past) e.session o None) (sym (ap (λ (s : Session). s.owned) behind)) tt };
        marked = tt;
      }

  -- its commit failed
  pub failed_answering : (group : Group) (done of_ shard : ℕ) (why : Failure) → tells ≡ told.Failed group done of_ shard why → IsTurn e (refused (dealt c tells new) new.tx.number (refusal_of catalog group done of_ shard why))
      → Answering catalog c.tx.limits past count e (refused (dealt c tells new) new.tx.number (refusal_of catalog group done of_ shard why)) mid.shards
  failed_answering group done of_ shard why is is_turn =
      let allows = turned (subst (λ (t : CommitTold). HasTag catalog t e.told) (sym is) is_turn.told) in
      refused_answering (error_code (cause_of catalog group done of_ shard why)) (cause_of catalog group done of_ shard why) is_turn (subst IsOver (sym is) tt) allows.done allows.may allows.visit
      (subst (MayAnswer catalog c.tx.limits past e stmt plan own) is allows.answers)

  -- ---- it is done

  module _ (warnings : List Warning) (is : tells ≡ told.Ok warnings) where
    none : warnings ≡ []
    none = told_of catalog past count e stmt plan own reply purpose c new tells old mid step warnings is

    so_many : length warnings ≡ counted (length warnings)
    so_many = ap length none ∙ sym (ap (λ (ws : List Warning). counted (length ws)) none)

    -- with its reply
    module _ (stays auto : Bool) (opens : Option ℕ) (work : Work) (is_turn : IsTurn e (turn (dealt c tells new) work opens (failed_one (dealt c tells new).deed) (whats.Reply (completed (counted (length warnings)) stays auto reply)))) where
      done_tagged : IsDoneTag e.told
      done_tagged = subst IsDoneTag (sym is_turn.told) (done_tag catalog (now_of e past) e.session stmt plan reply (counted (length warnings)) stays auto step.at.reply_is)

      done_behind : Then ≡ done_by stmt e.opens Asked
      done_behind = session_done e past stmt asks step.at.at.doing done_tagged

      done_answering : stays ≡ is_some Then.owned → auto ≡ Then.auto → IsWorkAt catalog c.tx.limits (Happened e ∷ past) e.session work → IsWorkMarked (Happened e ∷ past) mid.shards work
          → Answering catalog c.tx.limits past count e (turn (dealt c tells new) work opens (failed_one (dealt c tells new).deed) (whats.Reply (completed (counted (length warnings)) stays auto reply))) mid.shards
      done_answering open_ on_ stands marked =
          let allows = turned (subst (λ (t : CommitTold). HasTag catalog t e.told) (sym is) done_tagged) in
          let gone : e.ends ≡ failed_one e.deed = is_turn.ends ∙ sym (ap failed_one step.deed) in
          let shows = goes_shown (subst IsUnfailed (sym is) tt) gone in
          let said = answers_of catalog past count e stmt plan own reply purpose c new tells old mid step (whats.Reply (completed (counted (length warnings)) stays auto reply)) is_turn.told allows.done allows.may allows.visit
          (gone ∙ sym (allows.ends ∙ ap (λ (t : CommitTold). ends_of t own e.deed) is))
          (subst (λ (k : ℕ). Allows catalog c.tx.limits past e e.session stmt Asked (whats.Reply (completed k stays auto reply))) so_many
          (subst (MayAnswer catalog c.tx.limits past e stmt plan own) is allows.answers reply stays auto step.at.reply_is))
          (subst (λ (t : Tag). IsTold t Then) (sym is_turn.told) (told_truly catalog (now_of e past) e.session stmt plan reply (counted (length warnings)) stays auto Then step.at.reply_is open_ on_))
          (none_of catalog past count e stmt plan own reply purpose c new tells old mid step shows (subst IsOver (sym is) tt)) in
          record {
            answers = λ clear. said;
            done = (said.stmt, said.done);
            opens = next_opened past e stmt (session past e.session).owned e.opens step.event.opens;
            true_ = said.true_;
            shows = shows;
            stands = stands;
            marked = marked;
          }

    -- and no transaction is open
    pub over_answering : (auto : Bool) → (purpose ≡ purposes.Begin → ⊥) → auto ≡ auto_done (kind_of stmt) Asked.auto → IsTurn e (over (dealt c tells new) (completed (counted (length warnings)) false auto reply))
        → Answering catalog c.tx.limits past count e (over (dealt c tells new) (completed (counted (length warnings)) false auto reply)) mid.shards
    over_answering auto apart on_ is_turn =
        let behind = done_behind false auto None (works.Idle None) is_turn in
        let gone : Then.owned ≡ None = ap (λ (s : Session). s.owned) behind ∙ ap (λ (o : Option Owned). owned_done (kind_of stmt) o e.opens) step.at.at.owned
        ∙ none_stays catalog c.tx.limits (now_of e past) e.session (kind_of stmt) purpose own e.opens step.at.purpose_is apart step.at.at.committing in
        done_answering false auto None (works.Idle None) is_turn (sym (ap (λ (o : Option Owned). is_some o) gone)) (on_ ∙ sym (ap (λ (s : Session). s.auto) behind))
        (record { idle = ap (λ (s : Session). s.doing) behind; held = subst (λ (o : Option Owned). IsHeldBy c.tx.limits (Happened e ∷ past) e.session o None) (sym gone) tt }) tt

    -- ---- at a BEGIN

    module _ (next : ℕ) (begin : purpose ≡ purposes.Begin) (is_next : next ≡ next_tx past) where
      kind : kind_of stmt ≡ Begins
      kind = begins_by catalog c.tx.limits (now_of e past) e.session (kind_of stmt) (subst (IsPurposeOf catalog c.tx.limits (now_of e past) e.session (kind_of stmt)) begin step.at.purpose_is)

      -- the next transaction opens
      pub begun_answering : IsUnopened past count next old.shards → IsUnused past next
          → IsTurn e (turn (dealt c tells new) (works.Idle (Some (next_of new.tx next))) (Some next) (failed_one (dealt c tells new).deed) (whats.Reply (completed (counted (length warnings)) true new.tx.auto reply)))
          → Answering catalog c.tx.limits past count e (turn (dealt c tells new) (works.Idle (Some (next_of new.tx next))) (Some next) (failed_one (dealt c tells new).deed) (whats.Reply (completed (counted (length warnings)) true new.tx.auto reply))) mid.shards
      begun_answering unopened unused is_turn =
          let behind = done_behind true new.tx.auto (Some next) (works.Idle (Some (next_of new.tx next))) is_turn in
          let opened : Owned = record { number = next; single = false } in
          let stays : Then.owned ≡ Some opened = ap (λ (s : Session). s.owned) behind ∙ ap (λ (k : Kind). owned_done k Asked.owned e.opens) kind ∙ ap (λ (o : Option ℕ). owned_done Begins Asked.owned o) is_turn.opens in
          let on_ : new.tx.auto ≡ Then.auto = ap (λ (t : TxState). t.auto) step.same ∙ step.at.auto ∙ sym (ap (λ (s : Session). s.auto) behind ∙ ap (λ (k : Kind). auto_done k Asked.auto) kind) in
          done_answering true new.tx.auto (Some next) (works.Idle (Some (next_of new.tx next))) is_turn (sym (ap (λ (o : Option Owned). is_some o) stays)) on_
          (record {
            idle = ap (λ (s : Session). s.doing) behind;
            held = subst (λ (o : Option Owned). IsHeldBy c.tx.limits (Happened e ∷ past) e.session o (Some (next_of new.tx next))) (sym stays) (record {
              is_tx = tx_stays c.tx.limits e past e.session opened (next_of new.tx next) (no_act_apart e.deed next no_act)
                  (next_is_tx e past c.tx.limits new.tx next (ap (λ (t : TxState). t.session) step.same ∙ step.at.at.is_tx.session) (ap (λ (t : TxState). t.limits) step.same) unused);
              plural = refl;
              auto = on_;
              unclaimed = refl;
            });
          })
          (unopened_marked e past stmt asks count next old.shards mid.shards (fewer_of catalog past count e stmt plan own reply purpose c new tells old mid step) unopened)

      -- or has no number. So it is where the same event tells otherwise
      abbrev as_done : Event
      as_done = record e { told = tags.Ok 0 0 0 true true }

      done_turned : CommitTurned catalog c.tx.limits past as_done stmt plan own tells new
      done_turned =
          commit_turned catalog c.tx.limits past as_done stmt plan own c step.at.at old mid tells new (is_done (failure_told c tells new)) step.stepped
          (record { asked = asks; session = of_session as_done c (is_done (failure_told c tells new)) (due c) step.deed step.visits; fault = step.fault; tag = subst (λ (t : CommitTold). HasTag catalog t as_done.told) (sym is) tt })
          (dealt_so catalog past count e stmt plan own reply purpose c new tells old mid step)

      commits_own : is_committing (kind_of stmt) Asked.owned ≡ true
      commits_own = ap (is_committing (kind_of stmt)) step.at.at.owned ∙ step.at.at.committing

      all_dealt_with : commits (Happened e ∷ past) e.session ≡ length (run_sessions (Happened e ∷ past) own.number)
      all_dealt_with =
          let count = counts catalog (now_of e past) e.session stmt plan reply kind step.at.reply_is in
          let ok : IsOk catalog c.tx.limits (Happened as_done ∷ past) e.session stmt Asked as_done count.affected count.found (length warnings) =
          subst (λ (r : Reply). Allows catalog c.tx.limits past as_done e.session stmt Asked (whats.Reply (completed (length warnings) true true r))) count.is
          (subst (MayAnswer catalog c.tx.limits past as_done stmt plan own) is done_turned.answers reply true true step.at.reply_is) in
          let all : commits (Happened as_done ∷ past) e.session ≡ length (run_sessions (Happened as_done ∷ past) own.number) =
          subst (λ (o : Option Owned). HasCommitted (Happened as_done ∷ past) e.session true o) step.at.at.owned (subst (λ (b : Bool). HasCommitted (Happened as_done ∷ past) e.session b Asked.owned) commits_own ok.over.committed) in
          all

      has_begun : 0 < length (sessions c.tx) → has_begun_to_commit (Happened e ∷ past) e.session ≡ true
      has_begun some =
          let many : commits (Happened e ∷ past) e.session ≡ length (sessions c.tx) = all_dealt_with ∙ ap length (same_sessions c.tx (Happened e ∷ past) c.tx.limits e.session own (tx_after catalog e past no_act c.tx.limits own c.tx step.at.at.is_tx)) in
          ap not (ne_eqb (commits (Happened e ∷ past) e.session) 0 (λ zero_. omega (arith, some, many, zero_)))

      pub taken_answering : last_tx < next → next ≤ last_tx + 1 → 0 < length (sessions c.tx) → IsTurn e (refused (dealt c tells new) new.tx.number (refusal full false))
          → Answering catalog c.tx.limits past count e (refused (dealt c tells new) new.tx.number (refusal full false)) mid.shards
      taken_answering above within some is_turn =
          refused_answering (error_code full) full is_turn (subst IsOver (sym is) tt) done_turned.done done_turned.may done_turned.visit (record {
            coded = refl;
            caused = NumberTaken own kind step.at.at.owned all_dealt_with (omega (arith, is_next, above, within));
            kept = sym (ap (λ (o : Option Owned). is_kept (has_written (Happened e ∷ past) e.session) (is_some e.fault || has_begun_to_commit (Happened e ∷ past) e.session) o) step.at.at.owned
                ∙ gone_by own.single (has_written (Happened e ∷ past) e.session) (is_some e.fault) (has_begun_to_commit (Happened e ∷ past) e.session) (has_begun some));
          })

      pub begin_answering : (b : Bool) → nat_lt last_tx next ≡ b → next ≤ last_tx + 1 → IsUnopened past count next old.shards → IsUnused past next → CanBegin c.tx next purpose → IsTurn e (begins b (dealt c tells new) new.tx next (counted (length warnings)) reply)
          → Answering catalog c.tx.limits past count e (begins b (dealt c tells new) new.tx next (counted (length warnings)) reply) mid.shards
      begin_answering true above within unopened unused can is_turn = taken_answering (ltb-true last_tx next above) within (can begin (ltb-true last_tx next above)) is_turn
      begin_answering false below within unopened unused can is_turn = begun_answering unopened unused is_turn

-- ---- the turn

no_auto_statement : purposes.Statement ≡ purposes.Autocommit → ⊥
no_auto_statement same = cc

no_auto_commit : purposes.Commit ≡ purposes.Autocommit → ⊥
no_auto_commit same = cc

module _ (catalog : Catalog) (past : Run) (count : ℕ) (e : Event) (stmt : Stmt) (plan : Plan) (own : Owned) (reply : Reply) (next : ℕ) (c new : Committing) (old mid : PortView) (is_next : next ≡ next_tx past) (within : next ≤ last_tx + 1)
    (unopened : IsUnopened past count next old.shards) (unused : IsUnused past next) where
  auto_kept : (purpose : Purpose) (tells : CommitTold) → IsStepOf catalog past count e stmt plan own reply purpose c new tells old mid → (purpose ≡ purposes.Autocommit → ⊥) → new.tx.auto ≡ auto_done (kind_of stmt) (session (now_of e past) e.session).auto
  auto_kept purpose tells step apart =
      ap (λ (t : TxState). t.auto) step.same ∙ step.at.auto ∙ sym (auto_stays catalog c.tx.limits (now_of e past) e.session (kind_of stmt) purpose (session (now_of e past) e.session).auto step.at.purpose_is apart)

  ended_answering : (purpose : Purpose) (warnings : List Warning) → IsStepOf catalog past count e stmt plan own reply purpose c new (told.Ok warnings) old mid → CanBegin c.tx next purpose
      → IsTurn e (ended purpose (dealt c (told.Ok warnings) new) new.tx next (counted (length warnings)) reply)
      → Answering catalog c.tx.limits past count e (ended purpose (dealt c (told.Ok warnings) new) new.tx next (counted (length warnings)) reply) mid.shards
  ended_answering purposes.Statement warnings step can is_turn =
      over_answering catalog past count e stmt plan own reply purposes.Statement c new (told.Ok warnings) old mid step warnings refl new.tx.auto no_begin_statement (auto_kept purposes.Statement (told.Ok warnings) step no_auto_statement) is_turn
  ended_answering purposes.Commit warnings step can is_turn =
      over_answering catalog past count e stmt plan own reply purposes.Commit c new (told.Ok warnings) old mid step warnings refl new.tx.auto no_begin_commit (auto_kept purposes.Commit (told.Ok warnings) step no_auto_commit) is_turn
  ended_answering purposes.Begin warnings step can is_turn =
      begin_answering catalog past count e stmt plan own reply purposes.Begin c new (told.Ok warnings) old mid step warnings refl next refl is_next (nat_lt last_tx next) refl within unopened unused can is_turn
  ended_answering purposes.Autocommit warnings step can is_turn =
      over_answering catalog past count e stmt plan own reply purposes.Autocommit c new (told.Ok warnings) old mid step warnings refl true no_begin_auto
      (sym (auto_set catalog c.tx.limits (now_of e past) e.session (kind_of stmt) (session (now_of e past) e.session).auto step.at.purpose_is)) is_turn

  pub answering : (purpose : Purpose) (tells : CommitTold) → IsStepOf catalog past count e stmt plan own reply purpose c new tells old mid → CanBegin c.tx next purpose → IsTurn e (told_as catalog next reply purpose (dealt c tells new) new tells)
      → Answering catalog c.tx.limits past count e (told_as catalog next reply purpose (dealt c tells new) new tells) mid.shards
  answering purpose told.More step can is_turn = more_answering catalog past count e stmt plan own reply purpose c new told.More old mid step refl is_turn
  answering purpose (told.Ok warnings) step can is_turn = ended_answering purpose warnings step can is_turn
  answering purpose (told.Failed group done of_ shard why) step can is_turn =
      failed_answering catalog past count e stmt plan own reply purpose c new (told.Failed group done of_ shard why) old mid step group done of_ shard why refl is_turn
