-- The turn of a step is an answer that the run allows, by what its program told.
use Rattle.std.proofs.Common.{◌≡◌, ◌∙◌, ◌∷◌, ◌&&◌, ◌<◌, ◌++◌, not, if◌then◌else◌, ℕ, Bool, true, false, List, [], length, map, Option, Some, None, refl, sym, ap, subst, arith}
use Rattle.std.specs.Option.{is_some}
use Rattle.vl_values.specs.declared.cause.Cause.{Cause}
use Rattle.vl_values.specs.declared.cause.Cause.TheVariants as causes
use Rattle.vl_values.specs.declared.group.Group.TheVariants.{Pre, Main, Post}
use Rattle.vl_values.specs.declared.key.Key.{Key}
use Rattle.vl_values.specs.declared.reply.Reply.{Reply}
use Rattle.vl_values.specs.declared.reply.Reply.TheVariants as replies
use Rattle.vl_values.specs.Cause.{error_code}
use Rattle.vl_catalog.specs.declared.catalog.Catalog.{Catalog}
use Rattle.vl_sql.specs.declared.stmt.Stmt.{Stmt}
use Rattle.vl_port.specs.declared.limits.Limits.{Limits}
use Rattle.vl_port.specs.declared.tx_state.TxState.{TxState}
use Rattle.vl_port.specs.Calls.{PortView}
use Rattle.vl_port.specs.Serving.{Shards}
use Rattle.vl_port.specs.Transaction.{session_of}
use Rattle.vl_plan.specs.declared.plan.Plan.{Plan}
use Rattle.vl_statement.specs.declared.program_told.ProgramTold.TheVariants as tells
use Rattle.vl_commit.specs.Closing.{AreClosed}
use Rattle.vl_commit.specs.Sessions.{Session as ShardSession, of_group, sessions}
use Rattle.vl_commit.proofs.Leaving.{all_left, none_left}
use Rattle.vl_commit.proofs.Nothing.{nothing_left as shards_nothing}
use Rattle.vl_exec.specs.declared.program.Program.{Program}
use Rattle.vl_exec.specs.Progress.{wrote}
use Rattle.vl_run.specs.declared.ends.Ends.TheVariants as ends
use Rattle.vl_run.specs.declared.event.Event.{Event}
use Rattle.vl_run.specs.declared.tag.Tag.{Tag}
use Rattle.vl_run.specs.declared.tag.Tag.TheVariants as tags
use Rattle.vl_run.specs.declared.what.What.TheVariants as whats
use Rattle.vl_run.specs.Allowed.{Allows, HasNothing, Proceeds, now_of, owns, tag_of}
use Rattle.vl_run.specs.Named.{sessions as run_sessions}
use Rattle.vl_run.specs.Progress.{has_written, session}
use Rattle.vl_run.specs.Refused.Refuses.{Memory}
use Rattle.vl_run.specs.Run.{Run, state, used}
use Rattle.vl_run.specs.Run.Point.{Happened}
use Rattle.vl_run.specs.Session.{IsTold, Kind, Owned, Session, answered, auto_done, done_by, is_committing, owned_done, refused_by}
use Rattle.vl_run.specs.Session.Kind.{Works}
use Rattle.vl_replay.specs.Showing.{IsOwned, IsWhole, Shows}
use Rattle.vl_replay.proofs.Ends.{whole_has_nothing}
use Rattle.vl_replay.proofs.Refusals.{owned_acted}
use Rattle.vl_course.specs.Answered.{AreMarked}
use Rattle.vl_course.specs.Course.{Course, IsTx}
use Rattle.vl_course.specs.Turning.{IsAtEnd, Turned}
use Rattle.vl_course.proofs.Allowing.{allows_commit, allows_held, allows_more, allows_refusal, refusal_told}
use Rattle.vl_course.proofs.Behind.{session_answered, session_held, session_more}
use Rattle.vl_course_commit.specs.Committing.{IsReplyOf}
use Rattle.vl_course_commit.proofs.Nothing.{nothing_left as run_nothing}
use Rattle.vl_course_program.specs.Programs.{IsProgramAt, tries_of}
use Rattle.vl_session.specs.declared.purpose.Purpose.TheVariants as purposes
use Rattle.vl_session.specs.declared.work.Work.TheVariants as works
use Rattle.vl_session.specs.Standing.{IsHeldBy, IsPurposeOf}
use Rattle.vl_session.specs.Turning.{Answering, IsTurn}
use Rattle.vl_running.specs.declared.done.Done.{Done}
use Rattle.vl_running.specs.Ran.{turn_of}
use Rattle.vl_running.specs.Happening.{Happens}
use Rattle.vl_running.specs.Happening.Happens.{Back, Gone, Still}
use Rattle.vl_running.proofs.Facts.{IsAnswer, IsNoErr, IsStepOf, answers_by, gone_left, kept_ends, no_fault, none_ends, sound_none, stays_left, whole_ends}
use Rattle.vl_running.proofs.Happening.{open_marks, open_shows, over_shows}

-- ---- what a refusal tells of its transaction

kept_single : (single written failed : Bool) → true ≡ (not single && (not written && not failed)) → (single ≡ false) × (failed ≡ false)
kept_single true written failed is = absurd (cc)
kept_single false true failed is = absurd (cc)
kept_single false false true is = absurd (cc)
kept_single false false false is = (refl, refl)

single_gone : (single written failed : Bool) → single ≡ true → false ≡ (not single && (not written && not failed))
single_gone true written failed is = refl
single_gone false written failed is = absurd (cc)

-- ---- shard sessions

some_length : (all : List ShardSession) → (all ≡ [] → ⊥) → 0 < length all
some_length [] some = absurd (some refl)
some_length (it ∷ all) some = omega arith

same_sessions : (after : TxState) (now : Run) (limits : Limits) (n : ℕ) (own : Owned) → IsTx limits now n own after → run_sessions now own.number ≡ sessions after
same_sessions after now limits n own is =
    ap (λ (shards : List ℕ). map (of_group Pre) shards ++ (map (of_group Main) (used now own.number Main) ++ map (of_group Post) (used now own.number Post))) (is.used Pre)
    ∙ ap (λ (shards : List ℕ). map (of_group Pre) after.pre ++ (map (of_group Main) shards ++ map (of_group Post) (used now own.number Post))) (is.used Main)
    ∙ ap (λ (shards : List ℕ). map (of_group Pre) after.pre ++ (map (of_group Main) after.main ++ map (of_group Post) shards)) (is.used Post)

owned_behind : (catalog : Catalog) (limits : Limits) (past : Run) (count : ℕ) (e : Event) (stmt : Stmt) (plan : Plan) (own : Owned) (tx after : TxState) (old new : PortView) → IsStepOf catalog limits past count e stmt plan own tx after old new → IsOwned after.number after.session count new.shards
owned_behind catalog limits past count e stmt plan own tx after old new step =
    subst (λ (s : ℕ). IsOwned after.number s count new.shards) (sym step.same_session) (subst (λ (n : ℕ). IsOwned n tx.session count new.shards) (sym step.same_number) (behind step.happens))
  where
    behind : Happens catalog count tx old new e → IsOwned tx.number tx.session count new.shards
    behind (Still same deed none) = subst (λ (seen : Shards). IsOwned tx.number tx.session count seen) (sym same) step.owned
    behind (Back due answer acts back number session taking deed none) = owned_acted tx.number tx.session count old new due.who due.shard due.act answer acts.acted (λ n. session) step.owned
    behind (Gone due answer acts lost number session deed failed) = owned_acted tx.number tx.session count old new due.who due.shard due.act answer acts.acted (λ n. session) step.owned

module _ (catalog : Catalog) (limits : Limits) (past : Run) (count : ℕ) (e : Event) (stmt : Stmt) (plan : Plan) (own : Owned) (tx after : TxState) (old new : PortView) (step : IsStepOf catalog limits past count e stmt plan own tx after old new) where
  abbrev Asked : Session
  Asked = session (now_of e past) e.session

  abbrev Then : Session
  Then = session (Happened e ∷ past) e.session

  shown_open : e.fault ≡ None → e.ends ≡ ends.Nobody → Shows catalog (Happened e ∷ past) count new.shards
  shown_open sound gone = open_shows catalog past count tx old new e step.event.shows step.owned step.happens sound gone

  marked_open : e.fault ≡ None → AreMarked (Happened e ∷ past) after.number new.shards
  marked_open sound = subst (λ (n : ℕ). AreMarked (Happened e ∷ past) n new.shards) (sym step.same_number) (open_marks catalog past count tx old new e step.event.shows step.owned stmt step.asks step.happens sound step.marks)

  -- ---- it goes on

  pub more_turn : (opens : Option ℕ) (done : Done) (program : Program) → IsTurn e (turn_of opens done (works.Running after program) ends.Nobody whats.More) → Turned catalog limits past e stmt plan own tells.More
      → Course catalog limits (Happened e ∷ past) e.session stmt plan own after (tries_of program) (wrote program) → IsProgramAt catalog limits (Happened e ∷ past) e.session plan program
      → Answering catalog limits past count e (turn_of opens done (works.Running after program) ends.Nobody whats.More) new.shards
  more_turn opens done program turn turned course stands =
      let sound : e.fault ≡ None = sound_none catalog count tx old new e step.happens turned.told.0 in
      let same : Then ≡ Asked = session_more e past stmt step.asks turn.told in
      let said = answers_by catalog limits past count e stmt plan own tx after old new step tells.More whats.More turned turn.told (none_ends catalog limits past count e stmt plan own tx after old new step tags.More turn.told tt turn.ends)
      (allows_more catalog limits past e stmt plan own step.planned step.works step.is_own turned) (subst (λ (t : Tag). IsTold t Then) (sym turn.told) tt)
      (stays_left catalog limits past count e stmt plan own tx after old new step (ap (λ (s : Session). s.owned) same ∙ step.is_own)) in
      record {
        answers = said.answers;
        done = said.done;
        opens = said.opens;
        true_ = said.true_;
        shows = shown_open sound turn.ends;
        stands = (stmt, plan, own, record { course = course; stands = stands; unclaimed = step.unclaimed });
        marked = marked_open sound;
      }

  pub held_turn : (opens : Option ℕ) (done : Done) (program : Program) (by : ℕ) (key : Key) (count_of : ℕ) → IsTurn e (turn_of opens done (works.Running after program) ends.Nobody (whats.Held by key count_of)) → Turned catalog limits past e stmt plan own (tells.Held by key count_of)
      → Course catalog limits (Happened e ∷ past) e.session stmt plan own after (tries_of program) (wrote program) → IsProgramAt catalog limits (Happened e ∷ past) e.session plan program
      → Answering catalog limits past count e (turn_of opens done (works.Running after program) ends.Nobody (whats.Held by key count_of)) new.shards
  held_turn opens done program by key count_of turn turned course stands =
      let sound : e.fault ≡ None = turned.told.sound in
      let same : Then ≡ Asked = session_held e past stmt by count_of step.asks turn.told in
      let said = answers_by catalog limits past count e stmt plan own tx after old new step (tells.Held by key count_of) (whats.Held by key count_of) turned turn.told
      (none_ends catalog limits past count e stmt plan own tx after old new step (tags.Held by count_of) turn.told tt turn.ends)
      (allows_held catalog limits past e stmt plan own step.planned step.works step.is_own by key count_of turned) (subst (λ (t : Tag). IsTold t Then) (sym turn.told) tt)
      (stays_left catalog limits past count e stmt plan own tx after old new step (ap (λ (s : Session). s.owned) same ∙ step.is_own)) in
      record {
        answers = said.answers;
        done = said.done;
        opens = said.opens;
        true_ = said.true_;
        shows = shown_open sound turn.ends;
        stands = (stmt, plan, own, record { course = course; stands = stands; unclaimed = step.unclaimed });
        marked = marked_open sound;
      }

  -- ---- it is refused

  refused_then : (code : ℕ) (stays : Bool) → e.told ≡ tags.Err code stays → Then ≡ refused_by stays Asked
  refused_then code stays told = session_answered e past stmt step.asks step.doing ∙ ap (λ (t : Tag). answered t stmt e.opens Asked) told

  -- and its transaction stays open
  pub kept_turn : (opens : Option ℕ) (done : Done) (code : ℕ) (why : Cause) → IsTurn e (turn_of opens done (works.Idle (Some after)) ends.Nobody (whats.Reply (replies.Err code why true))) → Turned catalog limits past e stmt plan own (tells.Reply (replies.Err code why true))
      → Answering catalog limits past count e (turn_of opens done (works.Idle (Some after)) ends.Nobody (whats.Reply (replies.Err code why true))) new.shards
  kept_turn opens done code why turn turned =
      let both = kept_single own.single (has_written (Happened e ∷ past) e.session) (is_some e.fault) turned.told.2 in
      let sound : e.fault ≡ None = no_fault e.fault both.1 in
      let ended : Then ≡ refused_by true Asked = refused_then code true turn.told in
      let stays : Then.owned ≡ Some own = ap (λ (s : Session). s.owned) ended ∙ step.is_own in
      let said = answers_by catalog limits past count e stmt plan own tx after old new step (tells.Reply (replies.Err code why true)) (whats.Reply (replies.Err code why true)) turned turn.told
      (kept_ends catalog limits past count e stmt plan own tx after old new step code turn.told turn.ends)
      (allows_refusal catalog limits past e stmt plan own step.planned step.works step.is_own code why true step.uncommitted turned) (refusal_told past e stmt own step.asks step.doing step.is_own code true turn.told)
      (stays_left catalog limits past count e stmt plan own tx after old new step stays) in
      record {
        answers = said.answers;
        done = said.done;
        opens = said.opens;
        true_ = said.true_;
        shows = shown_open sound turn.ends;
        stands = record {
          idle = ap (λ (s : Session). s.doing) ended;
          held = subst (λ (o : Option Owned). IsHeldBy limits (Happened e ∷ past) e.session o (Some after)) (sym stays)
              (record { is_tx = step.left sound; plural = both.0; auto = step.auto ∙ sym (ap (λ (s : Session). s.auto) ended); unclaimed = step.unclaimed });
        };
        marked = marked_open sound;
      }

  -- or all of it has ended
  pub whole_turn : (newer : PortView) → AreClosed after 0 (length (sessions after)) new newer → (opens : Option ℕ) (done : Done) (code : ℕ) (why : Cause)
      → IsTurn e (turn_of opens done (works.Idle None) (ends.Whole after.number) (whats.Reply (replies.Err code why false))) → Turned catalog limits past e stmt plan own (tells.Reply (replies.Err code why false))
      → Answering catalog limits past count e (turn_of opens done (works.Idle None) (ends.Whole after.number) (whats.Reply (replies.Err code why false))) newer.shards
  whole_turn newer closed opens done code why turn turned =
      let gone : e.ends ≡ ends.Whole after.number = turn.ends in
      let ended : Then ≡ refused_by false Asked = refused_then code false turn.told in
      let nothing : HasNothing (state catalog (Happened e ∷ past)) own.number = subst (λ (n : ℕ). HasNothing (state catalog (Happened e ∷ past)) n) (step.same_number ∙ step.number) (whole_has_nothing catalog past e after.number gone) in
      let said = answers_by catalog limits past count e stmt plan own tx after old new step (tells.Reply (replies.Err code why false)) (whats.Reply (replies.Err code why false)) turned turn.told
      (whole_ends catalog limits past count e stmt plan own tx after old new step code turn.told gone)
      (allows_refusal catalog limits past e stmt plan own step.planned step.works step.is_own code why false step.uncommitted turned) (refusal_told past e stmt own step.asks step.doing step.is_own code false turn.told)
      (gone_left catalog limits past count e stmt plan own tx after old new step nothing) in
      record {
        answers = said.answers;
        done = said.done;
        opens = said.opens;
        true_ = said.true_;
        shows = over_shows catalog past count tx old new e step.event.shows step.owned after newer step.same_number step.same_session (all_left after count new.shards step.isin) closed gone step.happens;
        stands = record {
          idle = ap (λ (s : Session). s.doing) ended;
          held = subst (λ (o : Option Owned). IsHeldBy limits (Happened e ∷ past) e.session o None) (sym (ap (λ (s : Session). s.owned) ended)) tt;
        };
        marked = tt;
      }

  -- so it does where memory is wanted at the end of a transaction of this statement alone
  pub starved_end : (reply : Reply) → own.single ≡ true → Turned catalog limits past e stmt plan own (tells.Reply reply) → Turned catalog limits past e stmt plan own (tells.Reply (replies.Err (error_code causes.OutOfMemory) causes.OutOfMemory false))
  starved_end reply single turned = record {
    done = turned.done;
    may = turned.may;
    visit = turned.visit;
    told = (refl, Memory, single_gone own.single (has_written (Happened e ∷ past) e.session) (is_some e.fault) single);
  }

  -- ---- it is done

  module _ (reply : Reply) (turned : Turned catalog limits past e stmt plan own (tells.Reply reply)) (proceeds : Proceeds e) where
    sound : e.fault ≡ None
    sound = sound_none catalog count tx old new e step.happens proceeds

    -- with its reply
    module _ (told : e.told ≡ tag_of (whats.Reply reply)) (gone : e.ends ≡ ends.Nobody) (no_err : IsNoErr (tag_of (whats.Reply reply))) (ended : Then ≡ done_by stmt e.opens Asked)
        (allowed : Allows catalog limits past e e.session stmt Asked (whats.Reply reply)) (truly : IsTold e.told Then) where
      owned_then : Then.owned ≡ owned_done Works (Some own) e.opens
      owned_then = ap (λ (s : Session). s.owned) ended ∙ ap (λ (k : Kind). owned_done k Asked.owned e.opens) step.works ∙ ap (λ (o : Option Owned). owned_done Works o e.opens) step.is_own

      auto_then : Then.auto ≡ Asked.auto
      auto_then = ap (λ (s : Session). s.auto) ended ∙ ap (λ (k : Kind). auto_done k Asked.auto) step.works

      answers_then : ((other : Owned) → Asked.owned ≡ Some other → owns Then.owned other.number ≡ false → HasNothing (state catalog (Happened e ∷ past)) other.number) → IsAnswer catalog limits past e (whats.Reply reply)
      answers_then left =
          answers_by catalog limits past count e stmt plan own tx after old new step (tells.Reply reply) (whats.Reply reply) turned told
          (none_ends catalog limits past count e stmt plan own tx after old new step (tag_of (whats.Reply reply)) told no_err gone) allowed truly left

      pub open_turn : (opens : Option ℕ) (done : Done) → own.single ≡ false → Answering catalog limits past count e (turn_of opens done (works.Idle (Some after)) ends.Nobody (whats.Reply reply)) new.shards
      open_turn opens done plural =
          let stays : Then.owned ≡ Some own = owned_then ∙ ap (λ (b : Bool). if b then None else Some own) plural in
          let said = answers_then (stays_left catalog limits past count e stmt plan own tx after old new step stays) in
          record {
            answers = said.answers;
            done = said.done;
            opens = said.opens;
            true_ = said.true_;
            shows = shown_open sound gone;
            stands = record {
              idle = ap (λ (s : Session). s.doing) ended;
              held = subst (λ (o : Option Owned). IsHeldBy limits (Happened e ∷ past) e.session o (Some after)) (sym stays)
                  (record { is_tx = step.left sound; plural = plural; auto = step.auto ∙ sym auto_then; unclaimed = step.unclaimed });
            };
            marked = marked_open sound;
          }

      -- a transaction of this statement alone that has no shard session
      pub empty_turn : (opens : Option ℕ) (done : Done) → own.single ≡ true → sessions after ≡ [] → Answering catalog limits past count e (turn_of opens done (works.Idle None) ends.Nobody (whats.Reply reply)) new.shards
      empty_turn opens done single none =
          let shows : Shows catalog (Happened e ∷ past) count new.shards = shown_open sound gone in
          let none_open = none_left after 0 count new.shards (all_left after count new.shards step.isin) (omega (arith, ap length none)) in
          let whole : IsWhole catalog after count new.shards = record { serves = shows.serves; lanes = shows.lanes; bare = shows.bare; owned = owned_behind catalog limits past count e stmt plan own tx after old new step } in
          let nothing : HasNothing (state catalog (Happened e ∷ past)) after.number = run_nothing catalog (Happened e ∷ past) after count new.shards shows.replays whole (shards_nothing catalog after count new.shards shows.serves none_open) in
          let is_gone : Then.owned ≡ None = owned_then ∙ ap (λ (b : Bool). if b then None else Some own) single in
          let said = answers_then (gone_left catalog limits past count e stmt plan own tx after old new step (subst (λ (n : ℕ). HasNothing (state catalog (Happened e ∷ past)) n) (step.same_number ∙ step.number) nothing)) in
          record {
            answers = said.answers;
            done = said.done;
            opens = said.opens;
            true_ = said.true_;
            shows = shows;
            stands = record { idle = ap (λ (s : Session). s.doing) ended; held = subst (λ (o : Option Owned). IsHeldBy limits (Happened e ∷ past) e.session o None) (sym is_gone) tt };
            marked = tt;
          }

    -- or a commit begins
    pub commit_turn : (opens : Option ℕ) (done : Done) (stays on : Bool) → IsTurn e (turn_of opens done (works.Committing (record { tx = after; at = 0; warnings = [] }) reply purposes.Statement) ends.Nobody whats.More)
        → IsAtEnd catalog limits past e stmt plan own stays on → own.single ≡ true → (sessions after ≡ [] → ⊥) → IsReplyOf catalog (Happened e ∷ past) e.session stmt plan reply
        → Answering catalog limits past count e (turn_of opens done (works.Committing (record { tx = after; at = 0; warnings = [] }) reply purposes.Statement) ends.Nobody whats.More) new.shards
    commit_turn opens done stays on turn end single some is_reply =
        let same : Then ≡ Asked = session_more e past stmt step.asks turn.told in
        let many : 0 < length (run_sessions (Happened e ∷ past) own.number) = subst (λ (all : List ShardSession). 0 < length all) (sym (same_sessions after (Happened e ∷ past) limits e.session own (step.left sound))) (some_length (sessions after) some) in
        let said = answers_by catalog limits past count e stmt plan own tx after old new step (tells.Reply reply) whats.More turned turn.told
        (none_ends catalog limits past count e stmt plan own tx after old new step tags.More turn.told tt turn.ends)
        (allows_commit catalog limits past e stmt plan own step.planned step.works step.is_own stays on end single step.uncommitted many) (subst (λ (t : Tag). IsTold t Then) (sym turn.told) tt)
        (stays_left catalog limits past count e stmt plan own tx after old new step (ap (λ (s : Session). s.owned) same ∙ step.is_own)) in
        record {
          answers = said.answers;
          done = said.done;
          opens = said.opens;
          true_ = said.true_;
          shows = shown_open sound turn.ends;
          stands = (
            stmt,
            plan,
            own,
            record {
              at = record {
                doing = ap (λ (s : Session). s.doing) same ∙ step.doing;
                planned = step.planned;
                owned = ap (λ (s : Session). s.owned) same ∙ step.is_own;
                committing = ap (λ (k : Kind). is_committing k (Some own)) step.works ∙ single;
                is_tx = step.left sound;
                worked = end.worked;
                within = end.within;
                dealt = step.uncommitted;
                bounded = omega arith;
                warned = step.unwarned;
              };
              reply_is = is_reply;
              purpose_is = subst (λ (k : Kind). IsPurposeOf catalog limits (Happened e ∷ past) e.session k purposes.Statement) (sym step.works) refl;
              auto = step.auto ∙ sym (ap (λ (s : Session). s.auto) same);
              unclaimed = step.unclaimed;
              unwarned = refl;
            },
          );
          marked = λ place it from at. marked_open sound (session_of after it.0) it.1 refl;
        }
