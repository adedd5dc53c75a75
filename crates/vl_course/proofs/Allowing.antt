-- What a step may tell is what the run allows to be told.
use Rattle.std.proofs.Common.{◌≡◌, ◌∙◌, ◌==◌, ◌||◌, ◌<◌, if◌then◌else◌, ℕ, Bool, true, false, not, List, [], ◌∷◌, ◌++◌, length, map, Option, Some, None, refl, sym, ap, subst, arith}
use Rattle.std.specs.Option.{is_some}
use Rattle.std.proofs.Math.Bool.{or-false}
use Rattle.vl_values.specs.declared.cause.Cause.{Cause}
use Rattle.vl_values.specs.declared.group.Group.{Group}
use Rattle.vl_values.specs.declared.group.Group.TheVariants.{Pre, Main, Post}
use Rattle.vl_values.specs.declared.key.Key.{Key}
use Rattle.vl_values.specs.declared.reply.Reply.TheVariants as replies
use Rattle.vl_values.specs.declared.reply_column.ReplyColumn.{ReplyColumn}
use Rattle.vl_catalog.specs.declared.catalog.Catalog.{Catalog}
use Rattle.vl_sql.specs.declared.stmt.Stmt.{Stmt}
use Rattle.vl_port.specs.declared.limits.Limits.{Limits}
use Rattle.vl_port.specs.declared.tx_state.TxState.{TxState}
use Rattle.vl_port.specs.Transaction.{listed}
use Rattle.vl_port.specs.View.{Values}
use Rattle.vl_plan.specs.declared.plan.Plan.{Plan}
use Rattle.vl_plan.specs.Planned.{IsPlanned}
use Rattle.vl_statement.specs.declared.program_told.ProgramTold.TheVariants as told
use Rattle.vl_run.specs.declared.event.Event.{Event}
use Rattle.vl_run.specs.declared.tag.Tag.{Tag}
use Rattle.vl_run.specs.declared.tag.Tag.TheVariants as tags
use Rattle.vl_run.specs.declared.what.What.TheVariants as whats
use Rattle.vl_run.specs.Allowed.{Allows, HasCommitted, IsOver, gives_rows, now_of}
use Rattle.vl_run.specs.Named.{HasWorked, of_group, sessions}
use Rattle.vl_run.specs.Progress.{commits, has_begun_to_commit, has_written, session, warned}
use Rattle.vl_run.specs.Run.{Run, used}
use Rattle.vl_run.specs.Run.Point.{Happened}
use Rattle.vl_run.specs.Session.{IsTold, Kind, Owned, Session, answered, auto_done, done_by, is_committing, is_kept, kind_of, owned_done, owned_refused}
use Rattle.vl_run.specs.Session.Kind.{Works}
use Rattle.vl_course.specs.Course.{IsTx}
use Rattle.vl_course.specs.Turning.{IsAtEnd, IsOfStmt, Turned}
use Rattle.vl_course.proofs.Behind.{session_answered}
use Rattle.vl_course.proofs.Planned.{planned_once}

module _ (catalog : Catalog) (limits : Limits) (past : Run) (e : Event) (stmt : Stmt) (plan : Plan) (own : Owned) (planned : IsPlanned catalog stmt plan) (works : kind_of stmt ≡ Works) (owned : (session (now_of e past) e.session).owned ≡ Some own) where
  -- it goes on
  pub allows_more : Turned catalog limits past e stmt plan own told.More → Allows catalog limits past e e.session stmt (session (now_of e past) e.session) whats.More
  allows_more turned = (
    turned.told.0,
    turned.told.1,
    λ other over. turned.told.2 (subst (HasWorked catalog (Happened e ∷ past) e.session) (planned_once catalog stmt other plan over.planned planned) over.worked),
  )

  pub allows_held : (by : ℕ) (key : Key) (times : ℕ) → Turned catalog limits past e stmt plan own (told.Held by key times) → Allows catalog limits past e e.session stmt (session (now_of e past) e.session) (whats.Held by key times)
  allows_held by key times turned = turned.told

  pub allows_refusal : (code : ℕ) (why : Cause) (tx : Bool) → commits (Happened e ∷ past) e.session ≡ 0 → Turned catalog limits past e stmt plan own (told.Reply (replies.Err code why tx)) → Allows catalog limits past e e.session stmt (session (now_of e past) e.session) (whats.Reply (replies.Err code why tx))
  allows_refusal code why tx uncommitted turned = record {
    coded = turned.told.0;
    caused = turned.told.1;
    kept = turned.told.2
        ∙ ap (λ b. is_kept (has_written (Happened e ∷ past) e.session) b (Some own)) (sym (or-false (is_some e.fault)) ∙ ap (λ k. is_some e.fault || not (k == 0)) (sym uncommitted))
        ∙ sym (ap (λ (o : Option Owned). is_kept (has_written (Happened e ∷ past) e.session) (is_some e.fault || has_begun_to_commit (Happened e ∷ past) e.session) o) owned);
  }

  -- ---- the end, where no commit is left

  over_by : (kind : Kind) (o : Option Owned) → kind ≡ Works → o ≡ Some own → HasCommitted (Happened e ∷ past) e.session own.single (Some own) → HasCommitted (Happened e ∷ past) e.session (is_committing kind o) o
  over_by kind o is_works is_own done =
      subst (λ (k : Kind). HasCommitted (Happened e ∷ past) e.session (is_committing k o) o) (sym is_works)
      (subst (λ (it : Option Owned). HasCommitted (Happened e ∷ past) e.session (is_committing Works it) it) (sym is_own) done)

  is_over : HasWorked catalog (Happened e ∷ past) e.session plan → HasCommitted (Happened e ∷ past) e.session own.single (Some own) → IsOver catalog (Happened e ∷ past) e.session stmt (session (now_of e past) e.session).owned plan
  is_over worked done = record { planned = planned; worked = worked; committed = over_by (kind_of stmt) (session (now_of e past) e.session).owned works owned done }

  pub allows_rows : (columns : List ReplyColumn) (rows : List Values) (tx auto : Bool) → Turned catalog limits past e stmt plan own (told.Reply (replies.Rows columns rows tx auto)) → HasCommitted (Happened e ∷ past) e.session own.single (Some own)
      → Allows catalog limits past e e.session stmt (session (now_of e past) e.session) (whats.Reply (replies.Rows columns rows tx auto))
  allows_rows columns rows tx auto turned done = record {
    plan = plan;
    over = is_over turned.told.0.worked done;
    result = turned.told.1;
    within = turned.told.0.within;
    proceeds = turned.told.0.proceeds;
  }

  pub allows_ok : (affected found warnings : ℕ) (tx auto : Bool) → Turned catalog limits past e stmt plan own (told.Reply (replies.Ok affected found warnings tx auto)) → HasCommitted (Happened e ∷ past) e.session own.single (Some own) → gives_rows stmt ≡ false
      → warned catalog (Happened e ∷ past) e.session ≡ [] → Allows catalog limits past e e.session stmt (session (now_of e past) e.session) (whats.Reply (replies.Ok affected found warnings tx auto))
  allows_ok affected found warnings tx auto turned done rowless unwarned = record {
    plan = plan;
    over = is_over turned.told.0.worked done;
    counted = turned.told.1;
    warned = turned.told.2 ∙ sym (ap length unwarned);
    rowless = rowless;
    within = turned.told.0.within;
    proceeds = turned.told.0.proceeds;
  }

  -- ---- the end of its work, where a commit is left

  uncommitted_over : (single : Bool) → own.single ≡ single → single ≡ true → commits (Happened e ∷ past) e.session ≡ 0 → 0 < length (sessions (Happened e ∷ past) own.number) → HasCommitted (Happened e ∷ past) e.session single (Some own) → ⊥
  uncommitted_over true is single none some done = absurd (omega (arith, none, some, done))
  uncommitted_over false is single none some done = absurd (cc)

  committed_by : (kind : Kind) (o : Option Owned) → kind ≡ Works → o ≡ Some own → HasCommitted (Happened e ∷ past) e.session (is_committing kind o) o → HasCommitted (Happened e ∷ past) e.session own.single (Some own)
  committed_by kind o is_works is_own done =
      subst (λ (it : Option Owned). HasCommitted (Happened e ∷ past) e.session (is_committing Works it) it) is_own (subst (λ (k : Kind). HasCommitted (Happened e ∷ past) e.session (is_committing k o) o) is_works done)

  -- a transaction of this statement alone, with a session that isn't committed yet, keeps it from its end
  pub allows_commit : (stays on : Bool) → IsAtEnd catalog limits past e stmt plan own stays on → own.single ≡ true → commits (Happened e ∷ past) e.session ≡ 0 → 0 < length (sessions (Happened e ∷ past) own.number)
      → Allows catalog limits past e e.session stmt (session (now_of e past) e.session) whats.More
  allows_commit stays on end single none some = (
    end.proceeds,
    end.within,
    λ other over. uncommitted_over own.single refl single none some (committed_by (kind_of stmt) (session (now_of e past) e.session).owned works owned over.committed),
  )

-- ---- what is told of the transaction

refused_stays : (stays : Bool) (own : Owned) → stays ≡ is_some (owned_refused stays (Some own))
refused_stays true own = refl
refused_stays false own = refl

done_stays : (own : Owned) (opens : Option ℕ) → not own.single ≡ is_some (owned_done Works (Some own) opens)
done_stays own opens = by_single own.single
  where
    by_single : (single : Bool) → not single ≡ is_some (if single then None else Some own)
    by_single true = refl
    by_single false = refl

module _ (past : Run) (e : Event) (stmt : Stmt) (own : Owned) (asks : IsOfStmt e.request stmt) (doing : (session (now_of e past) e.session).doing ≡ Some stmt) (owned : (session (now_of e past) e.session).owned ≡ Some own) where
  told_as : (tag : Tag) → e.told ≡ tag → session (Happened e ∷ past) e.session ≡ answered tag stmt e.opens (session (now_of e past) e.session)
  told_as tag told = session_answered e past stmt asks doing ∙ ap (λ (t : Tag). answered t stmt e.opens (session (now_of e past) e.session)) told

  -- a refusal tells truly whether one stays open
  pub refusal_told : (code : ℕ) (stays : Bool) → e.told ≡ tags.Err code stays → IsTold e.told (session (Happened e ∷ past) e.session)
  refusal_told code stays told =
      subst (λ (t : Tag). IsTold t (session (Happened e ∷ past) e.session)) (sym told)
      (refused_stays stays own ∙ sym (ap (λ (s : Session). is_some s.owned) (told_as (tags.Err code stays) told) ∙ ap (λ (o : Option Owned). is_some (owned_refused stays o)) owned))

module _ (catalog : Catalog) (limits : Limits) (past : Run) (e : Event) (stmt : Stmt) (plan : Plan) (own : Owned) (asks : IsOfStmt e.request stmt) (works : kind_of stmt ≡ Works) (doing : (session (now_of e past) e.session).doing ≡ Some stmt)
    (owned : (session (now_of e past) e.session).owned ≡ Some own) where
  done_owned : (s : Session) → s ≡ done_by stmt e.opens (session (now_of e past) e.session) → (not own.single ≡ is_some s.owned) × ((session (now_of e past) e.session).auto ≡ s.auto)
  done_owned s is = (
    done_stays own e.opens
        ∙ sym
        (ap (λ (it : Session). is_some it.owned) is ∙ ap (λ (k : Kind). is_some (owned_done k (session (now_of e past) e.session).owned e.opens)) works
        ∙ ap (λ (o : Option Owned). is_some (owned_done Works o e.opens)) owned),
    sym (ap (λ (it : Session). it.auto) is ∙ ap (λ (k : Kind). auto_done k (session (now_of e past) e.session).auto) works),
  )

  -- and so does a reply at the statement's end, and whether autocommit is on
  pub rows_told : (stays on : Bool) → IsAtEnd catalog limits past e stmt plan own stays on → e.told ≡ tags.Rows stays on → IsTold e.told (session (Happened e ∷ past) e.session)
  rows_told stays on end told =
      let done = done_owned (session (Happened e ∷ past) e.session) (told_as past e stmt own asks doing owned (tags.Rows stays on) told) in
      subst (λ (t : Tag). IsTold t (session (Happened e ∷ past) e.session)) (sym told) (end.left_open ∙ done.0, end.auto ∙ done.1)

  pub ok_told : (affected found warnings : ℕ) (stays on : Bool) → IsAtEnd catalog limits past e stmt plan own stays on → e.told ≡ tags.Ok affected found warnings stays on → IsTold e.told (session (Happened e ∷ past) e.session)
  ok_told affected found warnings stays on end told =
      let done = done_owned (session (Happened e ∷ past) e.session) (told_as past e stmt own asks doing owned (tags.Ok affected found warnings stays on) told) in
      subst (λ (t : Tag). IsTold t (session (Happened e ∷ past) e.session)) (sym told) (end.left_open ∙ done.0, end.auto ∙ done.1)

-- ---- when no commit is left

pub kept_open : (after : Run) (n : ℕ) (own : Owned) → own.single ≡ false → commits after n ≡ 0 → HasCommitted after n own.single (Some own)
kept_open after n own single none = subst (λ b. HasCommitted after n b (Some own)) (sym single) none

no_sessions : (after : Run) (tx : ℕ) → ((group : Group) → used after tx group ≡ []) → length (sessions after tx) ≡ 0
no_sessions after tx none =
    ap (λ (shards : List ℕ). length (map (of_group Pre) shards ++ (map (of_group Main) (used after tx Main) ++ map (of_group Post) (used after tx Post)))) (none Pre)
    ∙ ap (λ (shards : List ℕ). length (map (of_group Main) shards ++ map (of_group Post) (used after tx Post))) (none Main) ∙ ap (λ (shards : List ℕ). length (map (of_group Post) shards)) (none Post)

-- a transaction that opened no shard session has none to commit
pub none_to_commit : (bounds : Limits) (after : Run) (n : ℕ) (own : Owned) (tx : TxState) → IsTx bounds after n own tx → ((group : Group) → listed tx group ≡ []) → commits after n ≡ 0 → HasCommitted after n own.single (Some own)
none_to_commit bounds after n own tx is empty none = by_single own.single
  where
    by_single : (single : Bool) → HasCommitted after n single (Some own)
    by_single true = none ∙ sym (no_sessions after own.number (λ group. is.used group ∙ empty group))
    by_single false = none
