-- What the turn keeps, and whatever the program told, the turn is an answer that the run allows.
use Rattle.std.proofs.Common.{◌≡◌, ◌∙◌, ◌∷◌, ◌++◌, ℕ, Bool, true, false, List, [], length, map, Option, Some, None, refl, sym, ap, subst}
use Rattle.vl_values.specs.declared.cause.Cause.{Cause}
use Rattle.vl_values.specs.declared.cause.Cause.TheVariants as causes
use Rattle.vl_values.specs.declared.group.Group.{Group}
use Rattle.vl_values.specs.declared.group.Group.TheVariants.{Pre, Main, Post}
use Rattle.vl_values.specs.declared.reply.Reply.{Reply}
use Rattle.vl_values.specs.declared.reply.Reply.TheVariants as replies
use Rattle.vl_values.specs.Cause.{error_code}
use Rattle.vl_catalog.specs.declared.catalog.Catalog.{Catalog}
use Rattle.vl_sql.specs.declared.stmt.Stmt.{Stmt}
use Rattle.vl_port.specs.declared.limits.Limits.{Limits}
use Rattle.vl_port.specs.declared.tx_state.TxState.{TxState}
use Rattle.vl_port.specs.Calls.{PortView}
use Rattle.vl_port.specs.Transaction.{listed}
use Rattle.vl_plan.specs.declared.plan.Plan.{Plan}
use Rattle.vl_statement.specs.declared.program_told.ProgramTold.{ProgramTold}
use Rattle.vl_statement.specs.declared.program_told.ProgramTold.TheVariants as tells
use Rattle.vl_commit.specs.Closing.{AreClosed}
use Rattle.vl_commit.specs.Sessions.{of_group, sessions}
use Rattle.vl_exec.specs.declared.program.Program.{Program}
use Rattle.vl_exec.specs.Progress.{wrote}
use Rattle.vl_run.specs.declared.ends.Ends.{Ends}
use Rattle.vl_run.specs.declared.event.Event.{Event}
use Rattle.vl_run.specs.declared.tag.Tag.{Tag}
use Rattle.vl_run.specs.declared.tag.Tag.TheVariants as tags
use Rattle.vl_run.specs.declared.what.What.{What}
use Rattle.vl_run.specs.declared.what.What.TheVariants as whats
use Rattle.vl_run.specs.Allowed.{Allows, HasCommitted, gives_rows, now_of, tag_of}
use Rattle.vl_run.specs.Progress.{session}
use Rattle.vl_run.specs.Run.{Run}
use Rattle.vl_run.specs.Run.Point.{Happened}
use Rattle.vl_run.specs.Session.{IsTold, Owned, answered, done_by}
use Rattle.vl_course.specs.Course.{Course}
use Rattle.vl_course.specs.Turning.{GoesOn, HasTag, IsAtEnd, Turned}
use Rattle.vl_course.proofs.Allowing.{allows_ok, allows_rows, kept_open, none_to_commit, ok_told, rows_told}
use Rattle.vl_course.proofs.Behind.{session_answered}
use Rattle.vl_course_commit.specs.Committing.{IsReplyOf}
use Rattle.vl_course_commit.proofs.Kept.{result_anyway}
use Rattle.vl_course_program.specs.Programs.{IsProgramAt, tries_of}
use Rattle.vl_session.specs.declared.turn.Turn.{Turn}
use Rattle.vl_session.specs.declared.work.Work.{Work}
use Rattle.vl_session.specs.Turning.{Answering, IsTurn}
use Rattle.vl_running.specs.declared.done.Done.{Done}
use Rattle.vl_running.specs.Ran.{IsEnded, IsRefusedAs, IsReplied, IsToldAs, turn_of}
use Rattle.vl_running.specs.Ran.IsEnded.{Commits, Empty, Kept, NoRoom}
use Rattle.vl_running.proofs.Facts.{IsNoErr, IsStepOf, sound_none}
use Rattle.vl_running.proofs.Turns.{commit_turn, empty_turn, held_turn, kept_turn, more_turn, open_turn, starved_end, whole_turn}

-- ---- the parts of the turn

-- the turn keeps what was done, and the transaction that was opened
pub record KeepsDone (opens : Option ℕ) (done : Done) (turn : Turn) : Type 0 where
  pub opened : turn.opens ≡ opens
  pub deed : turn.deed ≡ done.deed
  pub visits : turn.visits ≡ done.visits
  pub fault : turn.fault ≡ done.fault

keeps : (opens : Option ℕ) (done : Done) (work : Work) (over : Ends) (what : What) (turn : Turn) → turn ≡ turn_of opens done work over what → KeepsDone opens done turn
keeps opens done work over what turn is = record { opened = ap (λ (t : Turn). t.opens) is; deed = ap (λ (t : Turn). t.deed) is; visits = ap (λ (t : Turn). t.visits) is; fault = ap (λ (t : Turn). t.fault) is }

pub refused_keeps : (stays : Bool) (tx : TxState) (opens : Option ℕ) (done : Done) (reply : Reply) (port port_new : PortView) (turn : Turn) → IsRefusedAs stays tx opens done reply port turn port_new → KeepsDone opens done turn
refused_keeps true tx opens done reply port port_new turn is = keeps opens done _ _ _ turn is.0
refused_keeps false tx opens done reply port port_new turn is = keeps opens done _ _ _ turn is.0

ended_keeps : (tx : TxState) (opens : Option ℕ) (done : Done) (reply : Reply) (port port_new : PortView) (turn : Turn) → IsEnded tx opens done reply port turn port_new → KeepsDone opens done turn
ended_keeps tx opens done reply port port_new turn (Kept single is same) = keeps opens done _ _ _ turn is
ended_keeps tx opens done reply port port_new turn (Empty single none is same) = keeps opens done _ _ _ turn is
ended_keeps tx opens done reply port port_new turn (Commits single some is same) = keeps opens done _ _ _ turn is
ended_keeps tx opens done reply port port_new turn (NoRoom single refused) = refused_keeps false tx opens done _ port port_new turn refused

replied_keeps : (tx : TxState) (opens : Option ℕ) (done : Done) (reply : Reply) (port port_new : PortView) (turn : Turn) → IsReplied tx opens done reply port turn port_new → KeepsDone opens done turn
replied_keeps tx opens done (replies.Err code why stays) port port_new turn is = refused_keeps stays tx opens done (replies.Err code why stays) port port_new turn is
replied_keeps tx opens done (replies.Ok affected found warnings stays auto) port port_new turn is = ended_keeps tx opens done (replies.Ok affected found warnings stays auto) port port_new turn is
replied_keeps tx opens done (replies.Rows columns rows stays auto) port port_new turn is = ended_keeps tx opens done (replies.Rows columns rows stays auto) port port_new turn is

pub told_keeps : (told : ProgramTold) (tx : TxState) (program : Program) (opens : Option ℕ) (done : Done) (port port_new : PortView) (turn : Turn) → IsToldAs told tx program opens done port turn port_new → KeepsDone opens done turn
told_keeps tells.More tx program opens done port port_new turn is = keeps opens done _ _ _ turn is.0
told_keeps (tells.Held by key tries) tx program opens done port port_new turn is = keeps opens done _ _ _ turn is.0
told_keeps (tells.Reply reply) tx program opens done port port_new turn is = replied_keeps tx opens done reply port port_new turn is

-- and what the program told, where it goes on
pub told_tag : (told : ProgramTold) (tx : TxState) (program : Program) (opens : Option ℕ) (done : Done) (port port_new : PortView) (turn : Turn) (tag : Tag) → IsToldAs told tx program opens done port turn port_new → tag ≡ tag_of turn.what → HasTag told tag
told_tag tells.More tx program opens done port port_new turn tag is told = told ∙ ap (λ (t : Turn). tag_of t.what) is.0
told_tag (tells.Held by key tries) tx program opens done port port_new turn tag is told = told ∙ ap (λ (t : Turn). tag_of t.what) is.0
told_tag (tells.Reply reply) tx program opens done port port_new turn tag is told = tt

-- ---- a transaction without shard sessions lists none

front_empty : {A : Type 0} (xs ys : List A) → xs ++ ys ≡ [] → xs ≡ []
front_empty [] ys is = refl
front_empty (x ∷ xs) ys is = absurd (cc)

back_empty : {A : Type 0} (xs ys : List A) → xs ++ ys ≡ [] → ys ≡ []
back_empty [] ys is = is
back_empty (x ∷ xs) ys is = absurd (cc)

map_empty : (group : Group) (xs : List ℕ) → map (of_group group) xs ≡ [] → xs ≡ []
map_empty group [] is = refl
map_empty group (x ∷ xs) is = absurd (cc)

pub none_listed : (tx : TxState) → sessions tx ≡ [] → (group : Group) → listed tx group ≡ []
none_listed tx none Pre = map_empty Pre tx.pre (front_empty (map (of_group Pre) tx.pre) (map (of_group Main) tx.main ++ map (of_group Post) tx.post) none)
none_listed tx none Main = map_empty Main tx.main (front_empty (map (of_group Main) tx.main) (map (of_group Post) tx.post) (back_empty (map (of_group Pre) tx.pre) (map (of_group Main) tx.main ++ map (of_group Post) tx.post) none))
none_listed tx none Post = map_empty Post tx.post (back_empty (map (of_group Main) tx.main) (map (of_group Post) tx.post) (back_empty (map (of_group Pre) tx.pre) (map (of_group Main) tx.main ++ map (of_group Post) tx.post) none))

-- ---- the answer

module _ (catalog : Catalog) (limits : Limits) (past : Run) (count : ℕ) (e : Event) (stmt : Stmt) (plan : Plan) (own : Owned) (tx after : TxState) (old new : PortView) (step : IsStepOf catalog limits past count e stmt plan own tx after old new) (opens : Option ℕ) (done : Done) (turn : Turn) (newer : PortView)
    (is_turn : IsTurn e turn) where
  abbrev Answered : Type 0
  Answered = Answering catalog limits past count e turn newer.shards

  -- the port shows what it showed behind the step, or the same with the sessions closed
  answering_as : (other : Turn) (port : PortView) → turn ≡ other → newer ≡ port → port.shards ≡ new.shards → Answering catalog limits past count e other new.shards → Answered
  answering_as other port is same shards answering =
      subst (λ (t : Turn). Answering catalog limits past count e t newer.shards) (sym is)
      (subst (λ seen. Answering catalog limits past count e other seen) (sym (ap (λ (p : PortView). p.shards) same ∙ shards)) answering)

  turn_as : (other : Turn) → turn ≡ other → IsTurn e other
  turn_as other is = subst (IsTurn e) is is_turn

  pub refused_turn : (mid : PortView) → mid.shards ≡ new.shards → ((n : ℕ) → AreClosed after 0 n mid newer → AreClosed after 0 n new newer) → (stays : Bool) (code : ℕ) (why : Cause)
      → IsRefusedAs stays after opens done (replies.Err code why stays) mid turn newer → Turned catalog limits past e stmt plan own (tells.Reply (replies.Err code why stays)) → Answered
  refused_turn mid shown closes true code why is turned =
      answering_as _ mid is.0 is.1 shown (kept_turn catalog limits past count e stmt plan own tx after old new step opens done code why (turn_as _ is.0) turned)
  refused_turn mid shown closes false code why is turned =
      subst (λ (t : Turn). Answering catalog limits past count e t newer.shards) (sym is.0)
      (whole_turn catalog limits past count e stmt plan own tx after old new step newer (closes (length (sessions after)) is.1) opens done code why (turn_as _ is.0) turned)

  -- ---- at the statement's end

  module _ (reply : Reply) (turned : Turned catalog limits past e stmt plan own (tells.Reply reply)) (stays on : Bool) (end : IsAtEnd catalog limits past e stmt plan own stays on) (no_err : IsNoErr (tag_of (whats.Reply reply)))
      (answers : e.told ≡ tag_of (whats.Reply reply) → session (Happened e ∷ past) e.session ≡ done_by stmt e.opens (session (now_of e past) e.session))
      (allowed : HasCommitted (Happened e ∷ past) e.session own.single (Some own) → Allows catalog limits past e e.session stmt (session (now_of e past) e.session) (whats.Reply reply))
      (truly : e.told ≡ tag_of (whats.Reply reply) → IsTold e.told (session (Happened e ∷ past) e.session)) (is_reply : IsReplyOf catalog (Happened e ∷ past) e.session stmt plan reply) where
    ended_turn : (mid : PortView) → mid.shards ≡ new.shards → ((n : ℕ) → AreClosed after 0 n mid newer → AreClosed after 0 n new newer) → IsEnded after opens done reply mid turn newer → Answered
    ended_turn mid shown closes (Kept single is same) =
        let it = turn_as _ is in
        let plural : own.single ≡ false = sym step.single ∙ single in
        answering_as _ mid is same shown
        (open_turn catalog limits past count e stmt plan own tx after old new step reply turned end.proceeds it.told it.ends no_err (answers it.told) (allowed (kept_open (Happened e ∷ past) e.session own plural step.uncommitted)) (truly it.told) opens done plural)
    ended_turn mid shown closes (Empty single none is same) =
        let it = turn_as _ is in
        let sound : e.fault ≡ None = sound_none catalog count tx old new e step.happens end.proceeds in
        answering_as _ mid is same shown
        (empty_turn catalog limits past count e stmt plan own tx after old new step reply turned end.proceeds it.told it.ends no_err (answers it.told)
        (allowed (none_to_commit limits (Happened e ∷ past) e.session own after (step.left sound) (none_listed after none) step.uncommitted)) (truly it.told) opens done (sym step.single ∙ single) none)
    ended_turn mid shown closes (Commits single some is same) =
        answering_as _ mid is same shown (commit_turn catalog limits past count e stmt plan own tx after old new step reply turned end.proceeds opens done stays on (turn_as _ is) end (sym step.single ∙ single) some is_reply)
    ended_turn mid shown closes (NoRoom single refused) =
        refused_turn mid shown closes false (error_code causes.OutOfMemory) causes.OutOfMemory refused (starved_end catalog limits past count e stmt plan own tx after old new step reply (sym step.single ∙ single) turned)

  answered_by : (reply : Reply) (tag : Tag) → e.told ≡ tag → session (Happened e ∷ past) e.session ≡ answered tag stmt e.opens (session (now_of e past) e.session)
  answered_by reply tag told = session_answered e past stmt step.asks step.doing ∙ ap (λ (t : Tag). answered t stmt e.opens (session (now_of e past) e.session)) told

  pub replied_turn : (mid : PortView) → mid.shards ≡ new.shards → ((n : ℕ) → AreClosed after 0 n mid newer → AreClosed after 0 n new newer) → (reply : Reply) → ((affected found warnings : ℕ) (stays auto : Bool) → reply ≡ replies.Ok affected found warnings stays auto → gives_rows stmt ≡ false)
      → IsReplied after opens done reply mid turn newer → Turned catalog limits past e stmt plan own (tells.Reply reply) → Answered
  replied_turn mid shown closes (replies.Err code why stays) rowless is turned = refused_turn mid shown closes stays code why is turned
  replied_turn mid shown closes (replies.Ok affected found warnings stays auto) rowless is turned =
      let no_rows = rowless affected found warnings stays auto refl in
      ended_turn (replies.Ok affected found warnings stays auto) turned stays auto turned.told.0 tt (answered_by (replies.Ok affected found warnings stays auto) (tags.Ok affected found warnings stays auto))
      (λ committed. allows_ok catalog limits past e stmt plan own step.planned step.works step.is_own affected found warnings stays auto turned committed no_rows step.unwarned)
      (ok_told catalog limits past e stmt plan own step.asks step.works step.doing step.is_own affected found warnings stays auto turned.told.0) (no_rows, turned.told.1) mid shown closes is
  replied_turn mid shown closes (replies.Rows columns rows stays auto) rowless is turned =
      ended_turn (replies.Rows columns rows stays auto) turned stays auto turned.told.0 tt (answered_by (replies.Rows columns rows stays auto) (tags.Rows stays auto))
      (allows_rows catalog limits past e stmt plan own step.planned step.works step.is_own columns rows stays auto turned)
      (rows_told catalog limits past e stmt plan own step.asks step.works step.doing step.is_own stays auto turned.told.0)
      (step.works, result_anyway catalog (Happened e ∷ past) e.session stmt (session (now_of e past) e.session) (session (Happened e ∷ past) e.session) plan columns rows step.works turned.told.1) mid shown closes is

  pub told_turn : (mid : PortView) → mid.shards ≡ new.shards → ((n : ℕ) → AreClosed after 0 n mid newer → AreClosed after 0 n new newer) → (told : ProgramTold) (program : Program)
      → ((affected found warnings : ℕ) (stays auto : Bool) → told ≡ tells.Reply (replies.Ok affected found warnings stays auto) → gives_rows stmt ≡ false) → Turned catalog limits past e stmt plan own told
      → (GoesOn told → Course catalog limits (Happened e ∷ past) e.session stmt plan own after (tries_of program) (wrote program)) → (GoesOn told → IsProgramAt catalog limits (Happened e ∷ past) e.session plan program)
      → IsToldAs told after program opens done mid turn newer → Answered
  told_turn mid shown closes tells.More program rowless turned course stands is =
      answering_as _ mid is.0 is.1 shown (more_turn catalog limits past count e stmt plan own tx after old new step opens done program (turn_as _ is.0) turned (course tt) (stands tt))
  told_turn mid shown closes (tells.Held by key tries) program rowless turned course stands is =
      answering_as _ mid is.0 is.1 shown (held_turn catalog limits past count e stmt plan own tx after old new step opens done program by key tries (turn_as _ is.0) turned (course tt) (stands tt))
  told_turn mid shown closes (tells.Reply reply) program rowless turned course stands is =
      replied_turn mid shown closes reply (λ affected found warnings stays auto same. rowless affected found warnings stays auto (ap (λ (r : Reply). tells.Reply r) same)) is turned
