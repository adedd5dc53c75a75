-- What a turn keeps of its step, and what its event says of that.
use Rattle.std.proofs.Common.{◌≡◌, ◌∙◌, ◌||◌, ◌∷◌, nat_lt, if◌then◌else◌, ℕ, Bool, true, false, List, length, Option, Some, None, refl, sym, ap}
use Rattle.std.specs.Option.{is_some, option_map}
use Rattle.vl_values.specs.declared.reply.Reply.{Reply}
use Rattle.vl_values.specs.declared.reply.Reply.TheVariants as replies
use Rattle.vl_catalog.specs.declared.catalog.Catalog.{Catalog}
use Rattle.vl_sql.specs.declared.stmt.Stmt.{Stmt}
use Rattle.vl_port.specs.declared.limits.Limits.{Limits}
use Rattle.vl_port.specs.declared.tx_state.TxState.{TxState}
use Rattle.vl_port.specs.declared.who.Who.{Who}
use Rattle.vl_port.specs.Transaction.{last_tx}
use Rattle.vl_plan.specs.declared.plan.Plan.{Plan}
use Rattle.vl_commit.specs.declared.commit_told.CommitTold.{CommitTold}
use Rattle.vl_commit.specs.declared.commit_told.CommitTold.TheVariants as told
use Rattle.vl_commit.specs.declared.warning.Warning.{Warning}
use Rattle.vl_commit.specs.Sessions.{Session as ShardSession}
use Rattle.vl_commit.specs.Stepping.{Committing, TellsOf}
use Rattle.vl_run.specs.declared.deed.Deed.{Deed}
use Rattle.vl_run.specs.declared.deed.Deed.TheVariants as deeds
use Rattle.vl_run.specs.declared.event.Event.{Event}
use Rattle.vl_run.specs.declared.request.Request.{Request}
use Rattle.vl_run.specs.declared.request.Request.TheVariants as requests
use Rattle.vl_run.specs.declared.tag.Tag.{Tag}
use Rattle.vl_run.specs.declared.tag.Tag.TheVariants as tags
use Rattle.vl_run.specs.declared.what.What.TheVariants as whats
use Rattle.vl_run.specs.Allowed.{IsAsked, now_of, tag_of}
use Rattle.vl_run.specs.Progress.{session}
use Rattle.vl_run.specs.Run.{Run, kills, was_killed}
use Rattle.vl_run.specs.Run.Point.{Happened}
use Rattle.vl_run.specs.Session.{IsTold, Kind, Owned, Session, answered, auto_done, done_by, is_committing, kind_of, owned_done, refused_by, said as with_said}
use Rattle.vl_run.specs.Session.Kind.{Begins, Commits, RollsBack, SetsAuto, Stays, Works}
use Rattle.vl_replay.specs.Ending.{IsNoAct}
use Rattle.vl_course.specs.Course.{IsApart}
use Rattle.vl_course.specs.Turning.{IsOfStmt}
use Rattle.vl_course.proofs.Behind.{session_answered, session_said, session_stepped}
use Rattle.vl_course_commit.specs.Committing.{IsReplyOf, completed}
use Rattle.vl_course_commit.specs.Dealing.{IsDoneTag, IsOfSession}
use Rattle.vl_course_commit.proofs.Leaving.{commit_no_act}
use Rattle.vl_session.specs.declared.purpose.Purpose.{Purpose}
use Rattle.vl_session.specs.declared.purpose.Purpose.TheVariants as purposes
use Rattle.vl_session.specs.declared.turn.Turn.{Turn}
use Rattle.vl_session.specs.Standing.{IsPurposeOf}
use Rattle.vl_committing.specs.declared.dealt.Dealt.{Dealt}
use Rattle.vl_committing.specs.Telling.{begins, counted, deed_of, ended, named, told_as}

never : true ≡ false → ⊥
never same = cc

-- ---- the parts of a turn

pub record HasParts (dealt : Dealt) (turn : Turn) : Type 0 where
  pub deed : turn.deed ≡ dealt.deed
  pub visits : turn.visits ≡ dealt.visits
  pub fault : turn.fault ≡ dealt.fault

parts_begins : (b : Bool) (dealt : Dealt) (tx : TxState) (next count : ℕ) (reply : Reply) → HasParts dealt (begins b dealt tx next count reply)
parts_begins true dealt tx next count reply = record { deed = refl; visits = refl; fault = refl }
parts_begins false dealt tx next count reply = record { deed = refl; visits = refl; fault = refl }

parts_ended : (purpose : Purpose) (dealt : Dealt) (tx : TxState) (next count : ℕ) (reply : Reply) → HasParts dealt (ended purpose dealt tx next count reply)
parts_ended purposes.Statement dealt tx next count reply = record { deed = refl; visits = refl; fault = refl }
parts_ended purposes.Commit dealt tx next count reply = record { deed = refl; visits = refl; fault = refl }
parts_ended purposes.Begin dealt tx next count reply = parts_begins (nat_lt last_tx next) dealt tx next count reply
parts_ended purposes.Autocommit dealt tx next count reply = record { deed = refl; visits = refl; fault = refl }

pub parts : (catalog : Catalog) (next : ℕ) (reply : Reply) (purpose : Purpose) (dealt : Dealt) (new : Committing) (tells : CommitTold) → HasParts dealt (told_as catalog next reply purpose dealt new tells)
parts catalog next reply purpose dealt new told.More = record { deed = refl; visits = refl; fault = refl }
parts catalog next reply purpose dealt new (told.Ok warnings) = parts_ended purpose dealt new.tx next (counted (length warnings)) reply
parts catalog next reply purpose dealt new (told.Failed group done of_ shard why) = record { deed = refl; visits = refl; fault = refl }

-- ---- what its event says

pub of_session : (e : Event) (c : Committing) (done : Bool) (o : Option ShardSession) → e.deed ≡ deed_of (option_map (named c.tx) o) done → e.visits ≡ option_map (λ (it : Who × ℕ). it.1) (option_map (named c.tx) o) → IsOfSession e c done o
of_session e c done None deed visits = (deed, visits)
of_session e c done (Some it) deed visits = (deed, visits)

pub deed_no_act : (o : Option (Who × ℕ)) (done : Bool) → IsNoAct (deed_of o done)
deed_no_act None done = tt
deed_no_act (Some it) done = commit_no_act done it.0 it.1

pub no_act_apart : (deed : Deed) (tx : ℕ) → IsNoAct deed → IsApart deed tx
no_act_apart deeds.Nothing tx none = tt
no_act_apart (deeds.Acts who shard act mark) tx none = absurd none
no_act_apart (deeds.Commits who shard) tx none = tt
no_act_apart (deeds.Fails who shard) tx none = tt

pub asks_of : (s : Session) (request : Request) (stmt : Stmt) → IsAsked s request stmt → IsOfStmt request stmt
asks_of s (requests.Say said) stmt asked = asked.1
asks_of s requests.Step stmt asked = tt
asks_of s requests.Join stmt asked = absurd asked
asks_of s requests.Reset stmt asked = absurd asked
asks_of s requests.Leave stmt asked = absurd asked
asks_of s (requests.Kill who shard) stmt asked = absurd asked

kills_none : (request : Request) (stmt : Stmt) (who : Who) (shard : ℕ) (before : Bool) → IsOfStmt request stmt → (kills request shard who || before) ≡ before
kills_none (requests.Say said) stmt who shard before asks = refl
kills_none requests.Step stmt who shard before asks = refl
kills_none requests.Join stmt who shard before asks = absurd asks
kills_none requests.Reset stmt who shard before asks = absurd asks
kills_none requests.Leave stmt who shard before asks = absurd asks
kills_none (requests.Kill other at) stmt who shard before asks = absurd asks

pub killed_after : (e : Event) (past : Run) (stmt : Stmt) (who : Who) (shard : ℕ) → IsOfStmt e.request stmt → was_killed (Happened e ∷ past) who shard ≡ was_killed past who shard
killed_after e past stmt who shard asks = kills_none e.request stmt who shard (was_killed past who shard) asks

-- ---- the session before it was asked

-- without a transaction that opens, the ask leaves the one that is open
pub owned_before : (e : Event) (past : Run) (stmt : Stmt) (own : Owned) (request : Request) → e.request ≡ request → IsOfStmt request stmt → e.opens ≡ None → (session (now_of e past) e.session).owned ≡ Some own → (session past e.session).owned ≡ Some own
owned_before e past stmt own (requests.Say said) is asks opens owned =
    sym (ap (λ (s : Session). s.owned) (session_said e past said is ∙ ap (λ (o : Option ℕ). with_said said o (session past e.session)) opens)) ∙ owned
owned_before e past stmt own requests.Step is asks opens owned = sym (ap (λ (s : Session). s.owned) (session_stepped e past is)) ∙ owned
owned_before e past stmt own requests.Join is asks opens owned = absurd asks
owned_before e past stmt own requests.Reset is asks opens owned = absurd asks
owned_before e past stmt own requests.Leave is asks opens owned = absurd asks
owned_before e past stmt own (requests.Kill who shard) is asks opens owned = absurd asks

-- ---- the session behind it

answered_done : (tag : Tag) (stmt : Stmt) (opens : Option ℕ) (s : Session) → IsDoneTag tag → answered tag stmt opens s ≡ done_by stmt opens s
answered_done tags.Nothing stmt opens s is = absurd is
answered_done tags.More stmt opens s is = absurd is
answered_done (tags.Held by tries) stmt opens s is = absurd is
answered_done (tags.Ok affected found warnings tx auto) stmt opens s is = refl
answered_done (tags.Rows tx auto) stmt opens s is = refl
answered_done (tags.Err code tx) stmt opens s is = absurd is

pub session_done : (e : Event) (past : Run) (stmt : Stmt) → IsOfStmt e.request stmt → (session (now_of e past) e.session).doing ≡ Some stmt → IsDoneTag e.told → session (Happened e ∷ past) e.session ≡ done_by stmt e.opens (session (now_of e past) e.session)
session_done e past stmt asks doing is = session_answered e past stmt asks doing ∙ answered_done e.told stmt e.opens (session (now_of e past) e.session) is

pub session_refused : (e : Event) (past : Run) (stmt : Stmt) (code : ℕ) → IsOfStmt e.request stmt → (session (now_of e past) e.session).doing ≡ Some stmt → e.told ≡ tags.Err code false → session (Happened e ∷ past) e.session ≡ refused_by false (session (now_of e past) e.session)
session_refused e past stmt code asks doing is = session_answered e past stmt asks doing ∙ ap (λ (t : Tag). answered t stmt e.opens (session (now_of e past) e.session)) is

-- ---- the reply

pub done_tag : (catalog : Catalog) (now : Run) (n : ℕ) (stmt : Stmt) (plan : Plan) (reply : Reply) (count : ℕ) (tx auto : Bool) → IsReplyOf catalog now n stmt plan reply → IsDoneTag (tag_of (whats.Reply (completed count tx auto reply)))
done_tag catalog now n stmt plan (replies.Ok affected found warnings stays on) count tx auto is = tt
done_tag catalog now n stmt plan (replies.Rows columns rows stays on) count tx auto is = tt
done_tag catalog now n stmt plan (replies.Err code why stays) count tx auto is = absurd is

pub told_truly : (catalog : Catalog) (now : Run) (n : ℕ) (stmt : Stmt) (plan : Plan) (reply : Reply) (count : ℕ) (tx auto : Bool) (s : Session) → IsReplyOf catalog now n stmt plan reply → tx ≡ is_some s.owned → auto ≡ s.auto → IsTold (tag_of (whats.Reply (completed count tx auto reply))) s
told_truly catalog now n stmt plan (replies.Ok affected found warnings stays on) count tx auto s is owned on_ = (owned, on_)
told_truly catalog now n stmt plan (replies.Rows columns rows stays on) count tx auto s is owned on_ = (owned, on_)
told_truly catalog now n stmt plan (replies.Err code why stays) count tx auto s is owned on_ = absurd is

-- a statement without a table is answered by no rows here
pub record IsCount (reply : Reply) : Type 0 where
  pub affected : ℕ
  pub found : ℕ
  pub warnings : ℕ
  pub tx : Bool
  pub auto : Bool
  pub is : reply ≡ replies.Ok affected found warnings tx auto

pub counts : (catalog : Catalog) (now : Run) (n : ℕ) (stmt : Stmt) (plan : Plan) (reply : Reply) → kind_of stmt ≡ Begins → IsReplyOf catalog now n stmt plan reply → IsCount reply
counts catalog now n stmt plan (replies.Ok affected found warnings tx auto) begins is = record { affected = affected; found = found; warnings = warnings; tx = tx; auto = auto; is = refl }
counts catalog now n stmt plan (replies.Rows columns rows tx auto) begins is = absurd (apart (sym begins ∙ is.0))
  where
    apart : Begins ≡ Works → ⊥
    apart same = cc
counts catalog now n stmt plan (replies.Err code why tx) begins is = absurd is

-- ---- the kind of statement, by the purpose of its commit

-- no other purpose is that of a BEGIN
pub no_begin_statement : purposes.Statement ≡ purposes.Begin → ⊥
no_begin_statement same = cc

pub no_begin_commit : purposes.Commit ≡ purposes.Begin → ⊥
no_begin_commit same = cc

pub no_begin_auto : purposes.Autocommit ≡ purposes.Begin → ⊥
no_begin_auto same = cc

module _ (catalog : Catalog) (limits : Limits) (now : Run) (n : ℕ) where
  abbrev Fits : Kind → Purpose → Type 0
  Fits kind purpose = IsPurposeOf catalog limits now n kind purpose

  pub begins_by : (kind : Kind) → Fits kind purposes.Begin → kind ≡ Begins
  begins_by Works is = absurd (cc)
  begins_by Begins is = refl
  begins_by Commits is = absurd (cc)
  begins_by RollsBack is = absurd is
  begins_by (SetsAuto true) is = absurd (cc)
  begins_by (SetsAuto false) is = absurd is
  begins_by Stays is = absurd is

  pub not_begins : (kind : Kind) (purpose : Purpose) → Fits kind purpose → (purpose ≡ purposes.Begin → ⊥) → kind ≡ Begins → ⊥
  not_begins Works purpose is apart begins = cc begins
  not_begins Begins purpose is apart begins = apart is
  not_begins Commits purpose is apart begins = cc begins
  not_begins RollsBack purpose is apart begins = cc begins
  not_begins (SetsAuto on) purpose is apart begins = cc begins
  not_begins Stays purpose is apart begins = cc begins

  -- nothing stays open
  pub none_stays : (kind : Kind) (purpose : Purpose) (own : Owned) (opens : Option ℕ) → Fits kind purpose → (purpose ≡ purposes.Begin → ⊥) → is_committing kind (Some own) ≡ true → owned_done kind (Some own) opens ≡ None
  none_stays Works purpose own opens is apart commits = ap (λ b. if b then None else Some own) commits
  none_stays Begins purpose own opens is apart commits = absurd (apart is)
  none_stays Commits purpose own opens is apart commits = refl
  none_stays RollsBack purpose own opens is apart commits = absurd is
  none_stays (SetsAuto true) purpose own opens is apart commits = refl
  none_stays (SetsAuto false) purpose own opens is apart commits = absurd is
  none_stays Stays purpose own opens is apart commits = absurd is

  pub auto_stays : (kind : Kind) (purpose : Purpose) (auto : Bool) → Fits kind purpose → (purpose ≡ purposes.Autocommit → ⊥) → auto_done kind auto ≡ auto
  auto_stays Works purpose auto is apart = refl
  auto_stays Begins purpose auto is apart = refl
  auto_stays Commits purpose auto is apart = refl
  auto_stays RollsBack purpose auto is apart = absurd is
  auto_stays (SetsAuto true) purpose auto is apart = absurd (apart is)
  auto_stays (SetsAuto false) purpose auto is apart = absurd is
  auto_stays Stays purpose auto is apart = absurd is

  pub auto_set : (kind : Kind) (auto : Bool) → Fits kind purposes.Autocommit → auto_done kind auto ≡ true
  auto_set Works auto is = absurd (cc)
  auto_set Begins auto is = absurd (cc)
  auto_set Commits auto is = absurd (cc)
  auto_set RollsBack auto is = absurd is
  auto_set (SetsAuto true) auto is = refl
  auto_set (SetsAuto false) auto is = absurd is
  auto_set Stays auto is = absurd is

-- ---- the warnings

pub ok_told : (o : Option ShardSession) (next : Committing) (warnings : List Warning) (new : Committing) → TellsOf o next (told.Ok warnings) new → warnings ≡ next.warnings
ok_told None next warnings new says = same_list says.0
  where
    same_list : told.Ok warnings ≡ told.Ok next.warnings → warnings ≡ next.warnings
    same_list same = cc
ok_told (Some it) next warnings new says = absurd (apart says.0)
  where
    apart : told.Ok warnings ≡ told.More → ⊥
    apart same = cc
