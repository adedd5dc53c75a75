-- A step of a commit, as the event that it is: what was done, and which answers it allows.
use Rattle.std.specs.Prelude.{◌≡◌, ℕ, Bool, true, false, length, slice_get, ◌∷◌, Option, Some, None}
use Rattle.std.specs.Option.{option_map}
use Rattle.vl_values.specs.declared.cause.Cause.{Cause}
use Rattle.vl_values.specs.declared.cause.Cause.TheVariants as causes
use Rattle.vl_values.specs.declared.group.Group.{Group}
use Rattle.vl_values.specs.declared.lost_why.LostWhy.{LostWhy}
use Rattle.vl_values.specs.declared.reply.Reply.{Reply}
use Rattle.vl_values.specs.declared.reply.Reply.TheVariants as replies
use Rattle.vl_values.specs.Cause.{error_code}
use Rattle.vl_catalog.specs.declared.catalog.Catalog.{Catalog}
use Rattle.vl_text.specs.ShardText.{shard_text}
use Rattle.vl_sql.specs.declared.stmt.Stmt.{Stmt}
use Rattle.vl_port.specs.declared.committed.Committed.{Committed}
use Rattle.vl_port.specs.declared.committed.Committed.TheVariants as outcomes
use Rattle.vl_port.specs.declared.limits.Limits.{Limits}
use Rattle.vl_port.specs.declared.who.Who.{Who}
use Rattle.vl_port.specs.Transaction.{session_of}
use Rattle.vl_plan.specs.declared.plan.Plan.{Plan}
use Rattle.vl_commit.specs.declared.commit_told.CommitTold.{CommitTold}
use Rattle.vl_commit.specs.declared.commit_told.CommitTold.TheVariants as told
use Rattle.vl_commit.specs.declared.failure.Failure.{Failure}
use Rattle.vl_commit.specs.declared.failure.Failure.TheVariants as failures
use Rattle.vl_commit.specs.declared.warning.Warning.{Warning}
use Rattle.vl_commit.specs.Sessions.{Session}
use Rattle.vl_commit.specs.Stepping.{Committing, due}
use Rattle.vl_run.specs.declared.deed.Deed.{Deed}
use Rattle.vl_run.specs.declared.deed.Deed.TheVariants as deeds
use Rattle.vl_run.specs.declared.ends.Ends.{Ends}
use Rattle.vl_run.specs.declared.ends.Ends.TheVariants as ends
use Rattle.vl_run.specs.declared.event.Event.{Event}
use Rattle.vl_run.specs.declared.tag.Tag.{Tag}
use Rattle.vl_run.specs.declared.tag.Tag.TheVariants as tags
use Rattle.vl_run.specs.declared.what.What.TheVariants as whats
use Rattle.vl_run.specs.Allowed.{Allows, IsDone, IsVisit, ends_due, failed_one, now_of}
use Rattle.vl_run.specs.Gathered.{shown}
use Rattle.vl_run.specs.Progress.{session}
use Rattle.vl_run.specs.Refused.{MayBeLost, MayDo}
use Rattle.vl_run.specs.Run.{Run, was_killed}
use Rattle.vl_run.specs.Run.Point.{Happened}
use Rattle.vl_run.specs.Session.{Owned, kind_of}
use Rattle.vl_replay.specs.Ending.{committed_deed}
use Rattle.vl_course.specs.Turning.{IsOfStmt}
use Rattle.vl_course_commit.specs.Committing.{IsCommitAt, IsReplyOf, completed, fault_by}

-- ---- the event of a step

-- what the outcome says of the run: a commit that was answered as done was done, one that was done is of a session that
-- wasn't killed, and what was lost has its cause
pub record IsDealt (past : Run) (who : Who) (shard : ℕ) (done : Bool) (outcome : Committed) : Type 0 where
  pub answered : outcome ≡ outcomes.Done → done ≡ true
  pub spared : done ≡ true → was_killed past who shard ≡ false
  pub lost : (reason : LostWhy) → outcome ≡ outcomes.Lost reason → MayBeLost past who shard reason

abbrev pub cause_of : Catalog → Group → ℕ → ℕ → ℕ → Failure → Cause
cause_of catalog group done of shard (failures.Lost why) = causes.CommitLost group done of (shard_text catalog shard) why
cause_of catalog group done of shard failures.Device = causes.CommitDevice group done of (shard_text catalog shard)

-- the refusal of a statement whose commit failed: no transaction stays open
abbrev pub refusal_of : Catalog → Group → ℕ → ℕ → ℕ → Failure → Reply
refusal_of catalog group done of shard why = replies.Err (error_code (cause_of catalog group done of shard why)) (cause_of catalog group done of shard why) false

abbrev pub IsDoneTag : Tag → Type 0
IsDoneTag tags.Nothing = ⊥
IsDoneTag tags.More = ⊥
IsDoneTag (tags.Held by tries) = ⊥
IsDoneTag (tags.Ok affected found warnings tx auto) = Unit {0}
IsDoneTag (tags.Rows tx auto) = Unit {0}
IsDoneTag (tags.Err code tx) = ⊥

-- the tag by what the commit tells
abbrev pub HasTag : Catalog → CommitTold → Tag → Type 0
HasTag catalog told.More tag = tag ≡ tags.More
HasTag catalog (told.Ok warnings) tag = IsDoneTag tag
HasTag catalog (told.Failed group done of shard why) tag = tag ≡ tags.Err (error_code (cause_of catalog group done of shard why)) false

-- why the commit of the step wasn't answered as done, if it wasn't: what ended the transaction, or the warning that came
abbrev pub failure_told : Committing → CommitTold → Committing → Option Failure
failure_told c told.More new = option_map (λ (warning : Warning). warning.why) (slice_get new.warnings (length c.warnings))
failure_told c (told.Ok warnings) new = option_map (λ (warning : Warning). warning.why) (slice_get warnings (length c.warnings))
failure_told c (told.Failed group done of shard why) new = Some why

-- the session that was due was committed on its shard, also where the answer was lost, or it wasn't; or none was left
abbrev pub IsOfSession : Event → Committing → Bool → Option Session → Type 0
IsOfSession e c done None = (e.deed ≡ deeds.Nothing) × (e.visits ≡ None)
IsOfSession e c done (Some session) = (e.deed ≡ committed_deed done (session_of c.tx session.0) session.1) × (e.visits ≡ Some session.1)

-- the event is this step of the commit
pub record IsCommitStep (catalog : Catalog) (e : Event) (stmt : Stmt) (c : Committing) (done : Bool) (tells : CommitTold) (new : Committing) : Type 0 where
  pub asked : IsOfStmt e.request stmt
  pub session : IsOfSession e c done (due c)
  pub fault : e.fault ≡ option_map fault_by (failure_told c tells new)
  pub tag : HasTag catalog tells e.told

-- ---- what the step may tell

-- the sessions that end with it: all of the transaction where a commit of pre or main failed, else the one whose commit
-- wasn't done
abbrev pub ends_of : CommitTold → Owned → Deed → Ends
ends_of told.More own deed = failed_one deed
ends_of (told.Ok warnings) own deed = failed_one deed
ends_of (told.Failed group done of shard why) own deed = ends.Whole own.number

module _ (catalog : Catalog) (limits : Limits) (past : Run) (e : Event) (stmt : Stmt) (plan : Plan) (own : Owned) where
  -- to go on; the reply of the statement, with the warnings of the commit; or the refusal
  abbrev pub MayAnswer : CommitTold → Type 0
  MayAnswer told.More = Allows catalog limits past e e.session stmt (session (now_of e past) e.session) whats.More
  MayAnswer (told.Ok warnings) = (reply : Reply) (tx auto : Bool) → IsReplyOf catalog (now_of e past) e.session stmt plan reply
      → Allows catalog limits past e e.session stmt (session (now_of e past) e.session) (whats.Reply (completed (length warnings) tx auto reply))
  MayAnswer (told.Failed group done of shard why) = Allows catalog limits past e e.session stmt (session (now_of e past) e.session) (whats.Reply (refusal_of catalog group done of shard why))

  -- the step is an event that the run allows, and where it goes on, the commit stands where the run then says
  pub record CommitTurned (tells : CommitTold) (new : Committing) : Type 0 where
    pub done : IsDone catalog (shown catalog past) (now_of e past) e.session stmt (session (now_of e past) e.session).owned e.deed
    pub may : MayDo limits (now_of e past) e.deed
    pub visit : IsVisit catalog (shown catalog past) (now_of e past) e.session stmt (session (now_of e past) e.session).owned e.deed e.visits
    pub ends : ends_due e.told (kind_of stmt) e.deed (session (now_of e past) e.session).owned ≡ ends_of tells own e.deed
    pub answers : MayAnswer tells
    pub stands : tells ≡ told.More → IsCommitAt catalog limits (Happened e ∷ past) e.session stmt plan own new
    pub keeps : tells ≡ told.More → (reply : Reply) → IsReplyOf catalog (now_of e past) e.session stmt plan reply → IsReplyOf catalog (Happened e ∷ past) e.session stmt plan reply
