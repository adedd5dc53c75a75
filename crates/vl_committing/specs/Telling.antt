-- What a step of a commit comes to.
use Rattle.std.specs.Prelude.{◌≡◌, ◌<◌, ℕ, [], Bool, true, false, nat_lt, if◌then◌else◌, length, Option, Some, None}
use Rattle.std.specs.Option.{option_map}
use Rattle.vl_values.specs.declared.cause.Cause.TheVariants as causes
use Rattle.vl_values.specs.declared.limit.Limit.TheVariants as quantities
use Rattle.vl_values.specs.declared.reply.Reply.{Reply}
use Rattle.vl_values.specs.Reply.{refusal}
use Rattle.vl_catalog.specs.declared.catalog.Catalog.{Catalog}
use Rattle.vl_port.specs.declared.tx_state.TxState.{TxState}
use Rattle.vl_port.specs.declared.who.Who.{Who}
use Rattle.vl_port.specs.Transaction.{last_tx, session_of}
use Rattle.vl_commit.specs.declared.commit_told.CommitTold.{CommitTold}
use Rattle.vl_commit.specs.declared.commit_told.CommitTold.TheVariants as told
use Rattle.vl_commit.specs.declared.failure.Failure.{Failure}
use Rattle.vl_commit.specs.Sessions.{Session, sessions}
use Rattle.vl_commit.specs.Stepping.{Committing, due}
use Rattle.vl_run.specs.declared.deed.Deed.{Deed}
use Rattle.vl_run.specs.declared.deed.Deed.TheVariants as deeds
use Rattle.vl_run.specs.declared.ends.Ends.{Ends}
use Rattle.vl_run.specs.declared.ends.Ends.TheVariants as ends
use Rattle.vl_run.specs.declared.what.What.{What}
use Rattle.vl_run.specs.declared.what.What.TheVariants as whats
use Rattle.vl_run.specs.Allowed.{failed_one}
use Rattle.vl_replay.specs.Ending.{committed_deed}
use Rattle.vl_course_commit.specs.Committing.{completed, fault_by}
use Rattle.vl_course_commit.specs.Dealing.{failure_told, refusal_of}
use Rattle.vl_session.specs.declared.purpose.Purpose.{Purpose}
use Rattle.vl_session.specs.declared.purpose.Purpose.TheVariants as purposes
use Rattle.vl_session.specs.declared.turn.Turn.{Turn}
use Rattle.vl_session.specs.declared.work.Work.{Work}
use Rattle.vl_session.specs.declared.work.Work.TheVariants as works
use Rattle.vl_committing.specs.declared.dealt.Dealt.{Dealt}

-- ---- what was done

-- the session that is due, by its name, and its shard
abbrev pub named : TxState → Session → Who × ℕ
named tx it = (session_of tx it.0, it.1)

abbrev pub due_named : Committing → Option (Who × ℕ)
due_named c = option_map (named c.tx) (due c)

-- it was committed where nothing failed. A session that was lost wasn't, as long as the link loses no message
abbrev pub is_done : Option Failure → Bool
is_done None = true
is_done (Some why) = false

abbrev pub deed_of : Option (Who × ℕ) → Bool → Deed
deed_of None done = deeds.Nothing
deed_of (Some it) done = committed_deed done it.0 it.1

abbrev pub dealt_as : Option (Who × ℕ) → Option Failure → Dealt
dealt_as due failure = record { visits = option_map (λ it. it.1) due; deed = deed_of due (is_done failure); fault = option_map fault_by failure }

abbrev pub dealt : Committing → CommitTold → Committing → Dealt
dealt c tells new = dealt_as (due_named c) (failure_told c tells new)

-- ---- what is told of it

abbrev pub turn : Dealt → Work → Option ℕ → Ends → What → Turn
turn dealt work opens ends what = record { work = work; opens = opens; visits = dealt.visits; deed = dealt.deed; fault = dealt.fault; ends = ends; what = what }

-- the transaction is refused, and is over
abbrev pub refused : Dealt → ℕ → Reply → Turn
refused dealt number reply = turn dealt (works.Idle None) None (ends.Whole number) (whats.Reply reply)

-- a reply counts warnings up to here
abbrev pub counted : ℕ → ℕ
counted count = if nat_lt 65535 count then 65535 else count

abbrev pub over : Dealt → Reply → Turn
over dealt reply = turn dealt (works.Idle None) None (failed_one dealt.deed) (whats.Reply reply)

-- the transaction that BEGIN opens
abbrev pub next_of : TxState → ℕ → TxState
next_of tx next = record { number = next; session = tx.session; limits = tx.limits; auto = tx.auto; single = false; pre = []; main = []; post = []; changes = 0; claimed = []; removed = [] }

-- where its number is above the last it is refused
abbrev pub begins : Bool → Dealt → TxState → ℕ → ℕ → Reply → Turn
begins true dealt tx next count reply = refused dealt tx.number (refusal (causes.Limit quantities.Transactions last_tx) false)
begins false dealt tx next count reply = turn dealt (works.Idle (Some (next_of tx next))) (Some next) (failed_one dealt.deed) (whats.Reply (completed count true tx.auto reply))

-- all sessions were dealt with: the reply with so many warnings
abbrev pub ended : Purpose → Dealt → TxState → ℕ → ℕ → Reply → Turn
ended purposes.Statement dealt tx next count reply = over dealt (completed count false tx.auto reply)
ended purposes.Commit dealt tx next count reply = over dealt (completed count false tx.auto reply)
ended purposes.Begin dealt tx next count reply = begins (nat_lt last_tx next) dealt tx next count reply
ended purposes.Autocommit dealt tx next count reply = over dealt (completed count false true reply)

module _ (catalog : Catalog) (next : ℕ) (reply : Reply) (purpose : Purpose) (dealt : Dealt) (new : Committing) where
  abbrev pub told_as : CommitTold → Turn
  told_as told.More = turn dealt (works.Committing new reply purpose) None (failed_one dealt.deed) whats.More
  told_as (told.Ok warnings) = ended purpose dealt new.tx next (counted (length warnings)) reply
  told_as (told.Failed group done of_ shard why) = refused dealt new.tx.number (refusal_of catalog group done of_ shard why)

-- ---- what the caller knows

-- where no number is left for a BEGIN, its commit has sessions to deal with. One without any has its last step where it is
-- said, and is refused there
abbrev pub CanBegin : TxState → ℕ → Purpose → Type 0
CanBegin tx next purpose = purpose ≡ purposes.Begin → last_tx < next → 0 < length (sessions tx)

-- a commit that goes on has another session to deal with
abbrev pub IsDueIn : Work → Type 0
IsDueIn (works.Idle tx) = Unit {0}
IsDueIn (works.Running tx program) = Unit {0}
IsDueIn (works.Committing commit reply purpose) = commit.at < length (sessions commit.tx)
