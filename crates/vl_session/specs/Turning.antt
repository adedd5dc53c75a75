-- What one ask came to, as the event that it is.
use Rattle.std.specs.Prelude.{◌≡◌, ◌∷◌, ℕ}
use Rattle.vl_catalog.specs.declared.catalog.Catalog.{Catalog}
use Rattle.vl_sql.specs.declared.stmt.Stmt.{Stmt}
use Rattle.vl_port.specs.declared.limits.Limits.{Limits}
use Rattle.vl_port.specs.Serving.{Shards}
use Rattle.vl_run.specs.declared.deed.Deed.{Deed}
use Rattle.vl_run.specs.declared.deed.Deed.TheVariants as deeds
use Rattle.vl_run.specs.declared.event.Event.{Event}
use Rattle.vl_run.specs.declared.mark.Mark.{Mark}
use Rattle.vl_run.specs.declared.mark.Mark.TheVariants as marks
use Rattle.vl_run.specs.Allowed.{Answers, IsAsked, IsDone, Opens, now_of, tag_of}
use Rattle.vl_run.specs.Gathered.{shown}
use Rattle.vl_run.specs.Progress.{session}
use Rattle.vl_run.specs.Run.{Run, next_tx}
use Rattle.vl_run.specs.Run.Point.{Happened}
use Rattle.vl_run.specs.Session.{IsTold}
use Rattle.vl_course.specs.Course.{HasNext}
use Rattle.vl_replay.specs.Marks.{MayWriteRow}
use Rattle.vl_replay.specs.Showing.{Shows}
use Rattle.vl_session.specs.declared.turn.Turn.{Turn}
use Rattle.vl_session.specs.Ready.{IsWorkMarked}
use Rattle.vl_session.specs.Standing.{IsWorkAt}

-- the event keeps the turn; whose it is and what was asked are its own
pub record IsTurn (e : Event) (turn : Turn) : Type 0 where
  pub opens : e.opens ≡ turn.opens
  pub visits : e.visits ≡ turn.visits
  pub deed : e.deed ≡ turn.deed
  pub fault : e.fault ≡ turn.fault
  pub ends : e.ends ≡ turn.ends
  pub told : e.told ≡ tag_of turn.what

-- the event is one of this statement, behind a run that the shards show. It opens what the session's own state says
pub record IsEventOf (catalog : Catalog) (past : Run) (count : ℕ) (seen : Shards) (e : Event) (stmt : Stmt) : Type 0 where
  pub asked : IsAsked (session past e.session) e.request stmt
  pub opens : Opens past e stmt (session past e.session).owned e.opens
  pub shows : Shows catalog past count seen

-- a row that the event has written clashes with none
abbrev pub IsClearOf : Catalog → Run → Mark → Deed → Type 0
IsClearOf catalog past marks.Writes (deeds.Acts who shard act mark) = MayWriteRow catalog past who act who.group
IsClearOf catalog past _ deed = Unit {0}

abbrev pub IsClear : Catalog → Run → Deed → Type 0
IsClear catalog past deeds.Nothing = Unit {0}
IsClear catalog past (deeds.Acts who shard act mark) = IsClearOf catalog past mark (deeds.Acts who shard act mark)
IsClear catalog past (deeds.Commits who shard) = Unit {0}
IsClear catalog past (deeds.Fails who shard) = Unit {0}

-- the event is an answer that the run allows, where a row that was written clashes with none; behind it the shards show what the
-- run then says, and the work stands where it says
pub record Answering (catalog : Catalog) (limits : Limits) (past : Run) (count : ℕ) (e : Event) (turn : Turn) (seen : Shards) : Type 0 where
  pub answers : IsClear catalog past e.deed → Answers catalog limits past e turn.what
  -- also where it clashes, what was done is what the statement names next, and what is told of the session is true
  pub done : (stmt : Stmt) × IsDone catalog (shown catalog past) (now_of e past) e.session stmt (session (now_of e past) e.session).owned e.deed
  pub opens : HasNext (next_tx past) e.opens
  pub true_ : IsTold e.told (session (Happened e ∷ past) e.session)
  pub shows : Shows catalog (Happened e ∷ past) count seen
  pub stands : IsWorkAt catalog limits (Happened e ∷ past) e.session turn.work
  pub marked : IsWorkMarked (Happened e ∷ past) seen turn.work
