-- The steps of a deed. `seen` is what rows and entries are before it: it says which keys an act obtains.
use Rattle.std.specs.Prelude.{ℕ, List, [], ◌∷◌, ◌++◌, Option, Some, None}
use Rattle.vl_values.specs.declared.group.Group.{Group}
use Rattle.vl_values.specs.declared.group.Group.TheVariants.{Pre, Main, Post}
use Rattle.vl_values.specs.declared.key.Key.{Key}
use Rattle.vl_catalog.specs.declared.catalog.Catalog.{Catalog}
use Rattle.vl_port.specs.declared.act.Act.{Act}
use Rattle.vl_port.specs.declared.act.Act.TheVariants.{Insert, Put, Remove, RemoveIf, Find}
use Rattle.vl_port.specs.declared.who.Who.{Who}
use Rattle.vl_port.specs.Acting.{row_left}
use Rattle.vl_run.specs.declared.deed.Deed.{Deed}
use Rattle.vl_run.specs.declared.deed.Deed.TheVariants as deeds
use Rattle.vl_run.specs.declared.ends.Ends.TheVariants as ends
use Rattle.vl_run.specs.declared.event.Event.{Event}
use Rattle.vl_run.specs.declared.mark.Mark.{Mark}
use Rattle.vl_run.specs.declared.mark.Mark.TheVariants as marks
use Rattle.vl_run.specs.Machine.{Machine, Step, taken_by}
use Rattle.vl_run.specs.Machine.Step.{LetGo, Settle, Take, Write}

-- ---- writes

-- the key that a write is of
abbrev pub written_key : Act → Option Key
written_key (Insert key row) = Some key
written_key (Put key row) = Some key
written_key (Remove key) = Some key
written_key (RemoveIf key column value) = Some key
written_key (Find pred locking) = None

-- the row that a write replaces, if it may replace one: an Insert replaces none
abbrev pub replaced : Act → Option Key
replaced (Insert key row) = None
replaced (Put key row) = Some key
replaced (Remove key) = Some key
replaced (RemoveIf key column value) = Some key
replaced (Find pred locking) = None

abbrev pub write_step : Who → Act → Option Key → List Step
write_step who act None = []
write_step who act (Some key) = Write who key (row_left act) (replaced act) ∷ []

-- the version that an act has written
abbrev pub writes : Who → Act → List Step
writes who act = write_step who act (written_key act)

-- ---- the steps of the one table: it has no entries, and a session of pre or post changes no row of it

abbrev pub row_writes : Option Group → Who → Act → List Step
row_writes None who act = []
row_writes (Some Pre) who act = []
row_writes (Some Main) who act = writes who act
row_writes (Some Post) who act = []

abbrev pub act_steps : Catalog → Machine → Mark → Who → ℕ → Act → List Step
act_steps catalog seen marks.Opens who shard act = []
act_steps catalog seen marks.Takes who shard act = Take who (taken_by catalog seen shard act) ∷ []
act_steps catalog seen marks.Looks who shard act = Take who (taken_by catalog seen shard act) ∷ []
act_steps catalog seen marks.Reads who shard act = Take who (taken_by catalog seen shard act) ∷ []
act_steps catalog seen marks.Writes who shard act = Take who (taken_by catalog seen shard act) ∷ row_writes who.group who act

abbrev pub commit_steps : Option Group → Who → ℕ → List Step
commit_steps None who shard = []
commit_steps (Some Pre) who shard = LetGo (ends.One who shard) ∷ []
commit_steps (Some Main) who shard = Settle who shard ∷ []
commit_steps (Some Post) who shard = LetGo (ends.One who shard) ∷ []

abbrev pub deed_steps : Catalog → Machine → Deed → List Step
deed_steps catalog seen deeds.Nothing = []
deed_steps catalog seen (deeds.Acts who shard act mark) = act_steps catalog seen mark who shard act
deed_steps catalog seen (deeds.Commits who shard) = commit_steps who.group who shard
deed_steps catalog seen (deeds.Fails who shard) = []

-- what was done, and then the sessions that ended
abbrev pub steps_of : Catalog → Machine → Event → List Step
steps_of catalog seen e = deed_steps catalog seen e.deed ++ LetGo e.ends ∷ []

-- ---- the same where entries have versions too, as the shards have them

abbrev pub version_writes : Mark → Who → Act → List Step
version_writes marks.Opens who act = []
version_writes marks.Takes who act = []
version_writes marks.Looks who act = []
version_writes marks.Reads who act = []
version_writes marks.Writes who act = writes who act

abbrev pub act_takes : Catalog → Machine → Mark → Who → ℕ → Act → List Step
act_takes catalog seen marks.Opens who shard act = []
act_takes catalog seen marks.Takes who shard act = Take who (taken_by catalog seen shard act) ∷ []
act_takes catalog seen marks.Looks who shard act = Take who (taken_by catalog seen shard act) ∷ []
act_takes catalog seen marks.Reads who shard act = Take who (taken_by catalog seen shard act) ∷ []
act_takes catalog seen marks.Writes who shard act = Take who (taken_by catalog seen shard act) ∷ []

abbrev pub deed_moves : Catalog → Machine → Deed → List Step
deed_moves catalog seen deeds.Nothing = []
deed_moves catalog seen (deeds.Acts who shard act mark) = act_takes catalog seen mark who shard act ++ version_writes mark who act
deed_moves catalog seen (deeds.Commits who shard) = Settle who shard ∷ []
deed_moves catalog seen (deeds.Fails who shard) = []

abbrev pub moves_of : Catalog → Machine → Event → List Step
moves_of catalog seen e = deed_moves catalog seen e.deed ++ LetGo e.ends ∷ []
