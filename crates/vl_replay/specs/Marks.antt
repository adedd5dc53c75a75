-- The deed of an act, by what the act came to.
use Rattle.std.specs.Prelude.{ℕ, Option, Some, None}
use Rattle.vl_values.specs.declared.group.Group.{Group}
use Rattle.vl_values.specs.declared.group.Group.TheVariants.{Pre, Main, Post}
use Rattle.vl_values.specs.declared.key.Key.{Key}
use Rattle.vl_catalog.specs.declared.catalog.Catalog.{Catalog}
use Rattle.vl_port.specs.declared.act.Act.{Act}
use Rattle.vl_port.specs.declared.answer.Answer.{Answer}
use Rattle.vl_port.specs.declared.answer.Answer.TheVariants.{Done, Unchanged, Rows, Found, Held, Lost, Device, Limit, Memory}
use Rattle.vl_port.specs.declared.outcome.Outcome.{Outcome}
use Rattle.vl_port.specs.declared.outcome.Outcome.TheVariants as outcomes
use Rattle.vl_port.specs.declared.who.Who.{Who}
use Rattle.vl_port.specs.Acting.{row_left}
use Rattle.vl_run.specs.declared.deed.Deed.{Deed}
use Rattle.vl_run.specs.declared.deed.Deed.TheVariants as deeds
use Rattle.vl_run.specs.declared.mark.Mark.{Mark}
use Rattle.vl_run.specs.declared.mark.Mark.TheVariants as marks
use Rattle.vl_run.specs.Deeds.{replaced, written_key}
use Rattle.vl_run.specs.Machine.{MayWrite}
use Rattle.vl_run.specs.Run.{Run, is_broken, state}

-- the act came back: its session wasn't lost and no device failed
abbrev pub HasComeBack : Answer → Type 0
HasComeBack Done = Unit {0}
HasComeBack Unchanged = Unit {0}
HasComeBack (Rows rows) = Unit {0}
HasComeBack (Found key row) = Unit {0}
HasComeBack (Held by key) = Unit {0}
HasComeBack (Lost why) = ⊥
HasComeBack Device = ⊥
HasComeBack (Limit what count) = Unit {0}
HasComeBack Memory = Unit {0}

-- the mark of an act that obtained its keys and wrote nothing: it names what the statement wants of the act
abbrev pub IsTaking : Mark → Type 0
IsTaking marks.Opens = ⊥
IsTaking marks.Takes = Unit {0}
IsTaking marks.Looks = Unit {0}
IsTaking marks.Reads = Unit {0}
IsTaking marks.Writes = ⊥

-- the mark by what an act came to. Want of memory, and what was lost, leave none
abbrev pub mark_of : Mark → Outcome → Option Mark
mark_of taking outcomes.Refused = None
mark_of taking outcomes.Opened = Some marks.Opens
mark_of taking outcomes.Took = Some taking
mark_of taking outcomes.Wrote = Some marks.Writes
mark_of taking (outcomes.Lost why) = None
mark_of taking outcomes.Device = None

abbrev pub deed_of : Who → ℕ → Act → Option Mark → Deed
deed_of who shard act None = deeds.Nothing
deed_of who shard act (Some mark) = deeds.Acts who shard act mark

-- ---- rows that clash with none

abbrev pub MayWriteKey : Catalog → Run → Who → Act → Option Key → Type 0
MayWriteKey catalog past who act None = Unit {0}
MayWriteKey catalog past who act (Some key) = MayWrite catalog (state catalog past) (is_broken past who.tx) who key (row_left act) (replaced act)

-- a write of main is one that the one table may make: its row clashes with none. One of pre or post is no write of a row
abbrev pub MayWriteRow : Catalog → Run → Who → Act → Option Group → Type 0
MayWriteRow catalog past who act None = Unit {0}
MayWriteRow catalog past who act (Some Pre) = Unit {0}
MayWriteRow catalog past who act (Some Main) = MayWriteKey catalog past who act (written_key act)
MayWriteRow catalog past who act (Some Post) = Unit {0}

-- where the act wrote
abbrev pub MayHaveWritten : Catalog → Run → Who → Act → Answer → Type 0
MayHaveWritten catalog past who act Done = MayWriteRow catalog past who act who.group
MayHaveWritten catalog past who act Unchanged = Unit {0}
MayHaveWritten catalog past who act (Rows rows) = Unit {0}
MayHaveWritten catalog past who act (Found key row) = Unit {0}
MayHaveWritten catalog past who act (Held by key) = Unit {0}
MayHaveWritten catalog past who act (Lost why) = Unit {0}
MayHaveWritten catalog past who act Device = Unit {0}
MayHaveWritten catalog past who act (Limit what count) = Unit {0}
MayHaveWritten catalog past who act Memory = Unit {0}
