-- What an answer says of the one table and of the entries, as they are before the event.
use Rattle.std.specs.Prelude.{Option, Some, None}
use Rattle.vl_port.specs.declared.act.Act.{Act}
use Rattle.vl_port.specs.declared.who.Who.{Who}
use Rattle.vl_run.specs.declared.mark.Mark.{Mark}
use Rattle.vl_run.specs.Machine.{Machine}
use Rattle.vl_run.specs.Named.{IsMarked}

-- the mark of the act, if it has one, is right
abbrev pub IsMarkedBy : Machine → Who → Act → Option Mark → Type 0
IsMarkedBy u who act None = Unit {0}
IsMarkedBy u who act (Some mark) = IsMarked u who act mark
