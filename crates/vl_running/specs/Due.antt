-- Who does the act that is due of a program, and what it is where its keys were obtained and nothing was written.
use Rattle.std.specs.Prelude.{ℕ}
use Rattle.vl_values.specs.declared.group.Group.{Group}
use Rattle.vl_port.specs.declared.act.Act.{Act}
use Rattle.vl_port.specs.declared.tx_state.TxState.{TxState}
use Rattle.vl_port.specs.declared.who.Who.{Who}
use Rattle.vl_port.specs.Transaction.{session_of}
use Rattle.vl_exec.specs.declared.program.Program.{Program}
use Rattle.vl_exec.specs.declared.program.Program.TheVariants as programs
use Rattle.vl_run.specs.declared.mark.Mark.{Mark}
use Rattle.vl_run.specs.declared.mark.Mark.TheVariants as marks
use Rattle.vl_course.specs.Selecting.{mark_of, reader_of}

abbrev pub who_due : TxState → Program → Group → ℕ → Act → Who
who_due tx (programs.Insert p) group shard act = session_of tx group
who_due tx (programs.Select p) group shard act = reader_of tx (record { group = group; shard = shard; act = act })
who_due tx (programs.Change p) group shard act = session_of tx group

abbrev pub mark_due : Program → Mark
mark_due (programs.Insert p) = marks.Takes
mark_due (programs.Select p) = mark_of p
mark_due (programs.Change p) = marks.Reads
