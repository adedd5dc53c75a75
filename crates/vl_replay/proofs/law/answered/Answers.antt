use Rattle.vl_replay.proofs.Shown.{acted_held, acted_marks, acted_reads, found_stands, inserted_none}
use Rattle.vl_replay.proofs.law.answered.Goals as goal

pub returns : goal.returns
returns start = record { reads = acted_reads; marked = acted_marks; inserted = inserted_none; found = found_stands; held = acted_held }
