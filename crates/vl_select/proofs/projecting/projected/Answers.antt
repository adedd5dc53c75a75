use Rattle.vl_select.proofs.projecting.projected.Goals as goal

pub returns-in-Columns : goal.returns-in-Columns
returns-in-Columns c = rw c.in-Columns.is (rw (← c.as_slice.ensures) c.all_picked.ensures)
