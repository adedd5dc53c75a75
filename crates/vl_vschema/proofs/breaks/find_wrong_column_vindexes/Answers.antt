use Rattle.vl_vschema.proofs.breaks.find_wrong_column_vindexes.Goals as goal

pub returns : goal.returns
returns g c = rw (← c.get.ensures) c.find_in_tables.ensures
