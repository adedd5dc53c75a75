use Rattle.vl_sql.proofs.printing.print_show_databases.Goals as goal

pub returns : goal.returns
returns c = c.in_ok-print_keys.ensures
