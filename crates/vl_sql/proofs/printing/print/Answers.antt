use Rattle.vl_sql.proofs.PrintedAgain.{printed_again}
use Rattle.vl_sql.proofs.printing.print.Goals as goal

pub returns-clause-again : goal.returns-clause-again
returns-clause-again c read h = printed_again c.args.stmt.now read c.in_ok-text.text c.in_ok-text.ensures h
