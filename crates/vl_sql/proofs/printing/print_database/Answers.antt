use Rattle.vl_grammar.proofs.Laying.{then_added}
use Rattle.vl_sql.proofs.printing.print_database.Goals as goal

pub returns : goal.returns
returns c =
    then_added c.args.writer.now c.sign.new.self c.sign-2.new.self _ _
    (then_added c.args.writer.now c.print_keys.new.writer c.sign.new.self _ _ c.in_ok-print_keys.ensures c.in_ok-sign.ensures)
    c.in_ok-sign-2.ensures
