use Rattle.vl_grammar.proofs.Laying.{then_added}
use Rattle.vl_sql.proofs.printing.print_version_comment.Goals as goal

pub returns : goal.returns
returns c =
    then_added c.args.writer.now c.key-2.new.self c.digits.new.self _ _
    (then_added c.args.writer.now c.variable.new.self c.key-2.new.self _ _
    (then_added c.args.writer.now c.key.new.self c.variable.new.self _ _ c.in_ok-key.ensures c.in_ok-variable.ensures)
    c.in_ok-key-2.ensures)
    c.in_ok-digits.ensures
