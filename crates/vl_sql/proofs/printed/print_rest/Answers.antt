use Rattle.std.proofs.Common.{◌∷◌, sym}
use Rattle.vl_grammar.proofs.Laying.{added_none, added_more}
use Rattle.vl_sql.specs.Separator.{item_between}
use Rattle.vl_sql.proofs.printed.print_rest.Goals as goal

pub loop-member-init : goal.loop-member-init
loop-member-init g c = sym (added_none c.args.writer.now)

pub loop-member-preserved : goal.loop-member-preserved
loop-member-preserved g c =
    added_more (λ m. item_between c.args.separator ∷ g.P.Printed.items m) c.args.rest.now c.loop-member.member-index c.args.writer.now c.loop-member.writer c.print_next.new.writer c.member-item.result
    c.loop-member.invariant c.loop-member-test.true c.member-item.is c.in_ok-print_next.ensures
