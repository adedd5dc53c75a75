use Rattle.std.proofs.Common.{List, sym, ap, ◌∙◌}
use Rattle.vl_grammar.specs.Item.{Item}
use Rattle.vl_grammar.specs.Layout.{added}
use Rattle.vl_grammar.proofs.Laying.{added_none, added_list, joined_none}
use Rattle.vl_sql.specs.Separator.{item_between}
use Rattle.vl_sql.proofs.printed.print_joined.Goals as goal

pub returns-in-empty : goal.returns-in-empty
returns-in-empty g c = sym (added_none c.args.writer.now) ∙ ap (λ (is : List Item). added c.args.writer.now is) (joined_none (item_between c.args.separator) g.P.Printed.items c.args.list.now c.in-empty.len_below)

pub returns-in_ok-print_rest-in-len1-up : goal.returns-in_ok-print_rest-in-len1-up
returns-in_ok-print_rest-in-len1-up g c =
    added_list (item_between c.args.separator) g.P.Printed.items c.args.list.now c.first-item.result c.args.writer.now c.print.new.writer c.print_rest.new.writer
    c.in-len1-up.len_at_least c.first-item.is c.in_ok-print-in-len1-up.ensures c.in_ok-print_rest-in-len1-up.ensures
