use Rattle.std.proofs.Common.{[], ◌++◌, ap, get_or, sym, take, ◌∙◌}
use Rattle.std.specs.List.{cons_option, filter_map}
use Rattle.vl_select.specs.Columns.{column_at}
use Rattle.vl_select.proofs.Gathered.{gathered_more, taken_more}
use Rattle.vl_select.proofs.columns.some_columns.Goals as goal

pub loop-n-preserved : goal.loop-n-preserved
loop-n-preserved c =
    let h = column_at c.args.catalog.now c.args.table.now in
    gathered_more h (take c.loop-n.n-index c.args.numbers.now) (get_or c.args.numbers.now c.loop-n.n-index 0) c.loop-n.columns.items c.add.new.columns.items c.loop-n.invariant
    (c.in_ok-add.ensures ∙ ap (λ o. c.loop-n.columns.items ++ cons_option o []) c.in_ok-column.ensures)
    ∙ ap (filter_map h) (sym (taken_more c.args.numbers.now c.loop-n.n-index c.loop-n-test.true))
