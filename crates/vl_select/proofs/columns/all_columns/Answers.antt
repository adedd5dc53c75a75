use Rattle.std.proofs.Common.{[], ◌++◌, ap, sym, ◌∙◌}
use Rattle.std.specs.List.{cons_option, filter_map, range_with_len}
use Rattle.vl_select.specs.Columns.{column_at}
use Rattle.vl_select.proofs.Gathered.{gathered_more, range_more}
use Rattle.vl_select.proofs.columns.all_columns.Goals as goal

pub loop-n-preserved : goal.loop-n-preserved
loop-n-preserved c =
    let h = column_at c.args.catalog.now c.args.table.now in
    gathered_more h (range_with_len 0 c.loop-n.n) c.loop-n.n c.loop-n.columns.items c.add.new.columns.items c.loop-n.invariant
    (c.in_ok-add.ensures ∙ ap (λ o. c.loop-n.columns.items ++ cons_option o []) c.in_ok-column.ensures)
    ∙ ap (filter_map h) (sym (range_more c.loop-n.n))
