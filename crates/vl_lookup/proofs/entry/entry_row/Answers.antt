use Rattle.std.proofs.Common.{List, ◌++◌, ◌∷◌, [], sym, ◌∙◌, ap, arith}
use Rattle.std.proofs.lemmas.List.FromFn.{map-range_with_len_more}
use Rattle.vl_values.specs.declared.value.Value.{Value}
use Rattle.vl_lookup.specs.Entry.{entry_row, entry_value}
use Rattle.vl_lookup.proofs.entry.entry_row.Goals as goal

pub loop-n-preserved : goal.loop-n-preserved
loop-n-preserved c =
    c.in_ok-push.ensures.items
    ∙ ap (λ (values : List Value). values ++ c.in_ok-value.value ∷ []) c.loop-n.invariant
    ∙ ap (λ (value : Value). entry_row c.args.row.now c.args.columns.now c.args.from.now c.args.to c.args.ksid.now c.loop-n.n ++ value ∷ []) c.in_ok-value.ensures
    ∙ sym (map-range_with_len_more (entry_value c.args.row.now c.args.columns.now c.args.from.now c.args.to c.args.ksid.now) 0 c.loop-n.n c.loop-n.n (omega arith))
