use Rattle.std.proofs.Common.{◌++◌, ◌∷◌, [], sym, ◌∙◌, ap}
use Rattle.std.specs.Option.{option_map}
use Rattle.vl_values.specs.declared.pred.Pred.{Pred}
use Rattle.vl_model.specs.Visiting.{entries_with, entry_read_in}
use Rattle.vl_route.proofs.Gathering.{take_none, take_some}
use Rattle.vl_route.proofs.visiting.entry_reads_in.Goals as goal
use Rattle.vl_route.proofs.visiting.entry_reads_in.Goals.{in-Some+in_ok-entries_with+in_ok-push, in_default}

pub loop-value-preserved : goal.loop-value-preserved
loop-value-preserved c =
    let gives = entry_read_in c.args.catalog.now c.args.table c.args.column in
    let with_shard = option_map (λ shard. (shard, entries_with c.args.table c.args.column c.value-item.result)) in
    elim c.match-place_of_value.branch [
      | in-Some+in_ok-entries_with+in_ok-push w ↦
          take_some gives c.args.values.now c.loop-value.value-index c.value-item.result (w.in-Some.shard, entries_with c.args.table c.args.column c.value-item.result) c.loop-value.reads.items c.match-place_of_value.reads.items
          c.loop-value-test.true c.value-item.is (ap with_shard (sym c.place_of_value.ensures ∙ w.in-Some.is)) c.loop-value.invariant
          (ap (λ v. v.items) w.reads-is ∙ w.in_ok-push.ensures.items ∙ ap (λ (p : Pred). c.loop-value.reads.items ++ (w.in-Some.shard, p) ∷ []) w.in_ok-entries_with.ensures)
      | in_default w ↦
          ap (λ v. v.items) w.reads-is
          ∙ take_none gives c.args.values.now c.loop-value.value-index c.value-item.result c.loop-value.reads.items c.loop-value-test.true c.value-item.is (ap with_shard (sym c.place_of_value.ensures ∙ w.in_default.is)) c.loop-value.invariant
    ]
