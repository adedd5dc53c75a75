use Rattle.std.proofs.Common.{◌≡◌, ◌<◌, ◌∷◌, ◌+◌, List, Some, IsTrue, length, drop, arith, sym, ap, subst, ◌∙◌}
use Rattle.std.proofs.lemmas.List.{drop_more}
use Rattle.std.proofs.lemmas.Map.Keys.{any_passes_from_place}
use Rattle.std.proofs.lemmas.Option.{slice_get-get_or}
use Rattle.vl_values.specs.declared.key.Key.{Key}
use Rattle.vl_values.specs.Keyed.{is_key, is_among_keys}
use Rattle.vl_values.proofs.KeyOrder.{is_key-same}
use Rattle.vl_locks.specs.Taking.{IsOldBut}
use Rattle.vl_locks.proofs.Taken.{let_go, not_by_test, not_mine}
use Rattle.vl_locks.proofs.locks.Locks.untake_all.Goals as goal
use Rattle.vl_locks.proofs.locks.Locks.untake_all.Goals.{then-eq, else-eq}

pub loop-key-preserved : goal.loop-key-preserved
loop-key-preserved c =
    let fresh = c.args.fresh.now in
    let key = c.key-item.result in
    let i = c.loop-key.key-index in
    let rest = drop (c.loop-key.key-index + 1) c.args.fresh.now in
    let within : c.loop-key.key-index < length c.args.fresh.now = omega arith in
    let split : drop c.loop-key.key-index c.args.fresh.now ≡ c.key-item.result ∷ drop (c.loop-key.key-index + 1) c.args.fresh.now =
    drop_more fresh i key within ∙ ap (λ (k : Key). k ∷ rest) (sym c.key-item.is) in
    let among : IsTrue (is_among_keys c.args.fresh.now c.key-item.result) =
    any_passes_from_place (is_key key) fresh i key (slice_get-get_or fresh i key within ∙ ap Some (sym c.key-item.is)) (is_key-same key) in
    elim c.if-eq.branch [
      | then-eq w ↦
          rw w.self-is
          (record {
            others = λ before free old.
                let_go before key rest c.args.conn c.loop-key.self (subst (λ (l : List Key). IsOldBut before l c.args.conn c.loop-key.self) split (c.loop-key.invariant.others before free old))
                w.untake.new.self w.untake.ensures.holders (free key among);
            order = w.untake.ensures.order;
          })
      | else-eq w ↦
          rw w.self-is
          (record {
            others = λ before free old.
                not_mine before key rest c.args.conn c.loop-key.self (subst (λ (l : List Key). IsOldBut before l c.args.conn c.loop-key.self) split (c.loop-key.invariant.others before free old))
                (λ mine. not_by_test c.args.conn c.holder.result (sym c.eq.ensures ∙ w.if-eq.false) (c.holder.ensures.holder ∙ mine));
            order = c.loop-key.invariant.order;
          })
    ]
