use Rattle.std.proofs.Common.{◌≡◌, ◌<◌, List, length, take, arith, sym, subst, ◌∙◌}
use Rattle.std.proofs.lemmas.List.{take_more}
use Rattle.vl_values.specs.declared.key.Key.{Key}
use Rattle.vl_values.specs.Keyed.{InKeyOrder}
use Rattle.vl_values.proofs.Keying.{same_entries}
use Rattle.vl_locks.specs.Taking.{IsOldBut, WereFree}
use Rattle.vl_locks.proofs.Taken.{has_taken_more}
use Rattle.vl_locks.proofs.locks.Locks.take_all.Goals as goal

pub loop-key-preserved : goal.loop-key-preserved
loop-key-preserved c =
    let old = c.args.self.now in
    let keys = c.args.keys.now in
    let key = c.key-item.result in
    let within : c.loop-key.key-index < length c.args.keys.now = omega arith in
    let more = take_more keys c.loop-key.key-index key within in
    rw (more, ← c.key-item.is)
    (has_taken_more old (take c.loop-key.key-index keys) c.args.conn c.loop-key.self c.loop-key.fresh.items c.loop-key.invariant key c.take_noted.new.self c.take_noted.new.fresh.items c.in_default.ensures.ok c.take_noted.ensures.order)

pub returns-in-Err-clause-err : goal.returns-in-Err-clause-err
returns-in-Err-clause-err c =
    let old = c.args.self.now in
    let list : c.as_slice.result.now ≡ c.loop-key.fresh.items = c.as_slice.ensures.value ∙ c.in-Err.ensures.err_fresh in
    let free = subst (WereFree old) (sym list) c.loop-key.invariant.free in
    let kept = subst (IsOldBut old c.loop-key.fresh.items c.args.conn) (sym c.in-Err.ensures.err) c.loop-key.invariant.others in
    let others = subst (λ (l : List Key). IsOldBut old l c.args.conn c.take_noted.new.self) (sym list) kept in
    same_entries c.untake_all.new.self old c.untake_all.ensures.order (subst InKeyOrder c.self.view_is c.self.invariant) (c.untake_all.ensures.holders old free others)
