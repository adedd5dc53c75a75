use Rattle.std.proofs.Common.{◌≡◌, List, ℕ, true, sym, ap, ◌∙◌}
use Rattle.vl_vindex.specs.KeyRange.{comes_before}
use Rattle.vl_vindex.proofs.ByteOrder.{equal_is, greater_is}
use Rattle.vl_vindex.proofs.ring.follows.Goals as goal

pub returns-in-Equal-clause-ok : goal.returns-in-Equal-clause-ok
returns-in-Equal-clause-ok c = record {
  closed = c.if-endless.false;
  joined =
      let same = equal_is c.as_slice.result.now c.as_slice-2.result.now (sym c.in-Equal.ensures) in
      sym c.start-2.ensures.value ∙ sym c.as_slice-2.ensures.value ∙ sym same ∙ c.as_slice.ensures.value;
  ordered = c.start-2.ensures.ordered;
}

pub returns-in-Greater-clause-fault : goal.returns-in-Greater-clause-fault
returns-in-Greater-clause-fault c =
    let start : c.copy-in-Greater.result ≡ c.args.range.now.start = c.copy-in-Greater.ensures ∙ c.start-in-Greater.ensures.value in
    let before = greater_is c.as_slice.result.now c.as_slice-2.result.now (sym c.in-Greater.ensures) in
    let here : c.as_slice-2.result.now ≡ c.copy-in-Greater.result =
    c.as_slice-2.ensures.value ∙ c.start-2.ensures.value ∙ sym start in
    let reached : comes_before c.copy-in-Greater.result c.args.reached.now ≡ true =
    ap (λ (s : List ℕ). comes_before s c.args.reached.now) (sym here)
    ∙ ap (λ (r : List ℕ). comes_before c.as_slice-2.result.now r) (sym c.as_slice.ensures.value)
    ∙ before in
    (start, rw c.if-endless.false reached, c.start-2.ensures.ordered)
