use Rattle.std.proofs.Common.{◌≡◌, ◌+◌, List, length, false, ℕ, sym, ◌∙◌, subst, arith}
use Rattle.vl_vindex.specs.Checking.{IsCovered}
use Rattle.vl_vindex.proofs.Chain.{covered_none, covered_next, ring_when_covered, gap_at_end, fault_when_missed}
use Rattle.vl_vindex.proofs.ring.check.Goals as goal

pub loop-range-init : goal.loop-range-init
loop-range-init c =
    let P : List ℕ → Type 0 = λ reached. IsCovered c.args.ranges.now reached false 0 in
    subst P (sym c.empty-reached.ensures) (covered_none c.args.ranges.now)

pub returns-in-Err-clause-fault : goal.returns-in-Err-clause-fault
returns-in-Err-clause-fault c =
    fault_when_missed c.args.ranges.now c.loop-range.reached c.loop-range.endless c.loop-range.range-index c.range-item.result
    c.in-Err.fault c.loop-range.invariant c.loop-range-test.true c.range-item.is c.requires.order c.in-Err.ensures.fault

pub loop-range-preserved : goal.loop-range-preserved
loop-range-preserved c =
    let reached : c.copy-reached.result ≡ c.range-item.result.end = c.copy-reached.ensures ∙ c.end.ensures.value in
    let P : List ℕ → Type 0 = λ xs. IsCovered c.args.ranges.now xs c.is_empty-endless.result (c.loop-range.range-index + 1) in
    subst P (sym reached) (covered_next c.args.ranges.now c.loop-range.reached c.loop-range.endless c.is_empty-endless.result
    c.loop-range.range-index c.range-item.result c.loop-range.invariant c.loop-range-test.true c.range-item.is
    c.in_default.ensures.ok
    (λ open_end. sym reached ∙ c.is_empty-endless.ensures.0 open_end, λ none. c.is_empty-endless.ensures.1 (reached ∙ none)))

pub returns-then-endless-clause-ok : goal.returns-then-endless-clause-ok
returns-then-endless-clause-ok c =
    let whole : c.loop-range.range-index ≡ length c.args.ranges.now = omega arith in
    let P : ℕ → Type 0 = λ n. IsCovered c.args.ranges.now c.loop-range.reached c.loop-range.endless n in
    ring_when_covered c.args.ranges.now c.loop-range.reached c.loop-range.endless (subst P whole c.loop-range.invariant)
    c.if-endless.true c.requires.order c.requires.few

pub returns-else-endless-clause-fault : goal.returns-else-endless-clause-fault
returns-else-endless-clause-fault c =
    let whole : c.loop-range.range-index ≡ length c.args.ranges.now = omega arith in
    let P : ℕ → Type 0 = λ n. IsCovered c.args.ranges.now c.loop-range.reached c.loop-range.endless n in
    gap_at_end c.args.ranges.now c.loop-range.reached c.loop-range.endless (subst P whole c.loop-range.invariant) c.if-endless.false
