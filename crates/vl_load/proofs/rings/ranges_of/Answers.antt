use Rattle.std.proofs.Common.{◌≡◌, ◌∷◌, ◌+◌, ◌∙◌, ap, sym, drop}
use Rattle.std.proofs.lemmas.List.{drop_more}
use Rattle.vl_vindex.specs.KeyRange.{IsRead}
use Rattle.vl_load.specs.Rings.{IsBadRange}
use Rattle.vl_load.specs.Turns.{IsFirst}
use Rattle.vl_load.proofs.Faults.{unfit}
use Rattle.vl_load.proofs.Turns.{first_that_fails, one_more}
use Rattle.vl_load.proofs.rings.ranges_of.Goals as goal

pub returns-in-Err-clause-err : goal.returns-in-Err-clause-err
returns-in-Err-clause-err c =
    let texts = c.args.texts.now in
    let i = c.loop-text.text-index in
    let text = c.text-item.result in
    let left : drop i texts ≡ text ∷ drop (i + 1) texts = drop_more texts i text c.loop-text-test.true ∙ ap (λ t. t ∷ drop (i + 1) texts) (sym c.text-item.is) in
    unfit (IsBadRange text) (IsFirst IsRead IsBadRange texts) c.in-Err.fault
    (λ fault bad. first_that_fails IsRead IsBadRange texts (drop i texts) text (drop (i + 1) texts) c.loop-text.ranges.items fault c.loop-text.invariant left bad)
    c.in-Err.ensures.err

pub loop-text-preserved : goal.loop-text-preserved
loop-text-preserved c =
    let texts = c.args.texts.now in
    let i = c.loop-text.text-index in
    let text = c.text-item.result in
    let left : drop i texts ≡ text ∷ drop (i + 1) texts = drop_more texts i text c.loop-text-test.true ∙ ap (λ t. t ∷ drop (i + 1) texts) (sym c.text-item.is) in
    one_more IsRead texts (drop i texts) text (drop (i + 1) texts) c.loop-text.ranges.items c.push.new.self.items c.in-Ok.range c.loop-text.invariant left c.in-Ok.ensures.ok c.in_ok-push-in-Ok.ensures.items
