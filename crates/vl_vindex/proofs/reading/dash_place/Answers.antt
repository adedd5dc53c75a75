use Rattle.std.proofs.Common.{◌+◌, ◌<◌, length, arith}
use Rattle.std.proofs.lemmas.List.{take_rest}
use Rattle.vl_vindex.proofs.Outside.{outside_at_start, outside_at_end}
use Rattle.vl_vindex.proofs.reading.dash_place.Goals as goal
use Rattle.vl_vindex.proofs.reading.dash_place.Goals.{then-dash-ne0-via-then-dash-ne0, then-dash-ne0-via-else-dash-ne0+then-dash-text, then-dash-ne0-via-else-dash-ne0+else-dash-text+then-text-dash-ne45, then-digits-ne0-via-then-digits-ne0, then-digits-ne0-via-else-digits-ne0+then-digits-rest}

pub returns-then-dash-ne0-clause-outside : goal.returns-then-dash-ne0-clause-outside
returns-then-dash-ne0-clause-outside c =
    outside_at_start c.args.text.now c.digit_run-dash.result c.requires c.digit_run-dash.ensures
    (elim c.then-dash-ne0.branch [
      | then-dash-ne0-via-then-dash-ne0 w ↦ λ even _ _. w.if-dash-ne0.true even
      | then-dash-ne0-via-else-dash-ne0+then-dash-text w ↦ λ _ early _. absurd (omega arith)
      | then-dash-ne0-via-else-dash-ne0+else-dash-text+then-text-dash-ne45 w ↦ λ _ _ dash. w.if-text-dash-ne45.true dash
    ])

pub returns-then-digits-ne0-clause-outside : goal.returns-then-digits-ne0-clause-outside
returns-then-digits-ne0-clause-outside c =
    let run = c.digit_run-dash.ensures in
    let within = run.within in
    let early : c.digit_run-dash.result < length c.args.text.now = omega arith in
    outside_at_end c.args.text.now _ c.digit_run-dash.result c.digit_run-digits.result run c.if-dash-ne0.false early
    c.if-text-dash-ne45.false (take_rest c.args.text.now (c.digit_run-dash.result + 1)) c.digit_run-digits.ensures
    (elim c.then-digits-ne0.branch [
      | then-digits-ne0-via-then-digits-ne0 w ↦ λ even _. w.if-digits-ne0.true even
      | then-digits-ne0-via-else-digits-ne0+then-digits-rest w ↦ λ _ whole. w.if-digits-rest.true whole
    ])
