use Rattle.vl_script.proofs.Cuts.{skips_empty, skips_first}
use Rattle.vl_script.proofs.whole_line.is_skipped.Goals as goal

pub returns-in-empty : goal.returns-in-empty
returns-in-empty c = skips_empty c.args.text.now c.in-empty.len_below

pub returns-in-len1-up : goal.returns-in-len1-up
returns-in-len1-up c = skips_first c.args.text.now c.in-len1-up.len_at_least
