use Rattle.std.proofs.Common.{append_assoc, ◌∙◌}
use Rattle.vl_load.proofs.refused.ring_line.Goals as goal

pub returns : goal.returns
returns c =
    let digits = c.as_bytes.ensures.value ∙ c.in_ok-digits.ensures.ok in
    simp append_assoc (rw digits at c.joined.ensures)
