use Rattle.std.proofs.Common.{List, ℕ, ap, ◌∙◌, arith}
use Rattle.vl_vindex.specs.KeyRange.{comes_before}
use Rattle.vl_vindex.proofs.ByteOrder.{before_nil}
use Rattle.vl_vindex.proofs.ring.last_start.Goals as goal

pub loop-high-init : goal.loop-high-init
loop-high-init c = (
  c.requires.some,
  omega arith,
  λ d. ap (λ (s : List ℕ). comes_before c.args.ksid.now s) (c.requires.first d) ∙ before_nil c.args.ksid.now,
  λ d past. absurd (omega arith),
)
