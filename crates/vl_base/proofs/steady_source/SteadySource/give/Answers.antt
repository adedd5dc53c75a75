use Rattle.std.proofs.Common.{◌+◌, ◌-◌, ◌∙◌, ap, sym, ℕ, take, drop, arith}
use Rattle.std.proofs.lemmas.List.{length-take}
use Rattle.vl_base.proofs.Pieces.{given_front}
use Rattle.vl_base.proofs.steady_source.SteadySource.give.Goals as goal

pub returns-then-amount-gt0-clause-bytes : goal.returns-then-amount-gt0-clause-bytes
returns-then-amount-gt0-clause-bytes c =
    given_front
    c.self.inside.at
    c.min-amount.result
    c.self.inside.bytes.items
    c.args.buf.now
    c.copy_from_slice.new.self
    c.args.self.now.left
    (sym (ap (λ s. s.left) c.self.view_is))
    (omega arith)
    (c.copy_from_slice.ensures.after ∙ ap (λ v. take (c.self.inside.at + c.min-amount.result - c.self.inside.at) (drop c.self.inside.at v)) c.deref.ensures.value)
    (omega (arith, c.copy_from_slice.ensures.len, length-take {A = ℕ}))
