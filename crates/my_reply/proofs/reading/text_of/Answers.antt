use Rattle.std.proofs.Common.{◌∙◌, ◌++◌, ap, List, ℕ, take}
use Rattle.std.proofs.lemmas.List.{take_all}
use Rattle.my_reply.proofs.reading.text_of.Goals as goal

pub returns : goal.returns
returns c =
    c.push.ensures ∙ ap (λ (t : List ℕ). take 512 (t ++ c.args.bytes.now)) c.new-text.ensures ∙ take_all 512 c.args.bytes.now c.requires
