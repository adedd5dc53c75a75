use Rattle.std.proofs.Common.{◌∙◌, ap, arith}
use Rattle.std.specs.Prelude.{string_bytes}
use Rattle.std.specs.Str.{bytes_eq}
use Rattle.vtgate_cl.proofs.Wording.{first_word}
use Rattle.vtgate_cl.proofs.words.begins_with.Goals as goal

pub returns : goal.returns
returns c =
    first_word (λ word. string_bytes word) c.args.words.now c.word-item.result c.args.first.now c.eq.result (omega arith) c.word-item.is (c.eq.ensures ∙ ap (λ v. bytes_eq v c.args.first.now) c.as_str.ensures.value)
