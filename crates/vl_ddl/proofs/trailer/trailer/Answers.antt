use Rattle.std.proofs.Common.{sym, ap, ◌∙◌, Err, arith}
use Rattle.std.proofs.lemmas.List.{length-map}
use Rattle.vl_token.specs.View.{tok, tokens_of}
use Rattle.vl_ddl.proofs.ReadingSteps.{trailer_none}
use Rattle.vl_ddl.proofs.trailer.trailer.Goals as goal

pub returns : goal.returns
returns c =
    sym c.loop.invariant.read
    ∙ trailer_none c.loop.depth c.loop.some (tokens_of c.loop.rest.now) (omega (arith, length-map c.loop.rest.now tok))
    ∙ ap (λ n. Err n) (length-map c.loop.rest.now tok)
