use Rattle.std.proofs.Common.{◌∙◌, ap, sym}
use Rattle.std.specs.Option.{option_copied}
use Rattle.vl_serve.proofs.Steps.{none_step}
use Rattle.vl_serve.proofs.answer.answer_packet.Goals as goal

pub returns-in_default-clause-step : goal.returns-in_default-clause-step
returns-in_default-clause-step g c =
    none_step _ _ _ c.args.packets.now (sym c.first.ensures.value ∙ ap option_copied c.in_default.is)
