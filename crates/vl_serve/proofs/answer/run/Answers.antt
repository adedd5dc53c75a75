use Rattle.std.proofs.Common.{subst}
use Rattle.vl_cluster.specs.declared.what.What.{What}
use Rattle.vl_serve.specs.Serving.{TellsWhat}
use Rattle.vl_serve.proofs.Steps.{said_step}
use Rattle.vl_serve.proofs.answer.run.Goals as goal

pub returns-clause-step : goal.returns-clause-step
returns-clause-step g c = λ payload means.
    said_step c.args.pass c.act-pass.result.0 _ _ _ _ payload c.args.stmt _ c.write_what-end.result means c.act-pass.ensures.said
    (subst (λ (w : What). TellsWhat w c.write_what-end.result (g.O.Sink.held c.args.out.now) (g.O.Sink.held c.write_what-end.new.out)) c.what.ensures c.write_what-end.ensures.told)
