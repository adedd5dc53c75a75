use Rattle.std.proofs.Common.{◌+◌, ◌∙◌, ℕ, arith, length-drop}
use Rattle.std.proofs.lemmas.List.{length-take}
use Rattle.vl_base.proofs.Known.{appends_next, wrote_front, keeps_after}
use Rattle.vl_base.proofs.sink.write_all.Goals as goal

pub returns-in-Ok-eq0-clause-err : goal.returns-in-Ok-eq0-clause-err
returns-in-Ok-eq0-clause-err g c =
    wrote_front
    (g.O.Sink.held c.args.out.now)
    (g.O.Sink.held c.write.new.self)
    (c.pieces.done + c.in-Ok-eq0.field-0)
    c.args.bytes.now
    (appends_next _ _ _ _ _ _ c.pieces.invariant.held c.in-Ok-eq0.ensures.bytes)

pub pieces-preserved : goal.pieces-preserved
pieces-preserved g c = record {
  within = omega (arith, c.in-Ok.ensures.bound, length-take {A = ℕ}, length-drop {A = ℕ});
  held = appends_next _ _ _ _ _ _ c.pieces.invariant.held c.in-Ok.ensures.bytes;
  faults = c.in-Ok.ensures.cause.took (omega arith) ∙ c.pieces.invariant.faults;
}

pub returns-in-Err-clause-err : goal.returns-in-Err-clause-err
returns-in-Err-clause-err g c =
    wrote_front
    (g.O.Sink.held c.args.out.now)
    (g.O.Sink.held c.write.new.self)
    c.pieces.done
    c.args.bytes.now
    (keeps_after _ _ _ _ c.pieces.invariant.held c.in-Err.ensures.bytes)
