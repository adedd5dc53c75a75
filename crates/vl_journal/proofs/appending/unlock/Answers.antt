use Rattle.std.proofs.Common.{◌≡◌, ◌+◌, ◌∷◌, [], ℕ, List, IsTrue, length, refl, sym, ◌∙◌, subst, ap}
use Rattle.std.proofs.lemmas.Result.{on_ok_weaker}
use Rattle.vl_disk.specs.Moment.{EachLeft, Torn, at_rest, put}
use Rattle.vl_disk.proofs.Moments.{weakened}
use Rattle.vl_record.specs.Grammar.{EndsAt}
use Rattle.vl_journal.specs.Gate.{EndsWithOrWithout, IsStaged}
use Rattle.vl_journal.proofs.Gates.{gate_put, gate_torn, put_longer}
use Rattle.vl_journal.proofs.appending.unlock.Goals as goal

pub returns-clause-rest : goal.returns-clause-rest
returns-clause-rest g c =
    on_ok_weaker c.write_down.result (λ written honest. let e = written honest in e ∙ ap (λ m. at_rest m.seen) (sym e)) c.write_down.ensures.written

pub returns-clause-opened : goal.returns-clause-opened
returns-clause-opened g c =
    let v = g.D.Disk.told c.args.disk.now in
    on_ok_weaker c.write_down.result
    (λ written honest front text size staged.
    rw (written honest, size) (gate_put front text v.now.seen staged))
    c.write_down.ensures.written

pub returns-clause-moments : goal.returns-clause-moments
returns-clause-moments g c =
    let v = g.D.Disk.told c.args.disk.now in
    let w = g.D.Disk.told c.write_down.new.disk in
    λ honest front text size staged.
    weakened {P = EachLeft (Torn c.args.gate 1 v.now.seen)} {Q = EachLeft (EndsWithOrWithout front text)} v w
    (λ m each image left. gate_torn front text v.now.seen image staged (subst (λ (k : ℕ). Torn k 1 v.now.seen image) size (each image left)))
    (c.write_down.ensures.moments honest)

pub returns-clause-longer : goal.returns-clause-longer
returns-clause-longer g c =
    let v = g.D.Disk.told c.args.disk.now in
    on_ok_weaker c.write_down.result
    (λ written honest. rw (written honest) (put_longer v.now.seen (167 ∷ []) c.args.gate (c.requires.place honest)))
    c.write_down.ensures.written
