use Rattle.std.proofs.Common.{◌≡◌, ◌+◌, ℕ, List, IsTrue, length, refl, sym, ◌∙◌, subst, ap}
use Rattle.std.proofs.lemmas.Result.{on_ok_weaker}
use Rattle.vl_disk.specs.Moment.{EachLeft, Torn, at_rest, put}
use Rattle.vl_disk.proofs.Moments.{weakened}
use Rattle.vl_record.specs.Grammar.{EndsAt}
use Rattle.vl_journal.specs.Gate.{IsStaged, framed}
use Rattle.vl_journal.proofs.Gates.{ends_torn, put_reaches, staged_put}
use Rattle.vl_journal.proofs.appending.stage.Goals as goal

pub returns-clause-rest : goal.returns-clause-rest
returns-clause-rest g c =
    let w = g.D.Disk.told c.write_down.new.disk in
    on_ok_weaker c.write_down.result (λ written honest. let e = written honest in e ∙ ap (λ m. at_rest m.seen) (sym e)) c.write_down.ensures.written

pub returns-clause-staged : goal.returns-clause-staged
returns-clause-staged g c =
    let v = g.D.Disk.told c.args.disk.now in
    let w = g.D.Disk.told c.write_down.new.disk in
    on_ok_weaker c.write_down.result
    (λ written honest front text size bytes ends.
    rw (written honest, size, bytes) (staged_put front text v.now.seen ends))
    c.write_down.ensures.written

pub returns-clause-moments : goal.returns-clause-moments
returns-clause-moments g c =
    let v = g.D.Disk.told c.args.disk.now in
    let w = g.D.Disk.told c.write_down.new.disk in
    let n = length c.args.bytes.now in
    λ honest front size ends.
    weakened {P = EachLeft (Torn (c.args.gate + 1) n v.now.seen)} {Q = EachLeft (EndsAt front)} v w
    (λ m each image left. ends_torn front v.now.seen image n ends (subst (λ (k : ℕ). Torn (k + 1) n v.now.seen image) size (each image left)))
    (c.write_down.ensures.moments honest)

pub returns-clause-reaches : goal.returns-clause-reaches
returns-clause-reaches g c =
    let v = g.D.Disk.told c.args.disk.now in
    on_ok_weaker c.write_down.result
    (λ written honest. rw (written honest) (put_reaches v.now.seen c.args.bytes.now (c.args.gate + 1) (c.requires.place honest)))
    c.write_down.ensures.written
