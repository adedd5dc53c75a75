use Rattle.std.proofs.Common.{◌≡◌, ◌∷◌, [], List, refl, sym, ◌∙◌, subst, ap}
use Rattle.std.proofs.lemmas.Result.{on_ok_weaker}
use Rattle.vl_disk.specs.Moment.{EachLeft, Torn, at_rest, put}
use Rattle.vl_disk.proofs.Moments.{weakened}
use Rattle.vl_record.specs.Grammar.{EndsAt}
use Rattle.vl_record.specs.Stored.{IsNew}
use Rattle.vl_journal.proofs.Gates.{short_torn, short_put}
use Rattle.vl_journal.proofs.creating.shut_short.Goals as goal

pub returns-clause-rest : goal.returns-clause-rest
returns-clause-rest g c =
    on_ok_weaker c.write_down.result (λ written honest. let e = written honest in e ∙ ap (λ m. at_rest m.seen) (sym e)) c.write_down.ensures.written

pub returns-clause-shut : goal.returns-clause-shut
returns-clause-shut g c =
    let v = g.D.Disk.told c.args.disk.now in
    on_ok_weaker c.write_down.result (λ written honest. rw (written honest) (short_put v.now.seen)) c.write_down.ensures.written

pub returns-clause-moments : goal.returns-clause-moments
returns-clause-moments g c =
    let v = g.D.Disk.told c.args.disk.now in
    let w = g.D.Disk.told c.write_down.new.disk in
    λ honest.
    weakened {P = EachLeft (Torn 0 1 v.now.seen)} {Q = EachLeft IsNew} v w
    (λ m each image left. short_torn v.now.seen image (c.requires.short honest) (each image left))
    (c.write_down.ensures.moments honest)
