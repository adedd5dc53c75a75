use Rattle.std.proofs.Common.{Bool, true, false, IsTrue, is_err, sym, subst}
use Rattle.vl_disk.proofs.Used.{down_both, down_first}
use Rattle.vl_disk.proofs.writing.write_down.Goals as goal

pub returns-in_err-write_at-clause-moments : goal.returns-in_err-write_at-clause-moments
returns-in_err-write_at-clause-moments g c =
    λ honest.
    down_first c.args.at c.args.bytes.now true (g.D.Disk.told c.args.disk.now) (g.D.Disk.told c.write_at.new.self)
    (c.requires.rest honest) (c.requires.place honest) (c.in_err-write_at.ensures.written honest)

pub returns-clause-moments : goal.returns-clause-moments
returns-clause-moments g c =
    λ honest.
    let P : Bool → Type 0 = λ b. IsTrue b in
    let still = subst P (sym c.in_ok-write_at.ensures.called.same.honest) honest in
    down_both c.args.at c.args.bytes.now false (is_err c.sync.result)
    (g.D.Disk.told c.args.disk.now) (g.D.Disk.told c.write_at.new.self) (g.D.Disk.told c.sync.new.self)
    (c.requires.rest honest) (c.requires.place honest) (c.in_ok-write_at.ensures.written honest)
    (g.met.D.Disk.itself c.write_at.new.self still) (c.sync.ensures.synced still)
