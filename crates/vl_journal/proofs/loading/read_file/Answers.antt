use Rattle.std.proofs.Common.{◌≡◌, Bool, IsTrue, is_err, length, take, drop, refl, sym, ap, subst, ◌∙◌, arith}
use Rattle.vl_disk.specs.Moment.{EachLeft, IsLeft}
use Rattle.vl_journal.proofs.Loaded.{all_filled, still_too, synced_all}
use Rattle.vl_journal.proofs.loading.read_file.Goals as goal

pub returns-in_default-clause-moments : goal.returns-in_default-clause-moments
returns-in_default-clause-moments g c =
    let u = g.D.Disk.told c.args.disk.now in
    λ honest. synced_all (is_err c.sync.result) u (g.D.Disk.told c.sync.new.self) (g.met.D.Disk.itself c.args.disk.now honest) (c.sync.ensures.synced honest)

pub returns-in_default-len-clause-moments : goal.returns-in_default-len-clause-moments
returns-in_default-len-clause-moments g c =
    let u = g.D.Disk.told c.args.disk.now in
    let v = g.D.Disk.told c.sync.new.self in
    λ honest.
    still_too {P = EachLeft (IsLeft u.now)} u v (g.D.Disk.told c.len.new.self)
    (synced_all (is_err c.sync.result) u v (g.met.D.Disk.itself c.args.disk.now honest) (c.sync.ensures.synced honest)) c.len.ensures.still

pub returns-in_default-resize-clause-moments : goal.returns-in_default-resize-clause-moments
returns-in_default-resize-clause-moments g c =
    let u = g.D.Disk.told c.args.disk.now in
    let v = g.D.Disk.told c.sync.new.self in
    λ honest.
    still_too {P = EachLeft (IsLeft u.now)} u v (g.D.Disk.told c.len.new.self)
    (synced_all (is_err c.sync.result) u v (g.met.D.Disk.itself c.args.disk.now honest) (c.sync.ensures.synced honest)) c.len.ensures.still

pub returns-in_default-read-clause-moments : goal.returns-in_default-read-clause-moments
returns-in_default-read-clause-moments g c =
    let u = g.D.Disk.told c.args.disk.now in
    let v = g.D.Disk.told c.sync.new.self in
    let w = g.D.Disk.told c.len.new.self in
    λ honest.
    still_too {P = EachLeft (IsLeft u.now)} u w (g.D.Disk.told c.read.new.self)
    (still_too {P = EachLeft (IsLeft u.now)} u v w
    (synced_all (is_err c.sync.result) u v (g.met.D.Disk.itself c.args.disk.now honest) (c.sync.ensures.synced honest)) c.len.ensures.still)
    c.read.ensures.still

pub returns-clause-moments : goal.returns-clause-moments
returns-clause-moments g c =
    let u = g.D.Disk.told c.args.disk.now in
    let v = g.D.Disk.told c.sync.new.self in
    let w = g.D.Disk.told c.len.new.self in
    λ honest.
    still_too {P = EachLeft (IsLeft u.now)} u w (g.D.Disk.told c.read.new.self)
    (still_too {P = EachLeft (IsLeft u.now)} u v w
    (synced_all (is_err c.sync.result) u v (g.met.D.Disk.itself c.args.disk.now honest) (c.sync.ensures.synced honest)) c.len.ensures.still)
    c.read.ensures.still

pub returns-clause-bytes : goal.returns-clause-bytes
returns-clause-bytes g c =
    let P : Bool → Type 0 = λ b. IsTrue b in
    let u = g.D.Disk.told c.args.disk.now in
    let v = g.D.Disk.told c.sync.new.self in
    let w = g.D.Disk.told c.len.new.self in
    λ honest.
    let at_v = subst P (sym c.sync.ensures.called.same.honest) honest in
    let at_w = subst P (sym c.len.ensures.called.same.honest) at_v in
    let synced : v.now.seen ≡ u.now.seen = ap (λ m. m.seen) ((c.in-Ok.ensures.synced honest).synced refl) in
    let seen : w.now.seen ≡ u.now.seen = ap (λ m. m.seen) c.len.ensures.still.now ∙ synced in
    let size : c.in-Ok-len.len ≡ length u.now.seen = c.in-Ok-len.ensures.given at_v ∙ ap length synced in
    let given : c.read.new.buf ≡ take (length c.as_mut_slice.result.now) (drop 0 u.now.seen)
    = c.in-Ok-read.ensures.given at_w ∙ ap (λ s. take (length c.as_mut_slice.result.now) (drop 0 s)) seen in
    all_filled c.resize.new.self.len (length c.as_mut_slice.result.now) c.in-Ok-len.len u.now.seen c.read.new.buf c.resize.new.self.items
    (omega (arith, c.in-Ok-resize.ensures.len)) (omega (arith, c.in-Ok-resize.ensures.len, c.as_mut_slice.ensures.len)) size given
