use Rattle.std.proofs.Common.{◌≡◌, Bool, false, IsTrue, refl, sym, ap, subst, ◌∙◌}
use Rattle.vl_record.specs.Reading.{is_open}
use Rattle.vl_record.specs.Stored.{IsNew}
use Rattle.vl_journal.proofs.Loaded.{at_first, at_last, made_as}
use Rattle.vl_journal.proofs.Made.{is_new}
use Rattle.vl_journal.proofs.loading.load.Goals as goal

pub returns-in-Err-clause-cause : goal.returns-in-Err-clause-cause
returns-in-Err-clause-cause g c = λ honest. c.in-Err.ensures.kind c.args.catalog.now c.args.shard (g.D.Disk.told c.args.disk.now).now.seen

pub returns-in-Err-clause-moments : goal.returns-in-Err-clause-moments
returns-in-Err-clause-moments g c =
    let P : Bool → Type 0 = λ b. IsTrue b in
    λ honest.
    at_first c.args.shard (g.D.Disk.told c.args.disk.now) (g.D.Disk.told c.reserve.new.self) (g.D.Disk.told c.read_file.new.disk) c.reserve.ensures.still
    (c.read_file.ensures.moments (subst P (sym c.reserve.ensures.uncalled.same.honest) honest))

pub returns-then-is_open-clause-moments : goal.returns-then-is_open-clause-moments
returns-then-is_open-clause-moments g c =
    let P : Bool → Type 0 = λ b. IsTrue b in
    λ honest.
    at_first c.args.shard (g.D.Disk.told c.args.disk.now) (g.D.Disk.told c.reserve.new.self) (g.D.Disk.told c.read_file.new.disk) c.reserve.ensures.still
    (c.read_file.ensures.moments (subst P (sym c.reserve.ensures.uncalled.same.honest) honest))

pub returns-clause-moments : goal.returns-clause-moments
returns-clause-moments g c =
    let P : Bool → Type 0 = λ b. IsTrue b in
    let u = g.D.Disk.told c.args.disk.now in
    let v = g.D.Disk.told c.reserve.new.self in
    let w = g.D.Disk.told c.read_file.new.disk in
    λ honest.
    let at_v = subst P (sym c.reserve.ensures.uncalled.same.honest) honest in
    let at_w = subst P (sym c.read_file.ensures.used.same.honest) at_v in
    let bytes : c.as_slice.result.now ≡ u.now.seen = c.as_slice.ensures.value ∙ (c.in-Ok-read_file.ensures.bytes at_v ∙ ap (λ m. m.seen) c.reserve.ensures.still.now) in
    let shut : is_open u.now.seen ≡ false = ap is_open (sym bytes) ∙ (sym c.is_open.ensures ∙ c.if-is_open.false) in
    at_last c.args.shard u w (g.D.Disk.told c.make.new.disk) (is_new u.now.seen shut)
    (at_first c.args.shard u v w c.reserve.ensures.still (c.read_file.ensures.moments at_v))
    (c.make.ensures.moments at_w)

pub returns-clause-held : goal.returns-clause-held
returns-clause-held g c =
    let P : Bool → Type 0 = λ b. IsTrue b in
    let u = g.D.Disk.told c.args.disk.now in
    let v = g.D.Disk.told c.reserve.new.self in
    let w = g.D.Disk.told c.read_file.new.disk in
    let at_v : P u.is_honest → P v.is_honest = λ honest. subst P (sym c.reserve.ensures.uncalled.same.honest) honest in
    let at_w : P u.is_honest → P w.is_honest = λ honest. subst P (sym c.read_file.ensures.used.same.honest) (at_v honest) in
    let new : P u.is_honest → IsNew u.now.seen = λ honest.
    is_new u.now.seen
    (ap is_open (sym (c.as_slice.ensures.value ∙ (c.in-Ok-read_file.ensures.bytes (at_v honest) ∙ ap (λ m. m.seen) c.reserve.ensures.still.now))) ∙ (sym c.is_open.ensures ∙ c.if-is_open.false)) in
    made_as c.args.catalog.now c.args.shard c.ranges.shard.fits (P u.is_honest) (P w.is_honest) at_w u.now.seen (g.D.Disk.told c.make.new.disk).now.seen new c.make.result
    c.make.ensures.held c.make.ensures.created
