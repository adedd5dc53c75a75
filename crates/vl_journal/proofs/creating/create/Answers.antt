use Rattle.std.proofs.Common.{◌≡◌, [], Bool, IsTrue, List, is_err, refl, sym, subst, inl, inr}
use Rattle.std.proofs.lemmas.Result.{on_ok_weaker}
use Rattle.vl_disk.specs.Moment.{EachLeft}
use Rattle.vl_disk.proofs.Moments.{joined, weakened}
use Rattle.vl_disk.proofs.Used.{used_then}
use Rattle.vl_record.specs.Grammar.{EndsAt}
use Rattle.vl_record.specs.Stored.{IsNew}
use Rattle.vl_journal.specs.Gate.{EndsWithOrWithout, IsNewOrEndsAt, unlocked}
use Rattle.vl_journal.proofs.Gates.{new_or, same}
use Rattle.vl_journal.proofs.creating.create.Goals as goal

pub put_behind-requires-clause-place : goal.put_behind-requires-clause-place
put_behind-requires-clause-place g c =
    let P : Bool → Type 0 = λ b. IsTrue b in
    let w = g.D.Disk.told c.shut.new.disk in
    λ honest. same [] [] w.now.seen (c.in_ok-shut.ensures.shut (subst P c.in_ok-shut.ensures.used.same.honest honest))

pub put_behind-requires-clause-rest : goal.put_behind-requires-clause-rest
put_behind-requires-clause-rest g c =
    let P : Bool → Type 0 = λ b. IsTrue b in
    λ honest. c.in_ok-shut.ensures.rest (subst P c.in_ok-shut.ensures.used.same.honest honest)

pub returns-in_err-shut-clause-moments : goal.returns-in_err-shut-clause-moments
returns-in_err-shut-clause-moments g c =
    let v = g.D.Disk.told c.args.disk.now in
    let w = g.D.Disk.told c.shut.new.disk in
    λ honest text bytes.
    weakened {P = EachLeft IsNew} {Q = EachLeft (IsNewOrEndsAt text)} v w
    (λ m each image left. inl (each image left))
    (c.in_err-shut.ensures.moments honest)

pub returns-clause-used : goal.returns-clause-used
returns-clause-used g c =
    used_then (is_err c.put_behind.result) (g.D.Disk.told c.args.disk.now) (g.D.Disk.told c.shut.new.disk) (g.D.Disk.told c.put_behind.new.disk) c.in_ok-shut.ensures.used c.put_behind.ensures.used

pub returns-clause-rest : goal.returns-clause-rest
returns-clause-rest g c =
    let P : Bool → Type 0 = λ b. IsTrue b in
    on_ok_weaker c.put_behind.result
    (λ rest honest. rest (subst P (sym c.in_ok-shut.ensures.used.same.honest) honest))
    c.put_behind.ensures.rest

pub returns-clause-created : goal.returns-clause-created
returns-clause-created g c =
    let P : Bool → Type 0 = λ b. IsTrue b in
    on_ok_weaker c.put_behind.result
    (λ written honest text bytes.
    written (subst P (sym c.in_ok-shut.ensures.used.same.honest) honest) [] text refl bytes (c.in_ok-shut.ensures.shut honest))
    c.put_behind.ensures.written

pub returns-clause-moments : goal.returns-clause-moments
returns-clause-moments g c =
    let P : Bool → Type 0 = λ b. IsTrue b in
    let u = g.D.Disk.told c.args.disk.now in
    let v = g.D.Disk.told c.shut.new.disk in
    let w = g.D.Disk.told c.put_behind.new.disk in
    λ honest text bytes.
    let still = subst P (sym c.in_ok-shut.ensures.used.same.honest) honest in
    joined {P = EachLeft (IsNewOrEndsAt text)} u v w
    (weakened {P = EachLeft IsNew} {Q = EachLeft (IsNewOrEndsAt text)} u v
    (λ m each image left. inl (each image left))
    (c.in_ok-shut.ensures.moments honest))
    (weakened {P = EachLeft (EndsWithOrWithout [] text)} {Q = EachLeft (IsNewOrEndsAt text)} v w
    (λ m each image left. new_or text image (each image left))
    (c.put_behind.ensures.moments still [] text refl bytes (c.in_ok-shut.ensures.shut honest)))
