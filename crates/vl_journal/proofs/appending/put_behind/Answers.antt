use Rattle.std.proofs.Common.{◌≡◌, ◌≤◌, ◌+◌, ◌++◌, ℕ, Bool, List, IsTrue, length, refl, sym, ◌∙◌, subst, ap, inl, inr, is_err, arith}
use Rattle.std.proofs.lemmas.Result.{on_ok_weaker}
use Rattle.vl_disk.specs.Moment.{EachLeft, at_rest}
use Rattle.vl_disk.proofs.Moments.{joined, weakened}
use Rattle.vl_disk.proofs.Used.{used_then}
use Rattle.vl_record.specs.Grammar.{EndsAt}
use Rattle.vl_journal.specs.Gate.{EndsWithOrWithout, IsStaged, unlocked}
use Rattle.vl_journal.proofs.appending.put_behind.Goals as goal

pub returns-in_err-stage-clause-moments : goal.returns-in_err-stage-clause-moments
returns-in_err-stage-clause-moments g c =
    let v = g.D.Disk.told c.args.disk.now in
    let w = g.D.Disk.told c.stage.new.disk in
    λ honest front text size bytes ends.
    weakened {P = EachLeft (EndsAt front)} {Q = EachLeft (EndsWithOrWithout front text)} v w
    (λ m each image left. inl (each image left))
    (c.in_err-stage.ensures.moments honest front size ends)

pub returns-clause-used : goal.returns-clause-used
returns-clause-used g c =
    used_then (is_err c.unlock.result) (g.D.Disk.told c.args.disk.now) (g.D.Disk.told c.stage.new.disk) (g.D.Disk.told c.unlock.new.disk) c.in_ok-stage.ensures.used c.unlock.ensures.used

pub returns-clause-written : goal.returns-clause-written
returns-clause-written g c =
    let P : Bool → Type 0 = λ b. IsTrue b in
    on_ok_weaker c.unlock.result
    (λ opened honest front text size bytes ends.
    opened (subst P (sym c.in_ok-stage.ensures.used.same.honest) honest) front text size (c.in_ok-stage.ensures.staged honest front text size bytes ends))
    c.unlock.ensures.opened

pub returns-clause-rest : goal.returns-clause-rest
returns-clause-rest g c =
    let P : Bool → Type 0 = λ b. IsTrue b in
    on_ok_weaker c.unlock.result
    (λ rest honest. rest (subst P (sym c.in_ok-stage.ensures.used.same.honest) honest))
    c.unlock.ensures.rest

pub returns-clause-moments : goal.returns-clause-moments
returns-clause-moments g c =
    let P : Bool → Type 0 = λ b. IsTrue b in
    let u = g.D.Disk.told c.args.disk.now in
    let v = g.D.Disk.told c.stage.new.disk in
    let w = g.D.Disk.told c.unlock.new.disk in
    λ honest front text size bytes ends.
    let still = subst P (sym c.in_ok-stage.ensures.used.same.honest) honest in
    joined {P = EachLeft (EndsWithOrWithout front text)} u v w
    (weakened {P = EachLeft (EndsAt front)} {Q = EachLeft (EndsWithOrWithout front text)} u v
    (λ m each image left. inl (each image left))
    (c.in_ok-stage.ensures.moments honest front size ends))
    (c.unlock.ensures.moments still front text size (c.in_ok-stage.ensures.staged honest front text size bytes ends))

pub unlock-requires-clause-place : goal.unlock-requires-clause-place
unlock-requires-clause-place g c =
    let P : Bool → Type 0 = λ b. IsTrue b in
    λ honest.
    let reaches = c.in_ok-stage.ensures.reaches (subst P c.in_ok-stage.ensures.used.same.honest honest) in
    omega (arith, reaches)

pub returns-clause-reaches : goal.returns-clause-reaches
returns-clause-reaches g c =
    let P : Bool → Type 0 = λ b. IsTrue b in
    on_ok_weaker c.unlock.result
    (λ longer honest.
    let reaches = c.in_ok-stage.ensures.reaches honest in
    let more = longer (subst P (sym c.in_ok-stage.ensures.used.same.honest) honest) in
    omega (arith, reaches, more))
    c.unlock.ensures.longer
