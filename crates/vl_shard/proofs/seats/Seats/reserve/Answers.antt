use Rattle.std.specs.Prelude.{◌≡◌, Result, Ok, Err, OnErr, None}
use Rattle.vl_shard.specs.Seats.{session_of}
use Rattle.vl_shard.proofs.Seating.{none_seated, same_more}
use Rattle.vl_shard.proofs.seats.Seats.reserve.Goals as goal

pub returns-clause-same : goal.returns-clause-same
returns-clause-same c = same_more c.args.self.now c.self.inside.seats.items c.push.new.self.items c.self.view_is c.in_ok-push.ensures.items

at_error : {T E : Type 0} (r : Result T E) (X : Type 0) → X → OnErr r X
at_error (Ok v) X h = tt
at_error (Err e) X h = h

pub returns-in_default-try_from-clause-absent : goal.returns-in_default-try_from-clause-absent
returns-in_default-try_from-clause-absent c = none_seated c.args.self.now c.args.who.now c.in_default.ensures.absent

pub returns-in_err-push-clause-absent : goal.returns-in_err-push-clause-absent
returns-in_err-push-clause-absent c =
    at_error c.from_residual.result (session_of c.args.self.now c.args.who.now ≡ None)
    (none_seated c.args.self.now c.args.who.now c.in_default.ensures.absent)
