use Rattle.std.proofs.Common.{◌<◌, length, List, Option, sym, ap, subst, ◌∙◌}
use Rattle.vl_shard.specs.declared.seat.Seat.{Seat}
use Rattle.vl_shard.specs.Seats.{seat_at}
use Rattle.vl_shard.proofs.Seating.{live_at, none_live, seat_read}
use Rattle.vl_shard.proofs.seats.Seats.live.Goals as goal

pub returns-in-Some-index-clause-live : goal.returns-in-Some-index-clause-live
returns-in-Some-index-clause-live c =
    let within = subst (λ (l : List (Option Seat)). c.in-Some.place < length l) (sym c.self.view_is) c.in-Some.ensures.live.0 in
    let at = ap (λ (l : List (Option Seat)). seat_at l c.in-Some.place) (sym c.self.view_is) ∙ seat_read c.self.inside.seats.items c.in-Some.place c.index.result.now within c.index.ensures ∙ c.in-Some-index.is in
    live_at c.args.self.now c.in-Some.place c.in-Some-index.seat c.args.session c.args.group c.args.incarnation c.in-Some.ensures.once at c.in-Some.ensures.live.1

pub returns-in-None-clause-none : goal.returns-in-None-clause-none
returns-in-None-clause-none c = none_live c.args.self.now c.args.session c.args.group c.args.incarnation c.in-None.ensures.none
