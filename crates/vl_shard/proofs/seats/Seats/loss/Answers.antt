use Rattle.std.proofs.Common.{◌<◌, length, List, Option, sym, ap, subst, ◌∙◌}
use Rattle.vl_port.specs.Life.{loss_in}
use Rattle.vl_shard.specs.declared.seat.Seat.{Seat}
use Rattle.vl_shard.specs.Seats.{seat_at}
use Rattle.vl_shard.proofs.Seating.{session_there, none_seated, seat_read}
use Rattle.vl_shard.proofs.seats.Seats.loss.Goals as goal

pub returns-in-Some-index : goal.returns-in-Some-index
returns-in-Some-index c =
    let within = subst (λ (l : List (Option Seat)). c.in-Some.place < length l) (sym c.self.view_is) c.in-Some.ensures.seated.0 in
    let at = ap (λ (l : List (Option Seat)). seat_at l c.in-Some.place) (sym c.self.view_is) ∙ seat_read c.self.inside.seats.items c.in-Some.place c.index.result.now within c.index.ensures ∙ c.in-Some-index.is in
    c.why_lost.ensures ∙ sym (ap (loss_in c.args.incarnation) (session_there c.args.self.now c.args.who.now c.in-Some.place c.in-Some-index.seat c.in-Some.ensures.once at c.in-Some.ensures.seated.1))

pub returns-in-None : goal.returns-in-None
returns-in-None c = sym (ap (loss_in c.args.incarnation) (none_seated c.args.self.now c.args.who.now c.in-None.ensures.absent))
