use Rattle.std.proofs.Common.{sym, refl, subst, List, Option}
use Rattle.vl_shard.specs.declared.seat.Seat.{Seat}
use Rattle.vl_shard.specs.Seats.{IsPlaceFor}
use Rattle.vl_shard.proofs.Seating.{sat_new, sat_there, read_free, read_taken}
use Rattle.vl_shard.proofs.seats.Seats.sit.Goals as goal

pub returns-then-is_none : goal.returns-then-is_none
returns-then-is_none c =
    let place = subst (λ (l : List (Option Seat)). IsPlaceFor l c.args.who c.args.conn) (sym c.self.view_is) c.requires in
    let free = read_free c.self.inside.seats.items c.args.conn c.index.result.now c.is_none.result place.within c.index.ensures c.is_none.ensures c.if-is_none.true in
    rw (← c.self.view_is) (sat_new c.self.inside.seats.items _ c.args.who c.args.conn c.args.incarnation place free refl)

pub returns-else-is_none : goal.returns-else-is_none
returns-else-is_none c =
    let place = subst (λ (l : List (Option Seat)). IsPlaceFor l c.args.who c.args.conn) (sym c.self.view_is) c.requires in
    let there = read_taken c.self.inside.seats.items c.args.conn c.index.result.now c.is_none.result place.within c.index.ensures c.is_none.ensures c.if-is_none.false in
    rw (← c.self.view_is) (sat_there c.self.inside.seats.items c.args.who c.args.conn c.args.incarnation place there)
