use Rattle.vl_shard.proofs.Seating.{place_for}
use Rattle.vl_shard.proofs.seats.Seats.find.Goals as goal

pub returns-in-Some-clause-seated : goal.returns-in-Some-clause-seated
returns-in-Some-clause-seated c = place_for c.args.self.now c.args.who.now c.in-Some.place c.place_of.ensures.once c.in-Some.ensures.seated.0 c.in-Some.ensures.seated.1
