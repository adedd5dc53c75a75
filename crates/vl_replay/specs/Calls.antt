-- An act in its lane, and the event that keeps it.
use Rattle.std.specs.Prelude.{◌≡◌, ◌<◌, ℕ}
use Rattle.vl_catalog.specs.declared.catalog.Catalog.{Catalog}
use Rattle.vl_port.specs.declared.act.Act.{Act}
use Rattle.vl_port.specs.declared.answer.Answer.{Answer}
use Rattle.vl_port.specs.declared.who.Who.{Who}
use Rattle.vl_port.specs.Calls.{HasActed, PortView}
use Rattle.vl_port.specs.Outcomes.{outcome_of}
use Rattle.vl_port.specs.Placing.{IsActOn}
use Rattle.vl_replay.specs.Lanes.{IsActInLane}
use Rattle.vl_replay.specs.Marks.{IsTaking, deed_of, mark_of}
use Rattle.vl_run.specs.declared.ends.Ends.TheVariants as ends
use Rattle.vl_run.specs.declared.event.Event.{Event}
use Rattle.vl_run.specs.declared.mark.Mark.{Mark}

-- an act on one of the shards, which fits the catalog and is in its lane
pub record ActsOn (catalog : Catalog) (count : ℕ) (old : PortView) (who : Who) (shard : ℕ) (act : Act) (answer : Answer) (new : PortView) : Type 0 where
  pub acted : HasActed old who shard act answer new
  pub within : shard < count
  pub fits : IsActOn catalog shard act
  pub lane : IsActInLane catalog who.group act

-- the event keeps the act by its mark, and no session ended
pub record Keeps (e : Event) (who : Who) (shard : ℕ) (act : Act) (taking : Mark) (answer : Answer) : Type 0 where
  pub takes : IsTaking taking
  pub deed : e.deed ≡ deed_of who shard act (mark_of taking (outcome_of answer))
  pub ends : e.ends ≡ ends.Nobody
