-- What an act came to, by its answer.
use Rattle.vl_port.specs.declared.answer.Answer.{Answer}
use Rattle.vl_port.specs.declared.answer.Answer.TheVariants.{Done, Unchanged, Rows, Found, Held, Lost, Device, Limit, Memory}
use Rattle.vl_port.specs.declared.outcome.Outcome.{Outcome}
use Rattle.vl_port.specs.declared.outcome.Outcome.TheVariants as outcomes

abbrev pub outcome_of : Answer → Outcome
outcome_of Done = outcomes.Wrote
outcome_of Unchanged = outcomes.Took
outcome_of (Rows rows) = outcomes.Took
outcome_of (Found key row) = outcomes.Took
outcome_of (Held by key) = outcomes.Opened
outcome_of (Lost why) = outcomes.Lost why
outcome_of Device = outcomes.Device
outcome_of (Limit what count) = outcomes.Opened
outcome_of Memory = outcomes.Refused
