-- How the act that was due came about: none was done, it came back, or it was lost.
use Rattle.std.specs.Prelude.{◌≡◌, ℕ, true, None}
use Rattle.std.specs.Option.{is_some}
use Rattle.vl_catalog.specs.declared.catalog.Catalog.{Catalog}
use Rattle.vl_port.specs.declared.answer.Answer.{Answer}
use Rattle.vl_port.specs.declared.tx_state.TxState.{TxState}
use Rattle.vl_port.specs.Calls.{PortView}
use Rattle.vl_port.specs.Outcomes.{outcome_of}
use Rattle.vl_run.specs.declared.deed.Deed.TheVariants as deeds
use Rattle.vl_run.specs.declared.event.Event.{Event}
use Rattle.vl_replay.specs.Calls.{ActsOn}
use Rattle.vl_replay.specs.Marks.{HasComeBack, IsTaking, deed_of, mark_of}
use Rattle.vl_course.specs.Turning.{Due}

-- the event keeps what happened to the act of a session of the transaction
pub data Happens (catalog : Catalog) (count : ℕ) (tx : TxState) (old new : PortView) (e : Event) : Type 0 where
  Still : new.shards ≡ old.shards → e.deed ≡ deeds.Nothing → e.fault ≡ None → Happens catalog count tx old new e
  Back : (due : Due) (answer : Answer) → ActsOn catalog count old due.who due.shard due.act answer new → HasComeBack answer → due.who.tx ≡ tx.number → due.who.session ≡ tx.session → IsTaking due.mark
      → e.deed ≡ deed_of due.who due.shard due.act (mark_of due.mark (outcome_of answer)) → e.fault ≡ None → Happens catalog count tx old new e
  Gone : (due : Due) (answer : Answer) → ActsOn catalog count old due.who due.shard due.act answer new → (HasComeBack answer → ⊥) → due.who.tx ≡ tx.number → due.who.session ≡ tx.session → e.deed ≡ deeds.Nothing → is_some e.fault ≡ true
      → Happens catalog count tx old new e
