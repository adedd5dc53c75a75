-- The act that is due fits its shard, is in its lane, and is one of the transaction's own sessions.
use Rattle.std.specs.Prelude.{◌≡◌, ◌<◌, ◌⊎◌, ℕ, true, Some}
use Rattle.vl_values.specs.declared.group.Group.TheVariants.{Pre, Main}
use Rattle.vl_catalog.specs.declared.catalog.Catalog.{Catalog}
use Rattle.vl_port.specs.declared.tx_state.TxState.{TxState}
use Rattle.vl_port.specs.Placing.{IsActOn}
use Rattle.vl_port.specs.Taking.{takes_keys}
use Rattle.vl_replay.specs.Lanes.{IsActInLane}
use Rattle.vl_replay.specs.Marks.{IsTaking}
use Rattle.vl_course.specs.Turning.{Due}

pub record IsDueFit (catalog : Catalog) (count : ℕ) (tx : TxState) (due : Due) : Type 0 where
  pub within : due.shard < count
  pub fits : IsActOn catalog due.shard due.act
  pub lane : IsActInLane catalog due.who.group due.act
  pub number : due.who.tx ≡ tx.number
  pub session : due.who.session ≡ tx.session
  pub mark : IsTaking due.mark
  -- one that obtains keys goes by a session of pre or main
  pub group : takes_keys due.act ≡ true → (due.who.group ≡ Some Pre) ⊎ (due.who.group ≡ Some Main)
