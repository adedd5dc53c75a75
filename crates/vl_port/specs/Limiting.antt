-- The limit of changes, which is looked at before each write.
use Rattle.std.specs.Prelude.{Bool, false, not, nat_lt}
use Rattle.vl_port.specs.declared.act.Act.{Act}
use Rattle.vl_port.specs.declared.act.Act.TheVariants.{Insert, Put, Remove, RemoveIf, Find}
use Rattle.vl_port.specs.declared.tx_state.TxState.{TxState}

-- a transaction with as many changes as its limit says
abbrev pub has_all_changes : TxState → Bool
has_all_changes tx = not (nat_lt tx.changes tx.limits.changes)

-- one write more would pass the limit of changes; a read is none
abbrev pub is_full : TxState → Act → Bool
is_full tx (Insert key row) = has_all_changes tx
is_full tx (Put key row) = has_all_changes tx
is_full tx (Remove key) = has_all_changes tx
is_full tx (RemoveIf key column value) = has_all_changes tx
is_full tx (Find pred locking) = false
