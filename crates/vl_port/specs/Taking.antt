use Rattle.std.specs.Prelude.{Bool, true}
use Rattle.vl_port.specs.declared.act.Act.{Act}
use Rattle.vl_port.specs.declared.act.Act.TheVariants.{Insert, Put, Remove, RemoveIf, Find}

-- whether an act takes locks, so that it needs a shard session
abbrev pub takes_keys : Act → Bool
takes_keys (Insert key row) = true
takes_keys (Put key row) = true
takes_keys (Remove key) = true
takes_keys (RemoveIf key column value) = true
takes_keys (Find pred locking) = locking
