-- What functions of the code give is what reading gives.
use Rattle.std.specs.Prelude.{◌≡◌, ℕ, ◌+◌, Result, Ok, Err}
use Rattle.my_reply.specs.declared.definition.Definition.{Definition}
use Rattle.my_reply.specs.declared.wire.PacketFault.{PacketFault}
use Rattle.my_reply.specs.declared.wire_column.WireColumn.{WireColumn}

-- where a fault counts the bytes behind its payload, too
abbrev pub GivesIn : {X Y : Type 0} → (X → Y) → Result X PacketFault → Result Y ℕ → Type 0
GivesIn view (Ok x) read = read ≡ Ok (view x)
GivesIn view (Err fault) read = read ≡ Err (fault.left + fault.behind)

-- a definition whose texts stand in the bytes
abbrev pub viewed : Definition → WireColumn
viewed d = record {
  catalog = d.catalog.now;
  schema = d.schema.now;
  table = d.table.now;
  table_behind = d.table_behind.now;
  name = d.name.now;
  name_behind = d.name_behind.now;
  fixed = d.fixed;
  decimals = d.decimals;
}
