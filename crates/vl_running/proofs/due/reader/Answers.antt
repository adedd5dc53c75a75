use Rattle.std.proofs.Common.{◌≡◌, ◌∙◌, ◌==◌, ℕ, Bool, false, sym, ap}
use Rattle.std.specs.Prelude.{◌↔◌, IsTrue, Contains, if◌then◌else◌}
use Rattle.std.specs.List.{list_any}
use Rattle.vl_values.specs.declared.group.Group.{Group}
use Rattle.vl_port.specs.declared.act.Act.{Act}
use Rattle.vl_port.specs.declared.tx_state.TxState.{TxState}
use Rattle.vl_port.specs.Asking.{reader_in}
use Rattle.vl_port.specs.Taking.{takes_keys}
use Rattle.vl_port.specs.Transaction.{listed, session_of}
use Rattle.vl_course.specs.Selecting.{reader_of}
use Rattle.vl_course.proofs.Listed.{among_as}
use Rattle.vl_running.proofs.due.reader.Goals as goal

looks : (tx : TxState) (group : Group) (shard : ℕ) (act : Act) (there : Bool) → takes_keys act ≡ false → IsTrue there ↔ Contains (listed tx group) shard → reader_in tx group there ≡ reader_of tx (record { group = group; shard = shard; act = act })
looks tx group shard act there plain tells =
    ap (reader_in tx group) (among_as (listed tx group) shard there tells)
    ∙ sym (ap (λ b. if b then session_of tx group else reader_in tx group (list_any (λ other. other == shard) (listed tx group))) plain)

pub returns : goal.returns
returns c =
    c.reader.ensures.2
    ∙ looks c.args.tx.now c.args.group c.args.shard c.args.act.now c.reader.ensures.0 (sym c.takes_keys.ensures ∙ c.if-takes_keys.false) c.reader.ensures.1
