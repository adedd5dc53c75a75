-- A step of a program: one action of one of the transaction's sessions on one shard, or none, as the statement's
-- own crate says it.
use Rattle.vl_catalog.specs.declared.catalog.Catalog.{Catalog}
use Rattle.vl_port.specs.declared.tx_state.TxState.{TxState}
use Rattle.vl_port.specs.Calls.{PortView}
use Rattle.vl_statement.specs.declared.program_told.ProgramTold.{ProgramTold}
use Rattle.vl_insert.specs.Stepping.{Stepped as InsertStepped}
use Rattle.vl_select.specs.Stepping.{Stepped as SelectStepped}
use Rattle.vl_change.specs.Stepping.{Stepped as ChangeStepped}
use Rattle.vl_exec.specs.declared.program.Program.{Program}
use Rattle.vl_exec.specs.declared.program.Program.TheVariants as programs

-- a step: what it told, and the program, the transaction and the port after it
abbrev pub Stepped : Catalog → Program → TxState → PortView → ProgramTold → Program → TxState → PortView → Type 0
Stepped catalog (programs.Insert old) tx port tells (programs.Insert new) tx_new port_new = InsertStepped catalog old tx port tells new tx_new port_new
Stepped catalog (programs.Select old) tx port tells (programs.Select new) tx_new port_new = SelectStepped catalog old tx port tells new tx_new port_new
Stepped catalog (programs.Change old) tx port tells (programs.Change new) tx_new port_new = ChangeStepped catalog old tx port tells new tx_new port_new
Stepped catalog _ tx port tells _ tx_new port_new = ⊥
