-- How far a statement has come, whichever it is.
use Rattle.std.specs.Prelude.{◌≡◌, ◌<◌, ◌≤◌, ℕ, ◌+◌, Bool, false, length, Option}
use Rattle.std.specs.Option.{option_map}
use Rattle.vl_values.specs.declared.group.Group.{Group}
use Rattle.vl_port.specs.declared.act.Act.{Act}
use Rattle.vl_insert.specs.Progress.{act_due as insert_act, actions_left, session_due as insert_session}
use Rattle.vl_select.specs.Progress.{Action as Read, IsNearer as IsSelectNearer, acts_done as select_acts, due as read_due}
use Rattle.vl_change.specs.declared.action.Action.{Action}
use Rattle.vl_change.specs.Progress.{IsNearer as IsChangeNearer, acts_done as change_acts, due as change_due}
use Rattle.vl_exec.specs.declared.program.Program.{Program}
use Rattle.vl_exec.specs.declared.program.Program.TheVariants as programs

-- the group and the shard of the session that the action which is due goes by, or would go by
abbrev pub session_due : Program → Option (Group × ℕ)
session_due (programs.Insert insert) = insert_session insert
session_due (programs.Select select) = option_map (λ (read : Read). (read.group, read.shard)) (read_due select)
session_due (programs.Change change) = option_map (λ (action : Action). (action.group, action.shard)) (change_due change)

-- its act
abbrev pub act_due : Program → Option Act
act_due (programs.Insert insert) = insert_act insert
act_due (programs.Select select) = option_map (λ (read : Read). read.act) (read_due select)
act_due (programs.Change change) = option_map (λ (action : Action). action.act) (change_due change)

-- whether a version was written
abbrev pub wrote : Program → Bool
wrote (programs.Insert insert) = insert.wrote
wrote (programs.Select select) = false
wrote (programs.Change change) = change.wrote

-- nearer to the statement's end
abbrev pub IsNearer : Program → Program → Type 0
IsNearer (programs.Insert old) (programs.Insert new) = actions_left new < actions_left old
IsNearer (programs.Select old) (programs.Select new) = IsSelectNearer old new
IsNearer (programs.Change old) (programs.Change new) = IsChangeNearer old new
IsNearer _ _ = ⊥

-- one action more is done. An INSERT counts those that are left
abbrev pub IsCounted : Program → Program → Type 0
IsCounted (programs.Insert old) (programs.Insert new) = Unit {0}
IsCounted (programs.Select old) (programs.Select new) = select_acts new ≡ select_acts old + 1
IsCounted (programs.Change old) (programs.Change new) = change_acts new ≡ change_acts old + 1
IsCounted _ _ = ⊥

-- a SELECT reads no more than the entries of its route and each shard once, of so many
abbrev pub IsFew : ℕ → Program → Program → Type 0
IsFew count (programs.Select old) (programs.Select new) = (select_acts new ≤ length new.entries + count) × (new.entries ≡ old.entries)
IsFew count _ _ = Unit {0}
