-- How far an INSERT has come: the task in progress, those behind it, and what is left after one.
use Rattle.std.specs.Prelude.{ℕ, ◌+◌, Bool, ◌||◌, List, drop, slice_get, Option, Some}
use Rattle.std.specs.List.{sum_by}
use Rattle.std.specs.Option.{option_map, option_map_or}
use Rattle.vl_values.specs.declared.group.Group.{Group}
use Rattle.vl_values.specs.declared.group.Group.TheVariants.{Main}
use Rattle.vl_port.specs.declared.act.Act.{Act}
use Rattle.vl_lookup.specs.Progress.{Progress as Claiming, acts_left, due as claim_due}
use Rattle.vl_insert.specs.declared.task.Task.{Task}
use Rattle.vl_insert.specs.declared.task.Task.TheVariants as tasks

-- the task in progress, if one is left, and those that come behind it; how many rows the statement has;
-- whether a version was written; how often the action that is due was answered `Held`
pub record Progress : Type 0 where
  pub task : Option Task
  pub later : List Task
  pub rows : ℕ
  pub wrote : Bool
  pub tries : ℕ

-- the group and the shard of the session that the next action of a task goes by
abbrev pub session_for : Task → Group × ℕ
session_for (tasks.Claim claim) = ((claim_due claim).group, (claim_due claim).shard)
session_for (tasks.Row insertion) = (Main, insertion.shard)

-- those of the action that is due
abbrev pub session_due : Progress → Option (Group × ℕ)
session_due p = option_map session_for p.task

-- its act
abbrev pub act_for : Task → Act
act_for (tasks.Claim claim) = (claim_due claim).act
act_for (tasks.Row insertion) = insertion.act

abbrev pub act_due : Progress → Option Act
act_due p = option_map act_for p.task

-- the claim in progress has come as far as this
abbrev pub at_claim : Claiming → Progress → Progress
at_claim claim p = record p { task = Some (tasks.Claim claim) }

-- an action was done, and its task has another one
abbrev pub with_action : Progress → Progress
with_action p = record p { tries = 0 }

-- the action that is due was answered `Held` once more
abbrev pub with_try : Progress → Progress
with_try p = record p { tries = p.tries + 1 }

-- the task is done, by an action that was a write or not
abbrev pub with_task : Bool → Progress → Progress
with_task writes p = record p { task = slice_get p.later 0; later = drop 1 p.later; wrote = p.wrote || writes; tries = 0 }

-- ---- the end of a statement

-- how many actions a task has at most, from where it has come to
abbrev pub task_actions : Task → ℕ
task_actions (tasks.Claim claim) = acts_left claim.stage
task_actions (tasks.Row insertion) = 1

-- how many actions the statement has at most, none of them done again but after `Held`
abbrev pub actions_left : Progress → ℕ
actions_left p = option_map_or task_actions p.task 0 + sum_by task_actions p.later
