-- A statement's event kills no shard session.
use Rattle.std.proofs.Common.{◌≡◌, ◌∙◌, ◌||◌, ℕ, Bool, false, refl}
use Rattle.vl_values.specs.declared.lost_why.LostWhy.{LostWhy}
use Rattle.vl_values.specs.declared.lost_why.LostWhy.TheVariants as why
use Rattle.vl_sql.specs.declared.stmt.Stmt.{Stmt}
use Rattle.vl_port.specs.declared.who.Who.{Who}
use Rattle.vl_run.specs.declared.event.Event.{Event}
use Rattle.vl_run.specs.declared.request.Request.{Request}
use Rattle.vl_run.specs.declared.request.Request.TheVariants as requests
use Rattle.vl_run.specs.Allowed.{now_of}
use Rattle.vl_run.specs.Refused.{MayBeLost}
use Rattle.vl_run.specs.Run.{Run, kills, was_killed}
use Rattle.vl_course.specs.Turning.{IsOfStmt}

kills_none : (request : Request) (stmt : Stmt) (who : Who) (shard : ℕ) (before : Bool) → IsOfStmt request stmt → (kills request shard who || before) ≡ before
kills_none (requests.Say said) stmt who shard before asks = refl
kills_none requests.Step stmt who shard before asks = refl
kills_none requests.Join stmt who shard before asks = absurd asks
kills_none requests.Reset stmt who shard before asks = absurd asks
kills_none requests.Leave stmt who shard before asks = absurd asks
kills_none (requests.Kill other at) stmt who shard before asks = absurd asks

module _ (e : Event) (past : Run) (stmt : Stmt) (asks : IsOfStmt e.request stmt) (who : Who) (shard : ℕ) where
  killed_now : was_killed (now_of e past) who shard ≡ was_killed past who shard
  killed_now = kills_none e.request stmt who shard (was_killed past who shard) asks

  pub spared_now : was_killed past who shard ≡ false → was_killed (now_of e past) who shard ≡ false
  spared_now spared = killed_now ∙ spared

  pub loss_now : (reason : LostWhy) → MayBeLost past who shard reason → MayBeLost (now_of e past) who shard reason
  loss_now why.Dropped may = killed_now ∙ may
  loss_now why.Link may = tt
  loss_now (why.Restarted had current) may = (killed_now ∙ may.0, may.1)
