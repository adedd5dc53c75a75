-- A transaction that an event opens has the next number.
use Rattle.std.specs.Prelude.{ℕ, Option, refl}
use Rattle.vl_sql.specs.declared.stmt.Stmt.{Stmt}
use Rattle.vl_run.specs.declared.event.Event.{Event}
use Rattle.vl_run.specs.Allowed.{Opens}
use Rattle.vl_run.specs.Allowed.Opens.{Begun, First, Later, Refused}
use Rattle.vl_run.specs.Run.{Run, next_tx}
use Rattle.vl_run.specs.Session.{Owned}
use Rattle.vl_course.specs.Course.{HasNext}

pub next_opened : (past : Run) (e : Event) (stmt : Stmt) (before : Option Owned) (opens : Option ℕ) → Opens past e stmt before opens → HasNext (next_tx past) opens
next_opened past e stmt before opens (First said opens_first few) = refl
next_opened past e stmt before opens (Begun affected found warnings tx auto kind told few) = refl
next_opened past e stmt before opens (Refused code tx told deed fault) = tt
next_opened past e stmt before opens (Later unopened none) = tt
