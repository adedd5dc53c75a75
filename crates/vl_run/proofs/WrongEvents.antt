-- Events that no run has.
use Rattle.std.proofs.Common.{◌≡◌, ◌||◌, ℕ, Bool, true, false, ◌∷◌, Option, Some, ap, ◌∙◌}
use Rattle.std.specs.Option.{is_some}
use Rattle.vl_values.specs.declared.cause.Cause.{Cause}
use Rattle.vl_values.specs.declared.group.Group.TheVariants.{Pre, Main}
use Rattle.vl_sql.specs.declared.stmt.Stmt.{Stmt}
use Rattle.vl_sql.specs.declared.stmt.Stmt.TheVariants as stmts
use Rattle.vl_catalog.specs.declared.catalog.Catalog.{Catalog}
use Rattle.vl_port.specs.declared.limits.Limits.{Limits}
use Rattle.vl_port.specs.declared.who.Who.{Who}
use Rattle.vl_run.specs.declared.deed.Deed.TheVariants as deeds
use Rattle.vl_run.specs.declared.event.Event.{Event}
use Rattle.vl_run.specs.declared.fault.Fault.{Fault}
use Rattle.vl_run.specs.declared.what.What.TheVariants as whats
use Rattle.vl_run.specs.Allowed.{Answers, IsDone, IsErr, IsUnharmed}
use Rattle.vl_run.specs.Allowed.IsDone.{DidCommit}
use Rattle.vl_run.specs.Machine.{Machine, of_tx}
use Rattle.vl_run.specs.Run.{Run}
use Rattle.vl_run.specs.Session.{Owned, Session, is_kept}
use Rattle.vl_run.specs.Progress.{has_begun_to_commit, has_written}
use Rattle.vl_run.specs.Run.Point.{Happened}

-- a ROLLBACK commits nothing
pub no_commit_by_rollback : (catalog : Catalog) (u : Machine) (now : Run) (n : ℕ) (owned : Option Owned) (who : Who) (shard : ℕ) → IsDone catalog u now n stmts.Rollback owned (deeds.Commits who shard) → ⊥
no_commit_by_rollback catalog u now n owned who shard (DidCommit plan own w s planned is worked committing due) = absurd (cc)

-- a statement that is a transaction of its own leaves none open where it is refused
pub single_is_over : (catalog : Catalog) (limits : Limits) (past : Run) (e : Event) (n number code : ℕ) (stmt : Stmt) (s : Session) (why : Cause) (tx : Bool) → s.owned ≡ Some (record { number = number; single = true }) → IsErr catalog limits past e n stmt s code why tx → tx ≡ false
single_is_over catalog limits past e n number code stmt s why tx single err = err.kept ∙ ap (λ (o : Option Owned). is_kept (has_written (Happened e ∷ past) n) (is_some e.fault || has_begun_to_commit (Happened e ∷ past) n) o) single

-- no statement is answered as done, and none goes on, where a commit of pre or main failed
pub no_ok_of_failed_main : (n tx shard : ℕ) (fault : Fault) → IsUnharmed (deeds.Fails (of_tx n tx Main) shard) (Some fault) → ⊥
no_ok_of_failed_main n tx shard fault (some, post) = absurd (cc)

pub no_ok_of_failed_pre : (n tx shard : ℕ) (fault : Fault) → IsUnharmed (deeds.Fails (of_tx n tx Pre) shard) (Some fault) → ⊥
no_ok_of_failed_pre n tx shard fault (some, post) = absurd (cc)

-- an answer that is told is no Stray
pub never_stray : (catalog : Catalog) (limits : Limits) (past : Run) (e : Event) → Answers catalog limits past e whats.Stray → ⊥
never_stray catalog limits past e answers = answers.allowed
