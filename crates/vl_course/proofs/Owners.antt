-- Each act of a statement goes by its session's own transaction, and no two sessions have one transaction.
use Rattle.std.proofs.Common.{◌≡◌, ◌∙◌, ◌==◌, ◌<◌, if◌then◌else◌, ℕ, Bool, true, false, Option, Some, None, sym, ap, subst}
use Rattle.std.specs.List.{list_any}
use Rattle.std.proofs.lemmas.Option.{same_Some}
use Rattle.vl_values.specs.declared.group.Group.{Group}
use Rattle.vl_values.specs.declared.group.Group.TheVariants.{Pre}
use Rattle.vl_catalog.specs.declared.catalog.Catalog.{Catalog}
use Rattle.vl_sql.specs.declared.stmt.Stmt.{Stmt}
use Rattle.vl_port.specs.declared.act.Act.{Act}
use Rattle.vl_port.specs.declared.who.Who.{Who}
use Rattle.vl_plan.specs.declared.plan.Plan.{Plan}
use Rattle.vl_run.specs.declared.deed.Deed.{Deed}
use Rattle.vl_run.specs.declared.deed.Deed.TheVariants as deeds
use Rattle.vl_run.specs.Allowed.{IsDone}
use Rattle.vl_run.specs.Allowed.IsDone.{DidAct, DidCommit, DidFail, DidNothing}
use Rattle.vl_run.specs.Machine.{Machine, of_tx}
use Rattle.vl_run.specs.Named.{Checks, Claims, FindsToRemove, FindsToSet, Inserts, IsDue, Looks, LooksToRemove, LooksToSet, Purpose, Redirects, Removes, Selects, Sets, read_by, reader}
use Rattle.vl_run.specs.Run.{Run, used}
use Rattle.vl_run.specs.Session.{Owned}
use Rattle.vl_course.specs.Course.{IsApart, IsBelow, IsOf}

-- ---- who acts

by_reader : (n tx : ℕ) (group : Group) (there : Bool) (who : Who) → who ≡ (if there then of_tx n tx group else record { session = n; tx = tx; group = None }) → who.tx ≡ tx
by_reader n tx group true who is = ap (λ (w : Who). w.tx) is
by_reader n tx group false who is = ap (λ (w : Who). w.tx) is

by_plain : (now : Run) (n tx : ℕ) (group : Group) (shard : ℕ) (who : Who) → who ≡ reader now n tx group shard → who.tx ≡ tx
by_plain now n tx group shard who is = by_reader n tx group (list_any (λ other. other == shard) (used now tx group)) who is

by_read : (now : Run) (n tx : ℕ) (group : Group) (locking : Bool) (shard : ℕ) (who : Who) → who ≡ read_by now n tx group locking shard → who.tx ≡ tx
by_read now n tx group true shard who is = ap (λ (w : Who). w.tx) is
by_read now n tx group false shard who is = by_plain now n tx group shard who is

due_own : (catalog : Catalog) (u : Machine) (now : Run) (n tx : ℕ) (plan : Plan) (purpose : Purpose) (who : Who) (shard : ℕ) (act : Act) → IsDue catalog u now n tx plan purpose who shard act → who.tx ≡ tx
due_own catalog u now n tx plan purpose who shard act (Claims p w s a is) = ap (λ (w : Who). w.tx) is.by
due_own catalog u now n tx plan purpose who shard act (Checks p w s a is) = ap (λ (w : Who). w.tx) is.by
due_own catalog u now n tx plan purpose who shard act (Redirects p w s a is) = ap (λ (w : Who). w.tx) is.by
due_own catalog u now n tx plan purpose who shard act (Inserts p w s a is) = ap (λ (w : Who). w.tx) is.by
due_own catalog u now n tx plan purpose who shard act (Looks p w s a is) = by_plain now n tx Pre shard who is.by
due_own catalog u now n tx plan purpose who shard act (Selects p w s a is) = by_read now n tx _ p.locking shard who is.by
due_own catalog u now n tx plan purpose who shard act (LooksToSet p w s a is) = by_plain now n tx Pre shard who is.by
due_own catalog u now n tx plan purpose who shard act (FindsToSet p w s a is) = by_read now n tx _ true shard who is.by
due_own catalog u now n tx plan purpose who shard act (Sets p rows w s a read is) = ap (λ (w : Who). w.tx) is.by
due_own catalog u now n tx plan purpose who shard act (LooksToRemove p w s a is) = by_plain now n tx Pre shard who is.by
due_own catalog u now n tx plan purpose who shard act (FindsToRemove p w s a is) = by_read now n tx _ true shard who is.by
due_own catalog u now n tx plan purpose who shard act (Removes p rows w s a read is) = ap (λ (w : Who). w.tx) is.by

-- what was done is of the session's transaction
pub done_own : (catalog : Catalog) (u : Machine) (now : Run) (n : ℕ) (stmt : Stmt) (owned : Option Owned) (own : Owned) (deed : Deed) → owned ≡ Some own → IsDone catalog u now n stmt owned deed → IsOf deed own.number
done_own catalog u now n stmt owned own deed is DidNothing = tt
done_own catalog u now n stmt owned own deed is (DidAct purpose who shard act mark next comes marked) =
    due_own catalog u now n next.own.number next.plan purpose who shard act next.due ∙ ap (λ (o : Owned). o.number) (same_Some next.own own (sym next.owns ∙ is))
done_own catalog u now n stmt owned own deed is (DidCommit plan it who shard planned owns worked commits due) = tt
done_own catalog u now n stmt owned own deed is (DidFail plan it who shard planned owns worked commits due) = tt

pub apart_of : (deed : Deed) (a b : ℕ) → IsOf deed a → (a == b) ≡ false → IsApart deed b
apart_of deeds.Nothing a b of apart = tt
apart_of (deeds.Acts who shard act mark) a b of apart = ap (λ (k : ℕ). k == b) of ∙ apart
apart_of (deeds.Commits who shard) a b of apart = tt
apart_of (deeds.Fails who shard) a b of apart = tt

pub below_of : (deed : Deed) (a next : ℕ) → IsOf deed a → a < next → IsBelow deed next
below_of deeds.Nothing a next of below = tt
below_of (deeds.Acts who shard act mark) a next of below = subst (λ (k : ℕ). k < next) (sym of) below
below_of (deeds.Commits who shard) a next of below = tt
below_of (deeds.Fails who shard) a next of below = tt
