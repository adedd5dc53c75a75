-- An event of one client session leaves what the run says of the statements of all others.
use Rattle.std.proofs.Common.{◌≡◌, ◌==◌, if◌then◌else◌, ℕ, Bool, false, [], ◌∷◌, ap, subst, sym}
use Rattle.vl_catalog.specs.declared.catalog.Catalog.{Catalog}
use Rattle.vl_run.specs.declared.deed.Deed.{Deed}
use Rattle.vl_run.specs.declared.event.Event.{Event}
use Rattle.vl_run.specs.declared.mark.Mark.{Mark}
use Rattle.vl_run.specs.Gathered.{Given, GivenBy, OwnOr, Rows, SinceIf, shown}
use Rattle.vl_run.specs.Numbers.{next_event}
use Rattle.vl_run.specs.Progress.{or_visit, own_tries, session, since, summed, tries, visited_by}
use Rattle.vl_run.specs.Run.{Run, at, seat, seat_after}
use Rattle.vl_run.specs.Run.Point.{Happened}
use Rattle.vl_run.specs.Session.{session_after}

module _ (e : Event) (past : Run) (n : ℕ) (other : (e.session == n) ≡ false) where
  -- its transaction, autocommit, its statement in progress
  pub session_stays : session (Happened e ∷ past) n ≡ session past n
  session_stays = ap (λ b. if b then session_after e.request e.told e.opens (session past n) else session past n) other

  -- what its statement has written, claimed, read and committed
  pub sum_stays : {A : Type 0} (start : A) (more : Deed → A → A) → summed start more (Happened e ∷ past) n ≡ summed start more past n
  sum_stays start more = ap (λ b. if b then more e.deed (since e.request start (summed start more past n)) else summed start more past n) other

  pub tries_stay : tries (Happened e ∷ past) n ≡ tries past n
  tries_stay = ap (λ b. if b then own_tries e.request e.told (tries past n) else tries past n) other

  pub visits_stay : visited_by (Happened e ∷ past) n ≡ visited_by past n
  visits_stay = ap (λ b. if b then or_visit e.visits (since e.request [] (visited_by past n)) else visited_by past n) other

  -- its last event number
  pub seat_stays : seat (Happened e ∷ past) n ≡ seat past n
  seat_stays = ap (λ b. if b then seat_after e.request (next_event (at past)) (seat past n) else seat past n) other

  -- what its reads gave
  pub given_stays : (catalog : Catalog) (is : Mark → Bool) (rows : Rows) → Given catalog is past n rows → Given catalog is (Happened e ∷ past) n rows
  given_stays catalog is rows given = subst (λ b. OwnOr b (GivenBy catalog is (shown catalog past) e.deed (SinceIf e.request (Given catalog is past n)) rows) (Given catalog is past n rows)) (sym other) given
