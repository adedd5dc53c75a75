-- The joined sessions behind an event by which none joins or leaves.
use Rattle.std.proofs.Common.{◌≡◌, ◌≢◌, ◌∙◌, ◌==◌, ◌∷◌, ◌↔◌, ℕ, Bool, true, false, List, Contains, Option, Some, ap, refl, sym, subst}
use Rattle.std.specs.List.{AllPairs}
use Rattle.std.specs.Option.{is_some}
use Rattle.std.proofs.lemmas.Bool.{eqb-true}
use Rattle.vl_run.specs.declared.event.Event.{Event}
use Rattle.vl_run.specs.Numbers.{next_event}
use Rattle.vl_run.specs.Progress.{session}
use Rattle.vl_run.specs.Run.{Run, at, joined, seat}
use Rattle.vl_run.specs.Run.Point.{Happened}
use Rattle.vl_run.specs.Session.{fresh}
use Rattle.vl_run.proofs.Others.{seat_stays, session_stays}
use Rattle.vl_seats.specs.Seating.{AreJoined}
use Rattle.vl_seats.specs.Staying.{IsSitting}
use Rattle.vl_seats.proofs.Own.{seat_behind, seated_after}
use Rattle.vl_seats.proofs.Seats.{joined_same}

pub joined_sits : (e : Event) (past : Run) (n seen : ℕ) → e.session ≡ n → IsSitting e.request → seat past n ≡ Some seen → AreJoined past → AreJoined (Happened e ∷ past)
joined_sits e past n seen by sits seated before = record {
  apart = subst (AllPairs (λ one other. one ≢ other)) (sym same) before.apart;
  seated = λ m. seated_by m (e.session == m) refl;
  absent = λ m none. absent_by m (e.session == m) refl none;
}
  where
    same : joined (Happened e ∷ past) ≡ joined past
    same = joined_same e.request e.session (joined past) sits

    is_in : (m : ℕ) → e.session ≡ m → Contains (joined past) m
    is_in m is = (before.seated m).1 (subst (λ (k : ℕ). is_some (seat past k) ≡ true) (sym by ∙ is) (ap is_some seated))

    seated_by : (m : ℕ) (t : Bool) → (e.session == m) ≡ t → Contains (joined (Happened e ∷ past)) m ↔ (is_some (seat (Happened e ∷ past) m) ≡ true)
    seated_by m true is = (
      λ there. subst (λ (k : ℕ). is_some (seat (Happened e ∷ past) k) ≡ true) (eqb-true e.session m is) (ap is_some (seat_behind past e ∙ seated_after e.request (next_event (at past)) (seat past e.session) sits)),
      λ some. subst (λ (l : List ℕ). Contains l m) (sym same) (is_in m (eqb-true e.session m is)),
    )
    seated_by m false is = (
      λ there. ap is_some (seat_stays e past m is) ∙ (before.seated m).0 (subst (λ (l : List ℕ). Contains l m) same there),
      λ some. subst (λ (l : List ℕ). Contains l m) (sym same) ((before.seated m).1 (sym (ap is_some (seat_stays e past m is)) ∙ some)),
    )

    absent_by : (m : ℕ) (t : Bool) → (e.session == m) ≡ t → (Contains (joined (Happened e ∷ past)) m → ⊥) → session (Happened e ∷ past) m ≡ fresh
    absent_by m true is none = absurd (none (subst (λ (l : List ℕ). Contains l m) (sym same) (is_in m (eqb-true e.session m is))))
    absent_by m false is none = session_stays e past m is ∙ before.absent m (λ there. none (subst (λ (l : List ℕ). Contains l m) (sym same) there))
