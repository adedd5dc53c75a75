-- All seats behind an event of one client session.
use Rattle.std.proofs.Common.{◌≡◌, ◌≢◌, ◌∙◌, ◌==◌, ◌∷◌, ℕ, Bool, true, false, List, Some, ap, refl, sym, subst}
use Rattle.std.specs.Prelude.{slice_get, slice_set}
use Rattle.std.proofs.lemmas.Bool.{eq-eqb, eqb-true, true≢false}
use Rattle.std.proofs.lemmas.List.{length-set}
use Rattle.std.proofs.lemmas.Option.{same_Some, slice_get_within}
use Rattle.vl_catalog.specs.declared.catalog.Catalog.{Catalog}
use Rattle.vl_port.specs.declared.limits.Limits.{Limits}
use Rattle.vl_port.specs.declared.who.Who.{Who}
use Rattle.vl_port.specs.Serving.{Shards}
use Rattle.vl_run.specs.declared.event.Event.{Event}
use Rattle.vl_run.specs.declared.request.Request.{Request}
use Rattle.vl_run.specs.declared.request.Request.TheVariants as requests
use Rattle.vl_run.specs.Run.{Run, joined, joined_after, kills, next_tx}
use Rattle.vl_run.specs.Run.Point.{Happened}
use Rattle.vl_course.specs.Course.{AreNumbered, HasNext}
use Rattle.vl_session.specs.Saying.{LeavesBut}
use Rattle.vl_seats.specs.declared.seat.Seat.{Seat}
use Rattle.vl_seats.specs.Seating.{AreJoined, AreSeated, IsSeatAt}
use Rattle.vl_seats.specs.Staying.{IsSitting, IsSteady, MayHaveDone, acting_in, tx_in}
use Rattle.vl_seats.proofs.Aside.{seat_aside}
use Rattle.vl_seats.proofs.Places.{get_set, get_set_other, one_place}

-- ---- requests by which a session stays joined

pub joined_same : (request : Request) (n : ℕ) (before : List ℕ) → IsSitting request → joined_after request n before ≡ before
joined_same requests.Join n before sits = absurd sits
joined_same (requests.Say stmt) n before sits = refl
joined_same requests.Reset n before sits = refl
joined_same requests.Step n before sits = refl
joined_same requests.Leave n before sits = absurd sits
joined_same (requests.Kill who shard) n before sits = absurd sits

pub kills_none : (request : Request) → IsSitting request → (who : Who) (shard : ℕ) → kills request shard who ≡ false
kills_none requests.Join sits who shard = absurd sits
kills_none (requests.Say stmt) sits who shard = refl
kills_none requests.Reset sits who shard = refl
kills_none requests.Step sits who shard = refl
kills_none requests.Leave sits who shard = absurd sits
kills_none (requests.Kill by on) sits who shard = absurd sits

-- ---- the seats

module _ (catalog : Catalog) (limits : Limits) (past : Run) (count : ℕ) (old new : Shards) (e : Event) (numbers : List ℕ) (seats : List Seat) (place n : ℕ) (s next : Seat) (by : e.session ≡ n) (sits : IsSitting e.request)
    (done : MayHaveDone catalog past e) (opens : HasNext (next_tx past) e.opens) (numbered : AreNumbered past) (join : AreJoined past) (steady : IsSteady old new) (before : AreSeated catalog limits past count old numbers seats)
    (is_n : slice_get numbers place ≡ Some n) (is_s : slice_get seats place ≡ Some s) (leaves : LeavesBut (acting_in (tx_in s.work) e.opens) old new) (stands : IsSeatAt catalog limits (Happened e ∷ past) count new n next) where
  pub apart_numbers : (other m : ℕ) → other ≢ place → slice_get numbers other ≡ Some m → (n == m) ≡ false
  apart_numbers other m apart is_m = by_test (n == m) refl
    where
      by_test : (t : Bool) → (n == m) ≡ t → (n == m) ≡ false
      by_test false is = is
      by_test true is =
          absurd (apart (one_place (joined past) other place n join.apart (subst (λ (l : List ℕ). slice_get l other ≡ Some n) before.joined (is_m ∙ ap Some (sym (eqb-true n m is)))) (subst (λ (l : List ℕ). slice_get l place ≡ Some n) before.joined is_n)))

  at_place : (m : ℕ) (it : Seat) → slice_get numbers place ≡ Some m → slice_get (slice_set seats place next) place ≡ Some it → IsSeatAt catalog limits (Happened e ∷ past) count new m it
  at_place m it is_m is_it =
      subst (λ (k : ℕ). IsSeatAt catalog limits (Happened e ∷ past) count new k it) (same_Some n m (sym is_n ∙ is_m))
      (subst (IsSeatAt catalog limits (Happened e ∷ past) count new n) (same_Some next it (sym (get_set seats place next (slice_get_within seats place s is_s)) ∙ is_it)) stands)

  elsewhere : (other m : ℕ) (it : Seat) → other ≢ place → slice_get numbers other ≡ Some m → slice_get (slice_set seats place next) other ≡ Some it → IsSeatAt catalog limits (Happened e ∷ past) count new m it
  elsewhere other m it apart is_m is_it =
      seat_aside catalog limits past count old new e n m (apart_numbers other m apart is_m) by s done opens numbered (kills_none e.request sits) steady (before.each place n s is_n is_s) leaves it
      (before.each other m it is_m (sym (get_set_other seats place other next apart) ∙ is_it))

  each : (test : Bool) (other m : ℕ) (it : Seat) → (other == place) ≡ test → slice_get numbers other ≡ Some m → slice_get (slice_set seats place next) other ≡ Some it → IsSeatAt catalog limits (Happened e ∷ past) count new m it
  each true other m it is is_m is_it =
      let here = eqb-true other place is in
      at_place m it (ap (slice_get numbers) (sym here) ∙ is_m) (ap (slice_get (slice_set seats place next)) (sym here) ∙ is_it)
  each false other m it is is_m is_it = elsewhere other m it (λ same. true≢false (sym (eq-eqb other place same) ∙ is)) is_m is_it

  pub seats_stand : AreSeated catalog limits (Happened e ∷ past) count new numbers (slice_set seats place next)
  seats_stand = record {
    joined = before.joined ∙ sym (joined_same e.request e.session (joined past) sits);
    long = length-set seats place next ∙ before.long;
    each = λ other m it is_m is_it. each (other == place) other m it refl is_m is_it;
  }
