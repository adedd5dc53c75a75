-- Client sessions that join and leave, and transactions whose numbers are still to be given.
use Rattle.std.proofs.Common.{◌≡◌, ◌≢◌, ◌∙◌, ◌==◌, ◌<◌, ◌≤◌, ◌||◌, ◌++◌, ◌⊎◌, ◌↔◌, ◌∷◌, ◌+◌, [], if◌then◌else◌, ℕ, Bool, true, false, List, Contains, Option, Some, None, ap, inl, inr, refl, sym, subst, arith}
use Rattle.std.specs.Prelude.{filter, not, remove, slice_get}
use Rattle.std.specs.Option.{is_some}
use Rattle.std.proofs.lemmas.Bool.{eq-eqb, eqb-true, true≢false}
use Rattle.std.specs.List.{AllPairs}
use Rattle.std.proofs.lemmas.List.{length-append}
use Rattle.std.proofs.lemmas.List.Kept.{AllPairs-filter}
use Rattle.std.proofs.lemmas.List.Elements.{Contains-append_cases, Contains-append_left, Contains-append_right}
use Rattle.std.proofs.lemmas.Option.{same_Some, slice_get_within}
use Rattle.vl_catalog.specs.declared.catalog.Catalog.{Catalog}
use Rattle.vl_port.specs.declared.limits.Limits.{Limits}
use Rattle.vl_port.specs.declared.who.Who.{Who}
use Rattle.vl_port.specs.Life.{loss_in}
use Rattle.vl_port.specs.Serving.{Shards}
use Rattle.vl_run.specs.declared.deed.Deed.{Deed}
use Rattle.vl_run.specs.declared.event.Event.{Event}
use Rattle.vl_run.specs.declared.request.Request.{Request}
use Rattle.vl_run.specs.declared.request.Request.TheVariants as requests
use Rattle.vl_run.specs.Allowed.{IsStill, Joins}
use Rattle.vl_run.specs.Numbers.{next_event}
use Rattle.vl_run.specs.Progress.{session, warned, warnings_before, warnings_by}
use Rattle.vl_run.specs.Run.{Run, at, behind_opened, joined, joined_after, kills, next_tx, seat, seat_after, was_killed}
use Rattle.vl_run.specs.Run.Point.{Happened}
use Rattle.vl_run.specs.Session.{Session, fresh, session_after}
use Rattle.vl_run.proofs.Others.{seat_stays, session_stays}
use Rattle.vl_course.specs.Course.{AreNumbered, HasNext, IsApart}
use Rattle.vl_session.specs.declared.work.Work.TheVariants as works
use Rattle.vl_session.specs.Ready.{IsUnopened}
use Rattle.vl_session.specs.Saying.{LeavesBut}
use Rattle.vl_session.specs.Standing.{IsHeldBy}
use Rattle.vl_seats.specs.declared.seat.Seat.{Seat}
use Rattle.vl_seats.specs.Seating.{AreJoined, AreSeated, AreUnopened, IsSeatAt}
use Rattle.vl_seats.specs.Staying.{IsSteady, acting_in, tx_in}
use Rattle.vl_seats.proofs.Aside.{Has, Owns, SameSessions, acts_apart, same_sessions, seat_stays_by, work_has}
use Rattle.vl_seats.proofs.Own.{seat_behind, session_behind}
use Rattle.vl_seats.proofs.Places.{contains_get, filter_back, filter_out, filter_with, filter_without, get_append, get_remove, length_remove, one_of, one_place, pairs_with, skip, skip_apart}

-- ---- numbers that are still to be given

module _ (catalog : Catalog) (limits : Limits) (past : Run) (count : ℕ) (old new : Shards) (e : Event) (n : ℕ) (s : Seat) (opens : HasNext (next_tx past) e.opens) (numbered : AreNumbered past) (seated : IsSeatAt catalog limits past count old n s) where
  more_next : (it : Option ℕ) (next : ℕ) → HasNext next it → next ≤ behind_opened it next
  more_next None next has = omega arith
  more_next (Some number) next has = omega (arith, has)

  below_opened : (it : Option ℕ) (next tx : ℕ) → HasNext next it → it ≡ Some tx → tx < behind_opened it next
  below_opened None next tx has is = absurd (cc)
  below_opened (Some number) next tx has is = omega (arith, same_Some number tx is)

  owned_below : (number : ℕ) → Has past n number → number < next_tx past
  owned_below number (Owns own owned is) = omega (arith, is, numbered.owned.given n own owned)

  acts_below : (mine : Option ℕ) → tx_in s.work ≡ mine → (tx : ℕ) → acting_in mine e.opens ≡ Some tx → tx < next_tx (Happened e ∷ past)
  acts_below None is tx acts = below_opened e.opens (next_tx past) tx opens acts
  acts_below (Some mine) is tx acts =
      omega (arith, owned_below mine (work_has catalog limits past n s.work mine seated.stands is), same_Some mine tx acts, more_next e.opens (next_tx past) opens)

  pub unopened_stay : ((who : Who) (shard : ℕ) → kills e.request shard who ≡ false) → LeavesBut (acting_in (tx_in s.work) e.opens) old new → AreUnopened past count old → AreUnopened (Happened e ∷ past) count new
  unopened_stay spares leaves before tx above = record {
    sessions = λ shard who is. none shard who is;
    losses = λ shard who is. ap (loss_in (new shard).incarnation) (none shard who is);
    spared = λ shard who is. ap (λ b. b || was_killed past who shard) (spares who shard) ∙ was.spared shard who is;
  }
    where
      was : IsUnopened past count tx old
      was = before tx (omega (arith, above, more_next e.opens (next_tx past) opens))

      sames : SameSessions tx old new
      sames = same_sessions (acting_in (tx_in s.work) e.opens) old new tx leaves (λ acts is same. absurd (omega (arith, acts_below (tx_in s.work) refl acts is, same, above)))

      none : (shard : ℕ) (who : Who) → who.tx ≡ tx → (new shard).sessions who ≡ None
      none shard who is = sames shard who is ∙ was.sessions shard who is

-- ---- a session joins

module _ (past : Run) (e : Event) (join : e.request ≡ requests.Join) (joins : Joins past e) where
  joined_behind : joined (Happened e ∷ past) ≡ joined past ++ e.session ∷ []
  joined_behind = ap (λ (r : Request). joined_after r e.session (joined past)) join

  seat_joined : seat (Happened e ∷ past) e.session ≡ Some (next_event (at past))
  seat_joined = seat_behind past e ∙ ap (λ (r : Request). seat_after r (next_event (at past)) (seat past e.session)) join

  pub joined_with : AreJoined past → AreJoined (Happened e ∷ past)
  joined_with before = record {
    apart = subst (AllPairs (λ one other. one ≢ other)) (sym joined_behind) (pairs_with (joined past) e.session before.apart joins.number.2);
    seated = λ n. seated_by n (e.session == n) refl;
    absent = λ n none. absent_by n (e.session == n) refl none;
  }
    where
      back_by : (n : ℕ) → (e.session == n) ≡ false → Contains (joined past) n ⊎ Contains (e.session ∷ []) n → Contains (joined past) n
      back_by n other (inl there) = there
      back_by n other (inr last) = absurd (true≢false (sym (eq-eqb e.session n (one_of e.session n last)) ∙ other))

      back : (n : ℕ) → (e.session == n) ≡ false → Contains (joined past ++ e.session ∷ []) n → Contains (joined past) n
      back n other there = back_by n other (Contains-append_cases (joined past) (e.session ∷ []) n there)

      seated_here : (n : ℕ) → e.session ≡ n → Contains (joined (Happened e ∷ past)) n ↔ (is_some (seat (Happened e ∷ past) n) ≡ true)
      seated_here n is = (
        λ there. subst (λ (k : ℕ). is_some (seat (Happened e ∷ past) k) ≡ true) is (ap is_some seat_joined),
        λ some. subst (λ (l : List ℕ). Contains l n) (sym joined_behind) (Contains-append_right (joined past) (e.session ∷ []) n (0, omega arith, is)),
      )

      seated_there : (n : ℕ) → (e.session == n) ≡ false → Contains (joined (Happened e ∷ past)) n ↔ (is_some (seat (Happened e ∷ past) n) ≡ true)
      seated_there n other = (
        λ there. ap is_some (seat_stays e past n other) ∙ (before.seated n).0 (back n other (subst (λ (l : List ℕ). Contains l n) joined_behind there)),
        λ some. subst (λ (l : List ℕ). Contains l n) (sym joined_behind) (Contains-append_left (joined past) (e.session ∷ []) n ((before.seated n).1 (sym (ap is_some (seat_stays e past n other)) ∙ some))),
      )

      seated_by : (n : ℕ) (t : Bool) → (e.session == n) ≡ t → Contains (joined (Happened e ∷ past)) n ↔ (is_some (seat (Happened e ∷ past) n) ≡ true)
      seated_by n true is = seated_here n (eqb-true e.session n is)
      seated_by n false is = seated_there n is

      absent_by : (n : ℕ) (t : Bool) → (e.session == n) ≡ t → (Contains (joined (Happened e ∷ past)) n → ⊥) → session (Happened e ∷ past) n ≡ fresh
      absent_by n true is none = absurd (none ((seated_here n (eqb-true e.session n is)).1 ((subst (λ (k : ℕ). is_some (seat (Happened e ∷ past) k) ≡ true) (eqb-true e.session n is) (ap is_some seat_joined)))))
      absent_by n false is none = session_stays e past n is ∙ before.absent n (λ there. none (subst (λ (l : List ℕ). Contains l n) (sym joined_behind) (Contains-append_left (joined past) (e.session ∷ []) n there)))

module _ (catalog : Catalog) (limits : Limits) (past : Run) (count : ℕ) (seen : Shards) (e : Event) (join : e.request ≡ requests.Join) (joins : Joins past e) where
  abbrev pub behind : Seat
  behind = record { at = next_event (at past); auto = true; keyspace = None; work = works.Idle None }

  fresh_behind : session (Happened e ∷ past) e.session ≡ session_after requests.Join e.told e.opens (session past e.session)
  fresh_behind = session_behind past e ∙ ap (λ (r : Request). session_after r e.told e.opens (session past e.session)) join

  fresh_seat : IsSeatAt catalog limits (Happened e ∷ past) count seen e.session behind
  fresh_seat = record {
    at = seat_joined past e join joins;
    auto = sym (ap (λ (x : Session). x.auto) fresh_behind);
    keyspace = sym (ap (λ (x : Session). x.keyspace) fresh_behind);
    stands = record {
      idle = ap (λ (x : Session). x.doing) fresh_behind;
      held = subst (λ o. IsHeldBy limits (Happened e ∷ past) e.session o None) (sym (ap (λ (x : Session). x.owned) fresh_behind)) tt;
    };
    ready = tt;
    marked = tt;
    unwarned = ap (λ b. if b then warnings_before e.request (warned catalog past e.session) ++ warnings_by catalog e.deed e.fault else warned catalog past e.session) (eq-eqb e.session e.session refl)
        ∙ ap (λ (r : Request). warnings_before r (warned catalog past e.session) ++ warnings_by catalog e.deed e.fault) join
        ∙ ap (λ (d : Deed). warnings_by catalog d e.fault) joins.still.deed;
  }

  -- nothing is done, and the shards are as they were
  still_apart : (number : ℕ) → IsApart e.deed number
  still_apart number = subst (λ (d : Deed). IsApart d number) (sym joins.still.deed) tt

  spares : (who : Who) (shard : ℕ) → kills e.request shard who ≡ false
  spares who shard = ap (λ (r : Request). kills r shard who) join

  new_number : (m : ℕ) → Contains (joined past) m → (e.session == m) ≡ false
  new_number m there = by_test (e.session == m) refl
    where
      by_test : (t : Bool) → (e.session == m) ≡ t → (e.session == m) ≡ false
      by_test false is = is
      by_test true is = absurd (joins.number.2 (subst (Contains (joined past)) (sym (eqb-true e.session m is)) there))

  pub seats_with : (numbers : List ℕ) (seats : List Seat) → AreSeated catalog limits past count seen numbers seats → AreSeated catalog limits (Happened e ∷ past) count seen (numbers ++ e.session ∷ []) (seats ++ behind ∷ [])
  seats_with numbers seats before = record {
    joined = ap (λ (l : List ℕ). l ++ e.session ∷ []) before.joined ∙ sym (joined_behind past e join joins);
    long = length-append seats (behind ∷ []) ∙ ap (λ (k : ℕ). k + 1) before.long ∙ sym (length-append numbers (e.session ∷ []));
    each = each;
  }
    where
      each : (place m : ℕ) (it : Seat) → slice_get (numbers ++ e.session ∷ []) place ≡ Some m → slice_get (seats ++ behind ∷ []) place ≡ Some it → IsSeatAt catalog limits (Happened e ∷ past) count seen m it
      each place m it is_m is_it =
          elim (get_append numbers e.session place m is_m) [
            | inl old_m ↦
                elim (get_append seats behind place it is_it) [
                  | inl old_it ↦
                      seat_stays_by catalog limits past count seen seen e m (new_number m (subst (λ (l : List ℕ). Contains l m) before.joined (contains_get numbers place m old_m))) (λ own owned. still_apart own.number) spares (λ shard. refl) it
                      (λ number is shard who of. refl) (before.each place m it old_m old_it)
                  | inr end ↦ absurd (omega (arith, end.0, before.long, slice_get_within numbers place m old_m))
                ]
            | inr end ↦
                elim (get_append seats behind place it is_it) [
                  | inl old_it ↦ absurd (omega (arith, end.0, before.long, slice_get_within seats place it old_it))
                  | inr last ↦
                      subst (λ (k : ℕ). IsSeatAt catalog limits (Happened e ∷ past) count seen k it) (sym end.1) (subst (IsSeatAt catalog limits (Happened e ∷ past) count seen e.session) (sym last.1) fresh_seat)
                ]
          ]

-- ---- a session leaves

module _ (past : Run) (e : Event) (leave : e.request ≡ requests.Leave) where
  joined_left : joined (Happened e ∷ past) ≡ filter (λ m. not (m == e.session)) (joined past)
  joined_left = ap (λ (r : Request). joined_after r e.session (joined past)) leave

  seat_left : seat (Happened e ∷ past) e.session ≡ None
  seat_left = seat_behind past e ∙ ap (λ (r : Request). seat_after r (next_event (at past)) (seat past e.session)) leave

  session_left : session (Happened e ∷ past) e.session ≡ fresh
  session_left = session_behind past e ∙ ap (λ (r : Request). session_after r e.told e.opens (session past e.session)) leave

  pub joined_without : AreJoined past → AreJoined (Happened e ∷ past)
  joined_without before = record {
    apart = subst (AllPairs (λ one other. one ≢ other)) (sym joined_left) (AllPairs-filter (λ one other. one ≢ other) (λ m. not (m == e.session)) (joined past) before.apart);
    seated = λ n. seated_by n (e.session == n) refl;
    absent = λ n none. absent_by n (e.session == n) refl none;
  }
    where
      left_out : (n : ℕ) → e.session ≡ n → Contains (joined (Happened e ∷ past)) n → ⊥
      left_out n is there = filter_without (joined past) e.session (subst (Contains (filter (λ m. not (m == e.session)) (joined past))) (sym is) (subst (λ (l : List ℕ). Contains l n) joined_left there))

      stays_in : (n : ℕ) → (e.session == n) ≡ false → Contains (joined past) n → Contains (joined (Happened e ∷ past)) n
      stays_in n other there = subst (λ (l : List ℕ). Contains l n) (sym joined_left) (filter_with (joined past) e.session n other there)

      was_in : (n : ℕ) → Contains (joined (Happened e ∷ past)) n → Contains (joined past) n
      was_in n there = filter_back (joined past) e.session n (subst (λ (l : List ℕ). Contains l n) joined_left there)

      none_some : {A : Type 0} (o : Option A) → o ≡ None → is_some o ≡ true → ⊥
      none_some o none some = cc

      seated_by : (n : ℕ) (t : Bool) → (e.session == n) ≡ t → Contains (joined (Happened e ∷ past)) n ↔ (is_some (seat (Happened e ∷ past) n) ≡ true)
      seated_by n true is = (
        λ there. absurd (left_out n (eqb-true e.session n is) there),
        λ some. absurd (none_some (seat (Happened e ∷ past) e.session) seat_left (subst (λ (k : ℕ). is_some (seat (Happened e ∷ past) k) ≡ true) (sym (eqb-true e.session n is)) some)),
      )
      seated_by n false is = (
        λ there. ap is_some (seat_stays e past n is) ∙ (before.seated n).0 (was_in n there),
        λ some. stays_in n is ((before.seated n).1 (sym (ap is_some (seat_stays e past n is)) ∙ some)),
      )

      absent_by : (n : ℕ) (t : Bool) → (e.session == n) ≡ t → (Contains (joined (Happened e ∷ past)) n → ⊥) → session (Happened e ∷ past) n ≡ fresh
      absent_by n true is none = subst (λ (k : ℕ). session (Happened e ∷ past) k ≡ fresh) (eqb-true e.session n is) session_left
      absent_by n false is none = session_stays e past n is ∙ before.absent n (λ there. none (stays_in n is there))

module _ (catalog : Catalog) (limits : Limits) (past : Run) (count : ℕ) (old new : Shards) (e : Event) (numbers : List ℕ) (seats : List Seat) (place n : ℕ) (s : Seat) (by : e.session ≡ n) (leave : e.request ≡ requests.Leave) (still : IsStill e)
    (numbered : AreNumbered past) (join : AreJoined past) (steady : IsSteady old new) (before : AreSeated catalog limits past count old numbers seats) (is_n : slice_get numbers place ≡ Some n) (is_s : slice_get seats place ≡ Some s)
    (leaves : LeavesBut (tx_in s.work) old new) where
  apart_left : (other m : ℕ) → other ≢ place → slice_get numbers other ≡ Some m → (n == m) ≡ false
  apart_left other m apart is_m = by_test (n == m) refl
    where
      by_test : (t : Bool) → (n == m) ≡ t → (n == m) ≡ false
      by_test false is = is
      by_test true is =
          absurd (apart (one_place (joined past) other place n join.apart (subst (λ (l : List ℕ). slice_get l other ≡ Some n) before.joined (is_m ∙ ap Some (sym (eqb-true n m is)))) (subst (λ (l : List ℕ). slice_get l place ≡ Some n) before.joined is_n)))

  acts_none : (mine tx : Option ℕ) → tx ≡ acting_in tx None
  acts_none mine None = refl
  acts_none mine (Some tx) = refl

  stays_at : (other m : ℕ) (it : Seat) → other ≢ place → slice_get numbers other ≡ Some m → slice_get seats other ≡ Some it → IsSeatAt catalog limits (Happened e ∷ past) count new m it
  stays_at other m it apart is_m is_it =
      let seated = before.each other m it is_m is_it in
      let others = apart_left other m apart is_m in
      seat_stays_by catalog limits past count old new e m (ap (λ (k : ℕ). k == m) by ∙ others) (λ own owned. subst (λ (d : Deed). IsApart d own.number) (sym still.deed) tt) (λ who shard. ap (λ (r : Request). kills r shard who) leave) steady it
      (λ number is. same_sessions (tx_in s.work) old new number leaves
      (λ tx acts. acts_apart catalog limits past count old new e n m others by s numbered None tt (before.each place n s is_n is_s) number (work_has catalog limits past m it.work number seated.stands is) tx (sym (acts_none None (tx_in s.work)) ∙ acts))) seated

  pub seats_without : AreSeated catalog limits (Happened e ∷ past) count new (remove numbers place) (remove seats place)
  seats_without = record {
    joined = sym (filter_out numbers place n (subst (AllPairs (λ one other. one ≢ other)) (sym before.joined) join.apart) is_n)
        ∙ ap (λ (k : ℕ). filter (λ m. not (m == k)) numbers) (sym by)
        ∙ ap (filter (λ m. not (m == e.session))) before.joined
        ∙ sym (joined_left past e leave);
    long = omega (arith, length_remove seats place (slice_get_within seats place s is_s), length_remove numbers place (slice_get_within numbers place n is_n), before.long);
    each = λ other m it is_m is_it. stays_at (skip place other) m it (skip_apart place other) (sym (get_remove numbers place other (slice_get_within numbers place n is_n)) ∙ is_m)
        (sym (get_remove seats place other (slice_get_within seats place s is_s)) ∙ is_it);
  }
