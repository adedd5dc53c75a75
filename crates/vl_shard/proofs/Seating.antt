-- Seats once one was found, added, taken or left.
use Rattle.std.proofs.Common.{◌≡◌, ◌<◌, ℕ, zero, suc, Bool, true, false, cond, set, List, [], ◌∷◌, ◌++◌, length, map, get_or, Option, Some, None, ◌⊎◌, inl, inr, refl, sym, ap, subst, ◌∙◌, arith, true≢false, take, drop, not, ◌+◌, ◌==◌, ◌&&◌}
use Rattle.std.specs.Option.{is_some}
use Rattle.std.proofs.lemmas.Bool.{and_parts, cases_Bool, eq-eqb}
use Rattle.std.proofs.lemmas.List.{length-map, take_at}
use Rattle.std.proofs.lemmas.List.Edits.{map_over_more}
use Rattle.std.proofs.Math.ListN.{get_or-map}
use Rattle.vl_values.specs.declared.group.Group.{Group}
use Rattle.vl_values.specs.declared.group.Group.TheVariants.{Pre, Main, Post}
use Rattle.vl_port.specs.declared.fate.Fate.{Fate}
use Rattle.vl_port.specs.declared.fate.Fate.TheVariants as fates
use Rattle.vl_port.specs.declared.opened.Opened.{Opened}
use Rattle.vl_port.specs.declared.who.Who.{Who}
use Rattle.vl_port.specs.View.{is_group, is_who}
use Rattle.vl_port.specs.Life.{lives_in, marked, opened_at}
use Rattle.vl_port.proofs.Naming.{is_who-true, is_who-same}
use Rattle.vl_shard.specs.declared.seat.Seat.{Seat}
use Rattle.vl_shard.specs.Seats.{is_of, seat_at, name_of, who_at, session_of, IsNumbered, IsOnce, IsPlaceFor, IsAbsent, SameSeats, HasSat, left_by, lost_by, is_live_of}

none_some : {X : Type 0} (x : X) → None ≡ Some x → ⊥
none_some x h = cc

-- ---- a free seat more

free_more : (seats : List (Option Seat)) (who : Who) → session_of (seats ++ None ∷ []) who ≡ session_of seats who
free_more [] who = refl
free_more (None ∷ seats) who = free_more seats who
free_more (Some seat ∷ seats) who = ap (λ (o : Option Opened). cond (is_who seat.who who) (Some seat.opened) o) (free_more seats who)

seat_more : (seats : List (Option Seat)) (conn : ℕ) → seat_at (seats ++ None ∷ []) conn ≡ seat_at seats conn
seat_more [] zero = refl
seat_more [] (suc conn) = refl
seat_more (s ∷ seats) zero = refl
seat_more (s ∷ seats) (suc conn) = seat_more seats conn

pub same_more : (old seats new : List (Option Seat)) → seats ≡ old → new ≡ seats ++ None ∷ [] → SameSeats old new
same_more old seats new same is = record {
  seats = λ conn. ap (λ (l : List (Option Seat)). seat_at l conn) is ∙ seat_more seats conn ∙ ap (λ (l : List (Option Seat)). seat_at l conn) same;
  sessions = λ who. ap (λ (l : List (Option Seat)). session_of l who) is ∙ free_more seats who ∙ ap (λ (l : List (Option Seat)). session_of l who) same;
}

-- ---- the seat of a session

pub seated_at : (seats : List (Option Seat)) (who : Who) (conn : ℕ) (o : Option Seat) → seat_at seats conn ≡ o → is_of who o ≡ true → (seat : Seat) × (seat_at seats conn ≡ Some seat) × (seat.who ≡ who)
seated_at seats who conn None is own = absurd (true≢false (sym own))
seated_at seats who conn (Some seat) is own = (seat, is, is_who-true seat.who who own)

pub place_for : (seats : List (Option Seat)) (who : Who) (conn : ℕ) → IsOnce seats → conn < length seats → is_of who (seat_at seats conn) ≡ true → IsPlaceFor seats who conn
place_for seats who conn once within own =
    let has = seated_at seats who conn (seat_at seats conn) refl own in
    record {
      within = within;
      own = λ seat is. ap (λ (o : Option Seat). elim_who o who) (sym is ∙ has.1) ∙ has.2;
      only = λ other seat is named. once other conn seat has.0 is has.1 (named ∙ sym has.2);
    }
  where
    elim_who : Option Seat → Who → Who
    elim_who None who = who
    elim_who (Some seat) who = seat.who

seated_some : (seats : List (Option Seat)) (conn : ℕ) (seat : Seat) → seat_at seats conn ≡ Some seat → is_some (session_of seats seat.who) ≡ true
seated_some [] conn seat is = absurd (none_some seat is)
seated_some (None ∷ seats) zero seat is = absurd (none_some seat is)
seated_some (None ∷ seats) (suc conn) seat is = seated_some seats conn seat is
seated_some (Some s ∷ seats) zero seat is =
    let same : s ≡ seat = cc in
    ap (λ (b : Bool). is_some (cond b (Some s.opened) (session_of seats seat.who))) (ap (λ (x : Seat). is_who x.who seat.who) same ∙ is_who-same seat.who)
seated_some (Some s ∷ seats) (suc conn) seat is =
    elim (cases_Bool (is_who s.who seat.who)) [
      | inl own ↦ ap (λ (b : Bool). is_some (cond b (Some s.opened) (session_of seats seat.who))) own
      | inr other ↦ ap (λ (b : Bool). is_some (cond b (Some s.opened) (session_of seats seat.who))) other ∙ seated_some seats conn seat is
    ]

pub seated_open : (seats : List (Option Seat)) (conn : ℕ) (who : Who) → who_at seats conn ≡ Some who → is_some (session_of seats who) ≡ true
seated_open seats conn who is = named (seat_at seats conn) refl is
  where
    named : (o : Option Seat) → seat_at seats conn ≡ o → name_of o ≡ Some who → is_some (session_of seats who) ≡ true
    named None at is = absurd (none_some who is)
    named (Some seat) at is = let same : seat.who ≡ who = cc in subst (λ (w : Who). is_some (session_of seats w) ≡ true) same (seated_some seats conn seat at)

pub none_seated : (seats : List (Option Seat)) (who : Who) → IsAbsent seats who → session_of seats who ≡ None
none_seated [] who absent = refl
none_seated (None ∷ seats) who absent = none_seated seats who (λ conn. absent (suc conn))
none_seated (Some seat ∷ seats) who absent =
    elim (cases_Bool (is_who seat.who who)) [
      | inl own ↦ absurd (absent 0 seat refl (is_who-true seat.who who own))
      | inr other ↦ ap (λ (b : Bool). cond b (Some seat.opened) (session_of seats who)) other ∙ none_seated seats who (λ conn. absent (suc conn))
    ]

-- ---- a session sits down

exchanged : {X : Type 0} (b a : Bool) (x y z : X) → (b ≡ true → a ≡ true → ⊥) → cond b x (cond a y z) ≡ cond a y (cond b x z)
exchanged true true x y z apart = absurd (apart refl refl)
exchanged true false x y z apart = refl
exchanged false true x y z apart = refl
exchanged false false x y z apart = refl

not_first : {X : Type 0} (b : Bool) (x : X) (rest : Option X) → cond b (Some x) rest ≡ None → (b ≡ false) × (rest ≡ None)
not_first true x rest h = absurd (none_some x (sym h))
not_first false x rest h = (refl, h)

session_set : (seats : List (Option Seat)) (conn : ℕ) (new : Seat) (who : Who) → conn < length seats → seat_at seats conn ≡ None → session_of seats new.who ≡ None
    → session_of (set seats conn (Some new)) who ≡ cond (is_who new.who who) (Some new.opened) (session_of seats who)
session_set [] conn new who within free absent = absurd (omega arith)
session_set (None ∷ seats) zero new who within free absent = refl
session_set (Some s ∷ seats) zero new who within free absent = absurd (none_some s (sym free))
session_set (None ∷ seats) (suc conn) new who within free absent = session_set seats conn new who (omega arith) free absent
session_set (Some s ∷ seats) (suc conn) new who within free absent =
    let apart = not_first (is_who s.who new.who) s.opened (session_of seats new.who) absent in
    ap (λ (o : Option Opened). cond (is_who s.who who) (Some s.opened) o) (session_set seats conn new who (omega arith) free apart.1)
    ∙ exchanged (is_who s.who who) (is_who new.who who) (Some s.opened) (Some new.opened) (session_of seats who)
    (λ mine yours. true≢false (sym (ap (λ (w : Who). is_who s.who w) (is_who-true new.who who yours ∙ sym (is_who-true s.who who mine)) ∙ is_who-same s.who) ∙ apart.0))

opens_new : (b : Bool) (incarnation : ℕ) (o : Option Opened) → (b ≡ true → o ≡ None) → cond b (Some (record { incarnation = incarnation; fate = fates.Live })) o ≡ cond b (opened_at incarnation o) o
opens_new true incarnation o none = ap (opened_at incarnation) (sym (none refl))
opens_new false incarnation o none = refl

pub opens_again : (b : Bool) (incarnation : ℕ) (o : Option Opened) → (b ≡ true → is_some o ≡ true) → o ≡ cond b (opened_at incarnation o) o
opens_again true incarnation None some = absurd (true≢false (sym (some refl)))
opens_again true incarnation (Some x) some = refl
opens_again false incarnation o some = refl

seat_set : (seats : List (Option Seat)) (conn : ℕ) (s : Option Seat) → conn < length seats → seat_at (set seats conn s) conn ≡ s
seat_set [] conn s within = absurd (omega arith)
seat_set (x ∷ seats) zero s within = refl
seat_set (x ∷ seats) (suc conn) s within = seat_set seats conn s (omega arith)

-- a seat once another was taken: as before, or it is that one
seat_cases : (seats : List (Option Seat)) (conn other : ℕ) (s : Option Seat) → (seat_at (set seats conn s) other ≡ seat_at seats other) ⊎ ((other ≡ conn) × (seat_at (set seats conn s) other ≡ s))
seat_cases [] conn other s = inl refl
seat_cases (x ∷ seats) zero zero s = inr (refl, refl)
seat_cases (x ∷ seats) zero (suc other) s = inl refl
seat_cases (x ∷ seats) (suc conn) zero s = inl refl
seat_cases (x ∷ seats) (suc conn) (suc other) s = elim (seat_cases seats conn other s) [ inl same ↦ inl same | inr one ↦ inr (ap (λ (n : ℕ). suc n) one.0, one.1) ]

still_there : (seats : List (Option Seat)) (conn other : ℕ) (s : Option Seat) (seat : Seat) → seat_at seats conn ≡ None → seat_at seats other ≡ Some seat → seat_at (set seats conn s) other ≡ Some seat
still_there seats conn other s seat free is =
    elim (seat_cases seats conn other s) [
      | inl same ↦ same ∙ is
      | inr one ↦ absurd (none_some seat (sym free ∙ ap (seat_at seats) (sym one.0) ∙ is))
    ]

absent_by : (seats : List (Option Seat)) (who : Who) (conn : ℕ) → IsPlaceFor seats who conn → seat_at seats conn ≡ None → IsAbsent seats who
absent_by seats who conn place free other seat is named = none_some seat (sym free ∙ ap (seat_at seats) (sym (place.only other seat is named)) ∙ is)

pub sat_new : (seats new : List (Option Seat)) (who : Who) (conn incarnation : ℕ) → IsPlaceFor seats who conn → seat_at seats conn ≡ None
    → new ≡ set seats conn (Some (record { who = who; opened = record { incarnation = incarnation; fate = fates.Live } })) → HasSat seats who incarnation conn new
sat_new seats new who conn incarnation place free is =
    let seat : Seat = record { who = who; opened = record { incarnation = incarnation; fate = fates.Live } } in
    let absent = none_seated seats who (absent_by seats who conn place free) in
    subst (HasSat seats who incarnation conn) (sym is)
    (record {
      own = ap name_of (seat_set seats conn (Some seat) place.within);
      others = λ other s at. still_there seats conn other (Some seat) s free at;
      sessions = λ other.
          session_set seats conn seat other place.within free absent
          ∙ opens_new (is_who who other) incarnation (session_of seats other) (λ same. ap (session_of seats) (sym (is_who-true who other same)) ∙ absent);
    })

pub sat_again : (seats : List (Option Seat)) (who : Who) (conn incarnation : ℕ) (seat : Seat) → IsPlaceFor seats who conn → seat_at seats conn ≡ Some seat → HasSat seats who incarnation conn seats
sat_again seats who conn incarnation seat place is =
    let named : who_at seats conn ≡ Some who = ap name_of is ∙ ap Some (place.own seat is) in
    record {
      own = named;
      others = λ other s at. at;
      sessions = λ other. opens_again (is_who who other) incarnation (session_of seats other) (λ same. subst (λ (w : Who). is_some (session_of seats w) ≡ true) (is_who-true who other same) (seated_open seats conn who named));
    }

by_seat : (seats : List (Option Seat)) (who : Who) (conn incarnation : ℕ) (o : Option Seat) → IsPlaceFor seats who conn → seat_at seats conn ≡ o → is_some o ≡ true → HasSat seats who incarnation conn seats
by_seat seats who conn incarnation None place is some = absurd (true≢false (sym some))
by_seat seats who conn incarnation (Some seat) place is some = sat_again seats who conn incarnation seat place is

pub sat_there : (seats : List (Option Seat)) (who : Who) (conn incarnation : ℕ) → IsPlaceFor seats who conn → is_some (seat_at seats conn) ≡ true → HasSat seats who incarnation conn seats
sat_there seats who conn incarnation place some = by_seat seats who conn incarnation (seat_at seats conn) place refl some

pub once_set : (seats : List (Option Seat)) (conn : ℕ) (new : Seat) → IsOnce seats → IsPlaceFor seats new.who conn → seat_at seats conn ≡ None → IsOnce (set seats conn (Some new))
once_set seats conn new once place free i j a b at_i at_j same =
    let absent = absent_by seats new.who conn place free in
    elim (seat_cases seats conn i (Some new)) [
      | inl i_same ↦ elim (seat_cases seats conn j (Some new)) [
        | inl j_same ↦ once i j a b (sym i_same ∙ at_i) (sym j_same ∙ at_j) same
        | inr j_one ↦ let mine : new ≡ b = some_one new b (sym j_one.1 ∙ at_j) in absurd (absent i a (sym i_same ∙ at_i) (same ∙ ap (λ (s : Seat). s.who) (sym mine)))
      ]
      | inr i_one ↦ elim (seat_cases seats conn j (Some new)) [
        | inl j_same ↦ let mine : new ≡ a = some_one new a (sym i_one.1 ∙ at_i) in absurd (absent j b (sym j_same ∙ at_j) (sym same ∙ ap (λ (s : Seat). s.who) (sym mine)))
        | inr j_one ↦ i_one.0 ∙ sym j_one.0
      ]
    ]
  where
    some_one : (x y : Seat) → Some x ≡ Some y → x ≡ y
    some_one x y h = cc

pub once_more : (seats : List (Option Seat)) → IsOnce seats → IsOnce (seats ++ None ∷ [])
once_more seats once i j a b at_i at_j same = once i j a b (sym (seat_more seats i) ∙ at_i) (sym (seat_more seats j) ∙ at_j) same

pub once_none : IsOnce []
once_none i j a b at_i at_j same = absurd (none_some a at_i)

-- ---- a session leaves

pub left_at : (who : Who) (seats : List (Option Seat)) (conn : ℕ) → seat_at (map (left_by who) seats) conn ≡ left_by who (seat_at seats conn)
left_at who seats conn = get_or-map (left_by who) seats conn None

left_some : (who : Who) (o : Option Seat) (seat : Seat) → left_by who o ≡ Some seat → o ≡ Some seat
left_some who None seat h = absurd (none_some seat h)
left_some who (Some s) seat h = elim (is_who s.who who) as (λ b. cond b None (Some s) ≡ Some seat → Some s ≡ Some seat) [ true ↦ λ k. absurd (none_some seat k) | false ↦ λ k. k ] h

pub once_left : (who : Who) (seats : List (Option Seat)) → IsOnce seats → IsOnce (map (left_by who) seats)
once_left who seats once i j a b at_i at_j same =
    once i j a b (left_some who _ a (sym (left_at who seats i) ∙ at_i)) (left_some who _ b (sym (left_at who seats j) ∙ at_j)) same

-- the first seat is the session's own
first_left : (who other : Who) (s : Seat) (left seats : Option Opened) → is_who s.who who ≡ true → left ≡ cond (is_who who other) None seats
    → left ≡ cond (is_who who other) None (cond (is_who s.who other) (Some s.opened) seats)
first_left who other s left seats own is =
    is ∙ both (is_who who other) (is_who s.who other) (ap (λ (w : Who). is_who w other) (is_who-true s.who who own))
  where
    both : (c b : Bool) → b ≡ c → cond c None seats ≡ cond c None (cond b (Some s.opened) seats)
    both true b same = refl
    both false true same = absurd (true≢false same)
    both false false same = refl

-- the first seat is another's
first_stays : (who other : Who) (s : Seat) (left seats : Option Opened) → is_who s.who who ≡ false → left ≡ cond (is_who who other) None seats
    → cond (is_who s.who other) (Some s.opened) left ≡ cond (is_who who other) None (cond (is_who s.who other) (Some s.opened) seats)
first_stays who other s left seats apart is =
    both (is_who who other) (is_who s.who other) (λ yours mine. true≢false (sym (ap (λ (w : Who). is_who s.who w) (is_who-true who other yours ∙ sym (is_who-true s.who other mine)) ∙ is_who-same s.who) ∙ apart)) is
  where
    both : (c b : Bool) → (c ≡ true → b ≡ true → ⊥) → left ≡ cond c None seats → cond b (Some s.opened) left ≡ cond c None (cond b (Some s.opened) seats)
    both true true apart is = absurd (apart refl refl)
    both true false apart is = is
    both false b apart is = ap (cond b (Some s.opened)) is

left_first : (who other : Who) (s : Seat) (left : List (Option Seat)) (seats : Option Opened) → session_of left other ≡ cond (is_who who other) None seats
    → session_of (left_by who (Some s) ∷ left) other ≡ cond (is_who who other) None (cond (is_who s.who other) (Some s.opened) seats)
left_first who other s left seats is =
    elim (cases_Bool (is_who s.who who)) [
      | inl own ↦ ap (λ (b : Bool). session_of (cond b None (Some s) ∷ left) other) own ∙ first_left who other s (session_of left other) seats own is
      | inr apart ↦ ap (λ (b : Bool). session_of (cond b None (Some s) ∷ left) other) apart ∙ first_stays who other s (session_of left other) seats apart is
    ]

either : (b : Bool) (x : Option Opened) → x ≡ cond b x x
either true x = refl
either false x = refl

pub session_left : (who other : Who) (seats : List (Option Seat)) → session_of (map (left_by who) seats) other ≡ cond (is_who who other) None (session_of seats other)
session_left who other [] = either (is_who who other) None
session_left who other (None ∷ seats) = session_left who other seats
session_left who other (Some s ∷ seats) = left_first who other s (map (left_by who) seats) (session_of seats other) (session_left who other seats)

-- ---- a session is lost

pub lost_at : (fate : Fate) (who : Who) (seats : List (Option Seat)) (conn : ℕ) → seat_at (map (lost_by fate who) seats) conn ≡ lost_by fate who (seat_at seats conn)
lost_at fate who seats conn = get_or-map (lost_by fate who) seats conn None

lost_some : (fate : Fate) (who : Who) (o : Option Seat) (seat : Seat) → lost_by fate who o ≡ Some seat → (s : Seat) × (o ≡ Some s) × (s.who ≡ seat.who)
lost_some fate who None seat h = absurd (none_some seat h)
lost_some fate who (Some s) seat h = (s, refl, by_who (is_who s.who who) h)
  where
    by_who : (b : Bool) → cond b (Some (record s { opened = record s.opened { fate = fate } })) (Some s) ≡ Some seat → s.who ≡ seat.who
    by_who true h = named _ h
      where
        named : (x : Seat) → Some x ≡ Some seat → x.who ≡ seat.who
        named x h = cc
    by_who false h = cc

pub once_lost : (fate : Fate) (who : Who) (seats : List (Option Seat)) → IsOnce seats → IsOnce (map (lost_by fate who) seats)
once_lost fate who seats once i j a b at_i at_j same =
    let x = lost_some fate who (seat_at seats i) a (sym (lost_at fate who seats i) ∙ at_i) in
    let y = lost_some fate who (seat_at seats j) b (sym (lost_at fate who seats j) ∙ at_j) in
    once i j x.0 y.0 x.1 y.1 (x.2 ∙ same ∙ sym y.2)

pub numbered_lost : (fate : Fate) (who : Who) (seats : List (Option Seat)) → IsNumbered seats → IsNumbered (map (lost_by fate who) seats)
numbered_lost fate who seats numbered = rw (length-map seats (lost_by fate who)) numbered

lost_first : (fate : Fate) (who other : Who) (s : Seat) (lost seats : Option Opened) → is_who s.who who ≡ true → lost ≡ cond (is_who who other) (marked fate seats) seats
    → cond (is_who s.who other) (Some (record s.opened { fate = fate })) lost ≡ cond (is_who who other) (marked fate (cond (is_who s.who other) (Some s.opened) seats)) (cond (is_who s.who other) (Some s.opened) seats)
lost_first fate who other s lost seats own is = both (is_who who other) (is_who s.who other) (ap (λ (w : Who). is_who w other) (is_who-true s.who who own)) is
  where
    both : (c b : Bool) → b ≡ c → lost ≡ cond c (marked fate seats) seats
        → cond b (Some (record s.opened { fate = fate })) lost ≡ cond c (marked fate (cond b (Some s.opened) seats)) (cond b (Some s.opened) seats)
    both true true same is = refl
    both true false same is = absurd (true≢false (sym same))
    both false true same is = absurd (true≢false same)
    both false false same is = is

lost_stays : (fate : Fate) (who other : Who) (s : Seat) (lost seats : Option Opened) → is_who s.who who ≡ false → lost ≡ cond (is_who who other) (marked fate seats) seats
    → cond (is_who s.who other) (Some s.opened) lost ≡ cond (is_who who other) (marked fate (cond (is_who s.who other) (Some s.opened) seats)) (cond (is_who s.who other) (Some s.opened) seats)
lost_stays fate who other s lost seats apart is =
    both (is_who who other) (is_who s.who other) (λ yours mine. true≢false (sym (ap (λ (w : Who). is_who s.who w) (is_who-true who other yours ∙ sym (is_who-true s.who other mine)) ∙ is_who-same s.who) ∙ apart)) is
  where
    both : (c b : Bool) → (c ≡ true → b ≡ true → ⊥) → lost ≡ cond c (marked fate seats) seats
        → cond b (Some s.opened) lost ≡ cond c (marked fate (cond b (Some s.opened) seats)) (cond b (Some s.opened) seats)
    both true true apart is = absurd (apart refl refl)
    both true false apart is = is
    both false b apart is = ap (cond b (Some s.opened)) is

lost_seat : (fate : Fate) (who other : Who) (s : Seat) (lost : List (Option Seat)) (seats : Option Opened) → session_of lost other ≡ cond (is_who who other) (marked fate seats) seats
    → session_of (lost_by fate who (Some s) ∷ lost) other ≡ cond (is_who who other) (marked fate (cond (is_who s.who other) (Some s.opened) seats)) (cond (is_who s.who other) (Some s.opened) seats)
lost_seat fate who other s lost seats is =
    elim (cases_Bool (is_who s.who who)) [
      | inl own ↦ ap (λ (b : Bool). session_of (cond b (Some (record s { opened = record s.opened { fate = fate } })) (Some s) ∷ lost) other) own ∙ lost_first fate who other s (session_of lost other) seats own is
      | inr apart ↦ ap (λ (b : Bool). session_of (cond b (Some (record s { opened = record s.opened { fate = fate } })) (Some s) ∷ lost) other) apart ∙ lost_stays fate who other s (session_of lost other) seats apart is
    ]

pub session_lost : (fate : Fate) (who other : Who) (seats : List (Option Seat)) → session_of (map (lost_by fate who) seats) other ≡ cond (is_who who other) (marked fate (session_of seats other)) (session_of seats other)
session_lost fate who other [] = either (is_who who other) None
session_lost fate who other (None ∷ seats) = session_lost fate who other seats
session_lost fate who other (Some s ∷ seats) = lost_seat fate who other s (map (lost_by fate who) seats) (session_of seats other) (session_lost fate who other seats)

-- ---- what is kept of the session of a seat

once_rest : (s : Option Seat) (seats : List (Option Seat)) → IsOnce (s ∷ seats) → IsOnce seats
once_rest s seats once i j a b at_i at_j same = less (once (suc i) (suc j) a b at_i at_j same)
  where
    less : suc i ≡ suc j → i ≡ j
    less h = cc

pub session_at : (seats : List (Option Seat)) (conn : ℕ) (seat : Seat) → IsOnce seats → seat_at seats conn ≡ Some seat → session_of seats seat.who ≡ Some seat.opened
session_at [] conn seat once is = absurd (none_some seat is)
session_at (None ∷ seats) zero seat once is = absurd (none_some seat is)
session_at (None ∷ seats) (suc conn) seat once is = session_at seats conn seat (once_rest None seats once) is
session_at (Some s ∷ seats) zero seat once is =
    let same : s ≡ seat = cc in
    ap (λ (x : Seat). cond (is_who x.who seat.who) (Some x.opened) (session_of seats seat.who)) same ∙ ap (λ (b : Bool). cond b (Some seat.opened) (session_of seats seat.who)) (is_who-same seat.who)
session_at (Some s ∷ seats) (suc conn) seat once is =
    elim (cases_Bool (is_who s.who seat.who)) [
      | inl own ↦ absurd (apart (once 0 (suc conn) s seat refl is (is_who-true s.who seat.who own)))
      | inr other ↦ ap (λ (b : Bool). cond b (Some s.opened) (session_of seats seat.who)) other ∙ session_at seats conn seat (once_rest (Some s) seats once) is
    ]
  where
    apart : 0 ≡ suc conn → ⊥
    apart h = cc

-- a session that was opened has a seat
pub seat_for : (seats : List (Option Seat)) (who : Who) (x : Opened) → session_of seats who ≡ Some x → (conn : ℕ) × (seat : Seat) × (seat_at seats conn ≡ Some seat) × (seat.who ≡ who) × (seat.opened ≡ x)
seat_for [] who x h = absurd (none_some x h)
seat_for (None ∷ seats) who x h = let t = seat_for seats who x h in (suc t.0, t.1, t.2, t.3, t.4)
seat_for (Some s ∷ seats) who x h =
    elim (cases_Bool (is_who s.who who)) [
      | inl own ↦ (0, s, refl, is_who-true s.who who own, one (sym (ap (λ (b : Bool). cond b (Some s.opened) (session_of seats who)) own) ∙ h))
      | inr other ↦ let t = seat_for seats who x (sym (ap (λ (b : Bool). cond b (Some s.opened) (session_of seats who)) other) ∙ h) in (suc t.0, t.1, t.2, t.3, t.4)
    ]
  where
    one : Some s.opened ≡ Some x → s.opened ≡ x
    one h = cc

pub session_there : (seats : List (Option Seat)) (who : Who) (conn : ℕ) (seat : Seat) → IsOnce seats → seat_at seats conn ≡ Some seat → is_of who (seat_at seats conn) ≡ true → session_of seats who ≡ Some seat.opened
session_there seats who conn seat once at own =
    subst (λ (w : Who). session_of seats w ≡ Some seat.opened) (is_who-true seat.who who (sym (ap (is_of who) at) ∙ own)) (session_at seats conn seat once at)

-- ---- live sessions of a client session and group

pub live_at : (seats : List (Option Seat)) (conn : ℕ) (seat : Seat) (session : ℕ) (group : Group) (incarnation : ℕ) → IsOnce seats → seat_at seats conn ≡ Some seat
    → is_live_of session group incarnation (seat_at seats conn) ≡ true → lives_in incarnation (session_of seats seat.who) ≡ true
live_at seats conn seat session group incarnation once at live =
    let p = and_parts (seat.who.session == session) (is_group seat.who.group (Some group) && lives_in incarnation (Some seat.opened)) (sym (ap (is_live_of session group incarnation) at) ∙ live) in
    ap (lives_in incarnation) (session_at seats conn seat once at) ∙ (and_parts (is_group seat.who.group (Some group)) (lives_in incarnation (Some seat.opened)) p.1).1

own_group : (group : Group) → is_group (Some group) (Some group) ≡ true
own_group Pre = refl
own_group Main = refl
own_group Post = refl

rest_false : (a b : Bool) → a ≡ true → (a && b) ≡ false → b ≡ false
rest_false true b h k = k
rest_false false b h k = absurd (true≢false (sym h))

pub none_live : (seats : List (Option Seat)) (session : ℕ) (group : Group) (incarnation : ℕ) → ((place : ℕ) → is_live_of session group incarnation (seat_at seats place) ≡ false)
    → (who : Who) → who.session ≡ session → who.group ≡ Some group → lives_in incarnation (session_of seats who) ≡ false
none_live seats session group incarnation none who of_session of_group = by_session (session_of seats who) refl
  where
    by_session : (o : Option Opened) → session_of seats who ≡ o → lives_in incarnation o ≡ false
    by_session None is = refl
    by_session (Some x) is =
        let t = seat_for seats who x is in
        let h = sym (ap (is_live_of session group incarnation) t.2) ∙ none t.0 in
        let of_one = eq-eqb t.1.who.session session (ap (λ (w : Who). w.session) t.3 ∙ of_session) in
        let of_other = ap (λ (g : Option Group). is_group g (Some group)) (ap (λ (w : Who). w.group) t.3 ∙ of_group) ∙ own_group group in
        ap (λ (y : Opened). lives_in incarnation (Some y)) (sym t.4)
        ∙ rest_false (is_group t.1.who.group (Some group)) (lives_in incarnation (Some t.1.opened)) of_other
        (rest_false (t.1.who.session == session) (is_group t.1.who.group (Some group) && lives_in incarnation (Some t.1.opened)) of_one h)

-- seats that were rewritten through a slice of them all
pub rewritten : (f : Option Seat → Option Seat) (seats slice new : List (Option Seat)) (len : ℕ) → slice ≡ seats → length slice ≡ len → new ≡ map f slice → take len (new ++ drop (length new) seats) ≡ map f seats
rewritten f seats slice new len same all is =
    take_at new (drop (length new) seats) len (ap length is ∙ length-map slice f ∙ all) ∙ is ∙ ap (map f) same

get_or_any : (seats : List (Option Seat)) (i : ℕ) (d e : Option Seat) → i < length seats → get_or seats i d ≡ get_or seats i e
get_or_any [] i d e within = absurd (omega arith)
get_or_any (s ∷ seats) zero d e within = refl
get_or_any (s ∷ seats) (suc i) d e within = get_or_any seats i d e (omega arith)

-- a loop that writes over each seat
pub written_over : (f : Option Seat → Option Seat) (seats now : List (Option Seat)) (i : ℕ) (new : Option Seat) → i < length seats → length now ≡ length seats → now ≡ map f (take i seats) ++ drop i seats
    → new ≡ f (get_or now i None) → set now i new ≡ map f (take (i + 1) seats) ++ drop (i + 1) seats
written_over f seats now i new within all is made =
    ap (set now i) made ∙ map_over_more f seats now i (get_or now i None) within is (get_or_any now i None (get_or now i None) (omega arith))

-- what was read of a seat
pub seat_read : (seats : List (Option Seat)) (i : ℕ) (d : Option Seat) → i < length seats → d ≡ get_or seats i d → seat_at seats i ≡ d
seat_read [] i d within is = absurd (omega arith)
seat_read (s ∷ seats) zero d within is = sym is
seat_read (s ∷ seats) (suc i) d within is = seat_read seats i d (omega arith) is

none_of : (o : Option Seat) → is_some o ≡ false → o ≡ None
none_of None h = refl
none_of (Some s) h = absurd (true≢false h)

pub read_free : (seats : List (Option Seat)) (i : ℕ) (d : Option Seat) (b : Bool) → i < length seats → d ≡ get_or seats i d → is_some d ≡ not b → b ≡ true → seat_at seats i ≡ None
read_free seats i d b within is none h = seat_read seats i d within is ∙ none_of d (none ∙ ap not h)

pub read_taken : (seats : List (Option Seat)) (i : ℕ) (d : Option Seat) (b : Bool) → i < length seats → d ≡ get_or seats i d → is_some d ≡ not b → b ≡ false → is_some (seat_at seats i) ≡ true
read_taken seats i d b within is none h = ap is_some (seat_read seats i d within is) ∙ none ∙ ap not h

pub numbered_left : (who : Who) (seats : List (Option Seat)) → IsNumbered seats → IsNumbered (map (left_by who) seats)
numbered_left who seats numbered = rw (length-map seats (left_by who)) numbered
