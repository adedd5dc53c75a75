-- What a port tells of a shard whose parts have changed.
use Rattle.std.proofs.Common.{◌≡◌, ◌==◌, ◌≤◌, ℕ, Bool, true, false, cond, ◌&&◌, List, length, Option, Some, None, ⊎_elim, refl, sym, ap, ◌∙◌, arith, true≢false}
use Rattle.std.specs.Option.{is_some}
use Rattle.std.proofs.lemmas.Bool.{cases_Bool, eqb-true, eq-eqb}
use Rattle.vl_values.specs.declared.key.Key.{Key}
use Rattle.vl_port.specs.declared.change.Change.{Change}
use Rattle.vl_port.specs.declared.opened.Opened.{Opened}
use Rattle.vl_port.specs.declared.who.Who.{Who}
use Rattle.vl_port.specs.Life.{lives_in}
use Rattle.vl_port.specs.View.{View, Values, is_who, version_for, standing}
use Rattle.vl_port.specs.Keeping.{IsKept}
use Rattle.vl_port.proofs.Naming.{is_who-true, is_who-same}
use Rattle.vl_rows.specs.declared.change.Change.{Change as RowChange}
use Rattle.vl_rows.specs.Versions.{Versions, committed_at, pending_at, standing_at, SameVersions}
use Rattle.vl_rows.specs.Versions as versions
use Rattle.vl_locks.specs.Locks.{holder_of}
use Rattle.vl_shard.specs.declared.seat.Seat.{Seat}
use Rattle.vl_shard.specs.Seats.{seat_at, name_of, who_at, session_of, IsPlaceFor, IsAbsent}
use Rattle.vl_shard.specs.Parts.{Parts, holder_told, change_by, change_told, view_of, IsWhole}
use Rattle.vl_shard.specs.Changing.{IsUnseen}

none_some : {X : Type 0} (x : X) → None ≡ Some x → ⊥
none_some x h = cc

some_one : {X : Type 0} (x y : X) → Some x ≡ Some y → x ≡ y
some_one x y h = cc

-- a seat that isn't free is somebody's
pub seat_of : (o : Option Seat) → is_some o ≡ true → (seat : Seat) × (o ≡ Some seat)
seat_of None h = absurd (true≢false (sym h))
seat_of (Some seat) h = (seat, refl)

pub view_ext : (v w : View) → v.up ≡ w.up → v.incarnation ≡ w.incarnation → ((key : Key) → v.committed key ≡ w.committed key) → ((key : Key) → v.pending key ≡ w.pending key)
    → ((key : Key) → v.doubt key ≡ w.doubt key) → ((key : Key) → v.holder key ≡ w.holder key) → ((who : Who) → v.sessions who ≡ w.sessions who) → v ≡ w
view_ext v w u n c p d h s = λ i. record { up = u i; incarnation = n i; committed = λ key. c key i; pending = λ key. p key i; doubt = λ key. d key i; holder = λ key. h key i; sessions = λ who. s who i }

-- ---- what is kept

holder_cases : (seats : List (Option Seat)) (o : Option ℕ) (who : Who) → holder_told seats o ≡ Some who → (conn : ℕ) × (o ≡ Some conn) × (who_at seats conn ≡ Some who)
holder_cases seats None who h = absurd (none_some who h)
holder_cases seats (Some conn) who h = (conn, refl, h)

change_cases : (seats : List (Option Seat)) (o : Option RowChange) (change : Change) → change_told seats o ≡ Some change → (c : RowChange) × (o ≡ Some c) × (who_at seats c.conn ≡ Some change.who)
change_cases seats None change h = absurd (none_some change h)
change_cases seats (Some c) change h = (c, refl, made (who_at seats c.conn) h)
  where
    made : (w : Option Who) → change_by w c.row ≡ Some change → w ≡ Some change.who
    made None h = absurd (none_some change h)
    made (Some w) h = ap (λ (x : Change). Some x.who) (some_one _ change h)

pub kept : (parts : Parts) → IsWhole parts → IsKept (view_of parts)
kept parts whole = record {
  held = λ key change h.
      let c = change_cases parts.seats (pending_at parts.rows key) change h in
      ap (holder_told parts.seats) (whole.held key c.0 c.1) ∙ c.2;
  live = λ key who h.
      let c = holder_cases parts.seats (holder_of parts.holds key) who h in
      whole.alive key c.0 who c.1 c.2;
  young = whole.young;
  awake = λ who h. refl;
  sure = λ h key. refl;
}

-- ---- only room was made

pub unseen : (old new : Parts) → IsUnseen old new → view_of new ≡ view_of old
unseen old new u =
    view_ext (view_of new) (view_of old) refl u.incarnation
    (λ key. ap (λ (l : List (Key × Values)). committed_at (record old.rows { committed = l }) key) u.rows.committed)
    (λ key. pending_same key (pending_at new.rows key) ∙ ap (λ (l : List (Key × RowChange)). change_told old.seats (pending_at (record old.rows { pending = l }) key)) u.rows.pending)
    (λ key. refl)
    (λ key. holder_same (holder_of new.holds key) ∙ ap (λ (l : List (Key × ℕ)). holder_told old.seats (holder_of l key)) u.holds)
    u.seats.sessions
  where
    holder_same : (o : Option ℕ) → holder_told new.seats o ≡ holder_told old.seats o
    holder_same None = refl
    holder_same (Some conn) = ap name_of (u.seats.seats conn)

    pending_same : (key : Key) (o : Option RowChange) → change_told new.seats o ≡ change_told old.seats o
    pending_same key None = refl
    pending_same key (Some c) = ap (λ (s : Option Seat). change_by (name_of s) c.row) (u.seats.seats c.conn)

pub whole_unseen : (old new : Parts) → IsUnseen old new → IsWhole old → IsWhole new
whole_unseen old new u whole = record {
  held = λ key c h.
      ap (λ (l : List (Key × ℕ)). holder_of l key) u.holds ∙ whole.held key c (ap (λ (l : List (Key × RowChange)). pending_at (record old.rows { pending = l }) key) (sym u.rows.pending) ∙ h);
  live = λ key conn h.
      ap is_some (u.seats.seats conn) ∙ whole.live key conn (ap (λ (l : List (Key × ℕ)). holder_of l key) (sym u.holds) ∙ h);
  alive = λ key conn who h named.
      ap (λ (n : ℕ). lives_in n (session_of new.seats who)) u.incarnation ∙ ap (lives_in old.incarnation) (u.seats.sessions who)
      ∙ whole.alive key conn who (ap (λ (l : List (Key × ℕ)). holder_of l key) (sym u.holds) ∙ h) (sym (ap name_of (u.seats.seats conn)) ∙ named);
  young = λ who session h. rw (u.incarnation) (whole.young who session (sym (u.seats.sessions who) ∙ h));
}

pub place_unseen : (old new : Parts) (who : Who) (conn : ℕ) → IsUnseen old new → length old.seats ≤ length new.seats → IsPlaceFor old.seats who conn → IsPlaceFor new.seats who conn
place_unseen old new who conn u more place = record {
  within = omega (arith, place.within);
  own = λ seat h. place.own seat (sym (u.seats.seats conn) ∙ h);
  only = λ other seat h named. place.only other seat (sym (u.seats.seats other) ∙ h) named;
}

-- ---- a session and its number

-- a session is that of a seat where the seat's number is its own
pub same_test : (seats : List (Option Seat)) (who : Who) (conn other : ℕ) (seat : Seat) → IsPlaceFor seats who conn → seat_at seats other ≡ Some seat → is_who seat.who who ≡ (other == conn)
same_test seats who conn other seat place is =
    ⊎_elim
    (λ same.
    ap (λ (w : Who). is_who w who) (place.own seat (ap (seat_at seats) (sym (eqb-true other conn same)) ∙ is)) ∙ is_who-same who ∙ sym same)
    (λ apart. ⊎_elim
    (λ mine. absurd (true≢false (sym (eq-eqb other conn (place.only other seat is (is_who-true seat.who who mine))) ∙ apart)))
    (λ not_mine. not_mine ∙ sym apart)
    (cases_Bool (is_who seat.who who)))
    (cases_Bool (other == conn))

abbrev pub IsReader : List (Option Seat) → Who → Option ℕ → Type 0
IsReader seats who None = IsAbsent seats who
IsReader seats who (Some conn) = IsPlaceFor seats who conn

-- a reader sees the versions that its session sees
version_same : (seats : List (Option Seat)) (who : Who) (reader : Option ℕ) (c : RowChange) (seat : Seat) (committed : Option Values) → IsReader seats who reader → seat_at seats c.conn ≡ Some seat
    → versions.version_for reader (Some c) committed ≡ cond (is_who seat.who who) c.row committed
version_same seats who None c seat committed reads is =
    ⊎_elim
    (λ mine. absurd (reads c.conn seat is (is_who-true seat.who who mine)))
    (λ apart. sym (ap (λ (b : Bool). cond b c.row committed) apart))
    (cases_Bool (is_who seat.who who))
version_same seats who (Some conn) c seat committed reads is = sym (ap (λ (b : Bool). cond b c.row committed) (same_test seats who conn c.conn seat reads is))

pub version_told : (seats : List (Option Seat)) (who : Who) (reader : Option ℕ) (o : Option RowChange) (committed : Option Values) → IsReader seats who reader
    → ((c : RowChange) → o ≡ Some c → is_some (seat_at seats c.conn) ≡ true) → versions.version_for reader o committed ≡ version_for who (change_told seats o) committed
version_told seats who None None committed reads live = refl
version_told seats who (Some conn) None committed reads live = refl
version_told seats who reader (Some c) committed reads live =
    let s = seat_of (seat_at seats c.conn) (live c refl) in
    version_same seats who reader c s.0 committed reads s.1 ∙ sym (ap (λ (o : Option Seat). version_for who (change_by (name_of o) c.row) committed) s.1)

pub pending_live : (parts : Parts) → IsWhole parts → (key : Key) (c : RowChange) → pending_at parts.rows key ≡ Some c → is_some (seat_at parts.seats c.conn) ≡ true
pending_live parts whole key c h = whole.live key c.conn (whole.held key c h)

pub standing_told : (parts : Parts) (who : Who) (reader : Option ℕ) → IsWhole parts → IsReader parts.seats who reader → (key : Key) → standing_at parts.rows reader key ≡ standing (view_of parts) who key
standing_told parts who reader whole reads key =
    version_told parts.seats who reader (pending_at parts.rows key) (committed_at parts.rows key) reads (pending_live parts whole key)

-- ---- a session sits down

pub name_stays : (old new : List (Option Seat)) (conn : ℕ) → ((other : ℕ) (seat : Seat) → seat_at old other ≡ Some seat → seat_at new other ≡ Some seat) → is_some (seat_at old conn) ≡ true
    → who_at new conn ≡ who_at old conn
name_stays old new conn others live = let s = seat_of (seat_at old conn) live in ap name_of (others conn s.0 s.1) ∙ sym (ap name_of s.1)

pub holder_stays : (old new : List (Option Seat)) (o : Option ℕ) → ((other : ℕ) (seat : Seat) → seat_at old other ≡ Some seat → seat_at new other ≡ Some seat) → ((conn : ℕ) → o ≡ Some conn → is_some (seat_at old conn) ≡ true)
    → holder_told new o ≡ holder_told old o
holder_stays old new None others live = refl
holder_stays old new (Some conn) others live = name_stays old new conn others (live conn refl)

pub change_stays : (old new : List (Option Seat)) (o : Option RowChange) → ((other : ℕ) (seat : Seat) → seat_at old other ≡ Some seat → seat_at new other ≡ Some seat) → ((c : RowChange) → o ≡ Some c → is_some (seat_at old c.conn) ≡ true)
    → change_told new o ≡ change_told old o
change_stays old new None others live = refl
change_stays old new (Some c) others live = ap (λ (w : Option Who). change_by w c.row) (name_stays old new c.conn others (live c refl))

pub seat_stays : (old new : List (Option Seat)) (conn : ℕ) → ((other : ℕ) (seat : Seat) → seat_at old other ≡ Some seat → seat_at new other ≡ Some seat) → is_some (seat_at old conn) ≡ true → is_some (seat_at new conn) ≡ true
seat_stays old new conn others live = let s = seat_of (seat_at old conn) live in ap is_some (others conn s.0 s.1)

pub named_some : (o : Option Seat) (who : Who) → name_of o ≡ Some who → is_some o ≡ true
named_some None who h = absurd (none_some who h)
named_some (Some seat) who h = refl

pub with_group : (b c : Bool) (x y : Option Opened) → b ≡ true → cond c x y ≡ cond (b && c) x y
with_group true c x y h = refl
with_group false c x y h = absurd (true≢false (sym h))
