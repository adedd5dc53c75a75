-- What a port tells once a session has left, or is lost.
use Rattle.std.proofs.Common.{◌≡◌, ◌==◌, ◌≤◌, ℕ, Bool, true, false, cond, ◌&&◌, List, map, Option, Some, None, ⊎_elim, refl, sym, ap, subst, ◌∙◌, true≢false}
use Rattle.std.specs.Option.{is_some}
use Rattle.std.proofs.lemmas.Bool.{cases_Bool}
use Rattle.vl_values.specs.declared.key.Key.{Key}
use Rattle.vl_port.specs.declared.opened.Opened.{Opened}
use Rattle.vl_port.specs.declared.who.Who.{Who}
use Rattle.vl_port.specs.View.{View, Values, has_group, is_who}
use Rattle.vl_port.specs.declared.fate.Fate.{Fate}
use Rattle.vl_port.specs.Acting.{settled}
use Rattle.vl_port.specs.Life.{closed, dropped, lives_in, lost_as, marked, opened, opened_at, without}
use Rattle.vl_port.proofs.Lives.{marked_young}
use Rattle.vl_port.proofs.Naming.{is_who-true, apart_back}
use Rattle.vl_rows.specs.declared.change.Change.{Change as RowChange}
use Rattle.vl_rows.specs.Versions.{Versions, committed_at, pending_at}
use Rattle.vl_rows.specs.Versions as versions
use Rattle.vl_locks.specs.Locks.{holder_of}
use Rattle.vl_locks.specs.Locks as locks
use Rattle.vl_shard.specs.declared.seat.Seat.{Seat}
use Rattle.vl_shard.specs.Seats.{seat_at, name_of, who_at, session_of, IsPlaceFor, IsAbsent, left_by, lost_by}
use Rattle.vl_shard.specs.Parts.{Parts, holder_told, change_by, change_told, view_of, IsWhole}
use Rattle.vl_shard.proofs.Seating.{left_at, lost_at, session_left, session_lost, none_seated}
use Rattle.vl_shard.proofs.Telling.{view_ext, seat_of, same_test, pending_live, version_told}

none_some : {X : Type 0} (x : X) → None ≡ Some x → ⊥
none_some x h = cc

-- ---- the session's own number, and the others

others_lock : (conn : ℕ) (o : Option ℕ) (other : ℕ) → locks.other_than conn o ≡ Some other → (o ≡ Some other) × ((other == conn) ≡ false)
others_lock conn None other h = absurd (none_some other h)
others_lock conn (Some x) other h =
    ⊎_elim
    (λ same. absurd (none_some other (sym (ap (λ (b : Bool). cond b None (Some x)) same) ∙ h)))
    (λ apart. let e : Some x ≡ Some other = sym (ap (λ (b : Bool). cond b None (Some x)) apart) ∙ h in
    (e, ap (λ (n : ℕ). n == conn) (sym (one x other e)) ∙ apart))
    (cases_Bool (x == conn))
  where
    one : (a b : ℕ) → Some a ≡ Some b → a ≡ b
    one a b h = cc

others_change : (conn : ℕ) (o : Option RowChange) (c : RowChange) → versions.other_than conn o ≡ Some c → (o ≡ Some c) × ((c.conn == conn) ≡ false)
others_change conn None c h = absurd (none_some c h)
others_change conn (Some x) c h =
    ⊎_elim
    (λ same. absurd (none_some c (sym (ap (λ (b : Bool). cond b None (Some x)) same) ∙ h)))
    (λ apart. let e : Some x ≡ Some c = sym (ap (λ (b : Bool). cond b None (Some x)) apart) ∙ h in
    (e, ap (λ (y : RowChange). y.conn == conn) (sym (one x c e)) ∙ apart))
    (cases_Bool (x.conn == conn))
  where
    one : (a b : RowChange) → Some a ≡ Some b → a ≡ b
    one a b h = cc

-- the seats of all others stay
abbrev pub AreKept : List (Option Seat) → ℕ → List (Option Seat) → Type 0
AreKept old conn new = (other : ℕ) (seat : Seat) → seat_at old other ≡ Some seat → (other == conn) ≡ false → seat_at new other ≡ Some seat

pub left_kept : (old new : List (Option Seat)) (who : Who) (conn : ℕ) → IsPlaceFor old who conn → new ≡ map (left_by who) old → AreKept old conn new
left_kept old new who conn place seats other seat is apart =
    ap (λ (l : List (Option Seat)). seat_at l other) seats ∙ left_at who old other ∙ ap (left_by who) is ∙ ap (λ (b : Bool). cond b None (Some seat)) (same_test old who conn other seat place is ∙ apart)

pub lost_kept : (old new : List (Option Seat)) (who : Who) (conn : ℕ) (fate : Fate) → IsPlaceFor old who conn → new ≡ map (lost_by fate who) old → AreKept old conn new
lost_kept old new who conn fate place seats other seat is apart =
    ap (λ (l : List (Option Seat)). seat_at l other) seats ∙ lost_at fate who old other ∙ ap (lost_by fate who) is
    ∙ ap (λ (b : Bool). cond b (Some (record seat { opened = record seat.opened { fate = fate } })) (Some seat)) (same_test old who conn other seat place is ∙ apart)

young_left : (b : Bool) (o : Option Opened) (x : Opened) (incarnation : ℕ) → ((y : Opened) → o ≡ Some y → y.incarnation ≤ incarnation) → cond b None o ≡ Some x → x.incarnation ≤ incarnation
young_left true o x incarnation young h = absurd (none_some x h)
young_left false o x incarnation young h = young x h

young_lost : (b : Bool) (fate : Fate) (o : Option Opened) (x : Opened) (incarnation : ℕ) → ((y : Opened) → o ≡ Some y → y.incarnation ≤ incarnation) → cond b (marked fate o) o ≡ Some x → x.incarnation ≤ incarnation
young_lost true fate o x incarnation young h = marked_young fate incarnation o x young h
young_lost false fate o x incarnation young h = young x h

module _ (old new : Parts) (who : Who) (conn : ℕ) (whole : IsWhole old) (place : IsPlaceFor old.seats who conn)
    (pending : (key : Key) → pending_at new.rows key ≡ versions.other_than conn (pending_at old.rows key)) (holders : (key : Key) → holder_of new.holds key ≡ locks.other_than conn (holder_of old.holds key))
    (seat_kept : AreKept old.seats conn new.seats) (incarnation : new.incarnation ≡ old.incarnation) where
  holder_left : (other : ℕ) (seat : Seat) → seat_at old.seats other ≡ Some seat → (b : Bool) → (other == conn) ≡ b → holder_told new.seats (cond b None (Some other)) ≡ cond b None (Some seat.who)
  holder_left other seat is true same = refl
  holder_left other seat is false apart = ap name_of (seat_kept other seat is apart)

  holder_now : (o : Option ℕ) → ((other : ℕ) → o ≡ Some other → is_some (seat_at old.seats other) ≡ true) → holder_told new.seats (locks.other_than conn o) ≡ without who (holder_told old.seats o)
  holder_now None live = refl
  holder_now (Some other) live =
      let s = seat_of (seat_at old.seats other) (live other refl) in
      holder_left other s.0 s.1 (other == conn) refl
      ∙ ap (λ (b : Bool). cond b None (Some s.0.who)) (sym (same_test old.seats who conn other s.0 place s.1))
      ∙ ap (λ (o : Option Seat). without who (name_of o)) (sym s.1)

  change_left : (c : RowChange) (seat : Seat) → seat_at old.seats c.conn ≡ Some seat → (b : Bool) → (c.conn == conn) ≡ b
      → change_told new.seats (cond b None (Some c)) ≡ cond b None (Some (record { who = seat.who; row = c.row }))
  change_left c seat is true same = refl
  change_left c seat is false apart = ap (λ (o : Option Seat). change_by (name_of o) c.row) (seat_kept c.conn seat is apart)

  change_now : (o : Option RowChange) → ((c : RowChange) → o ≡ Some c → is_some (seat_at old.seats c.conn) ≡ true) → change_told new.seats (versions.other_than conn o) ≡ dropped who (change_told old.seats o)
  change_now None live = refl
  change_now (Some c) live =
      let s = seat_of (seat_at old.seats c.conn) (live c refl) in
      change_left c s.0 s.1 (c.conn == conn) refl
      ∙ ap (λ (b : Bool). cond b None (Some (record { who = s.0.who; row = c.row }))) (sym (same_test old.seats who conn c.conn s.0 place s.1))
      ∙ ap (λ (o : Option Seat). dropped who (change_by (name_of o) c.row)) (sym s.1)

  pending_now : (key : Key) → (view_of new).pending key ≡ dropped who ((view_of old).pending key)
  pending_now key = ap (change_told new.seats) (pending key) ∙ change_now (pending_at old.rows key) (pending_live old whole key)

  holders_now : (key : Key) → (view_of new).holder key ≡ without who ((view_of old).holder key)
  holders_now key = ap (holder_told new.seats) (holders key) ∙ holder_now (holder_of old.holds key) (whole.live key)

  alive_now : ((w : Who) → is_who who w ≡ false → session_of new.seats w ≡ session_of old.seats w) → (key : Key) (other : ℕ) (w : Who) → holder_of new.holds key ≡ Some other → who_at new.seats other ≡ Some w
      → lives_in new.incarnation (session_of new.seats w) ≡ true
  alive_now stays key other w h named =
      let t = others_lock conn (holder_of old.holds key) other (sym (holders key) ∙ h) in
      let s = seat_of (seat_at old.seats other) (whole.live key other t.0) in
      let there : who_at old.seats other ≡ Some w = ap name_of s.1 ∙ sym (ap name_of (seat_kept other s.0 s.1 t.1)) ∙ named in
      let same : s.0.who ≡ w = one s.0.who w (sym (ap name_of s.1) ∙ there) in
      let apart : is_who w who ≡ false = subst (λ (x : Who). is_who x who ≡ false) same (same_test old.seats who conn other s.0 place s.1 ∙ t.1) in
      ap (λ (n : ℕ). lives_in n (session_of new.seats w)) incarnation ∙ ap (lives_in old.incarnation) (stays w (apart_back w who apart)) ∙ whole.alive key other w t.0 there
    where
      one : (a b : Who) → Some a ≡ Some b → a ≡ b
      one a b h = cc

  whole_without : ((w : Who) → is_who who w ≡ false → session_of new.seats w ≡ session_of old.seats w)
      → ((w : Who) (x : Opened) → session_of new.seats w ≡ Some x → x.incarnation ≤ new.incarnation) → IsWhole new
  whole_without stays young = record {
    held = λ key c h.
        let t = others_change conn (pending_at old.rows key) c (sym (pending key) ∙ h) in
        holders key ∙ ap (locks.other_than conn) (whole.held key c t.0) ∙ ap (λ (b : Bool). cond b None (Some c.conn)) t.1;
    live = λ key other h.
        let t = others_lock conn (holder_of old.holds key) other (sym (holders key) ∙ h) in
        let s = seat_of (seat_at old.seats other) (whole.live key other t.0) in
        ap is_some (seat_kept other s.0 s.1 t.1);
    alive = alive_now stays;
    young = young;
  }

  -- the session ends
  module _ (seats : new.seats ≡ map (left_by who) old.seats) where
    sessions_now : (w : Who) → session_of new.seats w ≡ (closed who (view_of old)).sessions w
    sessions_now w = ap (λ (l : List (Option Seat)). session_of l w) seats ∙ session_left who w old.seats

    pub whole_left : IsWhole new
    whole_left =
        whole_without (λ w apart. sessions_now w ∙ ap (λ (b : Bool). cond b None (session_of old.seats w)) apart)
        (λ w x h. rw (incarnation) (young_left (is_who who w) (session_of old.seats w) x old.incarnation (whole.young w) (sym (sessions_now w) ∙ h)))

    pub view_closed : new.rows.committed ≡ old.rows.committed → view_of new ≡ closed who (view_of old)
    view_closed committed =
        view_ext (view_of new) (closed who (view_of old)) refl incarnation (λ key. ap (λ (l : List (Key × Values)). committed_at (record old.rows { committed = l }) key) committed)
        pending_now (λ key. refl) holders_now sessions_now

    pub view_settled : ((key : Key) → committed_at new.rows key ≡ versions.version_for (Some conn) (pending_at old.rows key) (committed_at old.rows key)) → view_of new ≡ settled who (view_of old)
    view_settled committed =
        view_ext (view_of new) (settled who (view_of old)) refl incarnation
        (λ key. committed key ∙ version_told old.seats who (Some conn) (pending_at old.rows key) (committed_at old.rows key) place (pending_live old whole key))
        pending_now (λ key. refl) holders_now sessions_now

  -- the session is lost
  module _ (fate : Fate) (seats : new.seats ≡ map (lost_by fate who) old.seats) where
    sessions_lost : (w : Who) → session_of new.seats w ≡ cond (is_who who w) (marked fate (session_of old.seats w)) (session_of old.seats w)
    sessions_lost w = ap (λ (l : List (Option Seat)). session_of l w) seats ∙ session_lost fate who w old.seats

    pub whole_lost : IsWhole new
    whole_lost =
        whole_without (λ w apart. sessions_lost w ∙ ap (λ (b : Bool). cond b (marked fate (session_of old.seats w)) (session_of old.seats w)) apart)
        (λ w x h. rw (incarnation) (young_lost (is_who who w) fate (session_of old.seats w) x old.incarnation (whole.young w) (sym (sessions_lost w) ∙ h)))

    pub view_lost : has_group who.group ≡ true → new.rows.committed ≡ old.rows.committed → view_of new ≡ lost_as fate who (view_of old)
    view_lost group committed =
        view_ext (view_of new) (lost_as fate who (view_of old)) refl incarnation (λ key. ap (λ (l : List (Key × Values)). committed_at (record old.rows { committed = l }) key) committed)
        (λ key. pending_now key ∙ ap (λ (b : Bool). cond b (dropped who ((view_of old).pending key)) ((view_of old).pending key)) (sym group))
        (λ key. refl)
        (λ key. holders_now key ∙ ap (λ (b : Bool). cond b (without who ((view_of old).holder key)) ((view_of old).holder key)) (sym group))
        (λ w. sessions_lost w ∙ ap (λ (b : Bool). cond (b && is_who who w) (marked fate (session_of old.seats w)) (session_of old.seats w)) (sym group))

-- ---- a session that isn't open

module _ (parts : Parts) (who : Who) (whole : IsWhole parts) (absent : IsAbsent parts.seats who) where
  not_mine : (other : ℕ) (seat : Seat) → seat_at parts.seats other ≡ Some seat → is_who seat.who who ≡ false
  not_mine other seat is = ⊎_elim (λ mine. absurd (absent other seat is (is_who-true seat.who who mine))) (λ apart. apart) (cases_Bool (is_who seat.who who))

  holder_there : (o : Option ℕ) → ((other : ℕ) → o ≡ Some other → is_some (seat_at parts.seats other) ≡ true) → holder_told parts.seats o ≡ without who (holder_told parts.seats o)
  holder_there None live = refl
  holder_there (Some other) live =
      let s = seat_of (seat_at parts.seats other) (live other refl) in
      ap name_of s.1 ∙ sym (ap (λ (b : Bool). cond b None (Some s.0.who)) (not_mine other s.0 s.1)) ∙ ap (λ (o : Option Seat). without who (name_of o)) (sym s.1)

  change_there : (o : Option RowChange) → ((c : RowChange) → o ≡ Some c → is_some (seat_at parts.seats c.conn) ≡ true) → change_told parts.seats o ≡ dropped who (change_told parts.seats o)
  change_there None live = refl
  change_there (Some c) live =
      let s = seat_of (seat_at parts.seats c.conn) (live c refl) in
      ap (λ (o : Option Seat). change_by (name_of o) c.row) s.1
      ∙ sym (ap (λ (b : Bool). cond b None (Some (record { who = s.0.who; row = c.row }))) (not_mine c.conn s.0 s.1))
      ∙ ap (λ (o : Option Seat). dropped who (change_by (name_of o) c.row)) (sym s.1)

  either : (b : Bool) (o : Option Opened) → (b ≡ true → o ≡ None) → o ≡ cond b None o
  either true o none = none refl
  either false o none = refl

  session_there : (w : Who) → session_of parts.seats w ≡ cond (is_who who w) None (session_of parts.seats w)
  session_there w = either (is_who who w) (session_of parts.seats w) (λ same. ap (session_of parts.seats) (sym (is_who-true who w same)) ∙ none_seated parts.seats who absent)

  pub closed_absent : view_of parts ≡ closed who (view_of parts)
  closed_absent =
      view_ext (view_of parts) (closed who (view_of parts)) refl refl (λ key. refl)
      (λ key. change_there (pending_at parts.rows key) (pending_live parts whole key)) (λ key. refl) (λ key. holder_there (holder_of parts.holds key) (whole.live key)) session_there

  pub settled_absent : view_of parts ≡ settled who (view_of parts)
  settled_absent =
      view_ext (view_of parts) (settled who (view_of parts)) refl refl
      (λ key. version_told parts.seats who None (pending_at parts.rows key) (committed_at parts.rows key) absent (pending_live parts whole key))
      (λ key. change_there (pending_at parts.rows key) (pending_live parts whole key)) (λ key. refl) (λ key. holder_there (holder_of parts.holds key) (whole.live key)) session_there

  unmarked : (b : Bool) (fate : Fate) (o : Option Opened) → (b ≡ true → o ≡ None) → o ≡ cond b (marked fate o) o
  unmarked true fate o none = none refl ∙ ap (marked fate) (sym (none refl))
  unmarked false fate o none = refl

  same_either : {X : Type 0} (b : Bool) (x y : X) → x ≡ y → x ≡ cond b y x
  same_either true x y h = h
  same_either false x y h = refl

  both_true : (a b : Bool) → (a && b) ≡ true → b ≡ true
  both_true true b h = h
  both_true false b h = absurd (true≢false (sym h))

  pub lost_absent : (fate : Fate) → view_of parts ≡ lost_as fate who (view_of parts)
  lost_absent fate =
      view_ext (view_of parts) (lost_as fate who (view_of parts)) refl refl (λ key. refl)
      (λ key. same_either (has_group who.group) _ _ (change_there (pending_at parts.rows key) (pending_live parts whole key)))
      (λ key. refl)
      (λ key. same_either (has_group who.group) _ _ (holder_there (holder_of parts.holds key) (whole.live key)))
      (λ w. unmarked (has_group who.group && is_who who w) fate (session_of parts.seats w)
      (λ same. ap (session_of parts.seats) (sym (is_who-true who w (both_true (has_group who.group) (is_who who w) same))) ∙ none_seated parts.seats who absent))

-- ---- a read without a session

pub lost_nobody : (fate : Fate) (who : Who) (view : View) → has_group who.group ≡ false → view ≡ lost_as fate who view
lost_nobody fate who view none =
    view_ext view (lost_as fate who view) refl refl (λ key. refl)
    (λ key. ap (λ (b : Bool). cond b (dropped who (view.pending key)) (view.pending key)) (sym none))
    (λ key. refl)
    (λ key. ap (λ (b : Bool). cond b (without who (view.holder key)) (view.holder key)) (sym none))
    (λ w. ap (λ (b : Bool). cond (b && is_who who w) (marked fate (view.sessions w)) (view.sessions w)) (sym none))

pub opened_nobody : (who : Who) (view : View) → has_group who.group ≡ false → view ≡ opened who view
opened_nobody who view none =
    view_ext view (opened who view) refl refl (λ key. refl) (λ key. refl) (λ key. refl) (λ key. refl)
    (λ w. ap (λ (b : Bool). cond (b && is_who who w) (opened_at view.incarnation (view.sessions w)) (view.sessions w)) (sym none))
