-- What a port tells once a session has obtained the locks of keys, or was refused.
use Rattle.std.proofs.Common.{◌≡◌, ◌==◌, ◌<◌, ℕ, zero, suc, Bool, true, false, cond, not, ◌&&◌, ◌||◌, List, [], ◌∷◌, length, All, get_or, Option, Some, None, ◌⊎◌, ⊎_elim, inl, inr, refl, sym, ap, subst, ◌∙◌, arith, true≢false}
use Rattle.std.specs.Option.{is_some}
use Rattle.std.proofs.lemmas.Bool.{cases_Bool, cases_order, eqb-true, eq-eqb, and_parts, and_from}
use Rattle.std.proofs.lemmas.List.Elements.{AllWithin-from_all, at_read}
use Rattle.vl_values.specs.declared.key.Key.{Key}
use Rattle.vl_values.specs.Keyed.{is_among_keys, is_key, AreInOrder, comes_before}
use Rattle.vl_values.proofs.KeyOrder.{is_key-true, is_key-same, key_cmp_total}
use Rattle.std.proofs.lemmas.Cmp.{tied_itself}
use Rattle.vl_values.specs.Key.{key_cmp}
use Rattle.std.specs.Ordering.{is_lt}
use Rattle.vl_values.proofs.Keying.{less_behind, not_before}
use Rattle.vl_port.specs.declared.act.Act.{Act}
use Rattle.vl_port.specs.declared.who.Who.{Who}
use Rattle.vl_port.specs.View.{is_who, has_group}
use Rattle.vl_port.specs.Holding.{needs, is_held_by_other, IsFree, IsHeld}
use Rattle.vl_port.specs.Acting.{taken}
use Rattle.vl_port.specs.Life.{lives_in, loss_in, opened, opened_at}
use Rattle.vl_port.proofs.Lives.{open_lives, opened_lives, opened_young}
use Rattle.vl_port.proofs.Naming.{is_who-same}
use Rattle.vl_rows.specs.declared.change.Change.{Change as RowChange}
use Rattle.vl_rows.specs.Versions.{Versions, committed_at, pending_at}
use Rattle.vl_locks.specs.Locks.{holder_of, other_than}
use Rattle.vl_locks.specs.Take.{IsFreeFor, IsFirstHeld, with_all}
use Rattle.vl_shard.specs.declared.seat.Seat.{Seat}
use Rattle.vl_shard.specs.Seats.{seat_at, name_of, who_at, session_of, IsPlaceFor, HasSat}
use Rattle.vl_shard.specs.Parts.{Parts, holder_told, change_told, view_of, IsWhole}
use Rattle.vl_shard.specs.Obtaining.{IsFirstHeldBy}
use Rattle.vl_shard.proofs.Telling.{seat_of, view_ext, same_test, holder_stays, change_stays, seat_stays, named_some, with_group, pending_live}

none_some : {X : Type 0} (x : X) → None ≡ Some x → ⊥
none_some x h = cc

some_one : {X : Type 0} (x y : X) → Some x ≡ Some y → x ≡ y
some_one x y h = cc

-- ---- keys among keys

among_first : (key x : Key) (xs : List Key) (b : Bool) → is_key key x ≡ b → (b || is_among_keys xs key) ≡ true → (key ≡ x) ⊎ (is_among_keys xs key ≡ true)
among_first key x xs true is h = inl (is_key-true key x is)
among_first key x xs false is h = inr h

pub among_at : (keys : List Key) (key : Key) → is_among_keys keys key ≡ true → (place : ℕ) × (place < length keys) × ((d : Key) → get_or keys place d ≡ key)
among_at [] key h = absurd (true≢false (sym h))
among_at (x ∷ xs) key h =
    ⊎_elim
    (λ same. (0, omega arith, λ d. sym same))
    (λ there. let t = among_at xs key there in (suc t.0, omega (arith, t.1), t.2))
    (among_first key x xs (is_key key x) refl h)

or_left : (a b : Bool) → a ≡ true → (a || b) ≡ true
or_left true b h = refl
or_left false b h = absurd (true≢false (sym h))

or_right : (a b : Bool) → b ≡ true → (a || b) ≡ true
or_right true b h = refl
or_right false b h = h

pub among_from : (keys : List Key) (place : ℕ) (key : Key) → place < length keys → get_or keys place key ≡ key → is_among_keys keys key ≡ true
among_from [] place key within is = absurd (omega arith)
among_from (x ∷ xs) zero key within is = or_left (is_key key x) (is_among_keys xs key) (ap (is_key key) is ∙ is_key-same key)
among_from (x ∷ xs) (suc place) key within is = or_right (is_key key x) (is_among_keys xs key) (among_from xs place key (omega arith) is)

free_among : (holds : List (Key × ℕ)) (conn : ℕ) (keys : List Key) (key : Key) → All (IsFreeFor holds conn) keys → is_among_keys keys key ≡ true → IsFreeFor holds conn key
free_among holds conn keys key free among =
    let t = among_at keys key among in
    subst (IsFreeFor holds conn) (t.2 key) (AllWithin-from_all (IsFreeFor holds conn) keys free t.0 key (omega arith) t.1)

-- ---- what a session holds itself

own_or_free : (conn other : ℕ) → other_than conn (Some other) ≡ None → other ≡ conn
own_or_free conn other h =
    ⊎_elim (λ same. eqb-true other conn same) (λ apart. absurd (none_some other (sym h ∙ ap (λ (b : Bool). cond b None (Some other)) apart))) (cases_Bool (other == conn))

-- ---- the sessions of seats that one has sat down on

-- the name of a seat that was taken
name_back : (seats new : List (Option Seat)) (other : ℕ) (w : Who) → ((n : ℕ) (seat : Seat) → seat_at seats n ≡ Some seat → seat_at new n ≡ Some seat) → is_some (seat_at seats other) ≡ true
    → who_at new other ≡ Some w → who_at seats other ≡ Some w
name_back seats new other w others live named = let s = seat_of (seat_at seats other) live in ap name_of s.1 ∙ sym (ap name_of (others other s.0 s.1)) ∙ named

-- ---- the parts stay whole

pub whole_sat : (rows : Versions) (holds : List (Key × ℕ)) (seats new : List (Option Seat)) (who : Who) (conn incarnation : ℕ)
    → IsWhole (record { rows = rows; holds = holds; seats = seats; incarnation = incarnation }) → HasSat seats who incarnation conn new → IsWhole (record { rows = rows; holds = holds; seats = new; incarnation = incarnation })
whole_sat rows holds seats new who conn incarnation whole sat = record {
  held = whole.held;
  live = λ key other h. seat_stays seats new other sat.others (whole.live key other h);
  alive = λ key other w h named.
      ap (lives_in incarnation) (sat.sessions w)
      ∙ open_lives (is_who who w) incarnation (session_of seats w) (whole.alive key other w h (name_back seats new other w sat.others (whole.live key other h) named));
  young = λ w x h. opened_young (is_who who w) incarnation (session_of seats w) x (whole.young w) (sym (sat.sessions w) ∙ h);
}

module _ (rows : Versions) (holds : List (Key × ℕ)) (seats : List (Option Seat)) (who : Who) (conn incarnation : ℕ) (keys : List Key) (newly : List (Key × ℕ)) (new : List (Option Seat))
    (whole : IsWhole (record { rows = rows; holds = holds; seats = seats; incarnation = incarnation })) (free : All (IsFreeFor holds conn) keys)
    (is : (key : Key) → holder_of newly key ≡ with_all (holder_of holds) keys conn key) (sat : HasSat seats who incarnation conn new)
    (unlost : loss_in incarnation (session_of seats who) ≡ None) where
  held_by : (key : Key) (c : RowChange) → pending_at rows key ≡ Some c → (b : Bool) → is_among_keys keys key ≡ b → holder_of newly key ≡ Some c.conn
  held_by key c h true among =
      is key ∙ ap (λ (b : Bool). cond b (Some conn) (holder_of holds key)) among
      ∙ ap Some (sym (own_or_free conn c.conn (ap (other_than conn) (sym (whole.held key c h)) ∙ free_among holds conn keys key free among)))
  held_by key c h false among = is key ∙ ap (λ (b : Bool). cond b (Some conn) (holder_of holds key)) among ∙ whole.held key c h

  live_by : (key : Key) (other : ℕ) → holder_of newly key ≡ Some other → (b : Bool) → is_among_keys keys key ≡ b → is_some (seat_at new other) ≡ true
  live_by key other h true among =
      let mine : conn ≡ other = some_one conn other (sym (is key ∙ ap (λ (b : Bool). cond b (Some conn) (holder_of holds key)) among) ∙ h) in
      subst (λ (n : ℕ). is_some (seat_at new n) ≡ true) mine (named_some (seat_at new conn) who sat.own)
  live_by key other h false among =
      seat_stays seats new other sat.others (whole.live key other (sym (is key ∙ ap (λ (b : Bool). cond b (Some conn) (holder_of holds key)) among) ∙ h))

  -- the session itself is open and isn't lost
  own_lives : lives_in incarnation (session_of new who) ≡ true
  own_lives =
      ap (lives_in incarnation) (sat.sessions who ∙ ap (λ (b : Bool). cond b (opened_at incarnation (session_of seats who)) (session_of seats who)) (is_who-same who))
      ∙ opened_lives incarnation (session_of seats who) unlost

  alive_by : (key : Key) (other : ℕ) (w : Who) → holder_of newly key ≡ Some other → who_at new other ≡ Some w → (b : Bool) → is_among_keys keys key ≡ b → lives_in incarnation (session_of new w) ≡ true
  alive_by key other w h named true among =
      let mine : conn ≡ other = some_one conn other (sym (is key ∙ ap (λ (b : Bool). cond b (Some conn) (holder_of holds key)) among) ∙ h) in
      let same : who ≡ w = some_one who w (sym sat.own ∙ ap (who_at new) mine ∙ named) in
      subst (λ (x : Who). lives_in incarnation (session_of new x) ≡ true) same own_lives
  alive_by key other w h named false among =
      (whole_sat rows holds seats new who conn incarnation whole sat).alive key other w (sym (is key ∙ ap (λ (b : Bool). cond b (Some conn) (holder_of holds key)) among) ∙ h) named

  pub whole_taken : IsWhole (record { rows = rows; holds = newly; seats = new; incarnation = incarnation })
  whole_taken = record {
    held = λ key c h. held_by key c h (is_among_keys keys key) refl;
    live = λ key other h. live_by key other h (is_among_keys keys key) refl;
    alive = λ key other w h named. alive_by key other w h named (is_among_keys keys key) refl;
    young = (whole_sat rows holds seats new who conn incarnation whole sat).young;
  }

-- ---- a refusal

pub first_by : (parts : Parts) (keys : List Key) (conn place by session : ℕ) (key : Key) → IsWhole parts → IsFirstHeld parts.holds keys conn place by → key ≡ get_or keys place key
    → ((seat : Seat) → seat_at parts.seats by ≡ Some seat → session ≡ seat.who.session) → IsFirstHeldBy parts keys conn session key
first_by parts keys conn place by session key whole first read named =
    let holds : holder_of parts.holds key ≡ Some by = subst (λ (k : Key). holder_of parts.holds k ≡ Some by) (sym read) (first.1 key) in
    let s = seat_of (seat_at parts.seats by) (whole.live key by holds) in
    record {
      place = place;
      within = first.0;
      at = at_read keys (λ (k : Key). k ≡ key) place key first.0 read refl;
      holder = (by, s.0, holds, first.2, s.1, sym (named s.0 s.1));
      before = first.3;
    }

not_self : (key : Key) → comes_before key key ≡ false
not_self key = ap is_lt (tied_itself key_cmp_total key)

-- ---- the views

module _ (old new : Parts) (who : Who) (conn : ℕ) (whole : IsWhole old) (group : has_group who.group ≡ true) (sat : HasSat old.seats who old.incarnation conn new.seats) (rows : new.rows ≡ old.rows)
    (incarnation : new.incarnation ≡ old.incarnation) where
  sessions_opened : (w : Who) → session_of new.seats w ≡ (opened who (view_of old)).sessions w
  sessions_opened w = sat.sessions w ∙ with_group (has_group who.group) (is_who who w) _ (session_of old.seats w) group

  pending_same : (key : Key) → (view_of new).pending key ≡ (view_of old).pending key
  pending_same key =
      ap (λ (v : Versions). change_told new.seats (pending_at v key)) rows ∙ change_stays old.seats new.seats (pending_at old.rows key) sat.others (pending_live old whole key)

  holder_same : (key : Key) → holder_told new.seats (holder_of old.holds key) ≡ holder_told old.seats (holder_of old.holds key)
  holder_same key = holder_stays old.seats new.seats (holder_of old.holds key) sat.others (whole.live key)

  pub view_refused : new.holds ≡ old.holds → view_of new ≡ opened who (view_of old)
  view_refused holds =
      view_ext (view_of new) (opened who (view_of old)) refl incarnation (λ key. ap (λ (v : Versions). committed_at v key) rows) pending_same (λ key. refl)
      (λ key. ap (λ (l : List (Key × ℕ)). holder_told new.seats (holder_of l key)) holds ∙ holder_same key)
      sessions_opened

  module _ (act : Act) (keys : List Key) (needed : (key : Key) → is_among_keys keys key ≡ needs (view_of old) act key) (is : (key : Key) → holder_of new.holds key ≡ with_all (holder_of old.holds) keys conn key) where
    holder_taken : (key : Key) (b : Bool) → is_among_keys keys key ≡ b → holder_told new.seats (holder_of new.holds key) ≡ cond b (Some who) (holder_told old.seats (holder_of old.holds key))
    holder_taken key true among = ap (holder_told new.seats) (is key ∙ ap (λ (b : Bool). cond b (Some conn) (holder_of old.holds key)) among) ∙ sat.own
    holder_taken key false among = ap (holder_told new.seats) (is key ∙ ap (λ (b : Bool). cond b (Some conn) (holder_of old.holds key)) among) ∙ holder_same key

    pub view_taken : view_of new ≡ taken who act (view_of old)
    view_taken =
        view_ext (view_of new) (taken who act (view_of old)) refl incarnation (λ key. ap (λ (v : Versions). committed_at v key) rows) pending_same (λ key. refl)
        (λ key. holder_taken key (needs (view_of old) act key) (needed key))
        sessions_opened

module _ (old : Parts) (who : Who) (conn : ℕ) (whole : IsWhole old) (place : IsPlaceFor old.seats who conn) where
  -- whether another holds a key, by name and by number
  other_by : (other : ℕ) (seat : Seat) → seat_at old.seats other ≡ Some seat → is_held_by_other who (holder_told old.seats (Some other)) ≡ not (other == conn)
  other_by other seat is = ap (λ (o : Option Seat). is_held_by_other who (name_of o)) is ∙ ap not (same_test old.seats who conn other seat place is)

  free_told : (key : Key) (o : Option ℕ) → holder_of old.holds key ≡ o → other_than conn o ≡ None → is_held_by_other who (holder_told old.seats o) ≡ false
  free_told key None is free = refl
  free_told key (Some other) is free =
      let s = seat_of (seat_at old.seats other) (whole.live key other is) in
      other_by other s.0 s.1 ∙ ap not (eq-eqb other conn (own_or_free conn other free))

  and_false : (a b : Bool) → b ≡ false → (a && b) ≡ false
  and_false true b h = h
  and_false false b h = refl

  module _ (act : Act) (keys : List Key) (needed : (key : Key) → is_among_keys keys key ≡ needs (view_of old) act key) where
    free_at : (free : All (IsFreeFor old.holds conn) keys) (key : Key) (b : Bool) → needs (view_of old) act key ≡ b → (b && is_held_by_other who ((view_of old).holder key)) ≡ false
    free_at free key true needs = free_told key (holder_of old.holds key) refl (free_among old.holds conn keys key free (needed key ∙ needs))
    free_at free key false needs = refl

    pub free_view : All (IsFreeFor old.holds conn) keys → IsFree (view_of old) who act
    free_view free key = free_at free key (needs (view_of old) act key) refl

    module _ (order : AreInOrder keys) (by : ℕ) (key : Key) (first : IsFirstHeldBy old keys conn by key) where
      held_there : is_held_by_other who ((view_of old).holder key) ≡ true
      held_there =
          let other = first.holder.0 in
          ap (λ (o : Option ℕ). is_held_by_other who (holder_told old.seats o)) first.holder.2
          ∙ other_by other first.holder.1 first.holder.4
          ∙ ap not (apart (other == conn) refl)
        where
          apart : (b : Bool) → (first.holder.0 == conn) ≡ b → (first.holder.0 == conn) ≡ false
          apart true is = absurd (first.holder.3 (eqb-true first.holder.0 conn is))
          apart false is = is

      needed_there : needs (view_of old) act key ≡ true
      needed_there = sym (needed key) ∙ among_from keys first.place key first.within (first.at key)

      -- a key that is held stands at that place or behind it
      not_earlier : (k : Key) (place : ℕ) → place < length keys → ((d : Key) → get_or keys place d ≡ k) → is_held_by_other who ((view_of old).holder k) ≡ true → comes_before k key ≡ true → ⊥
      not_earlier k at within is held before =
          ⊎_elim
          (λ same. true≢false (sym before ∙ ap (λ (x : Key). comes_before x key) (sym (is key) ∙ ap (λ (n : ℕ). get_or keys n key) same ∙ first.at key) ∙ not_self key))
          (λ apart. ⊎_elim
          (λ earlier. true≢false (sym held ∙ free_told k (holder_of old.holds k) refl (subst (IsFreeFor old.holds conn) (is key) (first.before at key (omega arith) earlier))))
          (λ behind. not_before key k (ap (λ (x : Key). key_cmp x k) (sym (first.at key)) ∙ ap (key_cmp (get_or keys first.place key)) (sym (is key)) ∙ less_behind keys first.place at key order behind within) before)
          apart)
          (cases_order at first.place)

      pub held_view : IsHeld (view_of old) who act by key
      held_view = record {
        blocked = and_from (needs (view_of old) act key) (is_held_by_other who ((view_of old).holder key)) needed_there held_there;
        holder = (first.holder.1.who, ap (holder_told old.seats) first.holder.2 ∙ ap name_of first.holder.4, first.holder.5);
        least = λ k h.
            let p = and_parts (needs (view_of old) act k) (is_held_by_other who ((view_of old).holder k)) h in
            let t = among_at keys k (needed k ∙ p.0) in
            ⊎_elim (λ before. absurd (not_earlier k t.0 t.1 t.2 p.1 before)) (λ not_before. not_before) (cases_Bool (comes_before k key));
      }
