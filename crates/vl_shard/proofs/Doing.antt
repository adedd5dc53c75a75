-- The acts on one key, and reads.
use Rattle.std.proofs.Common.{◌≡◌, ◌↔◌, ℕ, Bool, true, false, cond, ◌||◌, List, [], ◌∷◌, Option, Some, None, refl, sym, ap, ◌∙◌, IsTrue, IfSome, IfNone}
use Rattle.std.specs.Option.{is_some}
use Rattle.std.specs.List.{Contains}
use Rattle.std.proofs.lemmas.Bool.{eq-eqb}
use Rattle.vl_values.specs.declared.key.Key.{Key}
use Rattle.vl_values.specs.declared.pred.Pred.{Pred}
use Rattle.vl_values.specs.Keyed.{is_among_keys, is_key, InKeyOrder}
use Rattle.vl_values.proofs.KeyOrder.{is_key-true, is_key-same}
use Rattle.vl_port.specs.declared.act.Act.TheVariants.{Insert, Put, Remove, Find}
use Rattle.vl_port.specs.declared.who.Who.{Who}
use Rattle.vl_port.specs.Life.{lives_in}
use Rattle.vl_port.specs.View.{View, Values, changed_to}
use Rattle.vl_port.specs.Reading.{is_match, IsRead}
use Rattle.vl_port.specs.Holding.{needs, IsHeld}
use Rattle.vl_rows.specs.declared.change.Change.{Change as RowChange}
use Rattle.vl_rows.specs.Versions.{Versions, committed_at, pending_at, standing_at, other_than, IsFreeFor}
use Rattle.vl_rows.specs.Versions as versions
use Rattle.vl_rows.specs.Matching.{matches_at, row_of, has_match, IsFound}
use Rattle.vl_locks.specs.Locks.{holder_of}
use Rattle.vl_shard.specs.declared.seat.Seat.{Seat}
use Rattle.vl_shard.specs.Seats.{seat_at, name_of, who_at, session_of, IsPlaceFor, IsAbsent}
use Rattle.vl_shard.specs.Parts.{Parts, change_by, change_told, view_of, IsWhole}
use Rattle.vl_shard.specs.Changing.{key_taken, key_changed, IsWritten}
use Rattle.vl_shard.proofs.Telling.{view_ext, standing_told, IsReader, pending_live, seat_of}
use Rattle.vl_shard.proofs.Obtained.{among_at, among_from}

bool_same : (a b : Bool) → (a ≡ true → b ≡ true) → (b ≡ true → a ≡ true) → a ≡ b
bool_same true b to from = sym (to refl)
bool_same false true to from = from refl
bool_same false false to from = refl

or_false : (b : Bool) → (b || false) ≡ b
or_false true = refl
or_false false = refl

turned : (a b : Key) → is_key a b ≡ true → is_key b a ≡ true
turned a b h = ap (is_key b) (is_key-true a b h) ∙ is_key-same b

-- one key is what an act on it needs
pub only_needed : (keys : List Key) (key : Key) → keys ≡ key ∷ [] → (k : Key) → is_among_keys keys k ≡ is_key key k
only_needed keys key is k =
    ap (λ (l : List Key). is_among_keys l k) is ∙ or_false (is_key k key) ∙ bool_same (is_key k key) (is_key key k) (turned k key) (turned key k)

-- ---- a version is written

holder_is : (holds : Option ℕ) (conn other : ℕ) → holds ≡ Some conn → holds ≡ Some other → other ≡ conn
holder_is holds conn other a b = cc

free_by : (conn : ℕ) (o : Option RowChange) → ((c : RowChange) → o ≡ Some c → c.conn ≡ conn) → other_than conn o ≡ None
free_by conn None own = refl
free_by conn (Some c) own = ap (λ (b : Bool). cond b None (Some c)) (eq-eqb c.conn conn (own c refl))

pub free_to_write : (parts : Parts) (conn : ℕ) (key : Key) → IsWhole parts → holder_of parts.holds key ≡ Some conn → IsFreeFor parts.rows conn key
free_to_write parts conn key whole held = free_by conn (pending_at parts.rows key) (λ c h. holder_is (holder_of parts.holds key) conn c.conn held (whole.held key c h))

module _ (old new : Parts) (key : Key) (row : Option Values) (conn : ℕ) (w : IsWritten old key row conn new) where
  written_held_by : (whole : IsWhole old) (held : holder_of old.holds key ≡ Some conn) (other : Key) (c : RowChange) → pending_at new.rows other ≡ Some c → (b : Bool) → is_key key other ≡ b → holder_of old.holds other ≡ Some c.conn
  written_held_by whole held other c h true same =
      let made : c ≡ versions.changed_to conn row = one _ _ (sym h ∙ w.pending other ∙ ap (λ (b : Bool). cond b (Some (versions.changed_to conn row)) (pending_at old.rows other)) same) in
      ap (holder_of old.holds) (sym (is_key-true key other same)) ∙ held ∙ ap (λ (x : RowChange). Some x.conn) (sym made)
    where
      one : (x y : RowChange) → Some x ≡ Some y → x ≡ y
      one x y h = cc
  written_held_by whole held other c h false apart =
      whole.held other c (sym (w.pending other ∙ ap (λ (b : Bool). cond b (Some (versions.changed_to conn row)) (pending_at old.rows other)) apart) ∙ h)

  pub whole_written : IsWhole old → holder_of old.holds key ≡ Some conn → IsWhole new
  whole_written whole held = record {
    held = λ other c h. ap (λ (l : List (Key × ℕ)). holder_of l other) w.holds ∙ written_held_by whole held other c h (is_key key other) refl;
    live = λ other n h. ap (λ (l : List (Option Seat)). is_some (seat_at l n)) w.seats ∙ whole.live other n (ap (λ (l : List (Key × ℕ)). holder_of l other) (sym w.holds) ∙ h);
    alive = λ other n who h named.
        ap (λ (i : ℕ). lives_in i (session_of new.seats who)) w.incarnation ∙ ap (λ (l : List (Option Seat)). lives_in old.incarnation (session_of l who)) w.seats
        ∙ whole.alive other n who (ap (λ (l : List (Key × ℕ)). holder_of l other) (sym w.holds) ∙ h) (ap (λ (l : List (Option Seat)). who_at l n) (sym w.seats) ∙ named);
    young = λ who x h. rw (w.incarnation) (whole.young who x (ap (λ (l : List (Option Seat)). session_of l who) (sym w.seats) ∙ h));
  }

  told_by : (who : Who) → who_at old.seats conn ≡ Some who → (other : Key) (b : Bool) → is_key key other ≡ b → change_told old.seats (pending_at new.rows other) ≡ cond b (Some (record { who = who; row = row })) ((view_of old).pending other)
  told_by who named other true same =
      ap (change_told old.seats) (w.pending other ∙ ap (λ (b : Bool). cond b (Some (versions.changed_to conn row)) (pending_at old.rows other)) same) ∙ ap (λ (x : Option Who). change_by x row) named
  told_by who named other false apart =
      ap (change_told old.seats) (w.pending other ∙ ap (λ (b : Bool). cond b (Some (versions.changed_to conn row)) (pending_at old.rows other)) apart)

  pub view_written : (who : Who) → who_at old.seats conn ≡ Some who
      → view_of new ≡ (record (view_of old) { pending = λ k. cond (is_key key k) (Some (record { who = who; row = row })) ((view_of old).pending k) })
  view_written who named =
      view_ext (view_of new) _ refl w.incarnation
      (λ k. ap (λ (l : List (Key × Values)). committed_at (record old.rows { committed = l }) k) w.committed)
      (λ k. ap (λ (l : List (Option Seat)). change_told l (pending_at new.rows k)) w.seats ∙ told_by who named k (is_key key k) refl)
      (λ k. refl)
      (λ k. ap (λ (l : List (Option Seat)). (view_of (record new { seats = l })).holder k) w.seats ∙ ap (λ (l : List (Key × ℕ)). (view_of (record old { holds = l })).holder k) w.holds)
      (λ x. ap (λ (l : List (Option Seat)). (view_of (record new { seats = l })).sessions x) w.seats)

pub changed_view : (who : Who) (key : Key) (row : Option Values) (old mid : View) → mid ≡ key_taken who key old
    → (record mid { pending = λ k. cond (is_key key k) (Some (record { who = who; row = row })) (mid.pending k) }) ≡ key_changed who key row old
changed_view who key row old mid is = ap (λ (v : View). record v { pending = λ k. cond (is_key key k) (Some (record { who = who; row = row })) (v.pending k) }) is

-- ---- every act on one key is held up alike

module _ (view : View) (who : Who) (by : ℕ) (key k : Key) (h : IsHeld view who (Remove key) by k) where
  pub held_insert : (row : Values) → IsHeld view who (Insert key row) by k
  held_insert row = record { blocked = h.blocked; holder = h.holder; least = h.least }

  pub held_put : (row : Values) → IsHeld view who (Put key row) by k
  held_put row = record { blocked = h.blocked; holder = h.holder; least = h.least }

-- ---- reads

match_same : (pred : Pred) (key : Key) (o : Option Values) → matches_at pred key o ≡ is_match pred key o
match_same pred key None = refl
match_same pred key (Some row) = refl

row_same : (seats : List (Option Seat)) (o : Option RowChange) → ((c : RowChange) → o ≡ Some c → is_some (seat_at seats c.conn) ≡ true) → row_of o ≡ changed_to (change_told seats o)
row_same seats None live = refl
row_same seats (Some c) live = let s = seat_of (seat_at seats c.conn) (live c refl) in ap (λ (o : Option Seat). changed_to (change_by (name_of o) c.row)) (sym s.1)

both_same : (a b c d : Bool) → a ≡ b → c ≡ d → (a || c) ≡ (b || d)
both_same a b c d p q = ap (λ (x : Bool). x || c) p ∙ ap (λ (x : Bool). b || x) q

match_told : (parts : Parts) → IsWhole parts → (pred : Pred) (key : Key) → has_match parts.rows pred key ≡ needs (view_of parts) (Find pred true) key
match_told parts whole pred key =
    both_same _ _ _ _ (match_same pred key (committed_at parts.rows key))
    (match_same pred key (row_of (pending_at parts.rows key)) ∙ ap (is_match pred key) (row_same parts.seats (pending_at parts.rows key) (pending_live parts whole key)))

pub keys_needed : (parts : Parts) → IsWhole parts → (pred : Pred) (keys : List Key) → ((key : Key) → Contains keys key ↔ IsTrue (has_match parts.rows pred key)) → (key : Key)
    → is_among_keys keys key ≡ needs (view_of parts) (Find pred true) key
keys_needed parts whole pred keys exact key =
    bool_same (is_among_keys keys key) (has_match parts.rows pred key)
    (λ among. let t = among_at keys key among in (exact key).0 (t.0, t.1, t.2 key))
    (λ matches. let t = (exact key).1 matches in among_from keys t.0 key t.1 t.2)
    ∙ match_told parts whole pred key

pub rows_read : (parts : Parts) (who : Who) (reader : Option ℕ) → IsWhole parts → IsReader parts.seats who reader → (pred : Pred) (rows : List (Key × Values)) → InKeyOrder rows
    → ((entry : Key × Values) → Contains rows entry ↔ IsFound parts.rows reader pred entry) → IsRead (view_of parts) who pred rows
rows_read parts who reader whole reads pred rows order exact = record {
  ordered = order;
  sound = λ row h. let f = (exact row).0 h in (sym (standing_told parts who reader whole reads row.0) ∙ f.0, f.1);
  complete = λ key values stands matches. (exact (key, values)).1 (standing_told parts who reader whole reads key ∙ stands, matches);
}

pub reader_is : (seats : List (Option Seat)) (who : Who) (reader : Option ℕ) → IfSome reader (IsPlaceFor seats who) → IfNone reader (IsAbsent seats who) → IsReader seats who reader
reader_is seats who None seated absent = absent
reader_is seats who (Some conn) seated absent = seated
