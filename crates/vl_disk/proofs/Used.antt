-- Device calls one after the other: their faults and their stops.
use Rattle.std.proofs.Common.{◌≡◌, ◌≤◌, ◌||◌, ◌⊎◌, [], ℕ, List, length, Bool, true, false, if◌then◌else◌, IsSome, Option, Some, None, refl, sym, ◌∙◌, ap, subst, inl, inr, arith}
use Rattle.vl_disk.specs.Moment.{EachLeft, IsLeft, Moment, Torn, at_rest, put}
use Rattle.vl_disk.specs.DiskView.{DiskView, Passes, Stops, no_stops}
use Rattle.vl_disk.specs.Calls.{IsCalled, IsSynced, IsUsed, IsWritten, both_counted_down, counted_down, is_due}
use Rattle.vl_disk.proofs.Moments.{goes_on, sync_keeps, written_left}

stops_by : (b : Bool) (n : Option ℕ) → (b || is_due n) ≡ true → (b ≡ true) ⊎ IsSome n
stops_by true n is = inl refl
stops_by false None is = absurd (cc)
stops_by false (Some n) is = inr refl

armed_down : (n : Option ℕ) → IsSome (counted_down n) → IsSome n
armed_down None is = is
armed_down (Some n) is = refl

armed_by : (b : Bool) (s : Stops) → IsSome (if b then s else both_counted_down s).crash → IsSome s.crash
armed_by true s is = is
armed_by false s is = armed_down s.crash is

-- one call
pub used_once : (failed : Bool) (v w : DiskView) → IsCalled failed v w → IsUsed failed v w
used_once failed v w called =
    let P : Stops → Type 0 = λ s. IsSome s.crash in
    record {
      same = called.same;
      cause = called.cause;
      quiet = λ none on.
          let stops : (if v.is_stopped then v.stops else both_counted_down v.stops) ≡ no_stops = rw on (rw none refl) in
          let stopped : (v.is_stopped || is_due v.stops.crash) ≡ false = rw on (rw none refl) in
          (called.stops ∙ stops, called.stopped ∙ stopped);
      stopped = λ is. stops_by v.is_stopped v.stops.crash (sym called.stopped ∙ is);
      armed = λ is. armed_by v.is_stopped v.stops (subst P called.stops is);
    }

-- calls that succeeded, and then others
pub used_then : (failed : Bool) (u v w : DiskView) → IsUsed false u v → IsUsed failed v w → IsUsed failed u w
used_then failed u v w one two = record {
  same = record {
    honest = two.same.honest ∙ one.same.honest;
    can_stop = two.same.can_stop ∙ one.same.can_stop;
    room = omega (arith, one.same.room, two.same.room);
  };
  cause = record {
    later = omega (arith, one.cause.later, two.cause.later);
    kept = λ fine. two.cause.kept fine ∙ one.cause.kept refl;
    rose = λ fails. omega (arith, one.cause.later, two.cause.rose fails);
  };
  quiet = λ none on. two.quiet (one.quiet none on).0 (one.quiet none on).1;
  stopped = λ is. elim (two.stopped is) [ inl was ↦ one.stopped was | inr armed ↦ inr (one.armed armed) ];
  armed = λ is. one.armed (two.armed is);
}

none_passed : {P : Moment → Type 0} (v : DiskView) → Passes P v v
none_passed v = record { newer = []; past = refl; each = tt; counted = omega arith }

-- a write over a file at rest, at each of its moments
pub down_first : (offset : ℕ) (bytes : List ℕ) (failed : Bool) (v w : DiskView) → v.now ≡ at_rest v.now.seen
    → offset ≤ length v.now.seen → IsWritten offset bytes failed v w
    → Passes (EachLeft (Torn offset (length bytes) v.now.seen)) v w
down_first offset bytes failed v w rest within written =
    goes_on {P = EachLeft (Torn offset (length bytes) v.now.seen)} v v w
    (none_passed {P = EachLeft (Torn offset (length bytes) v.now.seen)} v)
    written.before written.age (written_left offset bytes failed v w rest within written)

-- and then a sync
pub down_both : (offset : ℕ) (bytes : List ℕ) (missed failed : Bool) (u v w : DiskView) → u.now ≡ at_rest u.now.seen
    → offset ≤ length u.now.seen → IsWritten offset bytes missed u v → IsLeft v.now v.now.seen → IsSynced failed v w
    → Passes (EachLeft (Torn offset (length bytes) u.now.seen)) u w
down_both offset bytes missed failed u v w rest within written itself synced =
    goes_on {P = EachLeft (Torn offset (length bytes) u.now.seen)} u v w
    (down_first offset bytes missed u v rest within written)
    synced.before synced.age
    (sync_keeps {Q = Torn offset (length bytes) u.now.seen} failed v w
    (written_left offset bytes missed u v rest within written) itself synced)

pub down_done : (offset : ℕ) (bytes : List ℕ) (u v w : DiskView) → IsWritten offset bytes false u v → IsSynced false v w
    → w.now ≡ at_rest (put u.now.seen offset bytes)
down_done offset bytes u v w written synced = synced.synced refl ∙ ap at_rest (written.written refl)
