-- What holds of each image that a crash may leave, from call to call.
use Rattle.std.proofs.Common.{◌≡◌, ◌<◌, ◌≤◌, ◌+◌, ◌++◌, [], ◌∷◌, ℕ, List, length, take, drop, Bool, true, false, refl, sym, ◌∙◌, ap, subst, inl, inr, arith, append_assoc, length-append, length-take, length-drop}
use Rattle.std.proofs.lemmas.List.{get_or-take, get_or-drop, ext_get_or}
use Rattle.vl_disk.specs.Moment.{EachLeft, IsLeft, Moment, Torn, at_rest, touched}
use Rattle.vl_disk.specs.DiskView.{DiskView, Every, Passes, moments}
use Rattle.vl_disk.specs.Calls.{IsStill, IsSynced, IsWritten}

-- a file at rest is all that a crash leaves
pub rest_is : (file image : List ℕ) → IsLeft (at_rest file) image → image ≡ file
rest_is file image left =
    let size : length image ≡ length file = omega (arith, left.no_shorter, left.no_longer) in
    ext_get_or 0 image file size (λ i inside. left.same i (omega arith) tt)

-- of a file at rest, a write leaves nothing but a torn one
pub torn_left : (offset n : ℕ) (file image : List ℕ) → offset ≤ length file → IsLeft (touched offset n (at_rest file)) image
    → Torn offset n file image
torn_left offset n file image within left = record {
  before =
      ext_get_or 0 (take offset image) (take offset file)
      (omega (arith, length-take offset image, length-take offset file, left.no_shorter))
      (λ i inside.
      let below : i < offset = omega (arith, length-take offset image) in
      get_or-take offset image i 0 below
      ∙ (left.same i (omega arith) (inl below, tt) ∙ sym (get_or-take offset file i 0 below)));
  after =
      ext_get_or 0 (drop (offset + n) image) (drop (offset + n) file)
      (omega (arith, length-drop (offset + n) image, length-drop (offset + n) file, left.no_shorter, left.no_longer))
      (λ i inside.
      get_or-drop (offset + n) image i 0
      ∙ (left.same (offset + n + i)
      (omega (arith, length-drop (offset + n) image, left.no_shorter, left.no_longer))
      (inr (omega arith), tt)
      ∙ sym (get_or-drop (offset + n) file i 0)));
  no_shorter = left.no_shorter;
  no_longer = left.no_longer;
}

-- one call more
pub goes_on : {P : Moment → Type 0} (u v w : DiskView) → Passes P u v → w.before ≡ v.now ∷ v.before → w.age ≡ v.age + 1
    → P w.now → Passes P u w
goes_on {P = P} u v w passes before age holds = record {
  newer = w.now ∷ passes.newer;
  past = ap (λ (rest : List Moment). w.now ∷ rest) (before ∙ passes.past);
  each = (holds, passes.each);
  counted = omega (arith, age, passes.counted);
}

-- no call
pub stays : {P : Moment → Type 0} (v w : DiskView) → IsStill v w → Passes P v w
stays v w still = record {
  newer = [];
  past = rw still.now (rw still.before refl);
  each = tt;
  counted = omega (arith, still.age);
}

both_every : (P : Moment → Type 0) (newer older : List Moment) → Every P newer → Every P older → Every P (newer ++ older)
both_every P [] older one two = two
both_every P (m ∷ newer) older one two = (one.0, both_every P newer older one.1 two)

-- first the one calls, then the others
pub joined : {P : Moment → Type 0} (u v w : DiskView) → Passes P u v → Passes P v w → Passes P u w
joined {P = P} u v w one two = record {
  newer = two.newer ++ one.newer;
  past = two.past ∙ (ap (λ (rest : List Moment). two.newer ++ rest) one.past ∙ sym (append_assoc two.newer one.newer (moments u)));
  each = both_every P two.newer one.newer two.each one.each;
  counted = omega (arith, one.counted, two.counted, length-append two.newer one.newer);
}

weaker_every : {P Q : Moment → Type 0} (ms : List Moment) → ((m : Moment) → P m → Q m) → Every P ms → Every Q ms
weaker_every [] weaker each = tt
weaker_every {P = P} {Q = Q} (m ∷ ms) weaker each = (weaker m each.0, weaker_every {P = P} {Q = Q} ms weaker each.1)

pub weakened : {P Q : Moment → Type 0} (v w : DiskView) → ((m : Moment) → P m → Q m) → Passes P v w → Passes Q v w
weakened {P = P} {Q = Q} v w weaker passes = record {
  newer = passes.newer;
  past = passes.past;
  each = weaker_every {P = P} {Q = Q} passes.newer weaker passes.each;
  counted = passes.counted;
}

-- what a write may leave, over a file at rest
pub written_left : (offset : ℕ) (bytes : List ℕ) (failed : Bool) (v w : DiskView) → v.now ≡ at_rest v.now.seen
    → offset ≤ length v.now.seen → IsWritten offset bytes failed v w
    → EachLeft (Torn offset (length bytes) v.now.seen) w.now
written_left offset bytes failed v w rest within written image left =
    let P : Moment → Type 0 = λ m. IsLeft (touched offset (length bytes) m) image in
    torn_left offset (length bytes) v.now.seen image within (subst P rest (written.crash image left))

-- a sync keeps what holds of each image
pub sync_keeps : {Q : List ℕ → Type 0} (failed : Bool) (v w : DiskView) → EachLeft Q v.now → IsLeft v.now v.now.seen
    → IsSynced failed v w → EachLeft Q w.now
sync_keeps {Q = Q} true v w each itself synced =
    let P : Moment → Type 0 = λ m. EachLeft Q m in
    subst P (sym (synced.kept refl)) each
sync_keeps {Q = Q} false v w each itself synced =
    let P : Moment → Type 0 = λ m. EachLeft Q m in
    let rest : EachLeft Q (at_rest v.now.seen) = λ image left. subst Q (sym (rest_is v.now.seen image left)) (each v.now.seen itself) in
    subst P (sym (synced.synced refl)) rest

every_first : (P : Moment → Type 0) (newer older : List Moment) (now : Moment) (before : List Moment) (first : Moment)
    → now ∷ before ≡ newer ++ first ∷ older → P first → Every P newer → P now
every_first P [] older now before first same holds each = let head : first ≡ now = cc in subst P head holds
every_first P (m ∷ newer) older now before first same holds each = let head : m ≡ now = cc in subst P head each.0

-- what holds before and at each moment since holds now
pub now_has : {P : Moment → Type 0} (v w : DiskView) → P v.now → Passes P v w → P w.now
now_has {P = P} v w holds passes = every_first P passes.newer v.before w.now w.before v.now passes.past holds passes.each
