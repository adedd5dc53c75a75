-- A file that is read whole.
use Rattle.std.proofs.Common.{◌≡◌, ◌≤◌, ◌<◌, ◌^◌, ◌+◌, ◌++◌, ◌∷◌, [], Result, Ok, Err, OnOk, ℕ, Bool, true, false, IsTrue, List, length, take, drop, refl, sym, ◌∙◌, ap, subst, inl, inr, arith}
use Rattle.std.specs.Prelude.{IfOk}
use Rattle.std.proofs.lemmas.List.{take_all, take_at}
use Rattle.vl_disk.specs.Moment.{EachLeft, IsLeft, Moment, at_rest}
use Rattle.vl_disk.specs.DiskView.{DiskView, Passes}
use Rattle.vl_disk.specs.Calls.{IsCalled, IsStill, IsSynced, IsUsed}
use Rattle.vl_disk.proofs.Moments.{goes_on, joined, stays, sync_keeps, weakened}
use Rattle.vl_disk.proofs.Used.{used_once, used_then}
use Rattle.vl_catalog.specs.declared.catalog.Catalog.{Catalog}
use Rattle.vl_record.specs.declared.held.Held.{Held as AHeld}
use Rattle.vl_record.specs.Spelling.{header_bytes, number_bytes, open_gate}
use Rattle.vl_record.specs.Reading.{Held}
use Rattle.vl_record.specs.Readers.{held_view}
use Rattle.vl_record.specs.Grammar.{EndsAt, content_bytes, held_of}
use Rattle.vl_record.specs.Stored.{IsNew, new_content}
use Rattle.vl_journal.specs.declared.load_error.LoadError.{LoadError}
use Rattle.vl_journal.specs.Opening.{IsAtOpening, IsMade, IsOpenedAs}
use Rattle.vl_journal.proofs.Made.{new_allowed}

none_passed : {P : Moment → Type 0} (v : DiskView) → Passes P v v
none_passed v = record { newer = []; past = refl; each = tt; counted = omega arith }

-- a sync leaves no image that a crash might not have left before
pub synced_all : (failed : Bool) (u v : DiskView) → IsLeft u.now u.now.seen → IsSynced failed u v → Passes (EachLeft (IsLeft u.now)) u v
synced_all failed u v itself synced =
    goes_on {P = EachLeft (IsLeft u.now)} u u v (none_passed {P = EachLeft (IsLeft u.now)} u) synced.before synced.age
    (sync_keeps {Q = IsLeft u.now} failed u v (λ image left. left) itself synced)

pub still_too : {P : Moment → Type 0} (u v w : DiskView) → Passes P u v → IsStill v w → Passes P u w
still_too {P = P} u v w passes still = joined {P = P} u v w passes (stays {P = P} v w still)

-- device calls one after the other
pub used_two : (failed : Bool) (u v w : DiskView) → IsCalled false u v → IsCalled failed v w → IsUsed failed u w
used_two failed u v w one two = used_then failed u v w (used_once false u v one) (used_once failed v w two)

pub used_three : (failed : Bool) (u v w x : DiskView) → IsCalled false u v → IsCalled false v w → IsCalled failed w x → IsUsed failed u x
used_three failed u v w x one two three = used_then failed u w x (used_two false u v w one two) (used_once failed w x three)

-- an opening's first calls, and then others
pub at_first : (shard : ℕ) (u v w : DiskView) → IsStill u v → Passes (EachLeft (IsLeft v.now)) v w → Passes (EachLeft (IsAtOpening shard u.now)) u w
at_first shard u v w still passes =
    let P : Moment → Type 0 = λ m. Passes (EachLeft (IsLeft m)) v w in
    joined {P = EachLeft (IsAtOpening shard u.now)} u v w (stays {P = EachLeft (IsAtOpening shard u.now)} u v still)
    (weakened {P = EachLeft (IsLeft u.now)} {Q = EachLeft (IsAtOpening shard u.now)} v w
    (λ m each image left. inl (each image left))
    (subst P still.now passes))

pub at_last : (shard : ℕ) (u v w : DiskView) → IsNew u.now.seen → Passes (EachLeft (IsAtOpening shard u.now)) u v → Passes (EachLeft (IsMade shard)) v w
    → Passes (EachLeft (IsAtOpening shard u.now)) u w
at_last shard u v w new one two =
    joined {P = EachLeft (IsAtOpening shard u.now)} u v w one
    (weakened {P = EachLeft (IsMade shard)} {Q = EachLeft (IsAtOpening shard u.now)} v w
    (λ m each image left. inr (new, each image left)) two)

-- all of the bytes
pub all_read : (n : ℕ) (seen buf : List ℕ) → n ≡ length seen → buf ≡ take n (drop 0 seen) → buf ≡ seen
all_read n seen buf size is = is ∙ take_all n seen (omega (arith, size))

pub all_filled : (len size n : ℕ) (seen buf items : List ℕ) → len ≡ n → size ≡ n → n ≡ length seen → buf ≡ take size (drop 0 seen)
    → take len (buf ++ drop (length buf) items) ≡ seen
all_filled len size n seen buf items l k whole is =
    let same : buf ≡ seen = all_read size seen buf (omega (arith, k, whole)) is in
    let long = ap length same in
    take_at buf (drop (length buf) items) len (omega (arith, long, l, whole)) ∙ same

-- the bytes of a new side
pub side_size : (shard : ℕ) → length (header_bytes shard 1 0 [] ++ 0 ∷ []) ≡ 37
unfolding number_bytes
side_size shard = refl

abbrev held_new : Held
held_new = record { epoch = 1; last_tx = 0; rows = []; first = 37; parts = []; end = 37 }

pub made_held : (shard : ℕ) → held_new ≡ held_of shard new_content
unfolding number_bytes
made_held shard = refl

-- a new file that was made
pub made_as : (catalog : Catalog) (shard : ℕ) → shard < 2 ^ 32 → (H K : Type 0) → (H → K) → (before after : List ℕ) → (H → IsNew before) → (r : Result AHeld LoadError)
    → IfOk r (λ held. held_view held ≡ held_of shard new_content) → OnOk r (K → EndsAt (content_bytes shard new_content) after)
    → IfOk r (λ held. H → IsOpenedAs catalog shard before after (held_view held))
made_as catalog shard fits H K still before after new (Ok held) is ends = λ honest. record {
  content = new_content;
  stores = record { is = new_allowed catalog shard fits; ends = ends (still honest) };
  is = is;
  made = inr (new honest, refl);
}
made_as catalog shard fits H K still before after new (Err error) is ends = tt
