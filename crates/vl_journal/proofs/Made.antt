-- What an opening finds in a file, and what it makes of a new one.
use Rattle.std.proofs.Common.{◌≡◌, ◌≢◌, ◌<◌, ◌≤◌, ◌+◌, ◌^◌, ◌++◌, [], ◌∷◌, ℕ, Bool, true, false, IsTrue, List, length, Result, Ok, Err, IsSome, refl, sym, ◌∙◌, ap, subst, inl, inr, arith}
use Rattle.std.proofs.lemmas.Bool.{eqb-false}
use Rattle.std.proofs.lemmas.List.{append-nil}
use Rattle.vl_disk.specs.Moment.{EachLeft, IsLeft, Moment, at_rest}
use Rattle.vl_disk.specs.DiskView.{DiskView, Stops}
use Rattle.vl_disk.specs.Calls.{IsStill, IsUncalled, IsUsed}
use Rattle.vl_catalog.specs.declared.catalog.Catalog.{Catalog}
use Rattle.vl_record.specs.Spelling.{header_bytes, open_gate}
use Rattle.vl_record.specs.Reading.{is_open}
use Rattle.vl_record.specs.Grammar.{EndsAt, IsContent, content_bytes}
use Rattle.vl_record.specs.Stored.{IsNew, Stores, new_content}
use Rattle.vl_journal.specs.Gate.{IsNewOrEndsAt, framed, unlocked}
use Rattle.vl_journal.specs.Opening.{IsMade}

-- a file whose gate isn't open
pub new_short : (file : List ℕ) → is_open file ≡ false → length file < 2 → IsNew file
new_short file shut short = inl (omega (arith, short))

pub new_closed : (file : List ℕ) → is_open file ≡ false → 2 ≤ length file → EndsAt [] file
new_closed [] shut long = absurd (omega (arith, long))
new_closed (gate ∷ []) shut long = absurd (omega (arith, long))
new_closed (gate ∷ next ∷ others) shut long = record { gate = gate; rest = next ∷ others; split = refl; shut = eqb-false gate open_gate shut }

pub is_new : (file : List ℕ) → is_open file ≡ false → IsNew file
is_new [] shut = inl (omega arith)
is_new (gate ∷ []) shut = inl (omega arith)
is_new (gate ∷ next ∷ others) shut = inr (new_closed (gate ∷ next ∷ others) shut (omega arith))

-- the bytes of a new side
pub made_bytes : (shard : ℕ) → unlocked (header_bytes shard 1 0 []) ≡ content_bytes shard new_content
made_bytes shard = sym (append-nil (open_gate ∷ header_bytes shard 1 0 []))

pub made_left : (shard : ℕ) (image : List ℕ) → IsNewOrEndsAt (header_bytes shard 1 0 []) image → IsMade shard image
made_left shard image (inl new) = inl new
made_left shard image (inr ends) = inr (subst (λ (front : List ℕ). EndsAt front image) (made_bytes shard) ends)

pub made_ends : (shard : ℕ) (file : List ℕ) → EndsAt (unlocked (header_bytes shard 1 0 [])) file → EndsAt (content_bytes shard new_content) file
made_ends shard file ends = subst (λ (front : List ℕ). EndsAt front file) (made_bytes shard) ends

pub new_allowed : (catalog : Catalog) (shard : ℕ) → shard < 2 ^ 32 → IsContent catalog shard new_content
new_allowed catalog shard fits = record { shard_fits = fits; epoch = omega arith; last_tx = omega arith; few = omega arith; rows = tt; records = tt }

-- a call that reserves room is no device call
pub used_none : (v w : DiskView) → IsUncalled v w → w.is_stopped ≡ v.is_stopped → IsUsed false v w
used_none v w uncalled stopped = record {
  same = uncalled.same;
  cause = record { later = omega (arith, uncalled.faults); kept = λ fine. uncalled.faults; rose = λ fails. absurd cc };
  quiet = λ none on. (uncalled.stops ∙ none, stopped ∙ on);
  stopped = λ is. inl (sym stopped ∙ is);
  armed = λ is. subst (λ (s : Stops). IsSome s.crash) uncalled.stops is;
}
