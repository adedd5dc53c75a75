-- What a write does to the moments of a file in memory.
use Rattle.std.proofs.Common.{◌≡◌, ◌≤◌, ◌+◌, ◌++◌, [], ◌∷◌, ℕ, List, length, take, drop, get_or, Bool, true, refl, sym, ◌∙◌, ap, subst, arith, length-take}
use Rattle.std.proofs.Math.Seq.{take-append_seam, drop-append-add, drop-append_seam}
use Rattle.vl_disk.specs.Moment.{IsOutside, Moment, Narrows, Torn, put, touched}
use Rattle.vl_disk.specs.DiskView.{DiskView}
use Rattle.vl_disk.specs.Calls.{IsWritten}
use Rattle.vl_disk.specs.Content.{FileContent, moment_of, ranges_of, shown, written}
use Rattle.vl_disk.specs.Images.{laid_longer, put_length, put_longer, put_outside}
use Rattle.vl_disk.specs.MemoryDisk.{MemoryState, counted, gone_on, told_memory}
use Rattle.vl_disk.proofs.Written.{laid_more}

pub put_torn : (file : List ℕ) (offset : ℕ) (bytes : List ℕ) → offset ≤ length file → Torn offset (length bytes) file (put file offset bytes)
put_torn file offset bytes within =
    let size : length (take offset file) ≡ offset = omega (arith, length-take offset file) in
    let front : List ℕ = take offset file in
    let back : List ℕ = drop (offset + length bytes) file in
    let P : ℕ → Type 0 = λ n. take n (front ++ (bytes ++ back)) ≡ front in
    let Q : ℕ → Type 0 = λ n. drop (n + length bytes) (front ++ (bytes ++ back)) ≡ back in
    record {
      before = subst P size (take-append_seam front (bytes ++ back));
      after = subst Q size (drop-append-add front (bytes ++ back) (length bytes) ∙ drop-append_seam bytes back);
      no_shorter = put_longer file offset bytes;
      no_longer = omega (arith, put_length file offset bytes within);
    }

torn_same : (file : List ℕ) (offset n : ℕ) → Torn offset n file file
torn_same file offset n = record { before = refl; after = refl; no_shorter = omega arith; no_longer = omega arith }

outside_more : (writes : List (ℕ × List ℕ)) (offset : ℕ) (bytes : List ℕ) (i : ℕ) → IsOutside ((offset, length bytes) ∷ ranges_of writes) i
    → IsOutside (ranges_of (writes ++ (offset, bytes) ∷ [])) i
outside_more [] offset bytes i outside = outside
outside_more (write ∷ writes) offset bytes i outside =
    (outside.1.0, outside_more writes offset bytes i (outside.0, outside.1.1))

pub shown_written : (offset : ℕ) (bytes : List ℕ) (c : FileContent) → shown (written offset bytes c) ≡ put (shown c) offset bytes
shown_written offset bytes c = laid_more c.synced c.writes offset bytes

written_narrows : (offset : ℕ) (bytes : List ℕ) (c : FileContent) → offset ≤ length (shown c)
    → Narrows (moment_of (written offset bytes c)) (touched offset (length bytes) (moment_of c))
written_narrows offset bytes c within image left = record {
  no_shorter = left.no_shorter;
  no_longer = omega (arith, left.no_longer, ap length (shown_written offset bytes c), put_length (shown c) offset bytes within);
  same = λ i inside outside.
      left.same i inside (outside_more c.writes offset bytes i outside)
      ∙ (ap (λ (file : List ℕ). get_or file i 0) (shown_written offset bytes c)
      ∙ put_outside (shown c) offset bytes i (omega (arith, laid_longer c.synced c.writes)) outside.0);
}

untouched_narrows : (offset n : ℕ) (m : Moment) → Narrows m (touched offset n m)
untouched_narrows offset n m image left = record {
  no_shorter = left.no_shorter;
  no_longer = omega (arith, left.no_longer);
  same = λ i inside outside. left.same i inside outside.1;
}

-- a write that is among the unsynced ones, whether it is told as done or not
pub wrote_written : (offset : ℕ) (bytes : List ℕ) (failed : Bool) (c : FileContent) (v w : DiskView)
    → v.now ≡ moment_of c → offset ≤ length (shown c) → w.now ≡ moment_of (written offset bytes c)
    → w.before ≡ v.now ∷ v.before → w.age ≡ v.age + 1 → IsWritten offset bytes failed v w
wrote_written offset bytes failed c v w old within new before age =
    let after : w.now.seen ≡ put v.now.seen offset bytes =
    ap (λ (m : Moment). m.seen) new ∙ (shown_written offset bytes c ∙ ap (λ (m : Moment). put m.seen offset bytes) (sym old)) in
    let P : List ℕ → Type 0 = λ file. Torn offset (length bytes) v.now.seen file in
    let inside : offset ≤ length v.now.seen = omega (arith, within, ap (λ (m : Moment). length m.seen) old) in
    let N : Moment → Type 0 = λ m. Narrows m (touched offset (length bytes) v.now) in
    let M : Moment → Type 0 = λ m. Narrows (moment_of (written offset bytes c)) (touched offset (length bytes) m) in
    record {
      before = before;
      age = age;
      written = λ done. after;
      others = subst P (sym after) (put_torn v.now.seen offset bytes inside);
      crash = subst N (sym new) (subst M (sym old) (written_narrows offset bytes c within));
    }

-- a write that changed nothing
pub missed_written : (offset : ℕ) (bytes : List ℕ) (v w : DiskView) → w.now ≡ v.now
    → w.before ≡ v.now ∷ v.before → w.age ≡ v.age + 1 → IsWritten offset bytes true v w
missed_written offset bytes v w same before age =
    let P : Moment → Type 0 = λ m. Torn offset (length bytes) v.now.seen m.seen in
    let N : Moment → Type 0 = λ m. Narrows m (touched offset (length bytes) v.now) in
    record {
      before = before;
      age = age;
      written = λ done. absurd (cc);
      others = subst P (sym same) (torn_same v.now.seen offset (length bytes));
      crash = subst N (sym same) (untouched_narrows offset (length bytes) v.now);
    }

-- of a disk in memory
pub wrote_memory : (offset : ℕ) (bytes : List ℕ) (failed : Bool) (d : MemoryState) → offset ≤ length (shown d.content)
    → IsWritten offset bytes failed (told_memory d) (told_memory (gone_on (written offset bytes d.content) (counted d)))
wrote_memory offset bytes failed d within =
    wrote_written offset bytes failed d.content (told_memory d) (told_memory (gone_on (written offset bytes d.content) (counted d)))
    refl within refl refl (omega arith)
