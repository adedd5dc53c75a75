-- Each pick leaves an image that a crash may leave, and so does what a read gives.
use Rattle.std.specs.Prelude.{◌≡◌, ◌<◌, ◌≤◌, ◌+◌, ◌-◌, ◌/◌, ◌⊎◌, ◌++◌, [], ◌∷◌, ℕ, List, length, take, drop, max, get_or, replicate, refl}
use Rattle.std.proofs.Common.{sym, ◌∙◌, ap, subst, inl, inr, arith, length-append, length-take, length-drop}
use Rattle.std.proofs.lemmas.List.{get_or-take, get_or-drop, length-replicate}
use Rattle.std.proofs.Math.ListN.{get_or-append}
use Rattle.std.proofs.Math.Seq.{get_or-append_right}
use Rattle.vl_disk.specs.Moment.{IsLeft, IsOutside, put}
use Rattle.vl_disk.specs.Content.{FileContent, all_picked, image_of, laid, moment_of, picked, ranges_of, shown}
use Rattle.vl_disk.specs.declared.pick.Pick.{Pick}
use Rattle.vl_disk.specs.declared.pick.Pick.TheVariants as picks

pub put_size : (file : List ℕ) (offset : ℕ) (bytes : List ℕ)
    → length (put file offset bytes) ≡ length (take offset file) + (length bytes + length (drop (offset + length bytes) file))
put_size file offset bytes = simp length-append

pub put_longer : (file : List ℕ) (offset : ℕ) (bytes : List ℕ) → length file ≤ length (put file offset bytes)
put_longer file offset bytes =
    omega (arith, put_size file offset bytes, length-take offset file, length-drop (offset + length bytes) file)

-- where it begins within the file
pub put_length : (file : List ℕ) (offset : ℕ) (bytes : List ℕ) → offset ≤ length file
    → length (put file offset bytes) ≡ max (length file) (offset + length bytes)
put_length file offset bytes within =
    omega (arith, put_size file offset bytes, length-take offset file, length-drop (offset + length bytes) file)

pub laid_longer : (file : List ℕ) (writes : List (ℕ × List ℕ)) → length file ≤ length (laid file writes)
laid_longer file [] = omega arith
laid_longer file (write ∷ writes) =
    omega (arith, put_longer file write.0 write.1, laid_longer (put file write.0 write.1) writes)

pub picked_size : (pick : Pick) (bytes : List ℕ) → length (picked pick bytes) ≡ length bytes
picked_size picks.None bytes = refl
picked_size picks.All bytes = refl
picked_size picks.Half bytes =
    omega (
      arith,
      length-append (take (length bytes / 2) bytes) (replicate (length bytes - length bytes / 2) 0),
      length-take (length bytes / 2) bytes,
      length-replicate {A = ℕ} (length bytes - length bytes / 2) 0,
    )
picked_size picks.Gates bytes = length-replicate {A = ℕ} (length bytes) 167

-- files of one length keep one length through writes at the same ranges
same_size : (pick : Pick) (one other : List ℕ) (writes : List (ℕ × List ℕ)) → length one ≡ length other
    → length (laid one (all_picked pick writes)) ≡ length (laid other writes)
same_size pick one other [] same = same
same_size pick one other (write ∷ writes) same =
    same_size pick (put one write.0 (picked pick write.1)) (put other write.0 write.1) writes (
    omega (
      arith,
      same,
      picked_size pick write.1,
      put_size one write.0 (picked pick write.1),
      put_size other write.0 write.1,
      length-take write.0 one,
      length-take write.0 other,
      length-drop (write.0 + length (picked pick write.1)) one,
      length-drop (write.0 + length write.1) other,
    )
    )

pub put_outside : (file : List ℕ) (offset : ℕ) (bytes : List ℕ) (i : ℕ) → i < length file
    → (i < offset) ⊎ (offset + length bytes ≤ i) → get_or (put file offset bytes) i 0 ≡ get_or file i 0
put_outside file offset bytes i inside (inl before) =
    let short : i < length (take offset file) = omega (arith, length-take offset file) in
    get_or-append (take offset file) (bytes ++ drop (offset + length bytes) file) 0 i short
    ∙ get_or-take offset file i 0 before
put_outside file offset bytes i inside (inr behind) =
    let size : length (take offset file) ≡ offset = omega (arith, length-take offset file) in
    get_or-append_right (take offset file) (bytes ++ drop (offset + length bytes) file) i 0 (omega arith)
    ∙ (get_or-append_right bytes (drop (offset + length bytes) file) (i - length (take offset file)) 0 (omega arith)
    ∙ (get_or-drop (offset + length bytes) file (i - length (take offset file) - length bytes) 0
    ∙ ap (λ (k : ℕ). get_or file k 0) (omega arith)))

laid_outside : (pick : Pick) (file : List ℕ) (writes : List (ℕ × List ℕ)) (i : ℕ) → i < length file
    → IsOutside (ranges_of writes) i → get_or (laid file (all_picked pick writes)) i 0 ≡ get_or file i 0
laid_outside pick file [] i inside outside = refl
laid_outside pick file (write ∷ writes) i inside outside =
    let size : length (picked pick write.1) ≡ length write.1 = picked_size pick write.1 in
    let apart : (i < write.0) ⊎ (write.0 + length (picked pick write.1) ≤ i) =
    elim outside.0 [ inl before ↦ inl before | inr behind ↦ inr (omega arith) ] in
    laid_outside pick (put file write.0 (picked pick write.1)) writes i
    (omega (arith, put_longer file write.0 (picked pick write.1))) outside.1
    ∙ put_outside file write.0 (picked pick write.1) i inside apart

pub all_all : (writes : List (ℕ × List ℕ)) → all_picked picks.All writes ≡ writes
all_all [] = refl
all_all (write ∷ writes) = ap (λ (rest : List (ℕ × List ℕ)). write ∷ rest) (all_all writes)

shown_outside : (file : List ℕ) (writes : List (ℕ × List ℕ)) (i : ℕ) → i < length file
    → IsOutside (ranges_of writes) i → get_or (laid file writes) i 0 ≡ get_or file i 0
shown_outside file writes i inside outside =
    let P : List (ℕ × List ℕ) → Type 0 = λ ws. get_or (laid file ws) i 0 ≡ get_or file i 0 in
    subst P (all_all writes) (laid_outside picks.All file writes i inside outside)

laid_left : (pick : Pick) (c : FileContent) → IsLeft (moment_of c) (laid c.synced (all_picked pick c.writes))
laid_left pick c = record {
  no_shorter = laid_longer c.synced (all_picked pick c.writes);
  no_longer = omega (arith, same_size pick c.synced c.synced c.writes refl);
  same = λ i inside outside.
      laid_outside pick c.synced c.writes i inside outside ∙ sym (shown_outside c.synced c.writes i inside outside);
}

pub image_left : (pick : Pick) (c : FileContent) → IsLeft (moment_of c) (image_of pick c)
image_left picks.None c = record {
  no_shorter = omega arith;
  no_longer = laid_longer c.synced c.writes;
  same = λ i inside outside. sym (shown_outside c.synced c.writes i inside outside);
}
image_left picks.All c = laid_left picks.All c
image_left picks.Half c = laid_left picks.Half c
image_left picks.Gates c = laid_left picks.Gates c

pub shown_left : (c : FileContent) → IsLeft (moment_of c) (shown c)
shown_left c = record {
  no_shorter = laid_longer c.synced c.writes;
  no_longer = omega arith;
  same = λ i inside outside. refl;
}

-- no image is longer than what a read gives
pub image_fits : (pick : Pick) (c : FileContent) → length (image_of pick c) ≤ length (shown c)
image_fits pick c = (image_left pick c).no_longer

-- all writes are what a read gives
pub image_all : (c : FileContent) → image_of picks.All c ≡ shown c
image_all c = ap (λ (writes : List (ℕ × List ℕ)). laid c.synced writes) (all_all c.writes)
