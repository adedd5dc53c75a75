use Rattle.std.proofs.Common.{◌≡◌, ◌≤◌, ◌++◌, ℕ, List, length, take, ◌+◌, sym, ◌∙◌, ap, arith, length-append}
use Rattle.std.proofs.Math.Seq.{take-append-add}
use Rattle.std.proofs.lemmas.List.{take_all}
use Rattle.vl_values.proofs.error_text.ErrorText.push.Goals as goal

-- what fits is kept whole
fits : (xs ys zs : List ℕ) (room : ℕ) → room + length xs ≡ 512 → length ys ≤ room → zs ≡ xs ++ ys → zs ≡ take 512 (xs ++ ys)
fits xs ys zs room all within is = is ∙ sym (take_all 512 (xs ++ ys) (omega (arith, length-append xs ys)))

-- what doesn't is cut at the room
cut_at_room : (xs ys zs : List ℕ) (room : ℕ) → room + length xs ≡ 512 → zs ≡ xs ++ take room ys → zs ≡ take 512 (xs ++ ys)
cut_at_room xs ys zs room all is =
    let e : length xs + room ≡ 512 = omega arith in
    is ∙ sym (take-append-add xs ys room) ∙ ap (λ n. take n (xs ++ ys)) e

pub returns-then-bytes-room : goal.returns-then-bytes-room
returns-then-bytes-room c =
    rw (← c.self.view_is)
    (fits _ _ _ _ c.remaining_capacity-room.ensures c.if-bytes-room.true (rw c.unwrap.ensures at c.try_extend_from_slice.ensures.ok))

pub returns-else-bytes-room : goal.returns-else-bytes-room
returns-else-bytes-room c =
    rw (← c.self.view_is)
    (cut_at_room _ _ _ _ c.remaining_capacity-room.ensures (rw c.unwrap-else-bytes-room.ensures at c.try_extend_from_slice-else-bytes-room.ensures.ok))
