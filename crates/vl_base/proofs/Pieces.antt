-- A list that is handled in pieces: its fronts and what stands behind them.
use Rattle.std.proofs.Common.{◌≡◌, ◌≤◌, ◌+◌, ◌-◌, ◌∙◌, ap, sym, subst, ℕ, List, ◌++◌, take, drop, length, arith}
use Rattle.std.proofs.lemmas.List.{take-append-drop, drop-drop, take_rest}
use Rattle.std.proofs.Math.Seq.{take-append_seam, take-add}

-- a front of the rest, behind a front: the longer front
pub front_more : {X : Type 0} (n m : ℕ) (xs : List X) → take n xs ++ take m (take (length xs - n) (drop n xs)) ≡ take (n + m) xs
front_more n m xs = ap (λ v. take n xs ++ take m v) (take_rest xs n) ∙ sym (take-add n m xs)

-- What a reader that stands at `at` gives in n bytes, written over the front of a buffer, and what it then
-- has left.
pub given_front : (at n : ℕ) (bytes buf new left : List ℕ) → left ≡ drop at bytes → at + n ≤ length bytes → new ≡ take (at + n - at) (drop at bytes) → length new ≡ n → left ≡ take n (new ++ drop n buf) ++ drop (at + n) bytes
given_front at n bytes buf new left left_is within new_is len =
    let width : at + n - at ≡ n = omega arith in
    let front : take n (new ++ drop n buf) ≡ new =
    subst (λ (k : ℕ). take k (new ++ drop n buf) ≡ new) len (take-append_seam new (drop n buf)) in
    let front_is : new ≡ take n (drop at bytes) = new_is ∙ ap (λ k. take k (drop at bytes)) width in
    let rest : drop n (drop at bytes) ≡ drop (at + n) bytes = drop-drop n at bytes in
    let whole : take n (drop at bytes) ++ drop n (drop at bytes) ≡ drop at bytes = take-append-drop n (drop at bytes) in
    left_is ∙ sym whole ∙ cc
