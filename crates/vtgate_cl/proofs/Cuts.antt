-- The lines of bytes that come in pieces.
use Rattle.std.proofs.Common.{◌≡◌, ◌∙◌, ◌+◌, ◌-◌, ◌<◌, ◌≤◌, ◌⊎◌, inl, inr, ap, sym, refl, subst, ℕ, Bool, true, false, List, [], ◌∷◌, ◌++◌, ◌==◌, cond, if◌then◌else◌, arith, append_assoc, append-nil, length, take, get_or, length-append}
use Rattle.std.proofs.lemmas.Bool.{ne_eqb, eqb-true}
use Rattle.std.proofs.lemmas.List.{length-take}
use Rattle.std.proofs.lemmas.List.Elements.{All-nil, All-cons, All-append}
use Rattle.std.proofs.lemmas.List.Splits.{slice_split_at, slice_split_none}
use Rattle.std.specs.List.{slice_split, onto_first}
use Rattle.std.specs.Str.Lines.{lines, lines_of_parts, strip_carriage_return}
use Rattle.vtgate_cl.specs.Playing.{IsPlain}
use Rattle.vtgate_cl.specs.Script.{line_limit}

-- there is a first part
first_part : (xs : List ℕ) → (part : List ℕ) × (parts : List (List ℕ)) × (slice_split (λ b. b == 10) xs ≡ part ∷ parts)
first_part [] = ([], [], refl)
first_part (x ∷ xs) =
    let rest : (part : List ℕ) × (parts : List (List ℕ)) × (slice_split (λ b. b == 10) xs ≡ part ∷ parts) = first_part xs in
    elim (x == 10) as (λ v. (part : List ℕ) × (parts : List (List ℕ)) × (cond v ([] ∷ slice_split (λ b. b == 10) xs) (onto_first x (slice_split (λ b. b == 10) xs)) ≡ part ∷ parts)) [
      | true ↦ ([], slice_split (λ b. b == 10) xs, refl)
      | false ↦ (x ∷ rest.0, rest.1, ap (onto_first x) rest.2)
    ]

-- a line that has ended
pub line_ended : (xs more : List ℕ) → IsPlain xs → lines (xs ++ 10 ∷ more) ≡ strip_carriage_return xs ∷ lines more
line_ended xs more plain =
    let rest : (part : List ℕ) × (parts : List (List ℕ)) × (slice_split (λ b. b == 10) more ≡ part ∷ parts) = first_part more in
    ap lines_of_parts (slice_split_at (λ b. b == 10) xs 10 more plain refl ∙ ap (λ v. xs ∷ v) rest.2)
    ∙ ap (λ v. strip_carriage_return xs ∷ lines_of_parts v) (sym rest.2)

-- a last line that hasn't ended
pub line_last : (xs : List ℕ) → IsPlain xs → 0 < length xs → lines xs ≡ xs ∷ []
line_last [] plain long = absurd (omega arith)
line_last (x ∷ xs) plain long = ap lines_of_parts (slice_split_none (λ b. b == 10) (x ∷ xs) plain) ∙ ap (λ b. if b then [] else (x ∷ xs) ∷ []) (ne_eqb (length (x ∷ xs)) 0 (λ e. omega arith))

-- bytes have an end of a line or none
end_or_none : (xs : List ℕ) → IsPlain xs ⊎ ((front : List ℕ) × (back : List ℕ) × (xs ≡ front ++ 10 ∷ back) × IsPlain front)
end_or_none [] = inl (All-nil (λ b. (b == 10) ≡ false))
end_or_none (x ∷ xs) = at_first (x == 10) refl (end_or_none xs)
  where
    at_first : (b : Bool) → (x == 10) ≡ b → IsPlain xs ⊎ ((front : List ℕ) × (back : List ℕ) × (xs ≡ front ++ 10 ∷ back) × IsPlain front)
        → IsPlain (x ∷ xs) ⊎ ((front : List ℕ) × (back : List ℕ) × (x ∷ xs ≡ front ++ 10 ∷ back) × IsPlain front)
    at_first true e rest =
        inr ([], xs, ap (λ v. v ∷ xs) (eqb-true x 10 e), All-nil (λ b. (b == 10) ≡ false))
    at_first false e (inl plain) = inl (All-cons (λ b. (b == 10) ≡ false) x xs e plain)
    at_first false e (inr found) =
        inr (x ∷ found.0, found.1, ap (λ v. x ∷ v) found.2, All-cons (λ b. (b == 10) ≡ false) x found.0 e found.3)

-- a line loses one byte at most
pub strip_short : (xs : List ℕ) → (length (strip_carriage_return xs) ≤ length xs) × (length xs ≤ length (strip_carriage_return xs) + 1)
strip_short xs =
    elim (get_or xs (length xs - 1) 0 == 13) as (λ b. (length (if b then take (length xs - 1) xs else xs) ≤ length xs) × (length xs ≤ length (if b then take (length xs - 1) xs else xs) + 1)) [
      | true ↦ (omega (arith, length-take (length xs - 1) xs), omega (arith, length-take (length xs - 1) xs))
      | false ↦ (omega arith, omega arith)
    ]

-- a line that is too long already, whatever comes behind
pub too_long : (xs more : List ℕ) → IsPlain xs → line_limit < length (strip_carriage_return xs)
    → (line : List ℕ) × (others : List (List ℕ)) × (lines (xs ++ more) ≡ line ∷ others) × (line_limit < length line)
too_long xs more plain long = by_end (end_or_none more)
  where
    by_end : IsPlain more ⊎ ((front : List ℕ) × (back : List ℕ) × (more ≡ front ++ 10 ∷ back) × IsPlain front)
        → (line : List ℕ) × (others : List (List ℕ)) × (lines (xs ++ more) ≡ line ∷ others) × (line_limit < length line)
    by_end (inl none) =
        let whole : length xs ≤ length (xs ++ more) = omega (arith, length-append xs more) in
        (xs ++ more, [], line_last (xs ++ more) (All-append (λ b. (b == 10) ≡ false) xs more plain none) (omega (arith, strip_short xs)), omega (arith, strip_short xs))
    by_end (inr found) = (strip_carriage_return (xs ++ found.0), lines found.1, ends_at found.0 found.1 found.2 found.3, still found.0)
      where
        ends_at : (front back : List ℕ) → more ≡ front ++ 10 ∷ back → IsPlain front → lines (xs ++ more) ≡ strip_carriage_return (xs ++ front) ∷ lines back
        ends_at front back e p =
            ap (λ v. lines (xs ++ v)) e ∙ ap lines (sym (append_assoc xs front (10 ∷ back))) ∙ line_ended (xs ++ front) back (All-append (λ b. (b == 10) ≡ false) xs front plain p)

        still : (front : List ℕ) → line_limit < length (strip_carriage_return (xs ++ front))
        still [] = subst (λ (v : List ℕ). line_limit < length (strip_carriage_return v)) (sym (append-nil xs)) long
        still (y ∷ ys) =
            omega (arith, strip_short xs, strip_short (xs ++ y ∷ ys), length-append xs (y ∷ ys))
