-- Reading so many one after the other, as a loop does.
use Rattle.std.proofs.Common.{◌≡◌, ℕ, suc, ◌-◌, ◌+◌, ◌≤◌, ◌<◌, List, [], ◌∷◌, ◌++◌, Result, Ok, Err, refl, sym, ◌∙◌, arith}
use Rattle.vl_record.specs.declared.read_error.ReadError.{ReadError}
use Rattle.vl_record.specs.declared.read_error.ReadError.TheVariants as errors
use Rattle.vl_record.specs.Reading.{◌>>=◌, Rest, many_at}
use Rattle.vl_record.specs.Readers.{Fails}

module _ {X : Type 0} (step : List X → Rest → Result (X × Rest) ℕ) where
  pub goes_on : (n i : ℕ) (front : List X) (r : Rest) (x : X) (after : Rest) (total : Result (List X × Rest) ℕ) → i < n
      → step front r ≡ Ok (x, after) → many_at step (n - i) front r ≡ total
      → many_at step (n - (i + 1)) (front ++ x ∷ []) after ≡ total
  unfolding many_at
  goes_on n i front r x after total lt h so_far =
      let k : n - i ≡ suc (n - (i + 1)) = omega arith in
      let one : many_at step (n - i) front r ≡ many_at step (n - (i + 1)) (front ++ x ∷ []) after = rw (k, h) refl in
      sym one ∙ so_far

  pub ends : (e : ReadError) (n i : ℕ) (front : List X) (r : Rest) (total : Result (List X × Rest) ℕ) → i < n
      → Fails e (step front r) → many_at step (n - i) front r ≡ total → Fails e total
  unfolding many_at
  ends errors.Memory n i front r total lt h so_far = tt
  ends (errors.NotOurs offset) n i front r total lt h so_far =
      let k : n - i ≡ suc (n - (i + 1)) = omega arith in
      let one : many_at step (n - i) front r ≡ Err offset = rw (k, h) refl in
      sym so_far ∙ one

  pub is_done : (n i : ℕ) (front : List X) (r : Rest) (total : Result (List X × Rest) ℕ) → n ≤ i
      → many_at step (n - i) front r ≡ total → total ≡ Ok (front, r)
  unfolding many_at
  is_done n i front r total le so_far =
      let k : n - i ≡ 0 = omega arith in
      let one : many_at step (n - i) front r ≡ Ok (front, r) = rw k refl in
      sym so_far ∙ one
