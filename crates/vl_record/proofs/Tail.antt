-- Reading records one after the other, as a loop does.
use Rattle.std.proofs.Common.{◌≡◌, ℕ, suc, ◌-◌, ◌+◌, ◌≤◌, ◌<◌, List, Result, Ok, Err, false, eqb, refl, sym, ◌∙◌, arith}
use Rattle.std.specs.Int.{w8}
use Rattle.vl_catalog.specs.declared.catalog.Catalog.{Catalog}
use Rattle.vl_catalog.specs.declared.part.Part.{Part}
use Rattle.vl_record.specs.declared.read_error.ReadError.{ReadError}
use Rattle.vl_record.specs.declared.read_error.ReadError.TheVariants as errors
use Rattle.vl_record.specs.Reading.{◌>>=◌, Rest, number_at, record_at, records_at}
use Rattle.vl_record.specs.Readers.{Fails}

module _ (catalog : Catalog) (shard : ℕ) where
  pub goes_on : (n i : ℕ) (front : List Part) (r : Rest) (gate : ℕ) (body : Rest) (parts : List Part) (after : Rest) (total : Result (List Part × Rest) ℕ) → i < n
      → number_at w8 r.offset r ≡ Ok (gate, body) → gate ≡ 167 → record_at catalog shard front body ≡ Ok (parts, after)
      → records_at catalog shard (n - i) front r ≡ total → records_at catalog shard (n - (i + 1)) parts after ≡ total
  unfolding records_at
  goes_on n i front r gate body parts after total lt byte is-open body_read so_far =
      let k : n - i ≡ suc (n - (i + 1)) = omega arith in
      let one : records_at catalog shard (n - i) front r ≡ records_at catalog shard (n - (i + 1)) parts after = rw (k, byte, is-open, body_read) refl in
      sym one ∙ so_far

  pub gate_fails : (e : ReadError) (n i : ℕ) (front : List Part) (r : Rest) (total : Result (List Part × Rest) ℕ) → i < n
      → Fails e (number_at w8 r.offset r) → records_at catalog shard (n - i) front r ≡ total → Fails e total
  unfolding records_at
  gate_fails errors.Memory n i front r total lt byte so_far = tt
  gate_fails (errors.NotOurs offset) n i front r total lt byte so_far =
      let k : n - i ≡ suc (n - (i + 1)) = omega arith in
      let one : records_at catalog shard (n - i) front r ≡ Err offset = rw (k, byte) refl in
      sym so_far ∙ one

  pub record_fails : (e : ReadError) (n i : ℕ) (front : List Part) (r : Rest) (gate : ℕ) (body : Rest) (total : Result (List Part × Rest) ℕ) → i < n
      → number_at w8 r.offset r ≡ Ok (gate, body) → gate ≡ 167 → Fails e (record_at catalog shard front body)
      → records_at catalog shard (n - i) front r ≡ total → Fails e total
  unfolding records_at
  record_fails errors.Memory n i front r gate body total lt byte is-open body_read so_far = tt
  record_fails (errors.NotOurs offset) n i front r gate body total lt byte is-open body_read so_far =
      let k : n - i ≡ suc (n - (i + 1)) = omega arith in
      let one : records_at catalog shard (n - i) front r ≡ Err offset = rw (k, byte, is-open, body_read) refl in
      sym so_far ∙ one

  pub ends : (n i : ℕ) (front : List Part) (r : Rest) (gate : ℕ) (body : Rest) (total : Result (List Part × Rest) ℕ) → i < n
      → number_at w8 r.offset r ≡ Ok (gate, body) → eqb gate 167 ≡ false
      → records_at catalog shard (n - i) front r ≡ total → total ≡ Ok (front, r)
  unfolding records_at
  ends n i front r gate body total lt byte shut so_far =
      let k : n - i ≡ suc (n - (i + 1)) = omega arith in
      let one : records_at catalog shard (n - i) front r ≡ Ok (front, r) = rw (k, byte, shut) refl in
      sym so_far ∙ one

  pub runs_out : (n i : ℕ) (front : List Part) (r : Rest) (total : Result (List Part × Rest) ℕ) → n ≤ i
      → records_at catalog shard (n - i) front r ≡ total → total ≡ Err r.offset
  unfolding records_at
  runs_out n i front r total le so_far =
      let k : n - i ≡ 0 = omega arith in
      let one : records_at catalog shard (n - i) front r ≡ Err r.offset = rw k refl in
      sym so_far ∙ one
