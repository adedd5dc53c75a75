-- What was written of an OK or an ERR is read.
use Rattle.std.proofs.Common.{◌≡◌, ℕ, ◌+◌, ◌*◌, ◌/◌, ◌%◌, ◌^◌, ◌<◌, ◌≤◌, true, false, ltb, List, ◌∷◌, ◌++◌, length, Some, None, Ok, refl, ap, arith, inl, inr}
use Rattle.std.specs.Int.{w64, to_le_bytes, bytes_low_first}
use Rattle.std.proofs.lemmas.Bool.{cases_lt, lt-ltb, le-ltb}
use Rattle.std.proofs.lemmas.List.{take_at, drop_at, length-append}
use Rattle.std.proofs.lemmas.Nat.{from_le_bytes-to_le_bytes_2, from_le_bytes-to_le_bytes_8}
use Rattle.my_reply.specs.Fields.{two_bytes, length_encoded}
use Rattle.my_reply.specs.Reading.{Read, two_at, three_at, eight_at, number_at, ok_at, state_at, err_at}
use Rattle.my_reply.specs.declared.wire.Wire.TheVariants as wires

abbrev read : {A : Type 0} → A → List ℕ → Read A
read x rest = Ok (x, rest)

pub two_again : (n : ℕ) (rest : List ℕ) → n < 2 ^ 16 → two_at (two_bytes n ++ rest) ≡ Ok (n, rest)
two_again n rest lt =
    let long : ltb (length (two_bytes n ++ rest)) 2 ≡ false = le-ltb _ _ (omega arith) in
    rw long (ap (λ (k : ℕ). read k rest) (from_le_bytes-to_le_bytes_2 n lt))

three_again : (n : ℕ) (rest : List ℕ) → n < 2 ^ 24 → three_at (bytes_low_first 0 3 n ++ rest) ≡ Ok (n, rest)
three_again n rest lt =
    let long : ltb (length (bytes_low_first 0 3 n ++ rest)) 3 ≡ false = le-ltb _ _ (omega arith) in
    rw long (ap (λ (k : ℕ). read k rest) (omega arith))

eight_again : (n : ℕ) (rest : List ℕ) → n < 2 ^ 64 → eight_at (to_le_bytes w64 n ++ rest) ≡ Ok (n, rest)
eight_again n rest lt =
    let long : ltb (length (to_le_bytes w64 n ++ rest)) 8 ≡ false = le-ltb _ _ (omega arith) in
    rw long (ap (λ (k : ℕ). read k rest) (from_le_bytes-to_le_bytes_8 n lt))

pub number_again : (n : ℕ) (rest : List ℕ) → n < 2 ^ 64 → number_at (length_encoded n ++ rest) ≡ Ok (n, rest)
unfolding number_at
number_again n rest lt =
    elim (cases_lt n 251) [
      | inl small ↦ (let t : ltb n 251 ≡ true = lt-ltb _ _ small in rw (t, t) refl)
      | inr le ↦ (let f : ltb n 251 ≡ false = le-ltb _ _ le in
          elim (cases_lt n (2 ^ 16)) [
            | inl two ↦ (let t : ltb n (2 ^ 16) ≡ true = lt-ltb _ _ two in rw (f, t) (two_again n rest two))
            | inr le2 ↦ (let f2 : ltb n (2 ^ 16) ≡ false = le-ltb _ _ le2 in
                elim (cases_lt n (2 ^ 24)) [
                  | inl three ↦ (let t : ltb n (2 ^ 24) ≡ true = lt-ltb _ _ three in rw (f, f2, t) (three_again n rest three))
                  | inr le3 ↦ (let f3 : ltb n (2 ^ 24) ≡ false = le-ltb _ _ le3 in rw (f, f2, f3) (eight_again n rest lt))
                ])
          ])
    ]

zero_again : (rest : List ℕ) → number_at (0 ∷ rest) ≡ Ok (0, rest)
unfolding number_at
zero_again rest = refl

pub ok_again : (rows status warnings : ℕ) → rows < 2 ^ 64 → status < 2 ^ 16 → warnings < 2 ^ 16 → ok_at (length_encoded rows ++ (0 ∷ two_bytes status ++ two_bytes warnings)) ≡ Ok (wires.Ok rows 0 status warnings)
unfolding ok_at
ok_again rows status warnings r s w =
    let first : status % 256 + status / 256 % 256 * 256 ≡ status = omega arith in
    let second : warnings % 256 + warnings / 256 % 256 * 256 ≡ warnings = omega arith in
    rw (number_again rows (0 ∷ two_bytes status ++ two_bytes warnings) r, zero_again (two_bytes status ++ two_bytes warnings), first, second) refl

state_again : (state text : List ℕ) → length state ≡ 5 → state_at (35 ∷ state ++ text) ≡ Ok (Some state, text)
unfolding state_at
state_again state text five =
    let long : ltb (length (state ++ text)) 5 ≡ false = le-ltb _ _ (omega (arith, length-append state text)) in
    rw (long, take_at state text 5 five, drop_at state text 5 five) refl

pub err_again : (code : ℕ) (state text : List ℕ) → code < 2 ^ 16 → length state ≡ 5 → length text ≤ 512 → err_at (two_bytes code ++ (35 ∷ state ++ text)) ≡ Ok (wires.Err code (Some state) text)
unfolding err_at
err_again code state text c s t =
    let short : ltb 512 (length text) ≡ false = le-ltb _ _ t in
    rw (two_again code (35 ∷ state ++ text) c, state_again state text s, short) refl

-- without a state: no text begins with `#`
pub early_again : (code : ℕ) (text : List ℕ) → code < 2 ^ 16 → state_at text ≡ Ok (None, text) → length text ≤ 512 → err_at (two_bytes code ++ text) ≡ Ok (wires.Err code None text)
unfolding err_at
early_again code text c none t =
    let short : ltb 512 (length text) ≡ false = le-ltb _ _ t in
    rw (two_again code text c, none, short) refl
