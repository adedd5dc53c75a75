-- A number that was written is read again.
use Rattle.std.proofs.Common.{◌≡◌, ℕ, ◌+◌, ◌^◌, ◌<◌, ◌≤◌, Bool, true, false, List, [], ◌∷◌, ◌++◌, length, take, drop, Result, Ok, Err, refl, sym, ap, ◌∙◌, append_assoc, arith, cond, ltb, leb}
use Rattle.std.specs.Int.{Width, w8, w16, w32, w64, byte_len, from_le_bytes, to_le_bytes}
use Rattle.std.proofs.lemmas.Bool.{le-ltb}
use Rattle.std.proofs.lemmas.List.{take_at, drop_at, length-append}
use Rattle.std.proofs.lemmas.Nat.{from_le_bytes-to_le_bytes_2, from_le_bytes-to_le_bytes_4, from_le_bytes-to_le_bytes_8}
use Rattle.vl_record.specs.Spelling.{number_bytes}
use Rattle.vl_record.specs.Reading.{◌>>=◌, Rest, behind, number_at, text_at}

abbrev pub rest : List ℕ → ℕ → Bool → Rest
rest bytes offset is_body = record { bytes = bytes; offset = offset; is_body = is_body }

pub record IsWide (w : Width) (limit : ℕ) : Type 0 where
  pub len : (n : ℕ) → length (number_bytes w n) ≡ byte_len w
  pub again : (n : ℕ) → n < limit → from_le_bytes w (number_bytes w n) ≡ n

pub wide16 : IsWide w16 (2 ^ 16)
unfolding number_bytes
wide16 = record { len = λ n. refl; again = λ n lt. from_le_bytes-to_le_bytes_2 n lt }

pub wide32 : IsWide w32 (2 ^ 32)
unfolding number_bytes
wide32 = record { len = λ n. refl; again = λ n lt. from_le_bytes-to_le_bytes_4 n lt }

pub wide64 : IsWide w64 (2 ^ 64)
unfolding number_bytes
wide64 = record { len = λ n. refl; again = λ n lt. from_le_bytes-to_le_bytes_8 n lt }

pub number_again : (w : Width) (limit : ℕ) (wide : IsWide w limit) (n first : ℕ) (more : List ℕ) (offset : ℕ) (b : Bool) → n < limit
    → number_at w first (rest (number_bytes w n ++ more) offset b) ≡ Ok (n, rest more (offset + length (number_bytes w n)) b)
number_again w limit wide n first more offset b lt =
    let len = wide.len n in
    let long : ltb (length (number_bytes w n ++ more)) (byte_len w) ≡ false = le-ltb _ _ (omega (arith, length-append (number_bytes w n) more)) in
    rw (long, take_at (number_bytes w n) more (byte_len w) len, drop_at (number_bytes w n) more (byte_len w) len, wide.again n lt, len) refl

pub byte_again : (n first : ℕ) (more : List ℕ) (offset : ℕ) (b : Bool)
    → number_at w8 first (rest (n ∷ more) offset b) ≡ Ok (n, rest more (offset + 1) b)
byte_again n first more offset b =
    let long : ltb (length (n ∷ more)) (byte_len w8) ≡ false = le-ltb _ _ (omega arith) in
    rw long refl

pub text_again : (text : List ℕ) (first : ℕ) (more : List ℕ) (offset : ℕ) (b : Bool)
    → text_at (length text) first (rest (text ++ more) offset b) ≡ Ok (text, rest more (offset + length text) b)
text_again text first more offset b =
    let long : ltb (length (text ++ more)) (length text) ≡ false = le-ltb _ _ (omega (arith, length-append text more)) in
    rw (long, take_at text more (length text) refl, drop_at text more (length text) refl) refl

-- one after the other
pub and_then : {X Y : Type 0} (f : Rest → Result (X × Rest) ℕ) (g : X × Rest → Result (Y × Rest) ℕ) (t u more : List ℕ) (offset : ℕ) (b : Bool) (x : X) (y : Y)
    → f (rest (t ++ (u ++ more)) offset b) ≡ Ok (x, rest (u ++ more) (offset + length t) b)
    → g (x, rest (u ++ more) (offset + length t) b) ≡ Ok (y, rest more (offset + length t + length u) b)
    → (f (rest ((t ++ u) ++ more) offset b) >>= g) ≡ Ok (y, rest more (offset + length (t ++ u)) b)
and_then f g t u more offset b x y one two =
    let size : offset + length (t ++ u) ≡ offset + length t + length u = omega (arith, length-append t u) in
    rw (append_assoc t u more, size, one) two
