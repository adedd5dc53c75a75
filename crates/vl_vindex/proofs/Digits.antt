-- Facts on hexadecimal digits that a side is written with.
use Rattle.std.proofs.Common.{◌≡◌, ℕ, ◌*◌, List, [], ◌∷◌, ◌++◌, length, take, Result, Ok, Err, true, refl, sym, ap, ◌∙◌, arith, subst}
use Rattle.std.proofs.Common.{Bool, ◌&&◌, nat_lt}
use Rattle.std.specs.Prelude.{IsOk, OnOk}
use Rattle.std.proofs.lemmas.Bool.{and_parts, ltb-true}
use Rattle.std.proofs.lemmas.Str.Ascii.{IsAscii-nil, IsAscii-cons}
use Rattle.std.specs.Result.{MatchResult}
use Rattle.std.specs.Str.{IsAscii, IsUtf8}
use Rattle.std.proofs.lemmas.Str.{IsUtf8-from_ascii}
use Rattle.hex.proofs.HexLemmas.{IsAscii-encode_with}
use Rattle.std.specs.List.{AllPass}
use Rattle.std.proofs.lemmas.List.{take_at}
use Rattle.hex.specs.Hex.{decode_of, decode_sized, encode_lower, is_hex_digit, lower_digits}
use Rattle.hex.specs.declared.error.FromHexError.{FromHexError}
use Rattle.hex.proofs.HexLemmas.{decode_of-digits, decode_of-ok, decode_sized-twice}

-- what a decoder wrote to the front of a buffer, where the digits stand for these bytes
written_front : (P : List ℕ → Type 0) (Q : FromHexError → Type 0) (digits bytes out rest : List ℕ) (n room : ℕ)
    → decode_of digits ≡ Ok bytes → length digits ≡ 2 * n → room ≡ n
    → MatchResult (decode_sized digits room) (λ bytes. P bytes × (out ≡ bytes)) Q
    → decode_of digits ≡ Ok (take n (out ++ rest))
written_front P Q digits bytes out rest n room decoded len room_is wrote =
    let bytes_len : length bytes ≡ n = omega (arith, (decode_of-ok digits bytes decoded).2) in
    let same : decode_sized digits room ≡ Ok bytes = decode_sized-twice digits room (omega arith) ∙ decoded in
    let M : Result (List ℕ) FromHexError → Type 0 = λ r. MatchResult r (λ bytes. P bytes × (out ≡ bytes)) Q in
    let wrote_ok = subst M same wrote in
    let front : take n (out ++ rest) ≡ bytes = ap (λ (xs : List ℕ). take n (xs ++ rest)) wrote_ok.1 ∙ take_at bytes rest n bytes_len in
    decoded ∙ ap Ok (sym front)

-- what a decoder wrote to the front of a buffer is what the digits stand for
pub decoded_front : (P : List ℕ → Type 0) (Q : FromHexError → Type 0) (digits out rest : List ℕ) (n room : ℕ)
    → length digits ≡ 2 * n → room ≡ n → AllPass is_hex_digit digits
    → MatchResult (decode_sized digits room) (λ bytes. P bytes × (out ≡ bytes)) Q
    → decode_of digits ≡ Ok (take n (out ++ rest))
decoded_front P Q digits out rest n room len room_is each wrote =
    let decoded = decode_of-digits digits (omega arith) each in
    written_front P Q digits decoded.0 out rest n room decoded.1 len room_is wrote

abbrev all_ascii : List ℕ → Bool
all_ascii [] = true
all_ascii (b ∷ bytes) = nat_lt b 128 && all_ascii bytes

IsAscii-from_test : (bytes : List ℕ) → all_ascii bytes ≡ true → IsAscii bytes
IsAscii-from_test [] passed = IsAscii-nil
IsAscii-from_test (b ∷ bytes) passed =
    let both = and_parts (nat_lt b 128) (all_ascii bytes) passed in
    IsAscii-cons b bytes (ltb-true b 128 both.0) (IsAscii-from_test bytes both.1)

IsAscii-lower_digits : IsAscii lower_digits
IsAscii-lower_digits = IsAscii-from_test lower_digits refl

-- hexadecimal text is UTF-8
pub IsUtf8-encode_lower : (bytes : List ℕ) → IsUtf8 (encode_lower bytes)
IsUtf8-encode_lower bytes = IsUtf8-from_ascii (encode_lower bytes) (IsAscii-encode_with lower_digits bytes IsAscii-lower_digits)

-- what holds where a call succeeds, of a call that does
pub where_ok : {T E : Type 0} (P : Type 0) (r : Result T E) → IsOk r → OnOk r P → P
where_ok P (Ok x) ok holds = holds
where_ok P (Err e) ok holds = cc ok
