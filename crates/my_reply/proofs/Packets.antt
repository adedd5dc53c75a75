-- Packets that are written one after another.
use Rattle.std.proofs.Common.{◌≡◌, ◌∙◌, ℕ, suc, ◌-◌, ◌*◌, ◌^◌, ◌<◌, ◌≤◌, ltb, List, [], ◌∷◌, ◌++◌, length, All, ap, append_assoc, arith, true, false, inl, inr}
use Rattle.std.proofs.lemmas.Bool.{cases_lt, lt-ltb, le-ltb}
use Rattle.std.proofs.lemmas.List.{length-append}
use Rattle.my_reply.specs.Fields.{length_encoded, text_bytes}
use Rattle.my_reply.specs.Reply.{IsShortValue, IsShortRow}
use Rattle.my_reply.specs.ResultSet.{row_payload, value_bytes}
use Rattle.vl_values.specs.declared.value.Value.{Value}
use Rattle.vl_values.specs.declared.value.Value.TheVariants.{Null, Int, Uint, Bytes}

-- what stands in a buffer: a front, the room of a header, and a payload
pub opened : (front header payload mid buf : List ℕ) → mid ≡ front ++ header → buf ≡ mid ++ payload → buf ≡ front ++ (header ++ payload)
opened front header payload mid buf was is = is ∙ ap (λ m. m ++ payload) was ∙ append_assoc front header payload

-- ---- payloads are short

length_short : (n : ℕ) → n < 2 ^ 16 → length (length_encoded n) ≤ 3
length_short n lt =
    elim (cases_lt n 251) [
      | inl small ↦ (let t : ltb n 251 ≡ true = lt-ltb _ _ small in rw t (omega arith))
      | inr le ↦ (let f : ltb n 251 ≡ false = le-ltb _ _ le in
          let t : ltb n (2 ^ 16) ≡ true = lt-ltb _ _ lt in rw (f, t) (omega arith))
    ]

text_short : (text : List ℕ) → length text ≤ 16383 → length (text_bytes text) ≤ 16386
text_short text le = omega (arith, length-append (length_encoded (length text)) text, length_short (length text) (omega arith))

value_short : (value : Value) → IsShortValue value → length (value_bytes value) ≤ 16386
value_short Null le = omega arith
value_short (Int n) le = text_short _ le
value_short (Uint n) le = text_short _ le
value_short (Bytes s) le = text_short _ le

row_short : (row : List Value) → All IsShortValue row → length (row_payload row) ≤ 16386 * length row
row_short [] all = omega arith
row_short (value ∷ row) all = omega (arith, length-append (value_bytes value) (row_payload row), value_short value (all 0 value (omega arith)), row_short row (λ k d lt. all (suc k) d (omega arith)))

-- a row's packet behind its header may have this length
pub row_fits : (row : List Value) (front header mid buf : List ℕ) (start : ℕ) → IsShortRow row → length front ≡ start → mid ≡ front ++ header → length header ≡ 4 → buf ≡ mid ++ row_payload row → length buf - start < 2 ^ 24
row_fits row front header mid buf start short at was four is =
    omega (arith, short.0, row_short row short.1, ap length is ∙ length-append mid (row_payload row), ap length was ∙ length-append front header)
