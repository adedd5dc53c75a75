-- What clients write of a response is read.
use Rattle.std.proofs.Common.{◌≡◌, ◌∙◌, ℕ, suc, ◌^◌, ◌<◌, Bool, true, false, cond, ltb, eqb, List, [], ◌∷◌, ◌++◌, length, Option, Some, None, Ok, Err, refl, sym, ap, append_assoc, arith, inl, inr}
use Rattle.std.specs.Bool.{MatchBool}
use Rattle.std.specs.Int.{w32, w64, to_le_bytes, bytes_low_first}
use Rattle.std.proofs.lemmas.Bool.{cases_lt, lt-ltb, le-ltb, ne_eqb}
use Rattle.std.proofs.lemmas.List.{take_at, drop_at, length-append}
use Rattle.std.proofs.lemmas.Nat.{from_le_bytes-to_le_bytes_2, from_le_bytes-to_le_bytes_4, from_le_bytes-to_le_bytes_8}
use Rattle.std.specs.Int.{w16}
use Rattle.my_auth.specs.Capabilities.{has, connect_with_db, protocol_41, ssl, secure_connection, plugin_auth, connect_attrs, lenenc_client_data}
use Rattle.my_auth.specs.Handshake.{ended_by_zero}
use Rattle.my_auth.specs.Reading.{Read, attributes_at, bytes_at, capabilities_at, counted_at, eight_at, four_at, not_empty, number_at, response_at, short_at, some, text_at, text_if, three_at, token_at, two_at}
use Rattle.my_auth.specs.Salt.{HasNoZero}
use Rattle.my_auth.specs.Spelling.{AreAttributes, FitsToken, IsDatabase, IsPlugin, IsWritable, attributes_bytes, counted_bytes, database_bytes, length_encoded, optional_bytes, or_empty, plugin_bytes, response_bytes, token_bytes}
use Rattle.my_auth.specs.declared.response.Response.{Response}

abbrev read : {A : Type 0} → A → List ℕ → Read A
read x rest = Ok (x, rest)

-- ---- numbers

two_again : (n : ℕ) (rest : List ℕ) → n < 2 ^ 16 → two_at (to_le_bytes w16 n ++ rest) ≡ Ok (n, rest)
two_again n rest lt =
    let long : ltb (length (to_le_bytes w16 n ++ rest)) 2 ≡ false = le-ltb _ _ (omega arith) in
    rw long (ap (λ (k : ℕ). read k rest) (from_le_bytes-to_le_bytes_2 n lt))

three_again : (n : ℕ) (rest : List ℕ) → n < 2 ^ 24 → three_at (bytes_low_first 0 3 n ++ rest) ≡ Ok (n, rest)
three_again n rest lt =
    let long : ltb (length (bytes_low_first 0 3 n ++ rest)) 3 ≡ false = le-ltb _ _ (omega arith) in
    rw long (ap (λ (k : ℕ). read k rest) (omega arith))

four_again : (n : ℕ) (rest : List ℕ) → n < 2 ^ 32 → four_at (to_le_bytes w32 n ++ rest) ≡ Ok (n, rest)
four_again n rest lt =
    let long : ltb (length (to_le_bytes w32 n ++ rest)) 4 ≡ false = le-ltb _ _ (omega arith) in
    rw long (ap (λ (k : ℕ). read k rest) (from_le_bytes-to_le_bytes_4 n lt))

eight_again : (n : ℕ) (rest : List ℕ) → n < 2 ^ 64 → eight_at (to_le_bytes w64 n ++ rest) ≡ Ok (n, rest)
eight_again n rest lt =
    let long : ltb (length (to_le_bytes w64 n ++ rest)) 8 ≡ false = le-ltb _ _ (omega arith) in
    rw long (ap (λ (k : ℕ). read k rest) (from_le_bytes-to_le_bytes_8 n lt))

number_again : (n : ℕ) (rest : List ℕ) → n < 2 ^ 64 → number_at (length_encoded n ++ rest) ≡ Ok (n, rest)
unfolding number_at
number_again n rest lt =
    elim (cases_lt n 251) [
      | inl small ↦ (let t : ltb n 251 ≡ true = lt-ltb _ _ small in rw (t, t) refl)
      | inr le ↦ (let f : ltb n 251 ≡ false = le-ltb _ _ le in
          elim (cases_lt n (2 ^ 16)) [
            | inl two ↦ (let t : ltb n (2 ^ 16) ≡ true = lt-ltb _ _ two in rw (f, t) (two_again n rest two))
            | inr le2 ↦ (let f2 : ltb n (2 ^ 16) ≡ false = le-ltb _ _ le2 in
                elim (cases_lt n (2 ^ 24)) [
                  | inl three ↦ (let t : ltb n (2 ^ 24) ≡ true = lt-ltb _ _ three in rw (f, f2, t) (three_again n rest three))
                  | inr le3 ↦ (let f3 : ltb n (2 ^ 24) ≡ false = le-ltb _ _ le3 in rw (f, f2, f3) (eight_again n rest lt))
                ])
          ])
    ]

-- ---- texts

bytes_again : (n : ℕ) (front more : List ℕ) → length front ≡ n → bytes_at n (front ++ more) ≡ Ok (front, more)
bytes_again n front more long =
    let enough : ltb (length (front ++ more)) n ≡ false = le-ltb _ _ (omega (arith, length-append front more)) in
    rw (enough, take_at front more n long, drop_at front more n long) refl

counted_again : (bytes more : List ℕ) → length bytes < 2 ^ 64 → counted_at (counted_bytes bytes ++ more) ≡ Ok (bytes, more)
counted_again bytes more fits =
    ap counted_at (append_assoc (length_encoded (length bytes)) bytes more)
    ∙ rw (number_again (length bytes) (bytes ++ more) fits) (bytes_again (length bytes) bytes more refl)

text_again : (text more : List ℕ) → HasNoZero text → text_at (ended_by_zero text ++ more) ≡ Ok (text, more)
text_again [] more whole = refl
text_again (byte ∷ text) more whole =
    let here : 0 < byte = whole 0 byte (omega arith) in
    let other : eqb byte 0 ≡ false = ne_eqb byte 0 (λ e. omega (arith, here, e)) in
    rw (other, text_again text more (λ k d below. whole (suc k) d (omega arith))) refl

-- ---- fields

capabilities_again : (n : ℕ) (more : List ℕ) → n < 2 ^ 32 → has n protocol_41 ≡ true → has n ssl ≡ false → capabilities_at (to_le_bytes w32 n ++ more) ≡ Ok (n, more)
unfolding capabilities_at
capabilities_again n more fits protocol plain = rw (four_again n more fits, protocol, plain) refl

token_again : (capabilities : ℕ) (token more : List ℕ) → FitsToken capabilities token → token_at capabilities (token_bytes capabilities token ++ more) ≡ Ok (token, more)
token_again capabilities token more fits = by_flags (has capabilities lenenc_client_data) (has capabilities secure_connection) fits
  where
    by_flags : (a b : Bool) → MatchBool a (length token < 2 ^ 64) (MatchBool b (length token < 2 ^ 8) (HasNoZero token))
        → (let bytes = cond a (counted_bytes token) (cond b (length token ∷ token) (ended_by_zero token)) ++ more in cond a (counted_at bytes) (cond b (short_at bytes) (text_at bytes)) ≡ Ok (token, more))
    by_flags true b h = counted_again token more h
    by_flags false true h = bytes_again (length token) token more refl
    by_flags false false h = text_again token more h

-- a database that is none is written as the empty one
database_again : (capabilities : ℕ) (database : Option (List ℕ)) (more : List ℕ) → MatchBool (has capabilities connect_with_db) (IsDatabase database) (database ≡ None)
    → (field : Option (List ℕ)) × (text_if capabilities connect_with_db (database_bytes capabilities database ++ more) ≡ Ok (field, more)) × (not_empty field ≡ database)
database_again capabilities database more fits = by_flag (has capabilities connect_with_db) database fits
  where
    by_flag : (a : Bool) (database : Option (List ℕ)) → MatchBool a (IsDatabase database) (database ≡ None)
        → (field : Option (List ℕ)) × (cond a (some (text_at (cond a (ended_by_zero (or_empty database)) [] ++ more))) (Ok (None, cond a (ended_by_zero (or_empty database)) [] ++ more)) ≡ Ok (field, more)) × (not_empty field ≡ database)
    by_flag true None h = (Some [], refl, refl)
    by_flag true (Some []) h = absurd h
    by_flag true (Some (byte ∷ name)) h = (Some (byte ∷ name), ap some (text_again (byte ∷ name) more h), refl)
    by_flag false database h = (None, refl, sym h)

plugin_again : (capabilities : ℕ) (plugin : Option (List ℕ)) (more : List ℕ) → MatchBool (has capabilities plugin_auth) (IsPlugin plugin) (plugin ≡ None)
    → text_if capabilities plugin_auth (plugin_bytes capabilities plugin ++ more) ≡ Ok (plugin, more)
plugin_again capabilities plugin more fits = by_flag (has capabilities plugin_auth) plugin fits
  where
    by_flag : (a : Bool) (plugin : Option (List ℕ)) → MatchBool a (IsPlugin plugin) (plugin ≡ None)
        → cond a (some (text_at (cond a (ended_by_zero (or_empty plugin)) [] ++ more))) (Ok (None, cond a (ended_by_zero (or_empty plugin)) [] ++ more)) ≡ Ok (plugin, more)
    by_flag true None h = absurd h
    by_flag true (Some name) h = ap some (text_again name more h)
    by_flag false plugin h = ap (λ (found : Option (List ℕ)). read found more) (sym h)

attributes_again : (capabilities : ℕ) (attributes : Option (List ℕ)) (more : List ℕ) → MatchBool (has capabilities connect_attrs) (AreAttributes attributes) (attributes ≡ None)
    → attributes_at capabilities (attributes_bytes capabilities attributes ++ more) ≡ Ok (attributes, more)
attributes_again capabilities attributes more fits = by_flag (has capabilities connect_attrs) attributes fits
  where
    by_flag : (a : Bool) (attributes : Option (List ℕ)) → MatchBool a (AreAttributes attributes) (attributes ≡ None)
        → cond a (some (counted_at (cond a (counted_bytes (or_empty attributes)) [] ++ more))) (Ok (None, cond a (counted_bytes (or_empty attributes)) [] ++ more)) ≡ Ok (attributes, more)
    by_flag true None h = absurd h
    by_flag true (Some bytes) h = ap some (counted_again bytes more h)
    by_flag false attributes h = ap (λ (found : Option (List ℕ)). read found more) (sym h)

-- ---- the whole

pub response_again : (r : Response) (filler more : List ℕ) → IsWritable r → length filler ≡ 23 → response_at (response_bytes filler r more) ≡ Ok r
unfolding response_at
response_again r filler more fits long =
    let behind_plugin = attributes_bytes r.capabilities r.attributes ++ more in
    let behind_database = plugin_bytes r.capabilities r.plugin ++ behind_plugin in
    let behind_token = optional_bytes r more in
    let behind_user = token_bytes r.capabilities r.token ++ behind_token in
    let behind_filler = ended_by_zero r.user ++ behind_user in
    let behind_charset = filler ++ behind_filler in
    let behind_capabilities = to_le_bytes w32 r.greatest_packet ++ r.charset ∷ behind_charset in
    let database = database_again r.capabilities r.database behind_database fits.database in
    rw (
      capabilities_again r.capabilities behind_capabilities fits.capabilities fits.protocol fits.plain,
      four_again r.greatest_packet (r.charset ∷ behind_charset) fits.greatest_packet,
      bytes_again 23 filler behind_filler long,
      text_again r.user behind_user fits.user,
      token_again r.capabilities r.token behind_token fits.token,
      database.1,
      plugin_again r.capabilities r.plugin behind_plugin fits.plugin,
      attributes_again r.capabilities r.attributes more fits.attributes,
      database.2,
    ) refl

-- one reading gives one response, or none
pub alone : (bytes : List ℕ) (read r : Response) → response_at bytes ≡ Ok read → response_at bytes ≡ Ok r → read ≡ r
alone bytes read r one other = cc

pub not_both : (bytes : List ℕ) (left : ℕ) (r : Response) → response_at bytes ≡ Err left → response_at bytes ≡ Ok r → ⊥
not_both bytes left r one other = cc
