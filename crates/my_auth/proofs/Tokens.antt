-- The token of a password is accepted where the password's hash is stored.
use Rattle.std.proofs.Common.{◌≡◌, ℕ, suc, List, [], ◌∷◌, ◌++◌, length, bit_xor, Some, true, refl, sym, ap, ◌∙◌, eq-eqb, arith}
use Rattle.std.specs.Int.Bits.{xor_assoc, xor_self, xor_zero_r}
use Rattle.std.specs.Str.{bytes_eq}
use Rattle.sha1.specs.Sha1.{sha1, digest_bytes}
use Rattle.my_auth.specs.Checking.{HasTrueToken, verdict}
use Rattle.my_auth.specs.Token.{is_token, mask, native_token, stored_hash, xor_bytes}
use Rattle.my_auth.specs.declared.response.Response.{Response}
use Rattle.my_auth.specs.declared.user.User.{User}
use Rattle.my_auth.specs.declared.verdict.Verdict.TheVariants.{Accept}

length-sha1 : (m : List ℕ) → length (sha1 m) ≡ 20
unfolding sha1 digest_bytes
length-sha1 m = refl

length-mask : (salt stored : List ℕ) → length (mask salt stored) ≡ 20
unfolding mask
length-mask salt stored = length-sha1 (salt ++ stored)

length-xor_bytes : (xs ys : List ℕ) → length xs ≡ length ys → length (xor_bytes xs ys) ≡ length xs
length-xor_bytes [] ys same = refl
length-xor_bytes (x ∷ xs) [] same = absurd (omega (arith, same))
length-xor_bytes (x ∷ xs) (y ∷ ys) same = ap suc (length-xor_bytes xs ys (omega arith))

-- joined twice
xor_back : (xs ys : List ℕ) → length xs ≡ length ys → xor_bytes (xor_bytes xs ys) ys ≡ xs
xor_back [] ys same = refl
xor_back (x ∷ xs) [] same = absurd (omega (arith, same))
xor_back (x ∷ xs) (y ∷ ys) same =
    let head : bit_xor (bit_xor x y) y ≡ x = xor_assoc x y y ∙ ap (bit_xor x) (xor_self y) ∙ xor_zero_r x in
    rw (head, xor_back xs ys (omega arith)) refl

same_bytes : (xs : List ℕ) → bytes_eq xs xs ≡ true
same_bytes [] = refl
same_bytes (x ∷ xs) = rw (eq-eqb x x refl, same_bytes xs) refl

twice : (password : List ℕ) → sha1 (sha1 password) ≡ stored_hash password
unfolding stored_hash
twice password = refl

its_token : (password salt : List ℕ) → is_token (Some (stored_hash password)) salt (native_token password salt) ≡ true
its_token password salt =
    let hidden = mask salt (stored_hash password) in
    let long : length (sha1 password) ≡ length hidden = length-sha1 password ∙ sym (length-mask salt (stored_hash password)) in
    let size : length (native_token password salt) ≡ 20 = length-xor_bytes (sha1 password) hidden long ∙ length-sha1 password in
    let back : sha1 (xor_bytes (native_token password salt) hidden) ≡ stored_hash password = ap sha1 (xor_back (sha1 password) hidden long) ∙ twice password in
    rw (eq-eqb (length (native_token password salt)) 20 size, back) (same_bytes (stored_hash password))

pub accepted : (users : List User) (salt : List ℕ) (response : Response) → HasTrueToken users salt response → verdict users salt response ≡ Accept
accepted users salt response h = rw (h.native, h.named, h.stored, h.token, its_token h.password salt) refl
