-- The tokens of `mysql_native_password`.
use Rattle.std.specs.Prelude.{ℕ, ◌==◌, ◌&&◌, bit_xor, Bool, List, [], ◌∷◌, ◌++◌, length, Option, Some, None}
use Rattle.std.specs.Str.{bytes_eq}
use Rattle.sha1.specs.Sha1.{sha1}

-- byte by byte, as far as both go
abbrev pub xor_bytes : List ℕ → List ℕ → List ℕ
xor_bytes [] ys = []
xor_bytes (x ∷ xs) [] = []
xor_bytes (x ∷ xs) (y ∷ ys) = bit_xor x y ∷ xor_bytes xs ys

-- what is stored of a password
unfoldable pub stored_hash : List ℕ → List ℕ
stored_hash password = sha1 (sha1 password)

-- what a token is hidden by
unfoldable pub mask : List ℕ → List ℕ → List ℕ
mask salt stored = sha1 (salt ++ stored)

-- SHA1(password) XOR SHA1(salt, SHA1(SHA1(password)))
abbrev pub native_token : List ℕ → List ℕ → List ℕ
native_token password salt = xor_bytes (sha1 password) (mask salt (stored_hash password))

-- a token of 20 bytes whose hash, once the mask is taken off, is the stored one; the token is empty where
-- the password is, of which nothing is stored
abbrev pub is_token : Option (List ℕ) → List ℕ → List ℕ → Bool
is_token None salt token = length token == 0
is_token (Some stored) salt token = (length token == 20) && bytes_eq (sha1 (xor_bytes token (mask salt stored))) stored
