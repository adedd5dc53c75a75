-- What the check of a login answers.
use Rattle.std.specs.Prelude.{◌≡◌, ℕ, Bool, false, not, if◌then◌else◌, List, find, Option, Some, None}
use Rattle.std.specs.Str.{bytes_eq}
use Rattle.my_auth.specs.Handshake.{native_plugin}
use Rattle.my_auth.specs.Token.{is_token, native_token, stored_hash}
use Rattle.my_auth.specs.declared.response.Response.{Response}
use Rattle.my_auth.specs.declared.user.User.{User}
use Rattle.my_auth.specs.declared.verdict.Verdict.{Verdict}
use Rattle.my_auth.specs.declared.verdict.Verdict.TheVariants.{Accept, Switch, Deny}

-- the first user of this name
abbrev pub user_named : List ℕ → List User → Option User
user_named name users = find (λ user. bytes_eq user.name name) users

-- a plugin is named, and it is another
abbrev pub is_foreign : Option (List ℕ) → Bool
is_foreign None = false
is_foreign (Some plugin) = not (bytes_eq plugin native_plugin)

-- an unknown user has no token
abbrev pub is_accepted : Option User → List ℕ → List ℕ → Bool
is_accepted None salt token = false
is_accepted (Some user) salt token = is_token user.native salt token

-- a foreign plugin is looked at first, whatever the user is
abbrev pub verdict : List User → List ℕ → Response → Verdict
verdict users salt response =
    if is_foreign response.plugin then Switch
    else (if is_accepted (user_named response.user users) salt response.token then Accept else Deny)

-- the user is known and has this password's hash, and the token is the password's for the salt
pub record HasTrueToken (users : List User) (salt : List ℕ) (response : Response) : Type 0 where
  pub password : List ℕ
  pub user : User
  pub named : user_named response.user users ≡ Some user
  pub stored : user.native ≡ Some (stored_hash password)
  pub token : response.token ≡ native_token password salt
  pub native : is_foreign response.plugin ≡ false
