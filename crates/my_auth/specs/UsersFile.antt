-- What a users file says: `{"users":[{"name":N,"native":HEX},..]}`. Other members aren't looked at, and of
-- two members of one name the last counts.
use Rattle.std.specs.Prelude.{◌≡◌, ℕ, ◌+◌, ◌==◌, IsUtf8, codes, List, [], ◌∷◌, ◌++◌, length, map, if◌then◌else◌, Option, Some, None, option_and_then, ◌⊎◌, Result, Ok, Err}
use Rattle.std.specs.Option.{option_map}
use Rattle.hex.specs.Hex.{decode_sized}
use Rattle.hex.specs.declared.error.FromHexError.{FromHexError}
use Rattle.serde_json.specs.Data.{Data, Items, no_items, item}
use Rattle.serde_json.specs.Find.{get, as_str, as_array}
use Rattle.serde_json.specs.Read.{read}
use Rattle.my_auth.specs.declared.user.User.{User}
use Rattle.my_auth.specs.declared.users_fault.UsersFault.{UsersFault}
use Rattle.my_auth.specs.declared.users_fault.UsersFault.TheVariants.{Memory, Refused}

-- the value that the text says
abbrev pub IsJson : List ℕ → Data → Type 0
IsJson text d = IsUtf8 text × (read text ≡ Some d)

abbrev pub items : Items → List Data
items no_items = []
items (item d ds) = d ∷ items ds

-- the entries of the list `users` of an object, where there is one
abbrev pub entries_of : Data → Option (List Data)
entries_of d = option_map items (option_and_then as_array (get (codes "users") d))

-- ---- an entry

-- the text of this name in an object
abbrev pub text_named : List ℕ → Data → Option (List ℕ)
text_named name d = option_and_then as_str (get name d)

abbrev pub digest : Result (List ℕ) FromHexError → Option (Option (List ℕ))
digest (Ok bytes) = Some (Some bytes)
digest (Err error) = None

-- what is stored of a password: 40 hexadecimal digits in either case, or the empty text for the empty one
abbrev pub hash_of : List ℕ → Option (Option (List ℕ))
hash_of text = if length text == 0 then Some None else digest (decode_sized text 20)

-- an object with a name and a hash, which are texts
abbrev pub user_of : Data → Option User
user_of d = do_user (text_named (codes "name") d) (option_and_then hash_of (text_named (codes "native") d))
  where
    do_user : Option (List ℕ) → Option (Option (List ℕ)) → Option User
    do_user None hash = None
    do_user (Some name) hash = option_map (λ native. record { name = name; native = native }) hash

-- ---- the file

-- the users of the entries, each of which is one
abbrev pub AreUsers : List Data → List User → Type 0
AreUsers entries users = map user_of entries ≡ map Some users

-- the entry of this number, from 1, is the first that is no user
pub record IsFirstWrong (entries : List Data) (number : ℕ) : Type 0 where
  pub before : List Data
  pub users : List User
  pub entry : Data
  pub behind : List Data
  pub whole : entries ≡ before ++ entry ∷ behind
  pub right : AreUsers before users
  pub wrong : user_of entry ≡ None
  pub counted : number ≡ length before + 1

-- the text is a users file, and these are its users in its order
abbrev pub AreUsersOf : List ℕ → List User → Type 0
AreUsersOf text users = (d : Data) × IsJson text d × (entries : List Data) × (entries_of d ≡ Some entries) × AreUsers entries users

-- the text is no JSON, or has no list of users
abbrev pub HasNoList : List ℕ → Type 0
HasNoList text = (d : Data) → IsJson text d → entries_of d ≡ None

-- the number of the first entry that is wrong
abbrev pub HasWrongEntry : List ℕ → ℕ → Type 0
HasWrongEntry text number = (d : Data) × IsJson text d × (entries : List Data) × (entries_of d ≡ Some entries) × IsFirstWrong entries number

-- why a text is refused: 0 where it has no list, else the number of an entry; memory may run out at any text
abbrev pub IsRefusal : List ℕ → UsersFault → Type 0
IsRefusal text (Refused user) = ((user ≡ 0) × HasNoList text) ⊎ HasWrongEntry text user
IsRefusal text Memory = Unit {0}

-- ---- words of private functions

-- why the value of a text isn't known
abbrev pub IsUnread : List ℕ → UsersFault → Type 0
IsUnread text (Refused user) = (user ≡ 0) × ((d : Data) → IsJson text d → ⊥)
IsUnread text Memory = Unit {0}

-- why the entries aren't all users
abbrev pub IsWrongOf : List Data → UsersFault → Type 0
IsWrongOf entries (Refused user) = IsFirstWrong entries user
IsWrongOf entries Memory = Unit {0}
