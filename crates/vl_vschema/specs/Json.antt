-- What stands where in a JSON value.
use Rattle.std.specs.Prelude.{ℕ, decimal, List, [], ◌∷◌, Bool, false, if◌then◌else◌, Option, Some, None, is_some, option_and_then}
use Rattle.std.specs.List.{flat_map, enumerate_from}
use Rattle.std.specs.Str.{bytes_eq}
use Rattle.serde_json.specs.Data.{Data, Items, no_items, item, Members, no_members, member}
use Rattle.serde_json.specs.Find.{get, as_str, as_array, as_object}
use Rattle.vl_vschema.specs.Path.{child}

-- ---- its parts

abbrev pub in_option : {A B : Type 0} → (A → List B) → Option A → List B
in_option f None = []
in_option f (Some x) = f x

abbrev pub members : Members → List (List ℕ × Data)
members no_members = []
members (member name d ms) = (name, d) ∷ members ms

abbrev pub items : Items → List Data
items no_items = []
items (item d ds) = d ∷ items ds

-- the members of an object, by the bytes of their names; nothing else has any
abbrev pub members_of : Data → List (List ℕ × Data)
members_of d = in_option members (as_object d)

-- the items of a list; nothing else has any
abbrev pub items_of : Data → List Data
items_of d = in_option items (as_array d)

abbrev pub has : List ℕ → Data → Bool
has name d = is_some (get name d)

abbrev pub is_this : List ℕ → Option (List ℕ) → Bool
is_this text None = false
is_this text (Some other) = bytes_eq other text

-- the value is this text
abbrev pub is_text : List ℕ → Data → Bool
is_text text d = is_this text (as_str d)

-- the text of this name
abbrev pub text_at : List ℕ → Data → Option (List ℕ)
text_at name d = option_and_then as_str (get name d)

-- ---- looking for paths

-- the paths that a look finds in a value, which has a path itself
abbrev pub Look : Type 0
Look = List ℕ → Data → List (List ℕ)

-- the path, unless this is so
abbrev pub unless : Bool → List ℕ → List (List ℕ)
unless b path = if b then [] else path ∷ []

-- the path of the value itself
abbrev pub here : Look
here path d = path ∷ []

-- in the member of this name, where there is one
abbrev pub at_member : List ℕ → Look → Look
at_member name look path d = in_option (look (child path name)) (get name d)

-- in each member of an object
abbrev pub each_member : Look → Look
each_member look path d = flat_map (λ m. look (child path m.0) m.1) (members_of d)

-- in each item of a list, whose name is its position
abbrev pub each_item : Look → Look
each_item look path d = flat_map (λ p. look (child path (decimal p.0)) p.1) (enumerate_from 0 (items_of d))
