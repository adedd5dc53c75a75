-- What a shard's file stores: the rows of its header, changed by the parts of its records up to the first closed gate.
use Rattle.std.specs.Prelude.{◌≡◌, ◌≤◌, ◌⊎◌, ℕ, List, [], ◌∷◌, ◌++◌, length, None}
use Rattle.vl_values.specs.declared.key.Key.{Key}
use Rattle.vl_catalog.specs.declared.catalog.Catalog.{Catalog}
use Rattle.vl_catalog.specs.declared.part.Part.{Part}
use Rattle.vl_catalog.specs.Part.{Rows, stored}
use Rattle.vl_record.specs.Grammar.{Content, EndsAt, IsContent, all_parts, content_bytes, held_of}
use Rattle.vl_record.specs.Reading.{Held}

-- a file that stores nothing yet: at most one byte, or a closed file gate
abbrev pub IsNew : List ℕ → Type 0
IsNew file = (length file ≤ 1) ⊎ EndsAt [] file

-- the file is one of the format, with this content
pub record Stores (catalog : Catalog) (shard : ℕ) (content : Content) (file : List ℕ) : Type 0 where
  pub is : IsContent catalog shard content
  pub ends : EndsAt (content_bytes shard content) file

-- the file is one of the format, and this is what it holds
pub record IsHeldOf (catalog : Catalog) (shard : ℕ) (file : List ℕ) (held : Held) : Type 0 where
  pub content : Content
  pub stores : Stores catalog shard content file
  pub is : held ≡ held_of shard content

-- a side that was just made
abbrev pub new_content : Content
new_content = record { epoch = 1; last_tx = 0; rows = []; records = [] }

-- with one record more
abbrev pub with_record : List Part → Content → Content
with_record parts content = record { epoch = content.epoch; last_tx = content.last_tx; rows = content.rows; records = content.records ++ parts ∷ [] }

-- the row that a content gives each key
abbrev pub rows_stored : Content → Rows
rows_stored content = stored content.rows (all_parts content.records)

-- the rows that a file stores: none where it is new
abbrev pub IsStored : Catalog → ℕ → List ℕ → Rows → Type 0
IsStored catalog shard file rows =
    (IsNew file × ((key : Key) → rows key ≡ None))
    ⊎ ((content : Content) × Stores catalog shard content file × ((key : Key) → rows key ≡ rows_stored content key))
