-- What an opening finds, and what a crash during it may leave.
use Rattle.std.specs.Prelude.{◌≡◌, ◌⊎◌, Bool, true, false, ℕ, List, Result, Ok, Err}
use Rattle.vl_disk.specs.Moment.{IsLeft, Moment}
use Rattle.vl_catalog.specs.declared.catalog.Catalog.{Catalog}
use Rattle.vl_record.specs.Grammar.{Content, EndsAt, content_bytes, held_of}
use Rattle.vl_record.specs.Reading.{Held, file_at, is_open}
use Rattle.vl_record.specs.Stored.{IsNew, Stores, new_content}

-- the file is of the format, and this is its content; where it was new it was made
pub record IsOpenedAs (catalog : Catalog) (shard : ℕ) (before after : List ℕ) (held : Held) : Type 0 where
  pub content : Content
  pub stores : Stores catalog shard content after
  pub is : held ≡ held_of shard content
  pub made : (after ≡ before) ⊎ (IsNew before × (content ≡ new_content))

-- the file gate is open, and this is the offset of the first field that breaks a rule of the format
pub record IsNotOurs (catalog : Catalog) (shard : ℕ) (file : List ℕ) (offset : ℕ) : Type 0 where
  pub gate : is_open file ≡ true
  pub fault : file_at catalog shard file ≡ Err offset

-- nothing stored, or the side of a shard that was never checkpointed
abbrev pub IsMade : ℕ → List ℕ → Type 0
IsMade shard file = IsNew file ⊎ EndsAt (content_bytes shard new_content) file

-- One of the images that a crash might have left before the opening; or of a file that was new one that stores nothing, or
-- the side as it is made.
abbrev pub IsAtOpening : ℕ → Moment → List ℕ → Type 0
IsAtOpening shard now image = IsLeft now image ⊎ (IsNew now.seen × IsMade shard image)
