-- An open journal, and how it goes on.
use Rattle.std.specs.Prelude.{◌≡◌, ◌⊎◌, ◌≤◌, ◌+◌, Bool, true, false, IsTrue, ℕ, List, length, Result, Ok, Err}
use Rattle.vl_disk.specs.Moment.{at_rest}
use Rattle.vl_disk.specs.DiskView.{DiskView}
use Rattle.vl_catalog.specs.declared.catalog.Catalog.{Catalog}
use Rattle.vl_catalog.specs.declared.part.Part.{Part}
use Rattle.vl_record.specs.Grammar.{Content, content_bytes}
use Rattle.vl_record.specs.Stored.{Stores, with_record}

-- the disk, and the offset of the closed gate behind the last open record
pub record JournalParts (D : Type 0) : Type 0 where
  pub disk : D
  pub end : ℕ

-- all of the file is on the disk, and the journal ends within it
pub record IsReady (v : DiskView) (end : ℕ) : Type 0 where
  pub rest : v.now ≡ at_rest v.now.seen
  pub place : end + 1 ≤ length v.now.seen

-- the file stores this content, and the journal ends with it
pub record IsUp (catalog : Catalog) (shard : ℕ) (content : Content) (v : DiskView) (end : ℕ) : Type 0 where
  pub stores : Stores catalog shard content v.now.seen
  pub ends : end ≡ length (content_bytes shard content)

-- the file stores this content, or that and one record more
abbrev pub StoresWithOrWithout : Catalog → ℕ → Content → List Part → List ℕ → Type 0
StoresWithOrWithout catalog shard content parts file =
    Stores catalog shard content file ⊎ Stores catalog shard (with_record parts content) file
