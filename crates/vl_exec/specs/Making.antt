-- What each program keeps that was made from a plan that fits the catalog.
use Rattle.std.specs.Prelude.{ℕ}
use Rattle.vl_catalog.specs.declared.catalog.Catalog.{Catalog}
use Rattle.vl_insert.specs.Making.{IsMade as IsInsertMade}
use Rattle.vl_select.specs.Making.{IsMade as IsSelectMade}
use Rattle.vl_change.specs.Making.{IsMade as IsChangeMade}
use Rattle.vl_exec.specs.declared.program.Program.{Program}
use Rattle.vl_exec.specs.declared.program.Program.TheVariants as programs

-- the program was made under this catalog, over this many shards, and may be stepped under this limit of tries
abbrev pub IsMade : Catalog → ℕ → ℕ → Program → Type 0
IsMade catalog count limit (programs.Insert insert) = IsInsertMade catalog count limit insert
IsMade catalog count limit (programs.Select select) = IsSelectMade catalog count limit select
IsMade catalog count limit (programs.Change change) = IsChangeMade catalog count limit change
