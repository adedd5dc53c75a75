-- Loading a catalog: what its files mean, and the first fault.
use Rattle.std.specs.Prelude.{◌≡◌, ℕ, List, Option, Some}
use Rattle.std.specs.List.{AllZip}
use Rattle.vl_base.specs.Files.{FileMap, IsLoaded}
use Rattle.vl_catalog.specs.Build.{catalog_of}
use Rattle.vl_catalog.specs.declared.catalog.Catalog.{Catalog}
use Rattle.vl_catalog.specs.declared.keyspace_parts.KeyspaceParts.{KeyspaceParts}
use Rattle.vl_rules.specs.Order.{Checked, first_broken}
use Rattle.vl_vschema.specs.CatalogFile.{catalog_breaks}
use Rattle.vl_vschema.specs.Sink.{IsListing}
use Rattle.vl_vschema.specs.declared.keyspace_file.KeyspaceFile.{KeyspaceFile}
use Rattle.vl_load.specs.declared.keyspace_read.KeyspaceRead.{KeyspaceRead}
use Rattle.vl_load.specs.declared.keyspace_texts.KeyspaceTexts.{KeyspaceTexts}
use Rattle.vl_load.specs.declared.load_fault.LoadFault.{LoadFault}
use Rattle.vl_load.specs.declared.load_fault.LoadFault.TheVariants as faults
use Rattle.vl_load.specs.declared.loaded.Loaded.{Loaded}
use Rattle.vl_load.specs.declared.refused.Refused.{Refused}
use Rattle.vl_load.specs.declared.refused.Refused.TheVariants as refusals
use Rattle.vl_load.specs.Files.{HasTexts, IsCatalogFile, IsLongFile}
use Rattle.vl_load.specs.Ignored.{all_ignored}
use Rattle.vl_load.specs.Names.{folder_of}
use Rattle.vl_load.specs.Reading.{Means, RefusesFiles, RefusesJson}
use Rattle.vl_load.specs.Rings.{HasRing, RefusesRings}

-- ---- what the files say

-- the catalog file of this name is there, and so are the two files of each of its keyspaces
pub record AreTexts (known : Option FileMap) (name : List ℕ) (texts : List KeyspaceTexts) : Type 0 where
  pub keyspaces : List KeyspaceFile
  pub file : IsCatalogFile known name keyspaces
  pub each : AllZip (HasTexts known (folder_of name)) keyspaces texts

-- the catalog that these parts mean keeps the rules
abbrev pub IsCatalogOf : List KeyspaceParts → Catalog → Type 0
IsCatalogOf parts catalog = (catalog ≡ catalog_of parts) × Checked catalog

-- the texts are read, and the ranges of each keyspace make its ring; what is ignored is listed once, by bytes
pub record IsLoadedBy (texts : List KeyspaceTexts) (loaded : Loaded) : Type 0 where
  pub reads : List KeyspaceRead
  pub parts : List KeyspaceParts
  pub mean : AllZip Means texts reads
  pub rings : AllZip HasRing reads parts
  pub catalog : IsCatalogOf parts loaded.catalog
  pub ignored : IsListing (all_ignored reads) loaded.ignored

-- what the files of this catalog say
abbrev pub IsLoadedFrom : Option FileMap → List ℕ → Loaded → Type 0
IsLoadedFrom known name loaded = (texts : List KeyspaceTexts) × AreTexts known name texts × IsLoadedBy texts loaded

-- ---- the first fault

-- the catalog of these parts breaks a rule, and the first is that of this table
abbrev pub RefusesRules : List KeyspaceParts → Refused → Type 0
RefusesRules parts (refusals.Rule table rule) = first_broken (catalog_of parts) ≡ Some (table, rule)
RefusesRules parts _ = ⊥

-- the first file that is refused; or, where all are read, the first range or ring; or else the catalog
pub data RefusesTexts (texts : List KeyspaceTexts) (fault : Refused) : Type 0 where
  InFiles : RefusesFiles texts fault → RefusesTexts texts fault
  InRings : (reads : List KeyspaceRead) → AllZip Means texts reads → RefusesRings reads fault → RefusesTexts texts fault
  InRules : (reads : List KeyspaceRead) (parts : List KeyspaceParts) → AllZip Means texts reads → AllZip HasRing reads parts → RefusesRules parts fault → RefusesTexts texts fault

-- the catalog file is refused; or, where all files are there, what the others say
pub data IsRefusedFrom (known : Option FileMap) (name : List ℕ) (fault : Refused) : Type 0 where
  InCatalogFile : (text : List ℕ) → IsLoaded known name text → RefusesJson catalog_breaks name text fault → IsRefusedFrom known name fault
  InOthers : (texts : List KeyspaceTexts) → AreTexts known name texts → RefusesTexts texts fault → IsRefusedFrom known name fault

-- why nothing is loaded; a load that failed is told by the count, and memory may be refused anywhere
abbrev pub IsFaultOf : Option FileMap → List ℕ → LoadFault → Type 0
IsFaultOf known name faults.Failed = Unit {0}
IsFaultOf known name (faults.TooLong file) = IsLongFile known name file
IsFaultOf known name (faults.Refused fault) = IsRefusedFrom known name fault
IsFaultOf known name faults.Memory = Unit {0}
