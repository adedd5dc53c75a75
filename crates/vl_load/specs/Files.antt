-- The texts of the files of a catalog, and which of them can't be loaded.
use Rattle.std.specs.Prelude.{◌≡◌, ℕ, List, ◌++◌, Option}
use Rattle.serde_json.specs.Data.{Data}
use Rattle.vl_base.specs.Files.{FileMap, IsLoaded, IsTooLong}
use Rattle.vl_vschema.specs.CatalogFile.{catalog_breaks, keyspaces_of}
use Rattle.vl_vschema.specs.Document.{IsJson, IsSound}
use Rattle.vl_vschema.specs.declared.keyspace_file.KeyspaceFile.{KeyspaceFile}
use Rattle.vl_load.specs.declared.file_text.FileText.{FileText}
use Rattle.vl_load.specs.declared.keyspace_texts.KeyspaceTexts.{KeyspaceTexts}
use Rattle.vl_load.specs.Names.{folder_of}
use Rattle.vl_load.specs.Turns.{IsFirst}

-- the text is that of a catalog file with these keyspaces
abbrev pub ListsKeyspaces : List ℕ → List KeyspaceFile → Type 0
ListsKeyspaces text keyspaces = (d : Data) × IsJson text d × IsSound (catalog_breaks d) × (keyspaces ≡ keyspaces_of d)

-- the file of this name is a catalog file with these keyspaces
abbrev pub IsCatalogFile : Option FileMap → List ℕ → List KeyspaceFile → Type 0
IsCatalogFile known name keyspaces = (text : List ℕ) × IsLoaded known name text × ListsKeyspaces text keyspaces

-- the file of this name has this text
pub record IsTextOf (known : Option FileMap) (name : List ℕ) (file : FileText) : Type 0 where
  pub named : file.name ≡ name
  pub loaded : IsLoaded known name file.text

-- these are the texts of the keyspace's two files, which stand in the folder of the catalog file
pub record HasTexts (known : Option FileMap) (folder : List ℕ) (keyspace : KeyspaceFile) (texts : KeyspaceTexts) : Type 0 where
  pub same : texts.keyspace ≡ keyspace
  pub vschema : IsTextOf known (folder ++ keyspace.vschema) texts.vschema
  pub schema : IsTextOf known (folder ++ keyspace.schema) texts.schema

-- the file that is too long has this name
abbrev pub IsLong : Option FileMap → List ℕ → List ℕ → Type 0
IsLong known name file = (file ≡ name) × IsTooLong known name

-- which file of a keyspace is too long: its VSchema file, or else its schema file
pub data IsLongOf (known : Option FileMap) (folder : List ℕ) (keyspace : KeyspaceFile) (file : List ℕ) : Type 0 where
  LongVschema : IsLong known (folder ++ keyspace.vschema) file → IsLongOf known folder keyspace file
  LongSchema : (vschema : FileText) → IsTextOf known (folder ++ keyspace.vschema) vschema → IsLong known (folder ++ keyspace.schema) file → IsLongOf known folder keyspace file

-- the first of the keyspaces' files that isn't loaded is too long
abbrev pub IsLongIn : Option FileMap → List ℕ → List KeyspaceFile → List ℕ → Type 0
IsLongIn known folder keyspaces file = IsFirst (HasTexts known folder) (IsLongOf known folder) keyspaces file

-- which file is too long: the catalog file, or else the first of the others that isn't loaded
pub data IsLongFile (known : Option FileMap) (name file : List ℕ) : Type 0 where
  LongCatalog : IsLong known name file → IsLongFile known name file
  LongOther : (keyspaces : List KeyspaceFile) → IsCatalogFile known name keyspaces → IsLongIn known (folder_of name) keyspaces file → IsLongFile known name file
