-- What the files of a keyspace mean, and why one is refused.
use Rattle.std.specs.Prelude.{◌≡◌, ℕ, List}
use Rattle.serde_json.specs.Data.{Data}
use Rattle.vl_catalog.specs.declared.keyspace_vschema.KeyspaceVschema.{KeyspaceVschema}
use Rattle.vl_ddl.specs.Fault.{Defines, IsAt}
use Rattle.vl_ddl.specs.declared.schema.DdlFault.TheVariants as ddl_faults
use Rattle.vl_vschema.specs.Breaking.{breaks}
use Rattle.vl_vschema.specs.Document.{Breaks, IsJson, IsRefusal, IsSound}
use Rattle.vl_vschema.specs.Vschema.{IsVschema}
use Rattle.vl_vschema.specs.declared.vschema_fault.VschemaFault.TheVariants as json_faults
use Rattle.vl_load.specs.declared.file_text.FileText.{FileText}
use Rattle.vl_load.specs.declared.keyspace_read.KeyspaceRead.{KeyspaceRead}
use Rattle.vl_load.specs.declared.keyspace_texts.KeyspaceTexts.{KeyspaceTexts}
use Rattle.vl_load.specs.declared.refused.Refused.{Refused}
use Rattle.vl_load.specs.declared.refused.Refused.TheVariants.{NotJson, Broken, Syntax, Unsupported}
use Rattle.vl_load.specs.Names.{place_in}
use Rattle.vl_load.specs.Turns.{IsFirst}

-- the text is that of a VSchema file that means this
abbrev pub SaysVschema : List ℕ → KeyspaceVschema → Type 0
SaysVschema text vschema = (d : Data) × IsJson text d × IsSound (breaks d) × IsVschema d vschema

-- the texts of a keyspace's files mean this
pub record Means (texts : KeyspaceTexts) (read : KeyspaceRead) : Type 0 where
  pub keyspace : read.keyspace ≡ texts.keyspace
  pub vschema_file : read.vschema_file ≡ texts.vschema.name
  pub vschema : SaysVschema texts.vschema.text read.vschema
  pub schema_file : read.schema_file ≡ texts.schema.name
  pub tables : Defines texts.schema.text read.tables

-- a file in JSON, whose rules these are, is refused so
abbrev pub RefusesJson : (Data → Breaks) → List ℕ → List ℕ → Refused → Type 0
RefusesJson rules name text (NotJson file) = (file ≡ name) × IsRefusal rules text json_faults.NotJson
RefusesJson rules name text (Broken place rule) = (path : List ℕ) × (place ≡ place_in name path) × IsRefusal rules text (json_faults.Broken path rule)
RefusesJson rules name text _ = ⊥

-- a schema file is refused so
abbrev pub RefusesSchema : FileText → Refused → Type 0
RefusesSchema schema (Syntax file at) = (file ≡ schema.name) × IsAt (ddl_faults.Syntax at) schema.text
RefusesSchema schema (Unsupported file at) = (file ≡ schema.name) × IsAt (ddl_faults.Unsupported at) schema.text
RefusesSchema schema _ = ⊥

-- a keyspace's VSchema file is refused so, or else its schema file
pub data RefusesFile (texts : KeyspaceTexts) (fault : Refused) : Type 0 where
  BadVschema : RefusesJson breaks texts.vschema.name texts.vschema.text fault → RefusesFile texts fault
  BadSchema : (vschema : KeyspaceVschema) → SaysVschema texts.vschema.text vschema → RefusesSchema texts.schema fault → RefusesFile texts fault

-- the first file of the keyspaces that is refused is refused so
abbrev pub RefusesFiles : List KeyspaceTexts → Refused → Type 0
RefusesFiles texts fault = IsFirst Means RefusesFile texts fault
