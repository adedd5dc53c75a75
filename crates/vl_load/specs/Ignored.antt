-- What is ignored in the files of the keyspaces.
use Rattle.std.specs.Prelude.{ℕ, List, ◌++◌, map}
use Rattle.std.specs.List.{flat_map}
use Rattle.vl_catalog.specs.declared.table_def.TableDef.{TableDef}
use Rattle.vl_load.specs.declared.keyspace_read.KeyspaceRead.{KeyspaceRead}
use Rattle.vl_load.specs.Names.{path_in}

-- the paths in a file
abbrev pub paths_in : List ℕ → List (List ℕ) → List (List ℕ)
paths_in file paths = map (path_in file) paths

-- the paths of a keyspace's two files, each with its file's name in front
abbrev pub ignored_of : KeyspaceRead → List (List ℕ)
ignored_of read = paths_in read.vschema_file read.vschema.ignored
    ++ flat_map (λ (table : TableDef). paths_in read.schema_file table.ignored) read.tables

abbrev pub all_ignored : List KeyspaceRead → List (List ℕ)
all_ignored reads = flat_map ignored_of reads
