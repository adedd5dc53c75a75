-- Which paths of a catalog file break V1, and what the file means.
use Rattle.std.specs.Prelude.{ℕ, ◌&&◌, decimal, codes, List, [], ◌++◌, map, take, Bool, false, not, Option, Some, None}
use Rattle.std.specs.List.{flat_map, enumerate_from, list_any}
use Rattle.serde_json.specs.Data.{Data}
use Rattle.vl_vschema.specs.declared.keyspace_file.KeyspaceFile.{KeyspaceFile}
use Rattle.vl_vschema.specs.declared.vschema_rule.VschemaRule.{VschemaRule}
use Rattle.vl_vschema.specs.declared.vschema_rule.VschemaRule.TheVariants.{MemberKind, VindexType, LookupMembers, ColumnVindex, PlainTable, LookupFlag}
use Rattle.vl_vschema.specs.Breaking.{not_text, in_object, in_list}
use Rattle.vl_vschema.specs.Json.{has, is_this, text_at, items_of, Look, unless, at_member, each_item}
use Rattle.vl_vschema.specs.Path.{child}
use Rattle.vl_vschema.specs.Vschema.{text_of, text_named, items_named}

-- a missing member has the path of its object
abbrev pub keyspace_kinds : Look
keyspace_kinds path d =
    unless (has (codes "name") d && (has (codes "shards") d && (has (codes "vschema") d && has (codes "schema") d))) path
    ++ (at_member (codes "name") not_text path d
    ++ (at_member (codes "shards") (in_list (each_item not_text)) path d
    ++ (at_member (codes "vschema") not_text path d
    ++ at_member (codes "schema") not_text path d)))

abbrev pub catalog_kinds : Look
catalog_kinds path d = unless (has (codes "keyspaces") d) path
    ++ at_member (codes "keyspaces") (in_list (each_item (in_object keyspace_kinds))) path d

-- the test passes the name, where there is one
abbrev pub is_taken_by : (List ℕ → Bool) → Option (List ℕ) → Bool
is_taken_by test None = false
is_taken_by test (Some name) = test name

-- one of the keyspaces has this name
abbrev pub is_name_of : List Data → List ℕ → Bool
is_name_of keyspaces name = list_any (λ d. is_this name (text_at (codes "name") d)) keyspaces

-- the name at a position, where a keyspace before has it
abbrev pub taken_name : List ℕ → List Data → ℕ × Data → List (List ℕ)
taken_name path keyspaces p =
    unless (not (is_taken_by (is_name_of (take p.0 keyspaces)) (text_at (codes "name") p.1))) (child (child path (decimal p.0)) (codes "name"))

abbrev pub taken_names : Look
taken_names path d = flat_map (taken_name path (items_of d)) (enumerate_from 0 (items_of d))

-- the paths that break each rule of a catalog file: it has V1 alone
abbrev pub catalog_breaks : Data → VschemaRule → List (List ℕ)
catalog_breaks d MemberKind = in_object catalog_kinds [] d ++ at_member (codes "keyspaces") taken_names [] d
catalog_breaks d VindexType = []
catalog_breaks d LookupMembers = []
catalog_breaks d ColumnVindex = []
catalog_breaks d PlainTable = []
catalog_breaks d LookupFlag = []

abbrev pub keyspace_of : Data → KeyspaceFile
keyspace_of d = record {
  name = text_named (codes "name") d;
  shards = map text_of (items_named (codes "shards") d);
  vschema = text_named (codes "vschema") d;
  schema = text_named (codes "schema") d;
}

-- the keyspaces, in the order of the file
abbrev pub keyspaces_of : Data → List KeyspaceFile
keyspaces_of d = map keyspace_of (items_named (codes "keyspaces") d)
