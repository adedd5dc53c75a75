-- Which paths break the rules V1 to V6.
use Rattle.std.specs.Prelude.{ℕ, ◌&&◌, ◌||◌, codes, List, [], ◌∷◌, ◌++◌, Bool, true, false, not, if◌then◌else◌, Option, is_some, option_and_then}
use Rattle.serde_json.specs.Data.{Data}
use Rattle.serde_json.specs.Find.{get, as_bool, as_str, as_array, as_object}
use Rattle.vl_vschema.specs.declared.vschema_rule.VschemaRule.{VschemaRule}
use Rattle.vl_vschema.specs.declared.vschema_rule.VschemaRule.TheVariants.{MemberKind, VindexType, LookupMembers, ColumnVindex, PlainTable, LookupFlag}
use Rattle.vl_vschema.specs.Json.{has, is_this, is_text, text_at, Look, unless, here, at_member, each_member, each_item}
use Rattle.vl_vschema.specs.Path.{child}

-- ---- V1: a member has the wrong JSON kind

abbrev pub not_text : Look
not_text path d = unless (is_some (as_str d)) path

abbrev pub not_boolean : Look
not_boolean path d = unless (is_some (as_bool d)) path

-- an object, in which more is looked at
abbrev pub in_object : Look → Look
in_object look path d = if is_some (as_object d) then look path d else path ∷ []

-- a list, in which more is looked at
abbrev pub in_list : Look → Look
in_list look path d = if is_some (as_array d) then look path d else path ∷ []

abbrev pub vindex_kinds : Look
vindex_kinds path d = at_member (codes "type") not_text path d
    ++ (at_member (codes "params") (in_object (each_member not_text)) path d
    ++ at_member (codes "owner") not_text path d)

abbrev pub column_vindex_kinds : Look
column_vindex_kinds path d = at_member (codes "column") not_text path d
    ++ (at_member (codes "columns") (in_list (each_item not_text)) path d
    ++ at_member (codes "name") not_text path d)

abbrev pub table_kinds : Look
table_kinds = at_member (codes "column_vindexes") (in_list (each_item (in_object column_vindex_kinds)))

abbrev pub vschema_kinds : Look
vschema_kinds path d = at_member (codes "sharded") not_boolean path d
    ++ (at_member (codes "vindexes") (in_object (each_member (in_object vindex_kinds))) path d
    ++ at_member (codes "tables") (in_object (each_member (in_object table_kinds))) path d)

abbrev pub wrong_kinds : Look
wrong_kinds = in_object vschema_kinds

-- ---- V2: the type isn't one of the four

abbrev pub has_type : List ℕ → Data → Bool
has_type text d = is_this text (text_at (codes "type") d)

abbrev pub is_lookup : Data → Bool
is_lookup d = has_type (codes "consistent_lookup") d || has_type (codes "consistent_lookup_unique") d

abbrev pub is_known : Data → Bool
is_known d = has_type (codes "numeric") d || (has_type (codes "binary_md5") d || is_lookup d)

-- a missing member has the path of its object
abbrev pub unknown_type : Look
unknown_type path d = if has (codes "type") d then unless (is_known d) (child path (codes "type")) else path ∷ []

abbrev pub unknown_types : Look
unknown_types = at_member (codes "vindexes") (each_member unknown_type)

-- ---- V3: a lookup lacks its owner, or one of the table and its columns

abbrev pub params_lack : Look
params_lack path d = unless (has (codes "table") d && (has (codes "from") d && has (codes "to") d)) path

abbrev pub lookup_lacks : Look
lookup_lacks path d = if is_lookup d
    then unless (has (codes "owner") d && has (codes "params") d) path ++ at_member (codes "params") params_lack path d
    else []

abbrev pub lacking_lookups : Look
lacking_lookups = at_member (codes "vindexes") (each_member lookup_lacks)

-- ---- V4: a column vindex names no vindex, or has neither or both of `column` and `columns`

-- the value is the name of one of the vindexes
abbrev pub is_vindex : Option Data → Data → Bool
is_vindex vindexes d = is_some (option_and_then (λ name. option_and_then (get name) vindexes) (as_str d))

abbrev pub no_vindex : Option Data → Look
no_vindex vindexes path d = unless (is_vindex vindexes d) path

abbrev pub has_one : Bool → Bool → Bool
has_one true b = not b
has_one false b = b

abbrev pub wrong_column_vindex : Option Data → Look
wrong_column_vindex vindexes path d =
    unless (has_one (has (codes "column") d) (has (codes "columns") d) && has (codes "name") d) path
    ++ at_member (codes "name") (no_vindex vindexes) path d

abbrev pub wrong_column_vindexes : Look
wrong_column_vindexes path d =
    at_member (codes "tables") (each_member (at_member (codes "column_vindexes") (each_item (wrong_column_vindex (get (codes "vindexes") d))))) path d

-- ---- V5: a table has a `type` that isn't the empty text, or `pinned`

abbrev pub not_empty : Look
not_empty path d = unless (is_text [] d) path

abbrev pub special_table : Look
special_table path d = at_member (codes "type") not_empty path d ++ at_member (codes "pinned") here path d

abbrev pub special_tables : Look
special_tables = at_member (codes "tables") (each_member special_table)

-- ---- V6: `ignore_nulls` or `write_only` is neither "true" nor "false"

abbrev pub not_flag : Look
not_flag path d = unless (is_text (codes "true") d || is_text (codes "false") d) path

abbrev pub wrong_params : Look
wrong_params path d = at_member (codes "ignore_nulls") not_flag path d ++ at_member (codes "write_only") not_flag path d

abbrev pub lookup_flags : Look
lookup_flags path d = if is_lookup d then at_member (codes "params") wrong_params path d else []

abbrev pub wrong_flags : Look
wrong_flags = at_member (codes "vindexes") (each_member lookup_flags)

-- ---- rule by rule

-- the paths that break each rule of a VSchema file
abbrev pub breaks : Data → VschemaRule → List (List ℕ)
breaks d MemberKind = wrong_kinds [] d
breaks d VindexType = unknown_types [] d
breaks d LookupMembers = lacking_lookups [] d
breaks d ColumnVindex = wrong_column_vindexes [] d
breaks d PlainTable = special_tables [] d
breaks d LookupFlag = wrong_flags [] d
