-- What a VSchema file has besides: it is read and listed.
use Rattle.std.specs.Prelude.{ℕ, codes, List, [], ◌∷◌, ◌++◌, if◌then◌else◌}
use Rattle.std.specs.List.{flat_map, list_any}
use Rattle.std.specs.Str.{bytes_eq}
use Rattle.vl_vschema.specs.Breaking.{is_lookup}
use Rattle.vl_vschema.specs.Json.{members_of, Look, unless, here, at_member, each_member, each_item}
use Rattle.vl_vschema.specs.Path.{child}

-- the members of other names than these
abbrev pub others : List (List ℕ) → Look
others names path d = flat_map (λ m. unless (list_any (bytes_eq m.0) names) (child path m.0)) (members_of d)

abbrev pub vindex_names : List (List ℕ)
vindex_names = codes "type" ∷ codes "params" ∷ codes "owner" ∷ []

abbrev pub param_names : List (List ℕ)
param_names = codes "table" ∷ codes "from" ∷ codes "to" ∷ codes "ignore_nulls" ∷ codes "write_only" ∷ []

abbrev pub table_names : List (List ℕ)
table_names = codes "column_vindexes" ∷ codes "type" ∷ codes "pinned" ∷ []

abbrev pub column_vindex_names : List (List ℕ)
column_vindex_names = codes "column" ∷ codes "columns" ∷ codes "name" ∷ []

abbrev pub file_names : List (List ℕ)
file_names = codes "sharded" ∷ codes "vindexes" ∷ codes "tables" ∷ []

-- the owner and all params, where the vindex is no lookup
abbrev pub ignored_params : Look
ignored_params path d = if is_lookup d
    then at_member (codes "params") (others param_names) path d
    else at_member (codes "owner") here path d ++ at_member (codes "params") (others []) path d

abbrev pub ignored_of_vindex : Look
ignored_of_vindex path d = others vindex_names path d ++ ignored_params path d

abbrev pub ignored_of_table : Look
ignored_of_table path d = others table_names path d
    ++ at_member (codes "column_vindexes") (each_item (others column_vindex_names)) path d

abbrev pub ignored : Look
ignored path d = others file_names path d
    ++ (at_member (codes "vindexes") (each_member ignored_of_vindex) path d
    ++ at_member (codes "tables") (each_member ignored_of_table) path d)
