use Rattle.std.proofs.Common.{ℕ, List, Option, ap, ◌∙◌}
use Rattle.std.specs.Prelude.{option_and_then}
use Rattle.std.specs.Option.{option_map}
use Rattle.vl_catalog.specs.declared.column_vindex.ColumnVindex.{ColumnVindex}
use Rattle.vl_catalog.specs.declared.vindex_def.VindexDef.{VindexDef}
use Rattle.vl_catalog.specs.Build.{kind_of, one_column, primary_by}
use Rattle.vl_catalog.proofs.bare_table.primary_of.Goals as goal

pub returns-in-Some : goal.returns-in-Some
returns-in-Some c =
    c.primary_by.ensures
    ∙ ap (λ (o : Option VindexDef). primary_by (option_map (λ v. v.kind) o) c.one_column.result) c.kind_of.ensures
    ∙ ap (λ (name : List ℕ). primary_by (kind_of c.args.vindexes.now name) c.one_column.result) c.as_slice.ensures
    ∙ ap (primary_by (kind_of c.args.vindexes.now c.in-Some.first.now.vindex))
    (c.one_column.ensures ∙ ap (one_column c.args.columns.now) c.as_slice-in-Some.ensures)
    ∙ ap (option_and_then (λ (first : ColumnVindex). primary_by (kind_of c.args.vindexes.now first.vindex) (one_column c.args.columns.now first.columns)))
    c.in-Some.ensures.value
