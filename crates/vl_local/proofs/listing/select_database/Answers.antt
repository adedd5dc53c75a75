use Rattle.std.proofs.Common.{rules, ◌≡◌, [], ◌∷◌, ◌∙◌, ap, map, codes}
use Rattle.vl_run.specs.Local.IsLocal.{Tables, Databases, Warnings, Version, Database}
use Rattle.vl_run.specs.Local.{text_column, text_rows}
use Rattle.vl_local.proofs.listing.select_database.Goals as goal

pub returns : goal.returns
returns c catalog warnings = Database c.in_ok-columns.columns.items c.in_ok-rows.rows.items
    (c.in_ok-columns.ensures ∙ ap (λ column. column ∷ []) c.in_ok-text_column.ensures)
    (search rules)
