use Rattle.std.proofs.Common.{rules, ◌≡◌, [], ◌∷◌, ◌∙◌, ap, map, codes}
use Rattle.vl_run.specs.Local.IsLocal.{Tables, Databases, Warnings, Version, Database}
use Rattle.vl_run.specs.Local.{text_column, text_rows}
use Rattle.vl_local.proofs.Both.{both_ok}
use Rattle.vl_local.proofs.listing.show_tables.Goals as goal

pub returns : goal.returns
returns c = both_ok c.of_texts.result _ _ _ (λ set columns rows warnings. Tables c.sort_names.new.names.items set.columns.items set.rows.items (search rules) columns rows) c.of_texts.ensures.columns c.of_texts.ensures.rows
