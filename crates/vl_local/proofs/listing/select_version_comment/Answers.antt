use Rattle.std.proofs.Common.{◌≡◌, [], ◌∷◌, ◌∙◌, ap, map, codes}
use Rattle.vl_run.specs.Local.IsLocal.{Tables, Databases, Warnings, Version, Database}
use Rattle.vl_run.specs.Local.{text_column, text_rows}
use Rattle.vl_local.proofs.Both.{both_ok}
use Rattle.vl_local.proofs.listing.select_version_comment.Goals as goal

pub returns : goal.returns
returns c = both_ok c.of_texts.result _ _ _ (λ set columns rows catalog chosen warnings. Version set.columns.items set.rows.items columns (rows ∙ ap text_rows (c.in_ok-texts.ensures ∙ ap (λ text. text ∷ []) c.in_ok-from_slice.ensures))) c.of_texts.ensures.columns c.of_texts.ensures.rows
