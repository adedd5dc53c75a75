use Rattle.std.proofs.Common.{rules, ◌≡◌, [], ◌∷◌, ◌∙◌, ap, map, codes}
use Rattle.vl_run.specs.Local.IsLocal.{Tables, Databases, Warnings, Version, Database}
use Rattle.vl_run.specs.Local.{text_column, text_rows}
use Rattle.vl_local.proofs.listing.show_warnings.Goals as goal

pub returns : goal.returns
returns c catalog chosen = Warnings c.push-3.new.self.items c.in_ok-rows.rows.items (search rules) c.in_ok-rows.ensures
