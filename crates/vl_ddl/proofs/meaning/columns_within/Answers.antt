use Rattle.std.proofs.Common.{◌≡◌, ◌<◌, ◌+◌, List, [], ◌∷◌, ◌++◌, length, take, arith, sym, ap, ◌∙◌}
use Rattle.std.specs.List.{flat_map}
use Rattle.std.proofs.lemmas.List.{take_more}
use Rattle.vl_catalog.specs.declared.column.Column.{Column}
use Rattle.vl_ddl.specs.declared.part.Part.{Part}
use Rattle.vl_ddl.specs.Meaning.{column_in}
use Rattle.vl_ddl.proofs.ReadingSteps.{flat_push}
use Rattle.vl_ddl.proofs.meaning.columns_within.Goals as goal

pub loop-part-preserved : goal.loop-part-preserved
loop-part-preserved c names holds =
    let parts = c.args.parts.now in
    let i = c.loop-part.part-index in
    let part = c.part-item.result in
    let within : i < length parts = omega arith in
    let more : take (i + 1) parts ≡ take i parts ++ part ∷ [] = take_more parts i part within ∙ ap (λ (p : Part). take i parts ++ p ∷ []) (sym c.part-item.is) in
    c.in_ok-add_column.ensures names holds
    ∙ ap (λ (cs : List Column). cs ++ column_in names part) (c.loop-part.invariant names holds)
    ∙ sym (ap (flat_map (column_in names)) more ∙ flat_push (column_in names) (take i parts) part)
