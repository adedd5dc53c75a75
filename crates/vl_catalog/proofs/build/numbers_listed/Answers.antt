use Rattle.std.proofs.Common.{arith}
use Rattle.std.proofs.lemmas.Grind.{common_steps}
use Rattle.std.proofs.lemmas.List.Elements.{filter_map-append}
use Rattle.vl_catalog.proofs.build.numbers_listed.Goals as goal

pub loop-vindex-preserved : goal.loop-vindex-preserved
loop-vindex-preserved c = grind (arith, common_steps, filter_map-append)
