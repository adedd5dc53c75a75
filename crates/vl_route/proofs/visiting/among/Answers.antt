use Rattle.std.proofs.Common.{rules}
use Rattle.std.specs.Prelude.{◌==◌}
use Rattle.std.specs.List.{list_any}
use Rattle.std.proofs.lemmas.Fn.{filter_same}
use Rattle.vl_route.proofs.visiting.among.Goals as goal

pub returns : goal.returns
returns c = filter_same _ (λ shard. list_any (λ place. place == shard) c.args.places.now) _ (λ x b f r. search rules) _ _ c.retain.ensures.filtered
