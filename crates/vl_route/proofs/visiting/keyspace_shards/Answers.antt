use Rattle.std.proofs.Common.{◌++◌, ◌∷◌, [], ◌+◌, sym, ◌∙◌, ap}
use Rattle.vl_route.proofs.Gathering.{range_more}
use Rattle.vl_route.proofs.visiting.keyspace_shards.Goals as goal

pub loop-n-preserved : goal.loop-n-preserved
loop-n-preserved c =
    c.in_ok-push.ensures.items ∙ ap (λ zs. zs ++ (c.first_shard-first.result + c.loop-n.n) ∷ []) c.loop-n.invariant ∙ sym (range_more c.first_shard-first.result c.loop-n.n)
