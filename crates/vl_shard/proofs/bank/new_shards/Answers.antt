use Rattle.std.proofs.Common.{◌+◌, List, sym, subst}
use Rattle.vl_shard.specs.Parts.{Parts}
use Rattle.vl_shard.specs.Banks.{AreNew}
use Rattle.vl_shard.proofs.Banking.{new_more}
use Rattle.vl_shard.proofs.bank.new_shards.Goals as goal

pub loop-preserved : goal.loop-preserved
loop-preserved c =
    subst (λ (l : List Parts). AreNew l (c.loop.counter + 1)) (sym c.in_ok-push.ensures.items)
    (new_more c.loop.shards.items c.loop.counter c.new.result c.loop.invariant c.new.ensures.empty c.new.ensures.incarnation c.new.ensures.kept)
