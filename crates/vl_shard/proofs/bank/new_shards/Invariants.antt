use Rattle.vl_shard.specs.Banks.{AreNew}
use Rattle.vl_shard.proofs.bank.new_shards.Given as goal

abbrev pub invariant-loop : goal.invariant-loop
invariant-loop l = AreNew l.shards.items l.counter
