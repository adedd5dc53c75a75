use Rattle.vl_lookup.proofs.Asides.{asked_with}
use Rattle.vl_lookup.proofs.Answered.{check_answer}
use Rattle.vl_route.proofs.Homes.{shards_within}
use Rattle.vl_lookup.proofs.Matching.{matched}
use Rattle.vl_lookup.proofs.Rows.{entry_fits}
use Rattle.vl_lookup.proofs.asking.ask_aside.Goals as goal

pub returns-clause-asked : goal.returns-clause-asked
returns-clause-asked g c = λ list. asked_with list c.args.tx.now c.ask.new.tx c.args.group c.args.shard c.args.act.now c.ask.result (g.P.ShardPort.told c.args.port.now) (g.P.ShardPort.told c.ask.new.port) c.ask.ensures.asked
