use Rattle.vl_cluster.proofs.Finding.{is_shard, no_id}
use Rattle.vl_cluster.proofs.insert.row_with_id.Goals as goal

pub returns-clause-none : goal.returns-clause-none
returns-clause-none c =
    let here = is_shard c.args.shards.now c.place_of.result c.index-shards-place_of.result c.requires c.place_of.ensures.exists c.index-shards-place_of.is in
    no_id c.args.shards.now c.place_of.result c.args.id c.index-shards-place_of.result c.row_of.result c.requires here c.place_of.ensures.shard c.row_of.ensures.none
