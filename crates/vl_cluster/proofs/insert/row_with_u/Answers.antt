use Rattle.vl_cluster.proofs.Finding.{is_shard, no_entry, found_row, entry_has_row}
use Rattle.vl_cluster.proofs.insert.row_with_u.Goals as goal

pub returns-in_default-clause-none : goal.returns-in_default-clause-none
returns-in_default-clause-none c =
    let here = is_shard c.args.shards.now c.place_of.result c.index-shards-place_of.result c.requires c.place_of.ensures.exists c.index-shards-place_of.is in
    no_entry c.args.shards.now c.place_of.result c.args.u c.index-shards-place_of.result c.requires here c.place_of.ensures.shard c.in_default.ensures.none

pub returns-clause-some : goal.returns-clause-some
returns-clause-some c =
    let here = is_shard c.args.shards.now c.shard_of.result c.index-shards-shard_of.result c.requires c.shard_of.ensures.exists c.index-shards-shard_of.is in
    found_row c.args.shards.now c.shard_of.result c.args.u c.index-shards-shard_of.result c.row_with.result c.requires here c.row_with.ensures.some

pub returns-clause-none : goal.returns-clause-none
returns-clause-none c =
    let at = is_shard c.args.shards.now c.place_of.result c.index-shards-place_of.result c.requires c.place_of.ensures.exists c.index-shards-place_of.is in
    let here = is_shard c.args.shards.now c.shard_of.result c.index-shards-shard_of.result c.requires c.shard_of.ensures.exists c.index-shards-shard_of.is in
    let found = c.in-Some.ensures.some in
    entry_has_row c.args.shards.now c.place_of.result c.shard_of.result c.args.u c.index-shards-place_of.result c.index-shards-shard_of.result c.in-Some.entry c.row_with.result
    c.requires at here found.0 found.1 c.shard_of.ensures.shard c.row_with.ensures.none
