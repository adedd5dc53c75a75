use Rattle.vl_rules.proofs.TablesKept.{shards_counted}
use Rattle.vl_load.proofs.report_lines.report.Goals as goal

pub unreachable-requires : goal.unreachable-requires
unreachable-requires c = c.in-None.ensures (shards_counted c.args.loaded.now.catalog c.requires)
