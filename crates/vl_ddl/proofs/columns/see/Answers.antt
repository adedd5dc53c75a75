use Rattle.std.proofs.Common.{not, ap, ◌∙◌}
use Rattle.vl_ddl.proofs.SeenLemmas.{holds_more}
use Rattle.vl_ddl.proofs.columns.see.Goals as goal

pub returns : goal.returns
returns c names holds = (
  c.in_ok-insert.ensures.added ∙ ap not (holds c.args.name.now),
  holds_more c.args.seen.now c.insert.new.self names c.args.name holds c.in_ok-insert.ensures.updates.0,
)
