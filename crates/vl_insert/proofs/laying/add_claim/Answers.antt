use Rattle.std.proofs.Common.{sym, ◌∙◌}
use Rattle.vl_insert.specs.Begun.{is_indexed_by}
use Rattle.vl_insert.proofs.Laid.{none_laid, one_laid}
use Rattle.vl_insert.proofs.laying.add_claim.Goals as goal

pub returns-then-not-is_indexed_by : goal.returns-then-not-is_indexed_by
returns-then-not-is_indexed_by c =
    none_laid c.args.catalog.now c.args.row.now (is_indexed_by c.args.catalog.now c.args.row.now) c.args.number c.args.list.now.items (sym c.is_indexed_by.ensures ∙ c.if-not-is_indexed_by.true)

pub returns : goal.returns
returns c =
    one_laid c.args.catalog.now c.args.row.now (is_indexed_by c.args.catalog.now c.args.row.now) c.args.number c.in_ok-claim.claim c.args.list.now.items c.push.new.self.items (sym c.is_indexed_by.ensures ∙ c.if-not-is_indexed_by.false)
    c.in_ok-claim.ensures.made c.in_ok-claim.ensures.ready c.in_ok-push.ensures.items
