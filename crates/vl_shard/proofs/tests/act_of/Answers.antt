use Rattle.std.proofs.Common.{ℕ, sym, subst}
use Rattle.vl_catalog.specs.CatalogA.{catalog_a}
use Rattle.vl_port.specs.Placing.{IsValueIn}
use Rattle.vl_shard.proofs.tests.act_of.Goals as goal

pub returns-in_ok-plain-in-Commit : goal.returns-in_ok-plain-in-Commit
returns-in_ok-plain-in-Commit c = c.in_ok-plain-in-Commit.ensures.fits 0

pub returns-in_ok-plain-in-Find : goal.returns-in_ok-plain-in-Find
returns-in_ok-plain-in-Find c = c.in_ok-plain-in-Find.ensures.fits 0

pub returns-in_ok-key-in-RemoveIf : goal.returns-in_ok-key-in-RemoveIf
returns-in_ok-key-in-RemoveIf c =
    let e = c.in_ok-key-in-RemoveIf.ensures in
    ((c.in_ok-key-in-RemoveIf.field-0-1, e.placed), subst (λ (t : ℕ). IsValueIn catalog_a t 1 c.value-value.result) (sym e.table) c.value-value.ensures)
