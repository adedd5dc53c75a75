use Rattle.std.proofs.Common.{List, ◌∙◌, subst}
use Rattle.vl_vindex.specs.KeyRange.{Range}
use Rattle.vl_vindex.specs.Ring.{IsRing}
use Rattle.vl_vindex.specs.Checking.{IsLastStart}
use Rattle.vl_vindex.proofs.Chain.{shard_when_found, shard_of-is}
use Rattle.vl_vindex.proofs.ring.Ring.shard_of.Goals as goal

pub returns-clause-value : goal.returns-clause-value
returns-clause-value c =
    let here = c.deref.ensures.value ∙ c.self.view_is in
    let P : List Range → Type 0 = λ ring. IsLastStart ring c.args.ksid.now c.last_start.result in
    shard_of-is c.args.self.now c.args.ksid.now c.last_start.result
    (shard_when_found c.args.self.now c.args.ksid.now c.last_start.result (subst IsRing c.self.view_is c.self.invariant)
    (subst P here c.last_start.ensures))

pub returns-clause-holds : goal.returns-clause-holds
returns-clause-holds c =
    let here = c.deref.ensures.value ∙ c.self.view_is in
    let P : List Range → Type 0 = λ ring. IsLastStart ring c.args.ksid.now c.last_start.result in
    shard_when_found c.args.self.now c.args.ksid.now c.last_start.result (subst IsRing c.self.view_is c.self.invariant)
    (subst P here c.last_start.ensures)
