use Rattle.std.proofs.Common.{◌≡◌, drop}
use Rattle.vl_rules.specs.Order.{lookup_broken}
use Rattle.vl_rules.proofs.order.lookup_broken.Given as goal

abbrev pub invariant-loop-number : goal.invariant-loop-number
invariant-loop-number l = lookup_broken l.catalog 0 l.catalog.lookups ≡ lookup_broken l.catalog l.number (drop l.number l.catalog.lookups)
