use Rattle.std.proofs.Common.{take}
use Rattle.vl_audit.specs.Finding.{Adds, ByThese}
use Rattle.vl_audit.proofs.auditing.find_by.Given as goal

abbrev pub invariant-loop-lookup : goal.invariant-loop-lookup
invariant-loop-lookup g l = Adds (ByThese l.tables (g.F.Finds.is_found l.catalog l.tables) (take l.lookup-index l.lookups)) l.initial.found l.found
