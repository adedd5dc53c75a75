use Rattle.serde_json.specs.View.{view}
use Rattle.vl_vschema.specs.Breaking.{breaks}
use Rattle.vl_vschema.proofs.Rules.{AreKept}
use Rattle.vl_vschema.proofs.breaks.first_broken.Given as goal

-- no rule before is broken
abbrev pub invariant-loop-rule : goal.invariant-loop-rule
invariant-loop-rule l = AreKept (breaks (view l.file)) l.rule-index
