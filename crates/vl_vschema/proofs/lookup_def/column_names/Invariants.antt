use Rattle.std.proofs.Common.{◌≡◌, map}
use Rattle.vl_vschema.specs.Vschema.{trimmed}
use Rattle.vl_vschema.proofs.lookup_def.column_names.Given as goal

abbrev pub invariant-loop-part : goal.invariant-loop-part
invariant-loop-part l = l.names.items ≡ map trimmed (map (λ part. part.now) l.yielded)
