use Rattle.std.proofs.Common.{◌≡◌, List, ℕ}
use Rattle.std.specs.BTreeMap.{values}
use Rattle.vl_record.proofs.Putting.{HasPutTo}
use Rattle.vl_record.proofs.rec.put_changes.Given as goal

abbrev pub invariant-loop-bytes : goal.invariant-loop-bytes
invariant-loop-bytes l = HasPutTo (λ (bytes : List ℕ). bytes) (values l.changes) l.initial.out l.out l.bytes-iterator
