use Rattle.std.proofs.Common.{ℕ, List, drop}
use Rattle.vl_values.specs.declared.key.Key.{Key}
use Rattle.vl_values.specs.Keyed.{InKeyOrder}
use Rattle.vl_locks.specs.Taking.{IsOldBut, WereFree}
use Rattle.vl_locks.proofs.locks.Locks.untake_all.Given as goal

abbrev pub invariant-loop-key : goal.invariant-loop-key
invariant-loop-key l =
    record {
      others : (before : List (Key × ℕ)) → WereFree before l.fresh → IsOldBut before l.fresh l.conn l.fn.self → IsOldBut before (drop l.key-index l.fresh) l.conn l.self;
      order : InKeyOrder l.self;
    }
