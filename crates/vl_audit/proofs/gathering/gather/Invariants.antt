use Rattle.std.proofs.Common.{◌≡◌, take}
use Rattle.std.specs.BTreeMap.{get}
use Rattle.std.specs.Option.{option_or}
use Rattle.vl_audit.specs.Gathering.{first_given, given_from}
use Rattle.vl_audit.proofs.gathering.gather.Given as goal

abbrev pub invariant-loop-shard : goal.invariant-loop-shard
invariant-loop-shard g l =
    (q : g.row.K.Denot) → get g.K.Ord.cmp l.map q
    ≡ option_or (get g.K.Ord.cmp l.initial.map q) (first_given g.K.Ord.cmp (given_from (g.G.Gives.gives l.giver) 0 (take l.shard l.tables)) q)
