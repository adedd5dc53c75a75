use Rattle.std.proofs.Common.{◌≡◌, take}
use Rattle.std.specs.BTreeMap.{get}
use Rattle.std.specs.List.{filter_map}
use Rattle.std.specs.Option.{option_or}
use Rattle.vl_audit.specs.Gathering.{first_given}
use Rattle.vl_audit.proofs.gathering.gather_on.Given as goal

abbrev pub invariant-loop-pair : goal.invariant-loop-pair
invariant-loop-pair g l =
    (q : g.row.K.Denot) → get g.K.Ord.cmp l.map q
    ≡ option_or (get g.K.Ord.cmp l.initial.map q) (first_given g.K.Ord.cmp (filter_map (g.G.Gives.gives l.giver l.shard) (take l.pair-index l.pairs)) q)
