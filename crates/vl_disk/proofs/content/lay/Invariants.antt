use Rattle.std.proofs.Common.{◌≤◌, drop, vec_capacity}
use Rattle.vl_disk.specs.Content.{all_picked, cut_up, laid}
use Rattle.vl_disk.proofs.Laying.{IsLaying}
use Rattle.vl_disk.proofs.content.lay.Given as goal

abbrev pub invariant-loop-piece : goal.invariant-loop-piece
invariant-loop-piece l =
    IsLaying l.pick (laid l.fn.file.items (all_picked l.pick (cut_up l.pieces l.fn.log))) (drop l.piece-index l.pieces) l.file.items l.rest
    × (vec_capacity l.fn.file ≤ vec_capacity l.file)
