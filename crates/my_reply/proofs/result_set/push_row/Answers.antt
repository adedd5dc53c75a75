use Rattle.std.proofs.Common.{[], ◌∷◌, refl, rules}
use Rattle.my_reply.specs.ResultSet.{row_payload}
use Rattle.my_reply.proofs.Packets.{opened, row_fits}
use Rattle.my_reply.proofs.result_set.push_row.Goals as goal

pub returns : goal.returns
returns c =
    c.close.ensures c.args.buf.now.items (0 ∷ 0 ∷ 0 ∷ 0 ∷ []) (row_payload c.args.row.now) (opened _ _ _ _ _ c.in_ok-extend_from_slice.ensures.items c.in_ok-push_values.ensures) (search rules) refl

pub close-requires-clause-short : goal.close-requires-clause-short
close-requires-clause-short c =
    row_fits c.args.row.now c.args.buf.now.items (0 ∷ 0 ∷ 0 ∷ 0 ∷ []) _ _ _ c.requires (search rules) c.in_ok-extend_from_slice.ensures.items refl c.in_ok-push_values.ensures
