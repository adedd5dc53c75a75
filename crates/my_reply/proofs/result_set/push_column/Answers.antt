use Rattle.std.proofs.Common.{[], ◌∷◌, refl, rules}
use Rattle.my_reply.specs.ResultSet.{column_payload}
use Rattle.my_reply.proofs.Packets.{opened}
use Rattle.my_reply.proofs.result_set.push_column.Goals as goal

pub returns : goal.returns
returns c =
    c.close.ensures c.args.buf.now.items (0 ∷ 0 ∷ 0 ∷ 0 ∷ []) (column_payload c.args.column.now) (opened _ _ _ _ _ c.in_ok-extend_from_slice.ensures.items c.in_ok-push_definition.ensures) (search rules) refl
