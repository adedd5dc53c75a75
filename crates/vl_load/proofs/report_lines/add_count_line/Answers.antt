use Rattle.std.proofs.Common.{append_assoc}
use Rattle.vl_load.proofs.report_lines.add_count_line.Goals as goal

pub returns : goal.returns
returns c =
    let head = c.in_ok-extend_from_slice.ensures.items in
    let keyspaces = rw (head, c.len.ensures) at c.in_ok-add_count.ensures in
    let shards = rw (keyspaces, c.requires) at c.in_ok-add_count-2.ensures in
    let tables = rw (shards, c.len-2.ensures) at c.in_ok-add_count-3.ensures in
    let lookups = rw (tables, c.len-3.ensures) at c.in_ok-add_count-4.ensures in
    simp append_assoc at lookups
