use Rattle.std.proofs.Common.{ℕ, List, length, map, ap, sym, ◌∙◌}
use Rattle.vl_model.specs.Entries.{from_columns}
use Rattle.vl_lookup.specs.Entry.{entry_row, test_of}
use Rattle.vl_lookup.proofs.Made.{IsRead, each_of, entry_is, fitting, found_in, key_made, keyspace_within, made_of, placed_at, ready_of}
use Rattle.vl_lookup.proofs.claim.Claim.new.Goals as goal

pub covers-requires : goal.covers-requires
covers-requires c =
    keyspace_within c.args.catalog.now c.in-Some-table.table_number c.in-Some-get-2.table.now c.requires.checked
    (found_in c.as_slice-3.result.now c.args.catalog.now.tables c.in-Some-table.table_number c.in-Some-get-2.table.now c.as_slice-3.ensures c.in-Some-get-2.ensures.lookup.3.0 c.in-Some-get-2.ensures.lookup.1)

pub returns-clause-made : goal.returns-clause-made
returns-clause-made c =
    let read : IsRead c.args.catalog.now c.args.number c.in-Some-owner.owner_number c.in-Some-table.table_number c.in-Some-column.column c.in-Some-to.to c.in-Some.lookup.now c.in-Some-get.owner.now c.in-Some-get-2.table.now = record {
      is_lookup = found_in c.as_slice.result.now c.args.catalog.now.lookups c.args.number c.in-Some.lookup.now c.as_slice.ensures c.in-Some.ensures.lookup.3.0 c.in-Some.ensures.lookup.1;
      has_owner = c.in-Some-owner.is;
      has_table = c.in-Some-table.is;
      has_column = c.in-Some-column.is;
      has_to = c.in-Some-to.is;
      is_owner = found_in c.as_slice-2.result.now c.args.catalog.now.tables c.in-Some-owner.owner_number c.in-Some-get.owner.now c.as_slice-2.ensures c.in-Some-get.ensures.lookup.3.0 c.in-Some-get.ensures.lookup.1;
      is_table = found_in c.as_slice-3.result.now c.args.catalog.now.tables c.in-Some-table.table_number c.in-Some-get-2.table.now c.as_slice-3.ensures c.in-Some-get-2.ensures.lookup.3.0 c.in-Some-get-2.ensures.lookup.1;
    } in
    let f =
    fitting c.args.catalog.now c.args.number c.in-Some-owner.owner_number c.in-Some-table.table_number c.in-Some-column.column c.in-Some-to.to c.in-Some.lookup.now c.in-Some-get.owner.now c.in-Some-get-2.table.now c.args.row.now c.in-Some-ksid_of.ksid c.requires.checked c.requires.indexed read
    (each_of c.as_slice-from.result.now c.in-Some.lookup.now.from c.as_slice-from.ensures (c.is_each_once.ensures c.if-not-is_each_once.false)) c.as_slice-5.ensures.within in
    let entry =
    entry_is c.args.row.now c.in_ok-entry.entry.items c.as_slice-4.result.now c.in_ok-columns.columns.items (from_columns c.in-Some.lookup.now c.in-Some-get.owner.now) c.as_slice-from.result.now c.in-Some.lookup.now.from c.as_slice-5.result.now c.in-Some-ksid_of.ksid c.in-Some-to.to c.len-width.result (length c.in-Some-get-2.table.now.columns)
    c.in_ok-entry.ensures c.as_slice-4.ensures.value c.in_ok-columns.ensures c.as_slice-from.ensures c.as_slice-5.ensures.value c.len-width.ensures in
    let whole = entry_row c.args.row.now (from_columns c.in-Some.lookup.now c.in-Some-get.owner.now) c.in-Some.lookup.now.from c.in-Some-to.to c.in-Some-ksid_of.ksid (length c.in-Some-get-2.table.now.columns) in
    let key = key_made c.in-Some-table.table_number c.in-Some-get-2.table.now c.as_slice-6.result.now c.in_ok-entry.entry.items whole c.in_ok-key.key c.in_ok-key.ensures c.as_slice-6.ensures.value entry in
    let tests = c.from_vec-2.ensures ∙ c.in_ok-tests.ensures ∙ ap (map (test_of c.args.row.now)) (c.as_slice-8.ensures.value ∙ c.in_ok-columns.ensures) in
    made_of c.args.catalog.now c.args.number c.in-Some-owner.owner_number c.in-Some-table.table_number c.in-Some-column.column c.in-Some-to.to c.in-Some.lookup.now c.in-Some-get.owner.now c.in-Some-get-2.table.now c.args.row.now c.in-Some-ksid_of.ksid c.in_ok-key.key c.from_vec.result c.from_vec-2.result c.in-Some-place_of.shard c.requires.checked read f key (c.from_vec.ensures ∙ entry) tests (sym c.ksid_of.ensures ∙ c.in-Some-ksid_of.is)

pub returns-clause-ready : goal.returns-clause-ready
returns-clause-ready c =
    let read : IsRead c.args.catalog.now c.args.number c.in-Some-owner.owner_number c.in-Some-table.table_number c.in-Some-column.column c.in-Some-to.to c.in-Some.lookup.now c.in-Some-get.owner.now c.in-Some-get-2.table.now = record {
      is_lookup = found_in c.as_slice.result.now c.args.catalog.now.lookups c.args.number c.in-Some.lookup.now c.as_slice.ensures c.in-Some.ensures.lookup.3.0 c.in-Some.ensures.lookup.1;
      has_owner = c.in-Some-owner.is;
      has_table = c.in-Some-table.is;
      has_column = c.in-Some-column.is;
      has_to = c.in-Some-to.is;
      is_owner = found_in c.as_slice-2.result.now c.args.catalog.now.tables c.in-Some-owner.owner_number c.in-Some-get.owner.now c.as_slice-2.ensures c.in-Some-get.ensures.lookup.3.0 c.in-Some-get.ensures.lookup.1;
      is_table = found_in c.as_slice-3.result.now c.args.catalog.now.tables c.in-Some-table.table_number c.in-Some-get-2.table.now c.as_slice-3.ensures c.in-Some-get-2.ensures.lookup.3.0 c.in-Some-get-2.ensures.lookup.1;
    } in
    let f =
    fitting c.args.catalog.now c.args.number c.in-Some-owner.owner_number c.in-Some-table.table_number c.in-Some-column.column c.in-Some-to.to c.in-Some.lookup.now c.in-Some-get.owner.now c.in-Some-get-2.table.now c.args.row.now c.in-Some-ksid_of.ksid c.requires.checked c.requires.indexed read
    (each_of c.as_slice-from.result.now c.in-Some.lookup.now.from c.as_slice-from.ensures (c.is_each_once.ensures c.if-not-is_each_once.false)) c.as_slice-5.ensures.within in
    let entry =
    entry_is c.args.row.now c.in_ok-entry.entry.items c.as_slice-4.result.now c.in_ok-columns.columns.items (from_columns c.in-Some.lookup.now c.in-Some-get.owner.now) c.as_slice-from.result.now c.in-Some.lookup.now.from c.as_slice-5.result.now c.in-Some-ksid_of.ksid c.in-Some-to.to c.len-width.result (length c.in-Some-get-2.table.now.columns)
    c.in_ok-entry.ensures c.as_slice-4.ensures.value c.in_ok-columns.ensures c.as_slice-from.ensures c.as_slice-5.ensures.value c.len-width.ensures in
    let whole = entry_row c.args.row.now (from_columns c.in-Some.lookup.now c.in-Some-get.owner.now) c.in-Some.lookup.now.from c.in-Some-to.to c.in-Some-ksid_of.ksid (length c.in-Some-get-2.table.now.columns) in
    let key = key_made c.in-Some-table.table_number c.in-Some-get-2.table.now c.as_slice-6.result.now c.in_ok-entry.entry.items whole c.in_ok-key.key c.in_ok-key.ensures c.as_slice-6.ensures.value entry in
    let tests = c.from_vec-2.ensures ∙ c.in_ok-tests.ensures ∙ ap (map (test_of c.args.row.now)) (c.as_slice-8.ensures.value ∙ c.in_ok-columns.ensures) in
    let placed = placed_at c.args.catalog.now c.in-Some-table.table_number c.as_slice-7.result.now c.in_ok-entry.entry.items whole c.place_of.result c.in-Some-place_of.shard c.place_of.ensures c.in-Some-place_of.is c.as_slice-7.ensures.value entry in
    ready_of c.args.catalog.now c.args.number c.in-Some-owner.owner_number c.in-Some-table.table_number c.in-Some-column.column c.in-Some-to.to c.in-Some.lookup.now c.in-Some-get.owner.now c.in-Some-get-2.table.now c.args.row.now c.in-Some-ksid_of.ksid c.in_ok-key.key c.from_vec.result c.from_vec-2.result c.in-Some-place_of.shard c.requires.checked read f key (c.from_vec.ensures ∙ entry) tests c.covers.ensures placed
