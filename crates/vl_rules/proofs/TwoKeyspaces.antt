-- A catalog of two keyspaces, with the lookup of one served by a table of the other, keeps the rules; and
-- which rule is broken where one thing in it is wrong.
use Rattle.std.proofs.Common.{◌≡◌, ℕ, true, false, List, [], ◌∷◌, codes, Some, None, refl}
use Rattle.vl_values.specs.declared.col_type.ColType.TheVariants.{BigUint, VarChar, VarBinary}
use Rattle.vl_vindex.specs.KeyRange.{Range}
use Rattle.vl_catalog.specs.declared.catalog.Catalog.{Catalog}
use Rattle.vl_catalog.specs.declared.lookup.Lookup.{Lookup}
use Rattle.vl_catalog.specs.declared.table.Table.{Table}
use Rattle.vl_catalog.specs.declared.vindex.Vindex.TheVariants.{Numeric}
use Rattle.vl_catalog.specs.CatalogA.{column, column_vindex}
use Rattle.vl_rules.specs.declared.catalog_rule.CatalogRule.TheVariants.{UniqueTableName, PrimaryVindexInKey, OwnerListsLookup}
use Rattle.vl_rules.specs.Order.{Checked, first_broken}

abbrev range : List ℕ → List ℕ → Range
range start end = record { start = start; end = end }

abbrev corder : Table
corder = record {
  name = codes "corder";
  keyspace = 0;
  in_schema = true;
  in_vschema = true;
  columns = column (codes "customer_id") BigUint false ∷ column (codes "order_id") BigUint false ∷ column (codes "sku") (VarChar 64) true ∷ [];
  pk = 0 ∷ 1 ∷ [];
  primary = Some (record { column = 0; vindex = Numeric });
  column_vindexes = column_vindex (codes "customer_id") (codes "num") ∷ column_vindex (codes "order_id") (codes "corder_order") ∷ [];
  lookups = 0 ∷ [];
}

abbrev corder_order_idx : Table
corder_order_idx = record {
  name = codes "corder_order_idx";
  keyspace = 1;
  in_schema = true;
  in_vschema = true;
  columns = column (codes "order_id") BigUint false ∷ column (codes "keyspace_id") (VarBinary 16) true ∷ [];
  pk = 0 ∷ [];
  primary = None;
  column_vindexes = [];
  lookups = [];
}

abbrev corder_order : Lookup
corder_order = record {
  name = codes "corder_order";
  keyspace = 0;
  unique = true;
  column = Some 1;
  ignore_nulls = false;
  write_only = false;
  owner = Some 0;
  owner_name = codes "corder";
  table = Some 1;
  table_keyspace = Some (codes "product");
  table_name = codes "corder_order_idx";
  from = 0 ∷ [];
  to = Some 1;
}

abbrev with_tables : Table → Table → Lookup → Catalog
with_tables owner table lookup = record {
  keyspaces = record { name = codes "commerce"; sharded = true } ∷ record { name = codes "product"; sharded = false } ∷ [];
  tables = owner ∷ table ∷ [];
  lookups = lookup ∷ [];
  rings = (range [] (0x40 ∷ []) ∷ range (0x40 ∷ []) (0x80 ∷ []) ∷ range (0x80 ∷ []) (0xc0 ∷ []) ∷ range (0xc0 ∷ []) [] ∷ []) ∷ (range [] [] ∷ []) ∷ [];
}

two_keyspaces_checked : Checked (with_tables corder corder_order_idx corder_order)
two_keyspaces_checked = refl

off_key : first_broken (with_tables (record corder { pk = 1 ∷ [] }) corder_order_idx corder_order) ≡ Some (codes "corder", PrimaryVindexInKey)
off_key = refl

off_name : first_broken (with_tables corder (record corder_order_idx { name = codes "corder" }) corder_order) ≡ Some (codes "corder", UniqueTableName)
off_name = refl

off_owner : first_broken (with_tables corder corder_order_idx (record corder_order { owner = None; owner_name = codes "nobody" })) ≡ Some (codes "corder", OwnerListsLookup)
off_owner = refl

-- where no table lists the lookup, it comes after the tables, by its owner's name as written
unlisted : first_broken
    (with_tables (record corder { lookups = []; column_vindexes = column_vindex (codes "customer_id") (codes "num") ∷ [] }) corder_order_idx
    (record corder_order { owner = None; owner_name = codes "nobody" }))
    ≡ Some (codes "nobody", OwnerListsLookup)
unlisted = refl
