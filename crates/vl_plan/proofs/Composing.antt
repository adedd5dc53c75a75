-- The refusals of a statement, part by part.
use Rattle.std.proofs.Common.{◌≡◌, ℕ, ◌<◌, ◌≤◌, List, [], ◌∷◌, ◌++◌, length, Option, Some, None, sym, ap, ◌∙◌, subst, arith}
use Rattle.std.specs.Prelude.{◌||◌, nat_lt, slice_get}
use Rattle.std.specs.List.{list_any}
use Rattle.std.specs.Option.{option_map_or}
use Rattle.std.proofs.lemmas.Bool.{ltb-false}
use Rattle.vl_values.specs.declared.cause.Cause.{Cause}
use Rattle.vl_values.specs.declared.cause.Cause.TheVariants.{UnknownTable}
use Rattle.vl_catalog.specs.declared.catalog.Catalog.{Catalog}
use Rattle.vl_catalog.specs.declared.column.Column.{Column}
use Rattle.vl_catalog.specs.declared.keyspace.Keyspace.{Keyspace}
use Rattle.vl_catalog.specs.declared.table.Table.{Table}
use Rattle.vl_catalog.specs.Build.{Names}
use Rattle.vl_catalog.specs.Place.{shard_count}
use Rattle.vl_sql.specs.declared.stmt.Stmt.{Stmt}
use Rattle.vl_sql.specs.declared.table.TableName.{TableName}
use Rattle.vl_model.specs.Columns.{table_named}
use Rattle.vl_model.specs.Refusals.{IsFirst, refusals_in, refusals_on, unknown_among}
use Rattle.vl_rules.specs.Limits.{is_long}
use Rattle.vl_rules.specs.Order.{Checked}
use Rattle.vl_rules.proofs.FirstBroken.{no_limit_passed}
use Rattle.vl_rules.proofs.Passed.{neither}
use Rattle.vl_rules.proofs.TablesKept.{table_kept}
use Rattle.vl_plan.proofs.Firsts.{both_empty, first_behind, first_front, first_same, unknown_spread}

-- ---- a checked catalog

pub few_tables : (catalog : Catalog) → Checked catalog → length catalog.tables ≤ 256
few_tables catalog checked =
    let last = neither (nat_lt 16 (length catalog.keyspaces) || nat_lt 64 (shard_count catalog.rings) || nat_lt 256 (length catalog.tables)) (list_any (λ (keyspace : Keyspace). is_long keyspace.name) catalog.keyspaces) (no_limit_passed catalog checked) in
    let third = neither (nat_lt 16 (length catalog.keyspaces) || nat_lt 64 (shard_count catalog.rings)) (nat_lt 256 (length catalog.tables)) last.0 in
    ltb-false 256 (length catalog.tables) third.1

pub few_columns : (catalog : Catalog) (n : ℕ) (table : Table) → Checked catalog → slice_get catalog.tables n ≡ Some table → length table.columns ≤ 64
few_columns catalog n table checked at = (table_kept catalog n table checked at).few_columns

-- ---- the table

pub no_table : (catalog : Catalog) (stmt : Stmt) (t : TableName) (cause : Cause) → (table_named catalog t ≡ None) × IsFirst cause (UnknownTable t.name ∷ [])
    → IsFirst cause (refusals_on catalog stmt t (table_named catalog t))
no_table catalog stmt t cause h = subst (λ (o : Option ℕ). IsFirst cause (refusals_on catalog stmt t o)) (sym h.0) h.1

pub with_table : (catalog : Catalog) (stmt : Stmt) (t : TableName) (n : ℕ) (table : Table) → table_named catalog t ≡ Some n → slice_get catalog.tables n ≡ Some table
    → refusals_in catalog n table stmt ≡ refusals_on catalog stmt t (table_named catalog t)
with_table catalog stmt t n table named at =
    sym
    (ap (refusals_on catalog stmt t) named
    ∙ ap (λ (o : Option Table). option_map_or (λ (it : Table). refusals_in catalog n it stmt) o []) at)

-- ---- the columns: of two lists of names, and of three

pub known_two : (columns : List Column) (a b : Names) → unknown_among columns a ≡ [] → unknown_among columns b ≡ [] → unknown_among columns (a ++ b) ≡ []
known_two columns a b e f = unknown_spread columns a b ∙ both_empty _ _ e f

pub first_of_two : (columns : List Column) (a b : Names) (cause : Cause) → IsFirst cause (unknown_among columns a) → IsFirst cause (unknown_among columns (a ++ b))
first_of_two columns a b cause h = first_same cause _ _ (sym (unknown_spread columns a b)) (first_front cause (unknown_among columns a) (unknown_among columns b) h)

pub second_of_two : (columns : List Column) (a b : Names) (cause : Cause) → unknown_among columns a ≡ [] → IsFirst cause (unknown_among columns b) → IsFirst cause (unknown_among columns (a ++ b))
second_of_two columns a b cause e h = first_same cause _ _ (sym (unknown_spread columns a b)) (first_behind cause (unknown_among columns a) (unknown_among columns b) e h)
