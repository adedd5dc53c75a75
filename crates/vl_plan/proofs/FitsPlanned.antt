-- What is planned, where nothing refuses, fits the catalog.
use Rattle.std.proofs.Common.{◌≡◌, ℕ, ◌+◌, ◌<◌, inl, inr, Bool, true, false, List, [], ◌∷◌, ◌++◌, length, Option, Some, map, refl, sym, ap, ◌∙◌, subst, arith}
use Rattle.std.specs.Prelude.{◌&&◌, Contains, slice_get, if◌then◌else◌}
use Rattle.std.specs.List.{flat_map}
use Rattle.std.proofs.lemmas.Option.{same_Some}
use Rattle.vl_values.specs.declared.cause.Cause.{Cause}
use Rattle.vl_values.specs.declared.cause.Cause.TheVariants.{UnknownDatabase}
use Rattle.vl_values.specs.declared.unsupported.Unsupported.{Unsupported}
use Rattle.vl_values.specs.declared.unsupported.Unsupported.TheVariants.{ChangeOfKeyColumn, LockOnLookupTable, WriteToLookupTable}
use Rattle.vl_values.specs.declared.value.Value.{Value}
use Rattle.vl_catalog.specs.declared.catalog.Catalog.{Catalog}
use Rattle.vl_catalog.specs.declared.table.Table.{Table}
use Rattle.vl_sql.specs.declared.assignment.Assignment.{Assignment}
use Rattle.vl_sql.specs.declared.order.Order.{Order}
use Rattle.vl_sql.specs.declared.stmt.Stmt.{Stmt}
use Rattle.vl_sql.specs.declared.stmt.Stmt.TheVariants as stmts
use Rattle.vl_sql.specs.declared.table.TableName.{TableName}
use Rattle.vl_sql.specs.declared.test.Test.{Test as Written}
use Rattle.vl_sql.specs.declared.what.What.{What}
use Rattle.vl_sql.specs.declared.what.What.TheVariants as whats
use Rattle.vl_model.specs.Columns.{column_tested, names_selected, test_compared}
use Rattle.vl_model.specs.Entries.{is_lookup_table}
use Rattle.vl_model.specs.Refusals.{faults, is_keyspace, refusals, refusals_besides, refusals_in, sets_a_key_column, told_if, unknown_among}
use Rattle.vl_rules.specs.Order.{Checked}
use Rattle.vl_rules.proofs.TablesKept.{table_kept}
use Rattle.vl_plan.specs.declared.plan.Plan.{Plan}
use Rattle.vl_plan.specs.declared.setting.Setting.{Setting}
use Rattle.vl_plan.specs.declared.sort.Sort.{Sort}
use Rattle.vl_catalog.specs.Fitting.{FitsPred}
use Rattle.vl_plan.specs.Fits.{Fits, FitsRoute, HasEntryPlace, IsProjectionOf, IsRouteOf, IsSettingOf}
use Rattle.vl_plan.specs.Planned.{IsPlanned, number_of, planned_besides, planned_on, pred_of, projection_of, route_to, settings_of, sort_of}
use Rattle.vl_plan.proofs.Changing.{IsStoredSetting, setting_fits, settings_stored}
use Rattle.vl_plan.proofs.Composing.{with_table}
use Rattle.vl_plan.proofs.EntryPlaces.{entry_placed, row_entries_placed}
use Rattle.vl_plan.proofs.Firsts.{unknown_spread}
use Rattle.vl_plan.proofs.Placing.{row_fits, row_placed, rows_stored}
use Rattle.vl_plan.proofs.RouteTests.{route_fits}
use Rattle.vl_plan.proofs.Sorting.{here, no_member, split_member}
use Rattle.vl_plan.proofs.Storing.{empty_parts}
use Rattle.vl_plan.proofs.Testing.{known_first, names_within, tests_fit}

supported : (b : Bool) (what : Unsupported) → told_if b what ≡ [] → b ≡ false
supported true what e = cc
supported false what e = refl

pred_fits : (catalog : Catalog) (n : ℕ) (table : Table) (tests : List Written) → slice_get catalog.tables n ≡ Some table → unknown_among table.columns (map column_tested tests) ≡ []
    → flat_map (λ (test : Written). faults (test_compared catalog table test)) tests ≡ [] → FitsPred catalog (pred_of catalog n table tests)
pred_fits catalog n table tests at known fit = record { table = table; is_table = at; tests = tests_fit catalog table tests known fit }

route_of_plan : (catalog : Catalog) (n : ℕ) (table : Table) (tests : List Written) → slice_get catalog.tables n ≡ Some table
    → FitsRoute catalog (pred_of catalog n table tests) (route_to catalog table tests)
route_of_plan catalog n table tests at other there =
    subst (λ (it : Table). IsRouteOf catalog it (pred_of catalog n table tests) (route_to catalog table tests)) (same_Some table other (sym at ∙ there)) (route_fits catalog table (pred_of catalog n table tests))

insert_fits : (catalog : Catalog) (n : ℕ) (table : Table) (t : TableName) (names : List (List ℕ)) (rows : List (List Value)) → Checked catalog → slice_get catalog.tables n ≡ Some table
    → refusals_in catalog n table (stmts.Insert t names rows) ≡ [] → Fits catalog (planned_on catalog n table (stmts.Insert t names rows))
insert_fits catalog n table t names rows checked at none =
    let known = empty_parts _ _ none in
    let counted = empty_parts _ _ known.1 in
    let fit = empty_parts _ _ counted.1 in
    record {
      table = table;
      is_table = at;
      plain = supported (is_lookup_table catalog n) WriteToLookupTable fit.1;
      rows = λ values h. (let it = rows_stored catalog table names rows fit.0 values h in row_fits catalog table names it.row values it.is);
      placed = λ values h.
          (let it = rows_stored catalog table names rows fit.0 values h in row_placed catalog n table names it.row values at (table_kept catalog n table checked at) it.is);
      entries = λ values column h.
          (let it = rows_stored catalog table names rows fit.0 values h in row_entries_placed catalog n table names it.row values checked at it.is column);
    }

projection_fits : (table : Table) (what : What) → unknown_among table.columns (names_selected what) ≡ [] → IsProjectionOf table (projection_of table what)
projection_fits table whats.All known = tt
projection_fits table whats.Count known = tt
projection_fits table (whats.Columns names) known = names_within table.columns names known

sorts_fit : (table : Table) (orders : List Order) → unknown_among table.columns (map (λ (order : Order). order.column) orders) ≡ []
    → (sort : Sort) → Contains (map (sort_of table) orders) sort → sort.column < length table.columns
sorts_fit table [] known sort h = absurd (no_member sort h)
sorts_fit table (order ∷ orders) known sort h =
    let first = known_first table.columns order.column (map (λ (it : Order). it.column) orders) known in
    elim (split_member (sort_of table order) (map (sort_of table) orders) sort h) [
      | inl same ↦
          subst (λ (it : Sort). it.column < length table.columns) same
          (names_within table.columns (order.column ∷ map (λ (it : Order). it.column) orders) known (number_of table order.column) (here (number_of table order.column) (map (number_of table) (map (λ (it : Order). it.column) orders))))
      | inr rest ↦ sorts_fit table orders first.1 sort rest
    ]

not_locked : (lock lookup : Bool) (causes : List Cause) → told_if (lock && lookup) LockOnLookupTable ++ causes ≡ [] → lock ≡ true → lookup ≡ false
not_locked true lookup causes e is = supported lookup LockOnLookupTable (empty_parts (told_if lookup LockOnLookupTable) causes e).0
not_locked false lookup causes e is = cc

select_fits : (catalog : Catalog) (n : ℕ) (table : Table) (what : What) (t : TableName) (tests : List Written) (orders : List Order) (limit : Option ℕ) (lock : Bool) → slice_get catalog.tables n ≡ Some table
    → refusals_in catalog n table (stmts.Select what t tests orders limit lock) ≡ [] → Fits catalog (planned_on catalog n table (stmts.Select what t tests orders limit lock))
select_fits catalog n table what t tests orders limit lock at none =
    let parts = empty_parts _ _ none in
    let names = empty_parts _ _ (sym (unknown_spread table.columns (names_selected what) (map column_tested tests ++ map (λ (order : Order). order.column) orders)) ∙ parts.0) in
    let tested = empty_parts _ _ (sym (unknown_spread table.columns (map column_tested tests) (map (λ (order : Order). order.column) orders)) ∙ names.1) in
    let fit = empty_parts _ _ parts.1 in
    record {
      pred = pred_fits catalog n table tests at tested.0 fit.0;
      what = λ other there.
          subst (λ (it : Table). IsProjectionOf it (projection_of table what)) (same_Some table other (sym at ∙ there)) (projection_fits table what names.0);
      sorts = λ other sort there h.
          subst (λ (it : Table). sort.column < length it.columns) (same_Some table other (sym at ∙ there)) (sorts_fit table orders tested.1 sort h);
      route = route_of_plan catalog n table tests at;
      locks = not_locked lock (is_lookup_table catalog n) _ fit.1;
    }

update_fits : (catalog : Catalog) (n : ℕ) (table : Table) (t : TableName) (assignments : List Assignment) (tests : List Written) → Checked catalog → slice_get catalog.tables n ≡ Some table
    → refusals_in catalog n table (stmts.Update t assignments tests) ≡ [] → Fits catalog (planned_on catalog n table (stmts.Update t assignments tests))
update_fits catalog n table t assignments tests checked at none =
    let parts = empty_parts _ _ none in
    let names = empty_parts _ _ (sym (unknown_spread table.columns (map (λ (a : Assignment). a.column) assignments) (map column_tested tests)) ∙ parts.0) in
    let fit = empty_parts _ _ parts.1 in
    let values = empty_parts _ _ fit.0 in
    let allowed = empty_parts _ _ fit.1 in
    let sets : (s : Setting) → Contains (settings_of catalog table assignments) s → IsStoredSetting catalog table s =
    settings_stored catalog table assignments 0 table.columns (supported (sets_a_key_column table assignments) ChangeOfKeyColumn allowed.1)
    (λ k m column same here. (let number : m ≡ k = omega arith in ap (slice_get table.columns) number ∙ here)) values.0 in
    record {
      pred = pred_fits catalog n table tests at names.1 values.1;
      plain = supported (is_lookup_table catalog n) WriteToLookupTable allowed.0;
      settings = λ other setting there h.
          subst (λ (it : Table). IsSettingOf it setting) (same_Some table other (sym at ∙ there)) (setting_fits catalog table setting (sets setting h));
      entries = λ other setting there h.
          (let it = sets setting h in subst (λ (o : Table). HasEntryPlace catalog o setting.column setting.value) (same_Some table other (sym at ∙ there))
          (entry_placed catalog n table setting.column it.column it.given setting.value checked at it.is_column it.is));
      route = route_of_plan catalog n table tests at;
    }

delete_fits : (catalog : Catalog) (n : ℕ) (table : Table) (t : TableName) (tests : List Written) → slice_get catalog.tables n ≡ Some table
    → refusals_in catalog n table (stmts.Delete t tests) ≡ [] → Fits catalog (planned_on catalog n table (stmts.Delete t tests))
delete_fits catalog n table t tests at none =
    let parts = empty_parts _ _ none in
    let fit = empty_parts _ _ parts.1 in
    record {
      pred = pred_fits catalog n table tests at parts.0 fit.0;
      plain = supported (is_lookup_table catalog n) WriteToLookupTable fit.1;
      route = route_of_plan catalog n table tests at;
    }

-- ---- statements

kept : (b : Bool) (name : List ℕ) → (let causes : List Cause = if b then [] else UnknownDatabase name ∷ [] in causes) ≡ [] → b ≡ true
kept true name e = refl
kept false name e = cc

besides : (catalog : Catalog) (stmt : Stmt) → refusals_besides catalog stmt ≡ [] → Fits catalog (planned_besides stmt)
besides catalog (stmts.Use name) none = kept (is_keyspace catalog name) name none
besides catalog stmt none = tt

pub planned_fits : (catalog : Catalog) (stmt : Stmt) (plan : Plan) → Checked catalog → refusals catalog stmt ≡ [] → IsPlanned catalog stmt plan → Fits catalog plan
planned_fits catalog (stmts.Insert t names rows) plan checked none (n, table, named, at, same) =
    subst (λ (it : Plan). Fits catalog it) (sym same) (insert_fits catalog n table t names rows checked at (with_table catalog (stmts.Insert t names rows) t n table named at ∙ none))
planned_fits catalog (stmts.Select what t tests orders limit lock) plan checked none (n, table, named, at, same) =
    subst (λ (it : Plan). Fits catalog it) (sym same) (select_fits catalog n table what t tests orders limit lock at (with_table catalog (stmts.Select what t tests orders limit lock) t n table named at ∙ none))
planned_fits catalog (stmts.Update t assignments tests) plan checked none (n, table, named, at, same) =
    subst (λ (it : Plan). Fits catalog it) (sym same) (update_fits catalog n table t assignments tests checked at (with_table catalog (stmts.Update t assignments tests) t n table named at ∙ none))
planned_fits catalog (stmts.Delete t tests) plan checked none (n, table, named, at, same) =
    subst (λ (it : Plan). Fits catalog it) (sym same) (delete_fits catalog n table t tests at (with_table catalog (stmts.Delete t tests) t n table named at ∙ none))
planned_fits catalog stmt plan checked none same = subst (λ (it : Plan). Fits catalog it) (sym same) (besides catalog stmt none)
