-- What a statement says of its plan.
use Rattle.std.proofs.Common.{◌≡◌, ◌∙◌, ◌++◌, ◌&&◌, ◌||◌, ℕ, Bool, true, false, List, [], ◌∷◌, length, map, Option, Some, refl, sym, ap, arith}
use Rattle.std.specs.Prelude.{slice_get}
use Rattle.std.specs.Option.{is_some, option_map_or}
use Rattle.std.proofs.lemmas.Bool.{lt-ltb}
use Rattle.std.proofs.lemmas.Option.{same_Some}
use Rattle.vl_values.specs.declared.unsupported.Unsupported.{Unsupported}
use Rattle.vl_values.specs.declared.unsupported.Unsupported.TheVariants.{CountWithMore, LockOnLookupTable}
use Rattle.vl_values.specs.declared.pred.Pred.{Pred}
use Rattle.vl_catalog.specs.declared.catalog.Catalog.{Catalog}
use Rattle.vl_catalog.specs.declared.table.Table.{Table}
use Rattle.vl_sql.specs.declared.order.Order.{Order}
use Rattle.vl_sql.specs.declared.stmt.Stmt.{Stmt}
use Rattle.vl_sql.specs.declared.stmt.Stmt.TheVariants as stmts
use Rattle.vl_sql.specs.declared.table.TableName.{TableName}
use Rattle.vl_sql.specs.declared.what.What.{What}
use Rattle.vl_sql.specs.declared.what.What.TheVariants as whats
use Rattle.vl_model.specs.Columns.{table_named}
use Rattle.vl_model.specs.Refusals.{has_more, is_count, miscounted, misfits, refusals, refusals_in, refusals_on, told_if, unknown_columns}
use Rattle.vl_model.specs.Entries.{is_lookup_table}
use Rattle.vl_model.specs.declared.route.Route.{Route}
use Rattle.vl_plan.specs.declared.plan.Plan.{Plan}
use Rattle.vl_plan.specs.declared.plan.Plan.TheVariants as plans
use Rattle.vl_plan.specs.declared.projection.Projection.{Projection}
use Rattle.vl_plan.specs.declared.projection.Projection.TheVariants as projections
use Rattle.vl_plan.specs.declared.select_plan.SelectPlan.{SelectPlan}
use Rattle.vl_plan.specs.Planned.{IsPlanned, planned_on, projection_of, sort_of}
use Rattle.vl_change.specs.declared.row_change.RowChange.{RowChange}
use Rattle.vl_change.specs.declared.row_change.RowChange.TheVariants as changes
use Rattle.vl_run.specs.Refused.{counts_rows}
use Rattle.vl_run.specs.Session.{kind_of}
use Rattle.vl_run.specs.Session.Kind.{Works}
use Rattle.vl_course.specs.Changing.{plan_of}

-- ---- one plan

same_on : (catalog : Catalog) (stmt : Stmt) (t : TableName) (plan other : Plan) (n m : ℕ) (a b : Table) → table_named catalog t ≡ Some n → table_named catalog t ≡ Some m → slice_get catalog.tables n ≡ Some a → slice_get catalog.tables m ≡ Some b
    → plan ≡ planned_on catalog n a stmt → other ≡ planned_on catalog m b stmt → plan ≡ other
same_on catalog stmt t plan other n m a b first second is_a is_b one two =
    let number : n ≡ m = same_Some n m (sym first ∙ second) in
    let table : a ≡ b = same_Some a b (sym is_a ∙ ap (slice_get catalog.tables) number ∙ is_b) in
    one ∙ ap (λ (k : ℕ). planned_on catalog k a stmt) number ∙ ap (λ (it : Table). planned_on catalog m it stmt) table ∙ sym two

-- a statement has one plan at most
pub planned_once : (catalog : Catalog) (stmt : Stmt) (plan other : Plan) → IsPlanned catalog stmt plan → IsPlanned catalog stmt other → plan ≡ other
planned_once catalog (stmts.Insert t names rows) plan other a b = same_on catalog (stmts.Insert t names rows) t plan other a.0 b.0 a.1 b.1 a.2 b.2 a.3 b.3 a.4 b.4
planned_once catalog (stmts.Select what t tests orders limit lock) plan other a b = same_on catalog (stmts.Select what t tests orders limit lock) t plan other a.0 b.0 a.1 b.1 a.2 b.2 a.3 b.3 a.4 b.4
planned_once catalog (stmts.Update t assignments tests) plan other a b = same_on catalog (stmts.Update t assignments tests) t plan other a.0 b.0 a.1 b.1 a.2 b.2 a.3 b.3 a.4 b.4
planned_once catalog (stmts.Delete t tests) plan other a b = same_on catalog (stmts.Delete t tests) t plan other a.0 b.0 a.1 b.1 a.2 b.2 a.3 b.3 a.4 b.4
planned_once catalog stmts.Begin plan other a b = a ∙ sym b
planned_once catalog stmts.StartTransaction plan other a b = a ∙ sym b
planned_once catalog stmts.Commit plan other a b = a ∙ sym b
planned_once catalog stmts.Rollback plan other a b = a ∙ sym b
planned_once catalog (stmts.SetAutocommit on) plan other a b = a ∙ sym b
planned_once catalog (stmts.SetNames charset) plan other a b = a ∙ sym b
planned_once catalog (stmts.Use name) plan other a b = a ∙ sym b
planned_once catalog stmts.ShowTables plan other a b = a ∙ sym b
planned_once catalog stmts.ShowDatabases plan other a b = a ∙ sym b
planned_once catalog stmts.ShowWarnings plan other a b = a ∙ sym b
planned_once catalog stmts.SelectVersionComment plan other a b = a ∙ sym b
planned_once catalog stmts.SelectDatabase plan other a b = a ∙ sym b

-- ---- a SELECT

abbrev pub is_counting : Projection → Bool
is_counting projections.All = false
is_counting projections.Count = true
is_counting (projections.Columns columns) = false

same_plans : (a b : SelectPlan) → plans.Select a ≡ plans.Select b → a ≡ b
same_plans a b same = cc

counts_as : (table : Table) (what : What) → is_count what ≡ is_counting (projection_of table what)
counts_as table whats.All = refl
counts_as table whats.Count = refl
counts_as table (whats.Columns names) = refl

-- a statement whose plan is a SELECT's counts its rows where the plan does
pub planned_counts : (catalog : Catalog) (stmt : Stmt) (plan : SelectPlan) → IsPlanned catalog stmt (plans.Select plan) → counts_rows stmt ≡ is_counting plan.what
planned_counts catalog (stmts.Select what t tests orders limit lock) plan a =
    counts_as a.1 what ∙ sym (ap (λ (p : SelectPlan). is_counting p.what) (same_plans plan _ a.4))
planned_counts catalog (stmts.Insert t names rows) plan a = absurd (cc (a.4))
planned_counts catalog (stmts.Update t assignments tests) plan a = absurd (cc (a.4))
planned_counts catalog (stmts.Delete t tests) plan a = absurd (cc (a.4))
planned_counts catalog stmts.Begin plan a = absurd (cc)
planned_counts catalog stmts.StartTransaction plan a = absurd (cc)
planned_counts catalog stmts.Commit plan a = absurd (cc)
planned_counts catalog stmts.Rollback plan a = absurd (cc)
planned_counts catalog (stmts.SetAutocommit on) plan a = absurd (cc)
planned_counts catalog (stmts.SetNames charset) plan a = absurd (cc)
planned_counts catalog (stmts.Use name) plan a = absurd (cc)
planned_counts catalog stmts.ShowTables plan a = absurd (cc)
planned_counts catalog stmts.ShowDatabases plan a = absurd (cc)
planned_counts catalog stmts.ShowWarnings plan a = absurd (cc)
planned_counts catalog stmts.SelectVersionComment plan a = absurd (cc)
planned_counts catalog stmts.SelectDatabase plan a = absurd (cc)

-- its session's transaction works on a table
pub planned_works : (catalog : Catalog) (stmt : Stmt) (plan : SelectPlan) → IsPlanned catalog stmt (plans.Select plan) → kind_of stmt ≡ Works
planned_works catalog (stmts.Select what t tests orders limit lock) plan a = refl
planned_works catalog (stmts.Insert t names rows) plan a = refl
planned_works catalog (stmts.Update t assignments tests) plan a = refl
planned_works catalog (stmts.Delete t tests) plan a = refl
planned_works catalog stmts.Begin plan a = absurd (cc)
planned_works catalog stmts.StartTransaction plan a = absurd (cc)
planned_works catalog stmts.Commit plan a = absurd (cc)
planned_works catalog stmts.Rollback plan a = absurd (cc)
planned_works catalog (stmts.SetAutocommit on) plan a = absurd (cc)
planned_works catalog (stmts.SetNames charset) plan a = absurd (cc)
planned_works catalog (stmts.Use name) plan a = absurd (cc)
planned_works catalog stmts.ShowTables plan a = absurd (cc)
planned_works catalog stmts.ShowDatabases plan a = absurd (cc)
planned_works catalog stmts.ShowWarnings plan a = absurd (cc)
planned_works catalog stmts.SelectVersionComment plan a = absurd (cc)
planned_works catalog stmts.SelectDatabase plan a = absurd (cc)

-- ---- COUNT(*) stands with no ORDER BY

back_empty : {A : Type 0} (xs ys : List A) → xs ++ ys ≡ [] → ys ≡ []
back_empty [] ys e = e
back_empty (x ∷ xs) ys e = absurd (cc)

has_order : (order : Order) (orders : List Order) (limit : Option ℕ) (lock : Bool) → has_more (order ∷ orders) limit lock ≡ true
has_order order orders limit lock = ap (λ b. (b || is_some limit) || lock) (lt-ltb 0 (length (order ∷ orders)) (omega arith))

no_order : (orders : List Order) (limit : Option ℕ) (lock : Bool) (table : Table) (cause : Unsupported) → told_if (has_more orders limit lock) cause ≡ [] → map (sort_of table) orders ≡ []
no_order [] limit lock table cause e = refl
no_order (order ∷ orders) limit lock table cause e = absurd (one_cause cause (sym (ap (λ b. told_if b cause) (has_order order orders limit lock)) ∙ e))
  where
    one_cause : (cause : Unsupported) → told_if true cause ≡ [] → ⊥
    one_cause cause e = cc

unordered : (table : Table) (what : What) (orders : List Order) (limit : Option ℕ) (lock : Bool) (cause : Unsupported) → told_if (is_count what && has_more orders limit lock) cause ≡ [] → projection_of table what ≡ projections.Count → map (sort_of table) orders ≡ []
unordered table whats.All orders limit lock cause e counts = absurd (cc)
unordered table whats.Count orders limit lock cause e counts = no_order orders limit lock table cause e
unordered table (whats.Columns names) orders limit lock cause e counts = absurd (cc)

-- the causes for which a statement on a table is refused
refusals_at : (catalog : Catalog) (stmt : Stmt) (t : TableName) (n : ℕ) (table : Table) → table_named catalog t ≡ Some n → slice_get catalog.tables n ≡ Some table → refusals_on catalog stmt t (table_named catalog t) ≡ refusals_in catalog n table stmt
refusals_at catalog stmt t n table named is =
    ap (refusals_on catalog stmt t) named ∙ ap (λ (o : Option Table). option_map_or (λ it. refusals_in catalog n it stmt) o []) is

pub count_unsorted : (catalog : Catalog) (stmt : Stmt) (plan : SelectPlan) → IsPlanned catalog stmt (plans.Select plan) → refusals catalog stmt ≡ [] → plan.what ≡ projections.Count → plan.sorts ≡ []
count_unsorted catalog (stmts.Select what t tests orders limit lock) plan a none counts =
    let stmt : Stmt = stmts.Select what t tests orders limit lock in
    let same = same_plans plan _ a.4 in
    let refused : refusals_in catalog a.0 a.1 stmt ≡ [] = sym (refusals_at catalog stmt t a.0 a.1 a.2 a.3) ∙ none in
    let lookup = told_if (lock && is_lookup_table catalog a.0) LockOnLookupTable in
    let count = told_if (is_count what && has_more orders limit lock) CountWithMore in
    let misfit = misfits catalog a.1 stmt in
    let last : count ≡ [] = back_empty lookup count (back_empty misfit (lookup ++ count) (back_empty (miscounted stmt) (misfit ++ (lookup ++ count)) (back_empty (unknown_columns a.1 stmt) (miscounted stmt ++ (misfit ++ (lookup ++ count))) refused))) in
    ap (λ (p : SelectPlan). p.sorts) same ∙ unordered a.1 what orders limit lock CountWithMore last (sym (ap (λ (p : SelectPlan). p.what) same) ∙ counts)
count_unsorted catalog (stmts.Insert t names rows) plan a none counts = absurd (cc (a.4))
count_unsorted catalog (stmts.Update t assignments tests) plan a none counts = absurd (cc (a.4))
count_unsorted catalog (stmts.Delete t tests) plan a none counts = absurd (cc (a.4))
count_unsorted catalog stmts.Begin plan a none counts = absurd (cc)
count_unsorted catalog stmts.StartTransaction plan a none counts = absurd (cc)
count_unsorted catalog stmts.Commit plan a none counts = absurd (cc)
count_unsorted catalog stmts.Rollback plan a none counts = absurd (cc)
count_unsorted catalog (stmts.SetAutocommit on) plan a none counts = absurd (cc)
count_unsorted catalog (stmts.SetNames charset) plan a none counts = absurd (cc)
count_unsorted catalog (stmts.Use name) plan a none counts = absurd (cc)
count_unsorted catalog stmts.ShowTables plan a none counts = absurd (cc)
count_unsorted catalog stmts.ShowDatabases plan a none counts = absurd (cc)
count_unsorted catalog stmts.ShowWarnings plan a none counts = absurd (cc)
count_unsorted catalog stmts.SelectVersionComment plan a none counts = absurd (cc)
count_unsorted catalog stmts.SelectDatabase plan a none counts = absurd (cc)

-- ---- an UPDATE or a DELETE

no_select : (change : RowChange) (pred : Pred) (route : Route) (other : SelectPlan) → plan_of change pred route ≡ plans.Select other → ⊥
no_select (changes.Set settings) pred route other same = cc
no_select changes.Remove pred route other same = cc

-- its statement counts no rows
pub change_counts : (catalog : Catalog) (stmt : Stmt) (change : RowChange) (pred : Pred) (route : Route) → IsPlanned catalog stmt (plan_of change pred route) → counts_rows stmt ≡ false
change_counts catalog (stmts.Select what t tests orders limit lock) change pred route a = absurd (no_select change pred route _ a.4)
change_counts catalog (stmts.Insert t names rows) change pred route a = refl
change_counts catalog (stmts.Update t assignments tests) change pred route a = refl
change_counts catalog (stmts.Delete t tests) change pred route a = refl
change_counts catalog stmts.Begin change pred route a = refl
change_counts catalog stmts.StartTransaction change pred route a = refl
change_counts catalog stmts.Commit change pred route a = refl
change_counts catalog stmts.Rollback change pred route a = refl
change_counts catalog (stmts.SetAutocommit on) change pred route a = refl
change_counts catalog (stmts.SetNames charset) change pred route a = refl
change_counts catalog (stmts.Use name) change pred route a = refl
change_counts catalog stmts.ShowTables change pred route a = refl
change_counts catalog stmts.ShowDatabases change pred route a = refl
change_counts catalog stmts.ShowWarnings change pred route a = refl
change_counts catalog stmts.SelectVersionComment change pred route a = refl
change_counts catalog stmts.SelectDatabase change pred route a = refl
