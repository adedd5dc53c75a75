-- What a program of a SELECT that stands where the run says has read, and what is left to it.
use Rattle.std.proofs.Common.{◌≡◌, ◌∙◌, ◌≤◌, ◌+◌, ℕ, zero, suc, false, List, [], ◌∷◌, length, Option, Some, None, refl, sym, ap, arith}
use Rattle.std.specs.Prelude.{slice_get}
use Rattle.std.specs.List.{filter_map}
use Rattle.std.specs.Option.{option_map, option_or}
use Rattle.std.proofs.lemmas.Bool.{le-ltb}
use Rattle.std.proofs.lemmas.List.{length-map}
use Rattle.std.proofs.lemmas.Option.{slice_get_past}
use Rattle.vl_values.specs.declared.group.Group.TheVariants.{Pre}
use Rattle.vl_catalog.specs.declared.catalog.Catalog.{Catalog}
use Rattle.vl_sql.specs.declared.stmt.Stmt.{Stmt}
use Rattle.vl_port.specs.declared.limits.Limits.{Limits}
use Rattle.vl_model.specs.declared.route.Route.{Route}
use Rattle.vl_model.specs.declared.route.Route.TheVariants as routes
use Rattle.vl_model.specs.Visiting.{entry_reads, visited}
use Rattle.vl_plan.specs.declared.plan.Plan.TheVariants as plans
use Rattle.vl_plan.specs.declared.projection.Projection.{Projection}
use Rattle.vl_plan.specs.declared.projection.Projection.TheVariants as projections
use Rattle.vl_plan.specs.declared.select_plan.SelectPlan.{SelectPlan}
use Rattle.vl_plan.specs.Planned.{IsPlanned}
use Rattle.vl_statement.specs.declared.tally.Tally.{Tally}
use Rattle.vl_statement.specs.Tallies.{counted, first_over, with_row}
use Rattle.vl_select.specs.declared.entry_read.EntryRead.{EntryRead}
use Rattle.vl_select.specs.Begun.{entry_read}
use Rattle.vl_select.specs.Progress.{Action, Progress, due, entry_due, named_on, passed, row_due, shards_known, tallied}
use Rattle.vl_run.specs.Gathered.{Rows}
use Rattle.vl_run.specs.Named.{HasWorked, IsRouted, ksid_on}
use Rattle.vl_run.specs.Refused.{IsWithin, nothing_read}
use Rattle.vl_run.specs.Run.{Run}
use Rattle.vl_course.specs.Selecting.{IsSelectAt}
use Rattle.vl_course.proofs.Planned.{is_counting, planned_counts}
use Rattle.vl_course.proofs.Unique.{gathered_unique, looked_unique}

-- ---- words that two crates have

pub named_as : (catalog : Catalog) (route : Route) (entries : Rows) → filter_map (named_on catalog route) entries ≡ filter_map (ksid_on catalog route) entries
named_as catalog (routes.Primary values) entries = refl
named_as catalog (routes.Lookup l values) entries = refl
named_as catalog routes.All entries = refl

-- ---- elements

pub none_at : {A : Type 0} (xs : List A) (n : ℕ) → slice_get xs n ≡ None → length xs ≤ n
none_at [] n none = omega arith
none_at (x ∷ xs) zero none = absurd (cc)
none_at (x ∷ xs) (suc n) none = omega (arith, none_at xs n none)

-- ---- nothing is left to be read

pub no_first : {A : Type 0} (a b : Option A) → option_or a b ≡ None → a ≡ None
no_first None b none = refl
no_first (Some x) b none = absurd (cc)

pub no_second : {A : Type 0} (a b : Option A) → option_or a b ≡ None → b ≡ None
no_second None b none = none
no_second (Some x) b none = absurd (cc)

pub none_mapped : {A B : Type 0} (f : A → B) (o : Option A) → option_map f o ≡ None → o ≡ None
none_mapped f None none = refl
none_mapped f (Some x) none = absurd (cc)

pub no_entry_left : (p : Progress) → due p ≡ None → length p.entries ≤ p.looked
no_entry_left p none =
    none_at p.entries p.looked (none_mapped _ (slice_get p.entries p.looked) (no_first (entry_due p) (row_due p) none))

pub no_shard_left : (p : Progress) → due p ≡ None → length p.shards ≤ p.read
no_shard_left p none = none_at p.shards p.read (none_mapped _ (slice_get p.shards p.read) (no_second (entry_due p) (row_due p) none))

all_read : (p : Progress) → length p.entries ≤ p.looked → length p.shards ≤ p.read → due p ≡ None
all_read p entries shards =
    let entry : entry_due p ≡ None = ap (λ (o : Option EntryRead). option_map (λ (entry : EntryRead). record { group = Pre; shard = entry.shard; act = entry.find }) o) (slice_get_past p.entries p.looked entries) in
    let row : row_due p ≡ None = ap (λ (o : Option ℕ). option_map (λ shard. record { group = p.group; shard = shard; act = p.find }) o) (slice_get_past p.shards p.read shards) in
    ap (λ (o : Option Action). option_or o (row_due p)) entry ∙ row

-- ---- the rows

-- none of them is counted, or all are
pub counted_rows : (tally : Tally) (rows : Rows) → (counted tally rows).rows ≡ tally.rows + length rows
counted_rows tally [] = omega arith
counted_rows tally (row ∷ rows) = omega (arith, counted_rows (with_row tally row.1) rows)

pub tallied_rows : (what : Projection) (rows : Rows) → (tallied what nothing_read rows).rows ≡ length rows
tallied_rows projections.All rows = omega (arith, counted_rows nothing_read rows)
tallied_rows projections.Count rows = omega arith
tallied_rows (projections.Columns columns) rows = omega (arith, counted_rows nothing_read rows)

pub passed_over : (what : Projection) (limits : Limits) (tally : Tally) (rows : Rows) → is_counting what ≡ false → passed what limits tally rows ≡ first_over limits tally rows
passed_over projections.All limits tally rows none = refl
passed_over projections.Count limits tally rows none = absurd (cc)
passed_over (projections.Columns columns) limits tally rows none = refl

module _ (catalog : Catalog) (limits : Limits) (now : Run) (n : ℕ) (plan : SelectPlan) (p : Progress) (at : IsSelectAt catalog limits now n plan p) where
  -- within its limits
  pub is_within : (stmt : Stmt) → IsPlanned catalog stmt (plans.Select plan) → IsWithin catalog limits now n stmt
  is_within stmt planned rows counts given =
      let uncounted : is_counting p.what ≡ false = ap is_counting at.what ∙ sym (planned_counts catalog stmt plan planned) ∙ counts in
      ap (first_over limits nothing_read) (gathered_unique catalog now n rows at.gathered.rows given at.gathered.gathered)
      ∙ sym (passed_over p.what limits nothing_read at.gathered.rows uncounted) ∙ at.gathered.within

  -- ---- the shards of its route

  entries_many : length p.entries ≡ length (entry_reads catalog plan.route)
  entries_many = ap length at.entries ∙ length-map (entry_reads catalog plan.route) entry_read

  shards_visited : p.looked ≡ length p.entries → p.shards ≡ visited catalog plan.pred.table plan.route (filter_map (ksid_on catalog plan.route) at.ksids.entries)
  shards_visited all =
      at.shards ∙ ap (λ b. shards_known catalog plan.pred.table plan.route b p.ksids) (le-ltb p.looked (length p.entries) (omega (arith, all)))
      ∙ ap (visited catalog plan.pred.table plan.route) at.ksids.named

  pub is_routed : p.looked ≡ length p.entries → IsRouted catalog now n plan.pred.table plan.route p.shards
  is_routed all = record { entries = at.ksids.entries; looked = at.ksids.looked; all = at.looked ∙ all ∙ entries_many; visits = shards_visited all }

  routed_once : (shards : List ℕ) → IsRouted catalog now n plan.pred.table plan.route shards → (p.looked ≡ length p.entries) × (shards ≡ p.shards)
  routed_once shards routed =
      let all : p.looked ≡ length p.entries = sym at.looked ∙ routed.all ∙ sym entries_many in
      let entries = looked_unique catalog now n routed.entries at.ksids.entries routed.looked at.ksids.looked in
      (all, routed.visits ∙ ap (λ (es : Rows). visited catalog plan.pred.table plan.route (filter_map (ksid_on catalog plan.route) es)) entries ∙ sym (shards_visited all))

  -- ---- its end

  pub has_worked : p.looked ≤ length p.entries → p.read ≤ length p.shards → due p ≡ None → HasWorked catalog now n (plans.Select plan)
  has_worked looked read none = (
    at.gathered.rows,
    record {
      shards = p.shards;
      routed = is_routed (omega (arith, looked, no_entry_left p none));
      all = at.read ∙ (omega (arith, read, no_shard_left p none));
      gathered = at.gathered.gathered;
    },
    at.unwritten,
  )

  none_due : (action : Action) → due p ≡ Some action → due p ≡ None → ⊥
  none_due action is none = absurd (some_none (due p) action is none)
    where
      some_none : (o : Option Action) (action : Action) → o ≡ Some action → o ≡ None → ⊥
      some_none o action is none = cc

  pub not_worked : (action : Action) → due p ≡ Some action → HasWorked catalog now n (plans.Select plan) → ⊥
  not_worked action is worked =
      let read = worked.1 in
      let once = routed_once read.shards read.routed in
      let all : p.read ≡ length p.shards = sym at.read ∙ read.all ∙ ap length once.1 in
      none_due action is (all_read p (omega (arith, once.0)) (omega (arith, all)))
