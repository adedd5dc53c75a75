-- What a program of an UPDATE or a DELETE that stands where the run says has read and written, and what is left to it.
use Rattle.std.proofs.Common.{◌≡◌, ◌∙◌, ◌<◌, ◌≤◌, if◌then◌else◌, ℕ, zero, suc, true, List, [], ◌∷◌, length, map, take, Option, Some, None, refl, sym, ap, arith}
use Rattle.std.specs.Prelude.{slice_get}
use Rattle.std.specs.List.{filter_map}
use Rattle.std.specs.Option.{option_map, option_or}
use Rattle.std.proofs.lemmas.List.{length-map, length-take}
use Rattle.std.proofs.lemmas.Option.{get_or_from_slice_get, same_Some, slice_get-map, slice_get_within}
use Rattle.vl_values.specs.declared.group.Group.TheVariants.{Main, Pre}
use Rattle.vl_values.specs.declared.key.Key.{Key}
use Rattle.vl_values.specs.declared.pred.Pred.{Pred}
use Rattle.vl_catalog.specs.declared.catalog.Catalog.{Catalog}
use Rattle.vl_sql.specs.declared.stmt.Stmt.{Stmt}
use Rattle.vl_port.specs.declared.act.Act.{Act}
use Rattle.vl_port.specs.declared.act.Act.TheVariants.{Find}
use Rattle.vl_port.specs.declared.limits.Limits.{Limits}
use Rattle.vl_port.specs.declared.tx_state.TxState.{TxState}
use Rattle.vl_port.specs.declared.who.Who.{Who}
use Rattle.vl_port.specs.Transaction.{session_of}
use Rattle.vl_port.specs.View.{Values}
use Rattle.vl_model.specs.declared.route.Route.{Route}
use Rattle.vl_model.specs.Visiting.{visited}
use Rattle.vl_plan.specs.Planned.{IsPlanned}
use Rattle.vl_change.specs.declared.action.Action.{Action}
use Rattle.vl_change.specs.declared.row_change.RowChange.{RowChange}
use Rattle.vl_change.specs.declared.row_change.RowChange.TheVariants as changes
use Rattle.vl_change.specs.Making.{IsMade}
use Rattle.vl_change.specs.Progress.{Progress, due, read_due}
use Rattle.vl_statement.specs.Tallies.{first_over}
use Rattle.vl_run.specs.Gathered.{Rows}
use Rattle.vl_run.specs.Machine.{Machine, key_place, of_tx}
use Rattle.vl_run.specs.Named.{Changing, FindsToRemove, FindsToSet, HasRead, HasWorked, IsChangeDue, IsDue, IsNext, IsReadDue, IsRouted, Reading, Removes, Sets, change_act, ksid_on, read_group}
use Rattle.vl_run.specs.Progress.{wrote}
use Rattle.vl_run.specs.Refused.{IsWithin, nothing_read}
use Rattle.vl_run.specs.Run.{Run}
use Rattle.vl_run.specs.Session.{Owned}
use Rattle.vl_course.specs.Changing.{IsChangeAt, changes_of, plan_of}
use Rattle.vl_course.specs.Course.{IsTx}
use Rattle.vl_course.proofs.Named.{session_as}
use Rattle.vl_course.proofs.Reading.{no_first, no_second, none_at, none_mapped}
use Rattle.vl_course.proofs.Unique.{gathered_unique, looked_unique}

-- ---- what the plan says

-- all that it has to do is done
pub worked_as : (catalog : Catalog) (now : Run) (n : ℕ) (change : RowChange) (pred : Pred) (route : Route) (rows : Rows) → HasRead catalog now n pred route rows → wrote now n ≡ changes_of change rows → HasWorked catalog now n (plan_of change pred route)
worked_as catalog now n (changes.Set settings) pred route rows read all = (rows, read, all)
worked_as catalog now n changes.Remove pred route rows read all = (rows, read, all)

record IsDone (catalog : Catalog) (now : Run) (n : ℕ) (change : RowChange) (pred : Pred) (route : Route) : Type 0 where
  rows : Rows
  read : HasRead catalog now n pred route rows
  all : wrote now n ≡ changes_of change rows

worked_from : (catalog : Catalog) (now : Run) (n : ℕ) (change : RowChange) (pred : Pred) (route : Route) → HasWorked catalog now n (plan_of change pred route) → IsDone catalog now n change pred route
worked_from catalog now n (changes.Set settings) pred route worked = record { rows = worked.0; read = worked.1; all = worked.2 }
worked_from catalog now n changes.Remove pred route worked = record { rows = worked.0; read = worked.1; all = worked.2 }

read_next : (catalog : Catalog) (u : Machine) (now : Run) (n tx : ℕ) (change : RowChange) (pred : Pred) (route : Route) (who : Who) (shard : ℕ) (act : Act) → IsReadDue catalog now n tx pred route true who shard act → IsDue catalog u now n tx (plan_of change pred route) Reading who shard act
read_next catalog u now n tx (changes.Set settings) pred route who shard act is = FindsToSet (record { settings = settings; pred = pred; route = route }) who shard act is
read_next catalog u now n tx changes.Remove pred route who shard act is = FindsToRemove (record { pred = pred; route = route }) who shard act is

write_next : (catalog : Catalog) (u : Machine) (now : Run) (n tx : ℕ) (change : RowChange) (pred : Pred) (route : Route) (rows : Rows) (who : Who) (shard : ℕ) (act : Act) → HasRead catalog now n pred route rows → IsChangeDue catalog now n tx (changes_of change rows) who shard act
    → IsDue catalog u now n tx (plan_of change pred route) Changing who shard act
write_next catalog u now n tx (changes.Set settings) pred route rows who shard act read is = Sets (record { settings = settings; pred = pred; route = route }) rows who shard act read is
write_next catalog u now n tx changes.Remove pred route rows who shard act read is = Removes (record { pred = pred; route = route }) rows who shard act read is

-- ---- the action that is due

-- a read of the next shard, or a write once all were read
pub data IsDueOf (p : Progress) (action : Action) : Type 0 where
  Read : slice_get p.search.shards p.search.read ≡ Some action.shard → action.act ≡ p.search.find → action.group ≡ Main → IsDueOf p action
  Write : slice_get p.search.shards p.search.read ≡ None → slice_get p.writes p.done ≡ Some action → IsDueOf p action

by_shard : (p : Progress) (o : Option ℕ) (action : Action) → slice_get p.search.shards p.search.read ≡ o → option_or (option_map (λ (shard : ℕ). record { group = Main; shard = shard; act = p.search.find; old = None }) o) (slice_get p.writes p.done) ≡ Some action → IsDueOf p action
by_shard p None action is e = Write is e
by_shard p (Some shard) action is e =
    let same = same_Some (record { group = Main; shard = shard; act = p.search.find; old = None }) action e in
    Read (is ∙ ap (λ (a : Action). Some a.shard) same) (sym (ap (λ (a : Action). a.act) same)) (sym (ap (λ (a : Action). a.group) same))

pub due_by : (p : Progress) (action : Action) → due p ≡ Some action → IsDueOf p action
due_by p action e = by_shard p (slice_get p.search.shards p.search.read) action refl e

no_shard_left : (p : Progress) → due p ≡ None → length p.search.shards ≤ p.search.read
no_shard_left p none = none_at p.search.shards p.search.read (none_mapped _ (slice_get p.search.shards p.search.read) (no_first (read_due p.search) (slice_get p.writes p.done) none))

no_write_left : (p : Progress) → due p ≡ None → length p.writes ≤ p.done
no_write_left p none = none_at p.writes p.done (no_second (read_due p.search) (slice_get p.writes p.done) none)

take_all : {A : Type 0} (xs : List A) (n : ℕ) → length xs ≤ n → take n xs ≡ xs
take_all [] zero all = refl
take_all [] (suc n) all = refl
take_all (x ∷ xs) zero all = absurd (omega (arith, all))
take_all (x ∷ xs) (suc n) all = ap (λ ys. x ∷ ys) (take_all xs n (omega (arith, all)))

-- an element of two lists that are mapped alike
pub record IsAlike {A B C : Type 0} (f : A → C) (g : B → C) (ys : List B) (n : ℕ) (x : A) : Type 0 where
  pub other : B
  pub at : slice_get ys n ≡ Some other
  pub same : f x ≡ g other

module _ {A B C : Type 0} (f : A → C) (g : B → C) where
  alike_by : (ys : List B) (n : ℕ) (x : A) (o : Option B) → slice_get ys n ≡ o → Some (f x) ≡ option_map g o → IsAlike f g ys n x
  alike_by ys n x None at same = absurd (cc)
  alike_by ys n x (Some y) at same = record { other = y; at = at; same = same_Some (f x) (g y) same }

  pub alike : (xs : List A) (ys : List B) (n : ℕ) (x : A) → map f xs ≡ map g ys → slice_get xs n ≡ Some x → IsAlike f g ys n x
  alike xs ys n x same at =
      alike_by ys n x (slice_get ys n) refl (sym (ap (option_map f) at) ∙ sym (slice_get-map f xs n) ∙ ap (λ zs. slice_get zs n) same ∙ slice_get-map g ys n)

module _ (catalog : Catalog) (limits : Limits) (now : Run) (n : ℕ) (change : RowChange) (pred : Pred) (route : Route) (p : Progress) (at : IsChangeAt catalog limits now n change pred route p) where
  pub change_within : (stmt : Stmt) → IsWithin catalog limits now n stmt
  change_within stmt rows counts given = ap (first_over limits nothing_read) (gathered_unique catalog now n rows at.rows given at.gathered) ∙ at.within

  pub change_routed : IsRouted catalog now n pred.table route p.search.shards
  change_routed = record { entries = []; looked = at.entries; all = ap length at.unlooked ∙ sym (ap length at.direct); visits = at.shards }

  shards_once : (shards : List ℕ) → IsRouted catalog now n pred.table route shards → shards ≡ p.search.shards
  shards_once shards routed =
      routed.visits ∙ ap (λ (es : Rows). visited catalog pred.table route (filter_map (ksid_on catalog route) es)) (looked_unique catalog now n routed.entries [] routed.looked at.entries) ∙ sym at.shards

  pub writes_many : length p.writes ≡ length (changes_of change at.rows)
  writes_many = sym (length-map p.writes (λ (action : Action). action.act)) ∙ ap length at.acts ∙ length-map (changes_of change at.rows) change_act

  pub change_read_all : p.search.read ≡ length p.search.shards → HasRead catalog now n pred route at.rows
  change_read_all all = record { shards = p.search.shards; routed = change_routed; all = at.read ∙ all; gathered = at.gathered }

  pub change_worked : p.search.read ≤ length p.search.shards → due p ≡ None → HasWorked catalog now n (plan_of change pred route)
  change_worked read none =
      worked_as catalog now n change pred route at.rows (change_read_all (omega (arith, read, no_shard_left p none))) (at.done ∙ take_all (changes_of change at.rows) p.done (omega (arith, writes_many, no_write_left p none)))

  left_by : (action : Action) → IsDueOf p action → IsDone catalog now n change pred route → ⊥
  left_by action (Read here same main) done =
      let all : p.search.read ≡ length p.search.shards = sym at.read ∙ done.read.all ∙ ap length (shards_once done.read.shards done.read.routed) in
      absurd (omega (arith, all, slice_get_within p.search.shards p.search.read action.shard here))
  left_by action (Write none here) done =
      let rows : done.rows ≡ at.rows = gathered_unique catalog now n done.rows at.rows done.read.gathered at.gathered in
      let all : take p.done (changes_of change at.rows) ≡ changes_of change at.rows = sym at.done ∙ done.all ∙ ap (changes_of change) rows in
      absurd (omega (arith, writes_many, slice_get_within p.writes p.done action here, ap length all, length-take p.done (changes_of change at.rows)))

  pub change_unworked : (action : Action) → due p ≡ Some action → HasWorked catalog now n (plan_of change pred route) → ⊥
  change_unworked action is worked = left_by action (due_by p action is) (worked_from catalog now n change pred route worked)

-- ---- the next act

-- a read, or one of the changes of a row that was read
pub data IsChangeNext (catalog : Catalog) (u : Machine) (now : Run) (n : ℕ) (stmt : Stmt) (own : Owned) (tx : TxState) (pred : Pred) (p : Progress) (its : List (Key × Option Values)) (action : Action) : Type 0 where
  NextRead : IsNext catalog u now n stmt (Some own) Reading (session_of tx action.group) action.shard action.act → action.group ≡ Main → action.act ≡ Find pred true → p.search.read < length p.search.shards → IsChangeNext catalog u now n stmt own tx pred p its action
  NextWrite : (it : Key × Option Values) → IsNext catalog u now n stmt (Some own) Changing (session_of tx action.group) action.shard action.act → action.group ≡ Main → action.act ≡ change_act it → slice_get its p.done ≡ Some it → p.done < length p.writes → p.search.read ≡ length p.search.shards
      → IsChangeNext catalog u now n stmt own tx pred p its action

module _ (catalog : Catalog) (limits : Limits) (u : Machine) (now : Run) (n count most : ℕ) (stmt : Stmt) (change : RowChange) (pred : Pred) (route : Route) (own : Owned) (tx : TxState) (p : Progress)
    (planned : IsPlanned catalog stmt (plan_of change pred route)) (is : IsTx limits now n own tx) (at : IsChangeAt catalog limits now n change pred route p) (made : IsMade catalog count most p) where
  by_main : (action : Action) → action.group ≡ Main → session_of tx action.group ≡ of_tx n own.number Main
  by_main action main = ap (session_of tx) main ∙ session_as limits now n own tx is Main

  plainly : read_group catalog pred.table ≡ Main
  plainly = ap (λ b. if b then Pre else Main) at.plain

  named_by : (action : Action) → IsDueOf p action → IsChangeNext catalog u now n stmt own tx pred p (changes_of change at.rows) action
  named_by action (Read here same main) =
      NextRead
      (record {
        own = own;
        owns = refl;
        plan = plan_of change pred route;
        planned = planned;
        due = read_next catalog u now n own.number change pred route (session_of tx action.group) action.shard action.act
            (record {
              shards = p.search.shards;
              routed = change_routed catalog limits now n change pred route p at;
              due = ap (slice_get p.search.shards) at.read ∙ here;
              by = by_main action main ∙ ap (of_tx n own.number) (sym plainly);
              finds = same ∙ at.find;
            });
      })
      main (same ∙ at.find) (slice_get_within p.search.shards p.search.read action.shard here)
  named_by action (Write none here) =
      let its = changes_of change at.rows in
      let all : p.search.read ≡ length p.search.shards = omega (arith, made.search.read, none_at p.search.shards p.search.read none) in
      let act = alike (λ (a : Action). a.act) change_act p.writes its p.done action at.acts here in
      let place = alike (λ (a : Action). a.shard) (λ (it : Key × Option Values). key_place catalog it.0) p.writes its p.done action at.placed here in
      let one : place.other ≡ act.other = same_Some place.other act.other (sym place.at ∙ act.at) in
      let main = (made.writes action (p.done, slice_get_within p.writes p.done action here, get_or_from_slice_get p.writes p.done action action here)).group in
      let many : length (wrote now n) ≡ p.done = ap length at.done ∙ length-take p.done its ∙ omega (arith, slice_get_within its p.done act.other act.at) in
      NextWrite act.other
      (record {
        own = own;
        owns = refl;
        plan = plan_of change pred route;
        planned = planned;
        due = write_next catalog u now n own.number change pred route at.rows (session_of tx action.group) action.shard action.act (change_read_all catalog limits now n change pred route p at all)
            (record {
              change = act.other;
              due = ap (slice_get its) many ∙ act.at;
              by = by_main action main;
              placed = place.same ∙ ap (λ (it : Key × Option Values). key_place catalog it.0) one;
              writes = act.same;
            });
      })
      main act.same act.at (slice_get_within p.writes p.done action here) all

  pub change_named : (action : Action) → due p ≡ Some action → IsChangeNext catalog u now n stmt own tx pred p (changes_of change at.rows) action
  change_named action is_due = named_by action (due_by p action is_due)
