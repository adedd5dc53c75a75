-- A statement that is asked to go on stands where it stood, and one that is said stands at its beginning.
use Rattle.std.proofs.Common.{◌≡◌, ◌∙◌, ℕ, Bool, true, false, [], length, map, Option, Some, None, refl, sym, ap, arith}
use Rattle.vl_values.specs.declared.group.Group.{Group}
use Rattle.vl_values.specs.declared.group.Group.TheVariants.{Pre, Main, Post}
use Rattle.vl_values.specs.declared.key.Key.{Key}
use Rattle.vl_values.specs.declared.pred.Pred.{Pred}
use Rattle.vl_catalog.specs.declared.catalog.Catalog.{Catalog}
use Rattle.vl_sql.specs.declared.stmt.Stmt.{Stmt}
use Rattle.vl_port.specs.declared.limits.Limits.{Limits}
use Rattle.vl_port.specs.declared.tx_state.TxState.{TxState}
use Rattle.vl_port.specs.Transaction.{listed}
use Rattle.vl_port.specs.View.{Values}
use Rattle.vl_model.specs.declared.route.Route.{Route}
use Rattle.vl_model.specs.declared.route.Route.TheVariants as routes
use Rattle.vl_model.specs.Entries.{is_lookup_table}
use Rattle.vl_model.specs.Refusals.{refusals}
use Rattle.vl_model.specs.Visiting.{entry_reads, visited}
use Rattle.vl_plan.specs.declared.plan.Plan.{Plan}
use Rattle.vl_plan.specs.declared.projection.Projection.{Projection}
use Rattle.vl_plan.specs.declared.projection.Projection.TheVariants as projections
use Rattle.vl_plan.specs.declared.select_plan.SelectPlan.{SelectPlan}
use Rattle.vl_plan.specs.Planned.{IsPlanned}
use Rattle.vl_change.specs.declared.row_change.RowChange.{RowChange}
use Rattle.vl_change.specs.declared.row_change.RowChange.TheVariants as changes
use Rattle.vl_change.specs.Begun.{is_direct, searching}
use Rattle.vl_change.specs.Progress.{Progress as ChangeProgress}
use Rattle.vl_select.specs.Begun.{begun}
use Rattle.vl_select.specs.Progress.{Progress, kept, passed, tallied}
use Rattle.vl_run.specs.declared.event.Event.{Event}
use Rattle.vl_run.specs.declared.request.Request.TheVariants as requests
use Rattle.vl_run.specs.Allowed.{now_of}
use Rattle.vl_run.specs.Machine.{key_place}
use Rattle.vl_run.specs.Named.{change_act}
use Rattle.vl_run.specs.Progress.{is_look, is_read, or_written, session, with_changes, with_commit, with_shard, wrote}
use Rattle.vl_run.specs.Refused.{nothing_read}
use Rattle.vl_run.specs.Run.{Run}
use Rattle.vl_run.specs.Session.{Kind, Owned, Session, kind_of, opened_for, said}
use Rattle.vl_run.specs.Session.Kind.{Works}
use Rattle.vl_course.specs.Changing.{IsChangeAt, changes_of}
use Rattle.vl_course.specs.Course.{Course, IsTx, IsUnused, opened_tx}
use Rattle.vl_course.specs.Selecting.{IsSelectAt}
use Rattle.vl_course.proofs.Behind.{given_said, given_stepped, session_said, session_stepped, sum_said, sum_stepped, tries_said, tries_stepped, warned_said, warned_stepped}
use Rattle.vl_course.proofs.ChangeMoves.{change_stays}
use Rattle.vl_course.proofs.Moves.{SaysSame, select_stays}

-- the ask has no deed
pub tx_asked : (bounds : Limits) (e : Event) (past : Run) (n : ℕ) (own : Owned) (tx : TxState) → IsTx bounds past n own tx → IsTx bounds (now_of e past) n own tx
tx_asked bounds e past n own tx is = record {
  number = is.number;
  session = is.session;
  single = is.single;
  limits = is.limits;
  used = is.used;
  changes = is.changes;
  below = is.below;
  claimed = is.claimed;
  removed = is.removed;
}

-- ---- a Step

module _ (catalog : Catalog) (limits : Limits) (e : Event) (past : Run) (step : e.request ≡ requests.Step) where
  pub course_stepped : (stmt : Stmt) (plan : Plan) (own : Owned) (tx : TxState) (times : ℕ) (wrote : Bool) → Course catalog limits past e.session stmt plan own tx times wrote → Course catalog limits (now_of e past) e.session stmt plan own tx times wrote
  course_stepped stmt plan own tx times wrote course =
      let same = session_stepped e past step in
      record {
        doing = ap (λ (s : Session). s.doing) same ∙ course.doing;
        accepted = course.accepted;
        planned = course.planned;
        owned = ap (λ (s : Session). s.owned) same ∙ course.owned;
        auto = course.auto ∙ sym (ap (λ (s : Session). s.auto) same);
        is_tx = tx_asked limits e past e.session own tx course.is_tx;
        uncommitted = sum_stepped e past 0 with_commit (λ before. refl) step ∙ course.uncommitted;
        tried = tries_stepped e past step ∙ course.tried;
        written = sum_stepped e past false or_written (λ before. refl) step ∙ course.written;
        unwarned = warned_stepped e past catalog step ∙ course.unwarned;
      }

  pub says_stepped : SaysSame catalog past (now_of e past) e.session
  says_stepped = record {
    looked = sum_stepped e past [] (with_shard is_look) (λ before. refl) step;
    read = sum_stepped e past [] (with_shard is_read) (λ before. refl) step;
    wrote = sum_stepped e past [] with_changes (λ before. refl) step;
    entries = λ rows given. given_stepped e past catalog is_look rows step given;
    rows = λ rows given. given_stepped e past catalog is_read rows step given;
  }

  pub select_stepped : (plan : SelectPlan) (p : Progress) → IsSelectAt catalog limits past e.session plan p → IsSelectAt catalog limits (now_of e past) e.session plan p
  select_stepped plan p at = select_stays catalog limits past (now_of e past) e.session plan p says_stepped at

  pub change_stepped : (change : RowChange) (pred : Pred) (route : Route) (p : ChangeProgress) → IsChangeAt catalog limits past e.session change pred route p → IsChangeAt catalog limits (now_of e past) e.session change pred route p
  change_stepped change pred route p at = change_stays catalog limits past (now_of e past) e.session change pred route p says_stepped at

-- ---- a Say

-- a route that goes by no lookup reads no entry
no_entries : (catalog : Catalog) (route : Route) → is_direct route ≡ true → entry_reads catalog route ≡ []
no_entries catalog (routes.Primary values) direct = refl
no_entries catalog (routes.Lookup l values) direct = absurd (cc)
no_entries catalog routes.All direct = refl

none_kept : (what : Projection) → [] ≡ kept what []
none_kept projections.All = refl
none_kept projections.Count = refl
none_kept (projections.Columns columns) = refl

none_tallied : (what : Projection) → nothing_read ≡ tallied what nothing_read []
none_tallied projections.All = refl
none_tallied projections.Count = refl
none_tallied (projections.Columns columns) = refl

none_passed : (what : Projection) (limits : Limits) → passed what limits nothing_read [] ≡ None
none_passed projections.All limits = refl
none_passed projections.Count limits = refl
none_passed (projections.Columns columns) limits = refl

module _ (catalog : Catalog) (limits : Limits) (e : Event) (past : Run) (stmt : Stmt) (say : e.request ≡ requests.Say stmt) where
  -- in a transaction that is open
  pub course_said : (plan : Plan) (own : Owned) (tx : TxState) → refusals catalog stmt ≡ [] → IsPlanned catalog stmt plan → kind_of stmt ≡ Works → e.opens ≡ None → (session past e.session).owned ≡ Some own → tx.auto ≡ (session past e.session).auto → IsTx limits past e.session own tx
      → Course catalog limits (now_of e past) e.session stmt plan own tx 0 false
  course_said plan own tx accepted planned works opens owned auto is =
      let same : session (now_of e past) e.session ≡ said stmt None (session past e.session) = session_said e past stmt say ∙ ap (λ (o : Option ℕ). said stmt o (session past e.session)) opens in
      record {
        doing = ap (λ (s : Session). s.doing) same;
        accepted = accepted;
        planned = planned;
        owned = ap (λ (s : Session). s.owned) same ∙ owned;
        auto = auto ∙ sym (ap (λ (s : Session). s.auto) same);
        is_tx = tx_asked limits e past e.session own tx is;
        uncommitted = sum_said e past 0 with_commit stmt (λ before. refl) say;
        tried = tries_said e past stmt say;
        written = sum_said e past false or_written stmt (λ before. refl) say;
        unwarned = warned_said e past catalog stmt say works;
      }

  tx_opened : (number : ℕ) (auto : Bool) → IsUnused past number → IsTx limits (now_of e past) e.session (record { number = number; single = auto }) (opened_tx number e.session limits auto)
  tx_opened number auto unused = record {
    number = refl;
    session = refl;
    single = refl;
    limits = refl;
    used = λ group. unused.used group ∙ none_listed group;
    changes = sym unused.changes;
    below = omega arith;
    claimed = sym unused.claimed;
    removed = sym unused.removed;
  }
    where
      none_listed : (group : Group) → [] ≡ listed (opened_tx number e.session limits auto) group
      none_listed Pre = refl
      none_listed Main = refl
      none_listed Post = refl

  -- and in one that it opens
  pub course_opened : (plan : Plan) (number : ℕ) → refusals catalog stmt ≡ [] → IsPlanned catalog stmt plan → kind_of stmt ≡ Works → (session past e.session).owned ≡ None → e.opens ≡ Some number → IsUnused past number
      → Course catalog limits (now_of e past) e.session stmt plan (record { number = number; single = (session past e.session).auto }) (opened_tx number e.session limits (session past e.session).auto) 0 false
  course_opened plan number accepted planned works owned opens unused =
      let s = session past e.session in
      let same : session (now_of e past) e.session ≡ said stmt (Some number) s = session_said e past stmt say ∙ ap (λ (o : Option ℕ). said stmt o s) opens in
      record {
        doing = ap (λ (s : Session). s.doing) same;
        accepted = accepted;
        planned = planned;
        owned = ap (λ (s : Session). s.owned) same ∙ ap (λ (k : Kind). opened_for k s.auto s.owned number) works ∙ ap (λ (o : Option Owned). opened_for Works s.auto o number) owned;
        auto = sym (ap (λ (s : Session). s.auto) same);
        is_tx = tx_opened number s.auto unused;
        uncommitted = sum_said e past 0 with_commit stmt (λ before. refl) say;
        tried = tries_said e past stmt say;
        written = sum_said e past false or_written stmt (λ before. refl) say;
        unwarned = warned_said e past catalog stmt say works;
      }

  pub select_said : (plan : SelectPlan) → IsSelectAt catalog limits (now_of e past) e.session plan (begun catalog plan)
  select_said plan = record {
    table = refl;
    what = refl;
    sorts = refl;
    limit = refl;
    route = refl;
    find = refl;
    group = refl;
    entries = refl;
    looked = ap length (sum_said e past [] (with_shard is_look) stmt (λ before. refl) say);
    ksids = record { entries = []; looked = given_said e past catalog is_look stmt say; named = refl };
    shards = refl;
    read = ap length (sum_said e past [] (with_shard is_read) stmt (λ before. refl) say);
    gathered = record {
      rows = [];
      gathered = given_said e past catalog is_read stmt say;
      kept = none_kept plan.what;
      tallied = none_tallied plan.what;
      within = none_passed plan.what limits;
    };
    unwritten = sum_said e past [] with_changes stmt (λ before. refl) say;
  }

  pub change_said : (change : RowChange) (pred : Pred) (route : Route) → is_lookup_table catalog pred.table ≡ false → is_direct route ≡ true
      → IsChangeAt catalog limits (now_of e past) e.session change pred route (searching pred change (visited catalog pred.table route []))
  change_said change pred route plain direct = record {
    changes = refl;
    find = refl;
    plain = plain;
    direct = no_entries catalog route direct;
    unlooked = sum_said e past [] (with_shard is_look) stmt (λ before. refl) say;
    entries = given_said e past catalog is_look stmt say;
    shards = refl;
    read = ap length (sum_said e past [] (with_shard is_read) stmt (λ before. refl) say);
    rows = [];
    gathered = given_said e past catalog is_read stmt say;
    tallied = refl;
    within = refl;
    acts = no_acts change;
    placed = no_places change;
    done = sum_said e past [] with_changes stmt (λ before. refl) say;
  }
    where
      no_acts : (change : RowChange) → [] ≡ map change_act (changes_of change [])
      no_acts (changes.Set settings) = refl
      no_acts changes.Remove = refl

      no_places : (change : RowChange) → [] ≡ map (λ (it : Key × Option Values). key_place catalog it.0) (changes_of change [])
      no_places (changes.Set settings) = refl
      no_places changes.Remove = refl
