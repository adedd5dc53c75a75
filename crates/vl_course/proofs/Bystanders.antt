-- What an event leaves of the statements of other sessions, and of transactions that are still to be opened.
use Rattle.std.proofs.Common.{◌≡◌, ◌∙◌, ◌==◌, ◌≤◌, ◌<◌, ◌&&◌, ◌++◌, if◌then◌else◌, ℕ, Bool, true, false, List, [], ◌∷◌, Some, refl, sym, ap, subst, arith}
use Rattle.std.proofs.lemmas.Bool.{eq-eqb, eqb-true}
use Rattle.std.proofs.lemmas.List.{append-nil}
use Rattle.vl_values.specs.declared.group.Group.{Group}
use Rattle.vl_values.specs.declared.group.Group.TheVariants.{Pre, Post}
use Rattle.vl_values.specs.declared.key.Key.{Key}
use Rattle.vl_values.specs.declared.pred.Pred.{Pred}
use Rattle.vl_catalog.specs.declared.catalog.Catalog.{Catalog}
use Rattle.vl_sql.specs.declared.stmt.Stmt.{Stmt}
use Rattle.vl_port.specs.declared.act.Act.{Act}
use Rattle.vl_port.specs.declared.limits.Limits.{Limits}
use Rattle.vl_port.specs.declared.tx_state.TxState.{TxState}
use Rattle.vl_port.specs.declared.who.Who.{Who}
use Rattle.vl_port.specs.View.{is_group}
use Rattle.vl_model.specs.declared.route.Route.{Route}
use Rattle.vl_plan.specs.declared.plan.Plan.{Plan}
use Rattle.vl_plan.specs.declared.select_plan.SelectPlan.{SelectPlan}
use Rattle.vl_change.specs.declared.row_change.RowChange.{RowChange}
use Rattle.vl_change.specs.Progress.{Progress as ChangeProgress}
use Rattle.vl_select.specs.Progress.{Progress}
use Rattle.vl_run.specs.declared.deed.Deed.{Deed}
use Rattle.vl_run.specs.declared.deed.Deed.TheVariants as deeds
use Rattle.vl_run.specs.declared.event.Event.{Event}
use Rattle.vl_run.specs.declared.mark.Mark.{Mark}
use Rattle.vl_run.specs.declared.request.Request.{Request}
use Rattle.vl_run.specs.declared.request.Request.TheVariants as requests
use Rattle.vl_run.specs.declared.tag.Tag.{Tag}
use Rattle.vl_run.specs.declared.tag.Tag.TheVariants as tags
use Rattle.vl_run.specs.Gathered.{Given, GivenBy, OwnOr, Rows, SinceIf, shown}
use Rattle.vl_run.specs.Progress.{changes, claimed, claims_in_pre, count_by, counted, is_look, is_read, listed_by, or_written, own_tries, removed, removes_in_post, session, since, summed, tries, warned, warnings_before, warnings_by, with_changes, with_commit, with_shard}
use Rattle.vl_run.specs.Run.{Run, next_tx, used, uses, with_once}
use Rattle.vl_run.specs.Run.Point.{Happened}
use Rattle.vl_run.specs.Session.{Owned, Session, session_after}
use Rattle.vl_run.proofs.Others.{given_stays, session_stays, sum_stays, tries_stay}
use Rattle.vl_course.specs.Changing.{IsChangeAt}
use Rattle.vl_course.specs.Course.{AreUnused, Course, IsApart, IsBelow, IsTx, IsUnused}
use Rattle.vl_course.specs.Selecting.{IsSelectAt}
use Rattle.vl_course.proofs.ChangeMoves.{change_stays}
use Rattle.vl_course.proofs.Moves.{SaysSame, select_stays}

-- ---- a deed of another transaction

uses_none : (deed : Deed) (tx : ℕ) (group : Group) (before : List ℕ) → IsApart deed tx → uses deed tx group before ≡ before
uses_none deeds.Nothing tx group before apart = refl
uses_none (deeds.Acts who shard act mark) tx group before apart = ap (λ b. if b && is_group who.group (Some group) then with_once shard before else before) apart
uses_none (deeds.Commits who shard) tx group before apart = refl
uses_none (deeds.Fails who shard) tx group before apart = refl

counts_none : (deed : Deed) (tx before : ℕ) → IsApart deed tx → counted tx deed before ≡ before
counts_none deeds.Nothing tx before apart = refl
counts_none (deeds.Acts who shard act mark) tx before apart = ap (λ b. if b then count_by mark before else before) apart
counts_none (deeds.Commits who shard) tx before apart = refl
counts_none (deeds.Fails who shard) tx before apart = refl

lists_none : (group : Group) (of : Mark → Act → List Key) (deed : Deed) (tx : ℕ) (before : List Key) → IsApart deed tx → listed_by group of tx deed before ≡ before
lists_none group of deeds.Nothing tx before apart = refl
lists_none group of (deeds.Acts who shard act mark) tx before apart = ap (λ b. if b && is_group who.group (Some group) then before ++ of mark act else before) apart
lists_none group of (deeds.Commits who shard) tx before apart = refl
lists_none group of (deeds.Fails who shard) tx before apart = refl

pub tx_stays : (bounds : Limits) (e : Event) (past : Run) (n : ℕ) (own : Owned) (tx : TxState) → IsApart e.deed own.number → IsTx bounds past n own tx → IsTx bounds (Happened e ∷ past) n own tx
tx_stays bounds e past n own tx apart is = record {
  number = is.number;
  session = is.session;
  single = is.single;
  limits = is.limits;
  used = λ group. uses_none e.deed own.number group (used past own.number group) apart ∙ is.used group;
  changes = is.changes ∙ sym (counts_none e.deed own.number (changes past own.number) apart);
  below = is.below;
  claimed = is.claimed ∙ sym (lists_none Pre claims_in_pre e.deed own.number (claimed past own.number) apart);
  removed = is.removed ∙ sym (lists_none Post removes_in_post e.deed own.number (removed past own.number) apart);
}

-- ---- numbers that are still to be given

unused_behind : (e : Event) (past : Run) (tx : ℕ) → IsApart e.deed tx → IsUnused past tx → IsUnused (Happened e ∷ past) tx
unused_behind e past tx apart unused = record {
  used = λ group. uses_none e.deed tx group (used past tx group) apart ∙ unused.used group;
  changes = counts_none e.deed tx (changes past tx) apart ∙ unused.changes;
  claimed = lists_none Pre claims_in_pre e.deed tx (claimed past tx) apart ∙ unused.claimed;
  removed = lists_none Post removes_in_post e.deed tx (removed past tx) apart ∙ unused.removed;
}

other_number : (a b : ℕ) → a < b → (a == b) ≡ false
other_number a b below = by_test (a == b) refl
  where
    by_test : (t : Bool) → (a == b) ≡ t → (a == b) ≡ false
    by_test true is = absurd (omega (arith, eqb-true a b is, below))
    by_test false is = is

apart_below : (deed : Deed) (next tx : ℕ) → IsBelow deed next → next ≤ tx → IsApart deed tx
apart_below deeds.Nothing next tx below above = tt
apart_below (deeds.Acts who shard act mark) next tx below above = other_number who.tx tx (omega (arith, below, above))
apart_below (deeds.Commits who shard) next tx below above = tt
apart_below (deeds.Fails who shard) next tx below above = tt

pub unused_stay : (e : Event) (past : Run) → next_tx past ≤ next_tx (Happened e ∷ past) → IsBelow e.deed (next_tx (Happened e ∷ past)) → AreUnused past → AreUnused (Happened e ∷ past)
unused_stay e past more below unused tx above = unused_behind e past tx (apart_below e.deed (next_tx (Happened e ∷ past)) tx below above) (unused tx (omega (arith, more, above)))

-- ---- an event of another session

module _ (catalog : Catalog) (limits : Limits) (e : Event) (past : Run) (n : ℕ) (other : (e.session == n) ≡ false) where
  warned_stay : warned catalog (Happened e ∷ past) n ≡ warned catalog past n
  warned_stay = ap (λ b. if b then warnings_before e.request (warned catalog past n) ++ warnings_by catalog e.deed e.fault else warned catalog past n) other

  pub course_stays : (stmt : Stmt) (plan : Plan) (own : Owned) (tx : TxState) (times : ℕ) (wrote : Bool) → IsApart e.deed own.number → Course catalog limits past n stmt plan own tx times wrote → Course catalog limits (Happened e ∷ past) n stmt plan own tx times wrote
  course_stays stmt plan own tx times wrote apart course =
      let same = session_stays e past n other in
      record {
        doing = ap (λ (s : Session). s.doing) same ∙ course.doing;
        accepted = course.accepted;
        planned = course.planned;
        owned = ap (λ (s : Session). s.owned) same ∙ course.owned;
        auto = course.auto ∙ sym (ap (λ (s : Session). s.auto) same);
        is_tx = tx_stays limits e past n own tx apart course.is_tx;
        uncommitted = sum_stays e past n other 0 with_commit ∙ course.uncommitted;
        tried = tries_stay e past n other ∙ course.tried;
        written = sum_stays e past n other false or_written ∙ course.written;
        unwarned = warned_stay ∙ course.unwarned;
      }

  says_others : SaysSame catalog past (Happened e ∷ past) n
  says_others = record {
    looked = sum_stays e past n other [] (with_shard is_look);
    read = sum_stays e past n other [] (with_shard is_read);
    wrote = sum_stays e past n other [] with_changes;
    entries = λ rows given. given_stays e past n other catalog is_look rows given;
    rows = λ rows given. given_stays e past n other catalog is_read rows given;
  }

  pub select_others : (plan : SelectPlan) (p : Progress) → IsSelectAt catalog limits past n plan p → IsSelectAt catalog limits (Happened e ∷ past) n plan p
  select_others plan p at = select_stays catalog limits past (Happened e ∷ past) n plan p says_others at

  pub change_others : (change : RowChange) (pred : Pred) (route : Route) (p : ChangeProgress) → IsChangeAt catalog limits past n change pred route p → IsChangeAt catalog limits (Happened e ∷ past) n change pred route p
  change_others change pred route p at = change_stays catalog limits past (Happened e ∷ past) n change pred route p says_others at

-- ---- a kill of a shard session of its own

module _ (catalog : Catalog) (limits : Limits) (e : Event) (past : Run) (who : Who) (shard : ℕ) (kill : e.request ≡ requests.Kill who shard) (still : e.deed ≡ deeds.Nothing) (told : e.told ≡ tags.Nothing) where
  own : (e.session == e.session) ≡ true
  own = eq-eqb e.session e.session refl

  sum_killed : {A : Type 0} (start : A) (more : Deed → A → A) → ((before : A) → more deeds.Nothing before ≡ before) → summed start more (Happened e ∷ past) e.session ≡ summed start more past e.session
  sum_killed start more nothing =
      ap (λ b. if b then more e.deed (since e.request start (summed start more past e.session)) else summed start more past e.session) own
      ∙ ap (λ (d : Deed). more d (since e.request start (summed start more past e.session))) still
      ∙ nothing (since e.request start (summed start more past e.session))
      ∙ ap (λ (r : Request). since r start (summed start more past e.session)) kill

  session_killed : session (Happened e ∷ past) e.session ≡ session past e.session
  session_killed =
      ap (λ b. if b then session_after e.request e.told e.opens (session past e.session) else session past e.session) own ∙ ap (λ (r : Request). session_after r e.told e.opens (session past e.session)) kill

  tries_killed : tries (Happened e ∷ past) e.session ≡ tries past e.session
  tries_killed =
      ap (λ b. if b then own_tries e.request e.told (tries past e.session) else tries past e.session) own ∙ ap (λ (t : Tag). own_tries e.request t (tries past e.session)) told
      ∙ ap (λ (r : Request). since r 0 (tries past e.session)) kill

  warned_killed : warned catalog (Happened e ∷ past) e.session ≡ warned catalog past e.session
  warned_killed =
      ap (λ b. if b then warnings_before e.request (warned catalog past e.session) ++ warnings_by catalog e.deed e.fault else warned catalog past e.session) own
      ∙ ap (λ (d : Deed). warnings_before e.request (warned catalog past e.session) ++ warnings_by catalog d e.fault) still ∙ append-nil (warnings_before e.request (warned catalog past e.session))
      ∙ ap (λ (r : Request). warnings_before r (warned catalog past e.session)) kill

  given_killed : (is : Mark → Bool) (rows : Rows) → Given catalog is past e.session rows → Given catalog is (Happened e ∷ past) e.session rows
  given_killed is rows given =
      subst (λ b. OwnOr b (GivenBy catalog is (shown catalog past) e.deed (SinceIf e.request (Given catalog is past e.session)) rows) (Given catalog is past e.session rows)) (sym own)
      (subst (λ (d : Deed). GivenBy catalog is (shown catalog past) d (SinceIf e.request (Given catalog is past e.session)) rows) (sym still)
      (subst (λ (r : Request). SinceIf r (Given catalog is past e.session) rows) (sym kill) given))

  pub course_killed : (stmt : Stmt) (plan : Plan) (own : Owned) (tx : TxState) (times : ℕ) (wrote : Bool) → Course catalog limits past e.session stmt plan own tx times wrote → Course catalog limits (Happened e ∷ past) e.session stmt plan own tx times wrote
  course_killed stmt plan own tx times wrote course = record {
    doing = ap (λ (s : Session). s.doing) session_killed ∙ course.doing;
    accepted = course.accepted;
    planned = course.planned;
    owned = ap (λ (s : Session). s.owned) session_killed ∙ course.owned;
    auto = course.auto ∙ sym (ap (λ (s : Session). s.auto) session_killed);
    is_tx = tx_stays limits e past e.session own tx (subst (λ (d : Deed). IsApart d own.number) (sym still) tt) course.is_tx;
    uncommitted = sum_killed 0 with_commit (λ before. refl) ∙ course.uncommitted;
    tried = tries_killed ∙ course.tried;
    written = sum_killed false or_written (λ before. refl) ∙ course.written;
    unwarned = warned_killed ∙ course.unwarned;
  }

  says_killed : SaysSame catalog past (Happened e ∷ past) e.session
  says_killed = record {
    looked = sum_killed [] (with_shard is_look) (λ before. refl);
    read = sum_killed [] (with_shard is_read) (λ before. refl);
    wrote = sum_killed [] with_changes (λ before. refl);
    entries = λ rows given. given_killed is_look rows given;
    rows = λ rows given. given_killed is_read rows given;
  }

  pub select_killed : (plan : SelectPlan) (p : Progress) → IsSelectAt catalog limits past e.session plan p → IsSelectAt catalog limits (Happened e ∷ past) e.session plan p
  select_killed plan p at = select_stays catalog limits past (Happened e ∷ past) e.session plan p says_killed at

  pub change_killed : (change : RowChange) (pred : Pred) (route : Route) (p : ChangeProgress) → IsChangeAt catalog limits past e.session change pred route p → IsChangeAt catalog limits (Happened e ∷ past) e.session change pred route p
  change_killed change pred route p at = change_stays catalog limits past (Happened e ∷ past) e.session change pred route p says_killed at
