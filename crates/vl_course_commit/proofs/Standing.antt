-- Events that leave a commit where it stood: those of other sessions, a kill, and the ask to go on.
use Rattle.std.proofs.Common.{◌≡◌, ◌∙◌, ◌==◌, ◌++◌, if◌then◌else◌, ℕ, Bool, true, false, [], ◌∷◌, refl, sym, ap, subst}
use Rattle.std.proofs.lemmas.Bool.{eq-eqb}
use Rattle.std.proofs.lemmas.List.{append-nil}
use Rattle.vl_values.specs.declared.reply.Reply.{Reply}
use Rattle.vl_catalog.specs.declared.catalog.Catalog.{Catalog}
use Rattle.vl_sql.specs.declared.stmt.Stmt.{Stmt}
use Rattle.vl_port.specs.declared.limits.Limits.{Limits}
use Rattle.vl_port.specs.declared.who.Who.{Who}
use Rattle.vl_plan.specs.declared.plan.Plan.{Plan}
use Rattle.vl_commit.specs.Stepping.{Committing}
use Rattle.vl_run.specs.declared.deed.Deed.{Deed}
use Rattle.vl_run.specs.declared.deed.Deed.TheVariants as deeds
use Rattle.vl_run.specs.declared.event.Event.{Event}
use Rattle.vl_run.specs.declared.mark.Mark.{Mark}
use Rattle.vl_run.specs.declared.request.Request.{Request}
use Rattle.vl_run.specs.declared.request.Request.TheVariants as requests
use Rattle.vl_run.specs.Allowed.{now_of}
use Rattle.vl_run.specs.Gathered.{Given, GivenBy, OwnOr, Rows, SinceIf, shown}
use Rattle.vl_run.specs.Progress.{is_look, is_read, session, since, summed, warned, warnings_before, warnings_by, with_changes, with_commit, with_shard}
use Rattle.vl_run.specs.Run.{Run}
use Rattle.vl_run.specs.Run.Point.{Happened}
use Rattle.vl_run.specs.Session.{Owned, Session, session_after}
use Rattle.vl_run.proofs.Others.{given_stays, session_stays, sum_stays}
use Rattle.vl_course.specs.Course.{IsApart, IsTx}
use Rattle.vl_course.proofs.Asked.{tx_asked}
use Rattle.vl_course.proofs.Behind.{given_stepped, session_stepped, sum_stepped, warned_stepped}
use Rattle.vl_course.proofs.Bystanders.{tx_stays}
use Rattle.vl_course_commit.specs.Committing.{IsCommitAt, IsReplyOf}
use Rattle.vl_course_commit.proofs.Kept.{LeavesWork, reply_kept, within_kept, worked_kept}

-- ---- an event that leaves all that is said of the session

module _ (catalog : Catalog) (limits : Limits) (now after : Run) (n : ℕ) (leaves : LeavesWork catalog now after n) (same : session after n ≡ session now n) (stmt : Stmt) (plan : Plan) (own : Owned) (c : Committing) where
  pub commit_kept : IsTx limits after n own c.tx → summed 0 with_commit after n ≡ summed 0 with_commit now n → warned catalog after n ≡ warned catalog now n → IsCommitAt catalog limits now n stmt plan own c → IsCommitAt catalog limits after n stmt plan own c
  commit_kept is_tx count warns at = record {
    doing = ap (λ (s : Session). s.doing) same ∙ at.doing;
    planned = at.planned;
    owned = ap (λ (s : Session). s.owned) same ∙ at.owned;
    committing = at.committing;
    is_tx = is_tx;
    worked = worked_kept catalog now after n leaves plan at.worked;
    within = within_kept catalog now after n leaves limits stmt at.within;
    dealt = count ∙ at.dealt;
    bounded = at.bounded;
    warned = warns ∙ at.warned;
  }

-- ---- the ask to go on

module _ (catalog : Catalog) (e : Event) (past : Run) (step : e.request ≡ requests.Step) where
  given_asked : (is : Mark → Bool) (rows : Rows) → Given catalog is (now_of e past) e.session rows → Given catalog is past e.session rows
  given_asked is rows given =
      subst (λ (r : Request). SinceIf r (Given catalog is past e.session) rows) step
      (subst (λ b. OwnOr b (SinceIf e.request (Given catalog is past e.session) rows) (Given catalog is past e.session rows)) (eq-eqb e.session e.session refl) given)

  leaves_asked : LeavesWork catalog past (now_of e past) e.session
  leaves_asked = record {
    says = record {
      looked = sum_stepped e past [] (with_shard is_look) (λ before. refl) step;
      read = sum_stepped e past [] (with_shard is_read) (λ before. refl) step;
      wrote = sum_stepped e past [] with_changes (λ before. refl) step;
      entries = λ rows given. given_stepped e past catalog is_look rows step given;
      rows = λ rows given. given_stepped e past catalog is_read rows step given;
    };
    back = λ rows given. given_asked is_read rows given;
  }

  pub commit_stepped : (limits : Limits) (stmt : Stmt) (plan : Plan) (own : Owned) (c : Committing) → IsCommitAt catalog limits past e.session stmt plan own c → IsCommitAt catalog limits (now_of e past) e.session stmt plan own c
  commit_stepped limits stmt plan own c at =
      commit_kept catalog limits past (now_of e past) e.session leaves_asked (session_stepped e past step) stmt plan own c (tx_asked limits e past e.session own c.tx at.is_tx)
      (sum_stepped e past 0 with_commit (λ before. refl) step) (warned_stepped e past catalog step) at

  pub reply_stepped : (stmt : Stmt) (plan : Plan) (reply : Reply) → IsReplyOf catalog past e.session stmt plan reply → IsReplyOf catalog (now_of e past) e.session stmt plan reply
  reply_stepped stmt plan reply is = reply_kept catalog past (now_of e past) e.session leaves_asked stmt plan reply is

-- ---- an event of another session

module _ (catalog : Catalog) (e : Event) (past : Run) (n : ℕ) (other : (e.session == n) ≡ false) where
  given_others : (is : Mark → Bool) (rows : Rows) → Given catalog is (Happened e ∷ past) n rows → Given catalog is past n rows
  given_others is rows given =
      subst (λ b. OwnOr b (GivenBy catalog is (shown catalog past) e.deed (SinceIf e.request (Given catalog is past n)) rows) (Given catalog is past n rows)) other given

  leaves_others : LeavesWork catalog past (Happened e ∷ past) n
  leaves_others = record {
    says = record {
      looked = sum_stays e past n other [] (with_shard is_look);
      read = sum_stays e past n other [] (with_shard is_read);
      wrote = sum_stays e past n other [] with_changes;
      entries = λ rows given. given_stays e past n other catalog is_look rows given;
      rows = λ rows given. given_stays e past n other catalog is_read rows given;
    };
    back = λ rows given. given_others is_read rows given;
  }

  warned_stay : warned catalog (Happened e ∷ past) n ≡ warned catalog past n
  warned_stay = ap (λ b. if b then warnings_before e.request (warned catalog past n) ++ warnings_by catalog e.deed e.fault else warned catalog past n) other

  pub commit_stays : (limits : Limits) (stmt : Stmt) (plan : Plan) (own : Owned) (c : Committing) → IsApart e.deed own.number → IsCommitAt catalog limits past n stmt plan own c → IsCommitAt catalog limits (Happened e ∷ past) n stmt plan own c
  commit_stays limits stmt plan own c apart at =
      commit_kept catalog limits past (Happened e ∷ past) n leaves_others (session_stays e past n other) stmt plan own c (tx_stays limits e past n own c.tx apart at.is_tx)
      (sum_stays e past n other 0 with_commit) warned_stay at

  pub reply_stays : (stmt : Stmt) (plan : Plan) (reply : Reply) → IsReplyOf catalog past n stmt plan reply → IsReplyOf catalog (Happened e ∷ past) n stmt plan reply
  reply_stays stmt plan reply is = reply_kept catalog past (Happened e ∷ past) n leaves_others stmt plan reply is

-- ---- a kill of a shard session of its own

module _ (catalog : Catalog) (e : Event) (past : Run) (who : Who) (shard : ℕ) (kill : e.request ≡ requests.Kill who shard) (still : e.deed ≡ deeds.Nothing) where
  own_ : (e.session == e.session) ≡ true
  own_ = eq-eqb e.session e.session refl

  sum_killed : {A : Type 0} (start : A) (more : Deed → A → A) → ((before : A) → more deeds.Nothing before ≡ before) → summed start more (Happened e ∷ past) e.session ≡ summed start more past e.session
  sum_killed start more nothing =
      ap (λ b. if b then more e.deed (since e.request start (summed start more past e.session)) else summed start more past e.session) own_
      ∙ ap (λ (d : Deed). more d (since e.request start (summed start more past e.session))) still
      ∙ nothing (since e.request start (summed start more past e.session))
      ∙ ap (λ (r : Request). since r start (summed start more past e.session)) kill

  session_killed : session (Happened e ∷ past) e.session ≡ session past e.session
  session_killed =
      ap (λ b. if b then session_after e.request e.told e.opens (session past e.session) else session past e.session) own_ ∙ ap (λ (r : Request). session_after r e.told e.opens (session past e.session)) kill

  warned_killed : warned catalog (Happened e ∷ past) e.session ≡ warned catalog past e.session
  warned_killed =
      ap (λ b. if b then warnings_before e.request (warned catalog past e.session) ++ warnings_by catalog e.deed e.fault else warned catalog past e.session) own_
      ∙ ap (λ (d : Deed). warnings_before e.request (warned catalog past e.session) ++ warnings_by catalog d e.fault) still ∙ append-nil (warnings_before e.request (warned catalog past e.session))
      ∙ ap (λ (r : Request). warnings_before r (warned catalog past e.session)) kill

  given_killed : (is : Mark → Bool) (rows : Rows) → Given catalog is past e.session rows → Given catalog is (Happened e ∷ past) e.session rows
  given_killed is rows given =
      subst (λ b. OwnOr b (GivenBy catalog is (shown catalog past) e.deed (SinceIf e.request (Given catalog is past e.session)) rows) (Given catalog is past e.session rows)) (sym own_)
      (subst (λ (d : Deed). GivenBy catalog is (shown catalog past) d (SinceIf e.request (Given catalog is past e.session)) rows) (sym still)
      (subst (λ (r : Request). SinceIf r (Given catalog is past e.session) rows) (sym kill) given))

  killed_given : (is : Mark → Bool) (rows : Rows) → Given catalog is (Happened e ∷ past) e.session rows → Given catalog is past e.session rows
  killed_given is rows given =
      subst (λ (r : Request). SinceIf r (Given catalog is past e.session) rows) kill
      (subst (λ (d : Deed). GivenBy catalog is (shown catalog past) d (SinceIf e.request (Given catalog is past e.session)) rows) still
      (subst (λ b. OwnOr b (GivenBy catalog is (shown catalog past) e.deed (SinceIf e.request (Given catalog is past e.session)) rows) (Given catalog is past e.session rows)) own_ given))

  leaves_killed : LeavesWork catalog past (Happened e ∷ past) e.session
  leaves_killed = record {
    says = record {
      looked = sum_killed [] (with_shard is_look) (λ before. refl);
      read = sum_killed [] (with_shard is_read) (λ before. refl);
      wrote = sum_killed [] with_changes (λ before. refl);
      entries = λ rows given. given_killed is_look rows given;
      rows = λ rows given. given_killed is_read rows given;
    };
    back = λ rows given. killed_given is_read rows given;
  }

  pub commit_killed : (limits : Limits) (stmt : Stmt) (plan : Plan) (own : Owned) (c : Committing) → IsCommitAt catalog limits past e.session stmt plan own c → IsCommitAt catalog limits (Happened e ∷ past) e.session stmt plan own c
  commit_killed limits stmt plan own c at =
      commit_kept catalog limits past (Happened e ∷ past) e.session leaves_killed session_killed stmt plan own c
      (tx_stays limits e past e.session own c.tx (subst (λ (d : Deed). IsApart d own.number) (sym still) tt) at.is_tx) (sum_killed 0 with_commit (λ before. refl)) warned_killed at

  pub reply_killed : (stmt : Stmt) (plan : Plan) (reply : Reply) → IsReplyOf catalog past e.session stmt plan reply → IsReplyOf catalog (Happened e ∷ past) e.session stmt plan reply
  reply_killed stmt plan reply is = reply_kept catalog past (Happened e ∷ past) e.session leaves_killed stmt plan reply is
