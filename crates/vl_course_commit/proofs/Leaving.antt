-- What a step of a commit leaves of the statement that it ends.
use Rattle.std.proofs.Common.{◌≡◌, ◌∙◌, ◌==◌, ◌+◌, ◌++◌, if◌then◌else◌, ℕ, Bool, true, false, List, [], ◌∷◌, Option, refl, sym, ap, subst}
use Rattle.std.proofs.lemmas.Bool.{eq-eqb}
use Rattle.std.proofs.lemmas.List.{append-nil}
use Rattle.vl_values.specs.declared.key.Key.{Key}
use Rattle.vl_values.specs.declared.warning.Warning.{Warning as Reported}
use Rattle.vl_catalog.specs.declared.catalog.Catalog.{Catalog}
use Rattle.vl_port.specs.declared.limits.Limits.{Limits}
use Rattle.vl_port.specs.declared.tx_state.TxState.{TxState}
use Rattle.vl_port.specs.declared.who.Who.{Who}
use Rattle.vl_port.specs.View.{Values}
use Rattle.vl_run.specs.declared.deed.Deed.{Deed}
use Rattle.vl_run.specs.declared.deed.Deed.TheVariants as deeds
use Rattle.vl_run.specs.declared.event.Event.{Event}
use Rattle.vl_run.specs.declared.mark.Mark.{Mark}
use Rattle.vl_run.specs.Allowed.{now_of}
use Rattle.vl_run.specs.Gathered.{Given, GivenBy, OwnOr, Rows, SinceIf, shown}
use Rattle.vl_run.specs.Machine.{Machine}
use Rattle.vl_run.specs.Progress.{commits, is_look, is_read, warned, warnings_before, warnings_by, with_changes, with_commit}
use Rattle.vl_run.specs.Run.{Run}
use Rattle.vl_run.specs.Run.Point.{Happened}
use Rattle.vl_run.specs.Session.{Owned}
use Rattle.vl_course.specs.Course.{IsApart, IsTx}
use Rattle.vl_course.proofs.Behind.{is_giving, sum_behind}
use Rattle.vl_course.proofs.Bystanders.{tx_stays}
use Rattle.vl_course.proofs.Moves.{says_same}
use Rattle.vl_replay.specs.Ending.{IsNoAct, committed_deed}
use Rattle.vl_course_commit.proofs.Kept.{LeavesWork}

-- ---- a deed that is no act

pub commit_no_act : (done : Bool) (who : Who) (shard : ℕ) → IsNoAct (committed_deed done who shard)
commit_no_act true who shard = tt
commit_no_act false who shard = tt

gives_none : (is : Mark → Bool) (deed : Deed) → IsNoAct deed → is_giving is deed ≡ false
gives_none is deeds.Nothing none = refl
gives_none is (deeds.Acts who shard act mark) none = absurd none
gives_none is (deeds.Commits who shard) none = refl
gives_none is (deeds.Fails who shard) none = refl

writes_none : (deed : Deed) (before : List (Key × Option Values)) → IsNoAct deed → with_changes deed before ≡ before
writes_none deeds.Nothing before none = refl
writes_none (deeds.Acts who shard act mark) before none = absurd none
writes_none (deeds.Commits who shard) before none = refl
writes_none (deeds.Fails who shard) before none = refl

given_before : (catalog : Catalog) (is : Mark → Bool) (u : Machine) (deed : Deed) (Before : Rows → Type 0) (rows : Rows) → IsNoAct deed → GivenBy catalog is u deed Before rows → Before rows
given_before catalog is u deeds.Nothing Before rows none given = given
given_before catalog is u (deeds.Acts who shard act mark) Before rows none given = absurd none
given_before catalog is u (deeds.Commits who shard) Before rows none given = given
given_before catalog is u (deeds.Fails who shard) Before rows none given = given

is_apart : (deed : Deed) (tx : ℕ) → IsNoAct deed → IsApart deed tx
is_apart deeds.Nothing tx none = tt
is_apart (deeds.Acts who shard act mark) tx none = absurd none
is_apart (deeds.Commits who shard) tx none = tt
is_apart (deeds.Fails who shard) tx none = tt

pub commit_counts : (done : Bool) (who : Who) (shard before : ℕ) → with_commit (committed_deed done who shard) before ≡ before + 1
commit_counts true who shard before = refl
commit_counts false who shard before = refl

-- ---- what it leaves

module _ (catalog : Catalog) (e : Event) (past : Run) where
  own_ : (e.session == e.session) ≡ true
  own_ = eq-eqb e.session e.session refl

  pub warned_after : warned catalog (Happened e ∷ past) e.session ≡ warned catalog (now_of e past) e.session ++ warnings_by catalog e.deed e.fault
  warned_after =
      ap (λ b. if b then warnings_before e.request (warned catalog past e.session) ++ warnings_by catalog e.deed e.fault else warned catalog past e.session) own_
      ∙ ap (λ (ws : List Reported). ws ++ warnings_by catalog e.deed e.fault)
      (sym
      (ap (λ b. if b then warnings_before e.request (warned catalog past e.session) ++ [] else warned catalog past e.session) own_ ∙ append-nil (warnings_before e.request (warned catalog past e.session))))

  pub commits_after : commits (Happened e ∷ past) e.session ≡ with_commit e.deed (commits (now_of e past) e.session)
  commits_after = sum_behind e past 0 with_commit (λ before. refl)

  module _ (none : IsNoAct e.deed) where
    given_back : (is : Mark → Bool) (rows : Rows) → Given catalog is (Happened e ∷ past) e.session rows → Given catalog is (now_of e past) e.session rows
    given_back is rows given =
        subst (λ b. OwnOr b (SinceIf e.request (Given catalog is past e.session) rows) (Given catalog is past e.session rows)) (sym own_)
        (given_before catalog is (shown catalog past) e.deed (SinceIf e.request (Given catalog is past e.session)) rows none
        (subst (λ b. OwnOr b (GivenBy catalog is (shown catalog past) e.deed (SinceIf e.request (Given catalog is past e.session)) rows) (Given catalog is past e.session rows)) own_ given))

    pub leaves_commit : LeavesWork catalog (now_of e past) (Happened e ∷ past) e.session
    leaves_commit = record {
      says = says_same catalog e past (gives_none is_look e.deed none) (gives_none is_read e.deed none) (λ before. writes_none e.deed before none);
      back = λ rows given. given_back is_read rows given;
    }

    pub tx_after : (bounds : Limits) (own : Owned) (tx : TxState) → IsTx bounds (now_of e past) e.session own tx → IsTx bounds (Happened e ∷ past) e.session own tx
    tx_after bounds own tx is = tx_stays bounds e past e.session own tx (is_apart e.deed own.number none) (record {
      number = is.number;
      session = is.session;
      single = is.single;
      limits = is.limits;
      used = is.used;
      changes = is.changes;
      below = is.below;
      claimed = is.claimed;
      removed = is.removed;
    })
