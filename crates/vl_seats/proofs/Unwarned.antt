-- As long as no statement removes entries, no session warns.
use Rattle.std.proofs.Common.{◌≡◌, ◌≢◌, ◌∙◌, ◌==◌, ◌++◌, ◌⊎◌, ◌∷◌, [], if◌then◌else◌, ℕ, zero, suc, Bool, true, false, List, Option, Some, None, map, ap, inl, inr, refl, sym, subst, arith}
use Rattle.std.specs.Prelude.{slice_get}
use Rattle.std.proofs.lemmas.Bool.{eq-eqb}
use Rattle.std.proofs.lemmas.Option.{same_Some}
use Rattle.vl_values.specs.declared.group.Group.{Group}
use Rattle.vl_values.specs.declared.group.Group.TheVariants.{Pre, Main, Post}
use Rattle.vl_values.specs.declared.warning.Warning.{Warning}
use Rattle.vl_catalog.specs.declared.catalog.Catalog.{Catalog}
use Rattle.vl_sql.specs.declared.stmt.Stmt.{Stmt}
use Rattle.vl_port.specs.declared.limits.Limits.{Limits}
use Rattle.vl_port.specs.declared.tx_state.TxState.{TxState}
use Rattle.vl_port.specs.declared.who.Who.{Who}
use Rattle.vl_run.specs.declared.deed.Deed.{Deed}
use Rattle.vl_run.specs.declared.deed.Deed.TheVariants as deeds
use Rattle.vl_run.specs.declared.event.Event.{Event}
use Rattle.vl_run.specs.declared.fault.Fault.{Fault}
use Rattle.vl_run.specs.declared.request.Request.{Request}
use Rattle.vl_run.specs.declared.request.Request.TheVariants as requests
use Rattle.vl_run.specs.declared.tag.Tag.TheVariants as tags
use Rattle.vl_run.specs.Allowed.{IsDone, now_of}
use Rattle.vl_run.specs.Allowed.IsDone.{DidCommit, DidFail}
use Rattle.vl_run.specs.Gathered.{shown}
use Rattle.vl_run.specs.Machine.{Machine}
use Rattle.vl_run.specs.Named.{IsCommitDue}
use Rattle.vl_run.specs.Progress.{is_show_warnings, post_warnings, session, warned, warnings_before, warnings_by}
use Rattle.vl_run.specs.Run.{Run, next_tx, used}
use Rattle.vl_run.specs.Run.Point.{Happened}
use Rattle.vl_run.specs.Session.{Kind, Owned, Session, goes_on, kind_of, opened_for, said, session_after}
use Rattle.vl_run.specs.Session.Kind.{Begins, Commits, RollsBack, SetsAuto, Stays, Works}
use Rattle.vl_course.specs.Course.{AreNumbered, HasNext}
use Rattle.vl_session.specs.declared.work.Work.{Work}
use Rattle.vl_session.specs.declared.work.Work.TheVariants as works
use Rattle.vl_session.specs.Standing.{IsHeldBy, IsWorkAt}
use Rattle.vl_seats.specs.Staying.{IsSitting, MayHaveDone}

-- ---- the transaction as an event is asked

opened_or : (kind : Kind) (auto : Bool) (before : Option Owned) (number : ℕ) (own : Owned) → opened_for kind auto before number ≡ Some own → (before ≡ Some own) ⊎ (own.number ≡ number)
opened_or Works auto None number own is = inr (sym (ap (λ (o : Owned). o.number) (same_Some (record { number = number; single = auto }) own is)))
opened_or Works auto (Some it) number own is = inl is
opened_or Begins auto before number own is = inl is
opened_or Commits auto before number own is = inl is
opened_or RollsBack auto before number own is = inl is
opened_or (SetsAuto on) auto before number own is = inl is
opened_or Stays auto before number own is = inl is

said_or : (next : ℕ) (stmt : Stmt) (opens : Option ℕ) (s : Session) (own : Owned) → HasNext next opens → (said stmt opens s).owned ≡ Some own → (s.owned ≡ Some own) ⊎ (own.number ≡ next)
said_or next stmt None s own has is = inl is
said_or next stmt (Some number) s own has is = elim (opened_or (kind_of stmt) s.auto s.owned number own is) [ inl before ↦ inl before | inr same ↦ inr (same ∙ has) ]

goes_or : (opens : Option ℕ) (s : Session) (doing : Option Stmt) → (goes_on tags.Nothing opens s doing).owned ≡ s.owned
goes_or opens s None = refl
goes_or opens s (Some stmt) = refl

asked_or : (next : ℕ) (request : Request) (opens : Option ℕ) (s : Session) (own : Owned) → IsSitting request → HasNext next opens → (session_after request tags.Nothing opens s).owned ≡ Some own → (s.owned ≡ Some own) ⊎ (own.number ≡ next)
asked_or next requests.Join opens s own sits has is = absurd sits
asked_or next (requests.Say stmt) opens s own sits has is = said_or next stmt opens s own has is
asked_or next requests.Reset opens s own sits has is = absurd (cc)
asked_or next requests.Step opens s own sits has is = inl (sym (goes_or opens s s.doing) ∙ is)
asked_or next requests.Leave opens s own sits has is = absurd sits
asked_or next (requests.Kill who shard) opens s own sits has is = absurd sits

-- ---- no session of post is used

held_none : (limits : Limits) (past : Run) (n : ℕ) (owned : Option Owned) (tx : Option TxState) (own : Owned) → owned ≡ Some own → IsHeldBy limits past n owned tx → used past own.number Post ≡ []
held_none limits past n None tx own is held = absurd (cc)
held_none limits past n (Some it) None own is held = absurd held
held_none limits past n (Some it) (Some tx) own is held = ap (λ (o : Owned). used past o.number Post) (sym (same_Some it own is)) ∙ held.is_tx.used Post ∙ held.unclaimed

pub post_none : (catalog : Catalog) (limits : Limits) (past : Run) (n : ℕ) (w : Work) (own : Owned) → IsWorkAt catalog limits past n w → (session past n).owned ≡ Some own → used past own.number Post ≡ []
post_none catalog limits past n (works.Idle tx) own at is = held_none limits past n (session past n).owned tx own is at.held
post_none catalog limits past n (works.Running tx program) own at is =
    let (stmt, plan, mine, it) = at in
    ap (λ (o : Owned). used past o.number Post) (same_Some own mine (sym is ∙ it.course.owned)) ∙ it.course.is_tx.used Post ∙ it.unclaimed
post_none catalog limits past n (works.Committing commit reply purpose) own at is =
    let (stmt, plan, mine, it) = at in
    ap (λ (o : Owned). used past o.number Post) (same_Some own mine (sym is ∙ it.at.owned)) ∙ it.at.is_tx.used Post ∙ it.unclaimed

-- ---- so no commit is of one

in_group : (group : Group) (shards : List ℕ) (place : ℕ) (it : Group × ℕ) → slice_get (map (λ (shard : ℕ). (group, shard)) shards) place ≡ Some it → it.0 ≡ group
in_group group [] place it is = absurd (cc)
in_group group (shard ∷ shards) zero it is = sym (ap (λ (x : Group × ℕ). x.0) (same_Some (group, shard) it is))
in_group group (shard ∷ shards) (suc place) it is = in_group group shards place it is

in_either : (xs ys : List (Group × ℕ)) (place : ℕ) (it : Group × ℕ) → slice_get (xs ++ ys) place ≡ Some it → ((k : ℕ) × (slice_get xs k ≡ Some it)) ⊎ ((k : ℕ) × (slice_get ys k ≡ Some it))
in_either [] ys place it is = inr (place, is)
in_either (x ∷ xs) ys zero it is = inl (zero, is)
in_either (x ∷ xs) ys (suc place) it is = elim (in_either xs ys place it is) [ inl there ↦ inl (suc there.0, there.1) | inr there ↦ inr there ]

pre_no_post : Pre ≡ Post → ⊥
pre_no_post same = cc

main_no_post : Main ≡ Post → ⊥
main_no_post same = cc

no_post : (pre main : List ℕ) (post : List ℕ) (place : ℕ) (it : Group × ℕ) → post ≡ [] → slice_get (map (λ (shard : ℕ). (Pre, shard)) pre ++ (map (λ (shard : ℕ). (Main, shard)) main ++ map (λ (shard : ℕ). (Post, shard)) post)) place ≡ Some it
    → it.0 ≢ Post
no_post pre main post place it empty is same =
    elim (in_either (map (λ (shard : ℕ). (Pre, shard)) pre) (map (λ (shard : ℕ). (Main, shard)) main ++ map (λ (shard : ℕ). (Post, shard)) post) place it is) [
      | inl there ↦ pre_no_post (sym (in_group Pre pre there.0 it there.1) ∙ same)
      | inr rest ↦
          elim (in_either (map (λ (shard : ℕ). (Main, shard)) main) (map (λ (shard : ℕ). (Post, shard)) post) rest.0 it rest.1) [
            | inl there ↦ main_no_post (sym (in_group Main main there.0 it there.1) ∙ same)
            | inr there ↦ nowhere there.0 (subst (λ (l : List ℕ). slice_get (map (λ (shard : ℕ). (Post, shard)) l) there.0 ≡ Some it) empty there.1)
          ]
    ]
  where
    nowhere : (k : ℕ) → slice_get [] k ≡ Some it → ⊥
    nowhere k at = cc

due_none : (catalog : Catalog) (now : Run) (n tx : ℕ) (who : Who) (shard : ℕ) (fault : Option Fault) → used now tx Post ≡ [] → IsCommitDue now n tx who shard → post_warnings catalog who.group shard fault ≡ []
due_none catalog now n tx who shard fault empty due =
    ap (λ (w : Who). post_warnings catalog w.group shard fault) due.by ∙ by_group due.group (no_post (used now tx Pre) (used now tx Main) (used now tx Post) _ (due.group, shard) empty due.due)
  where
    by_group : (group : Group) → group ≢ Post → post_warnings catalog (Some group) shard fault ≡ []
    by_group Pre apart = refl
    by_group Main apart = refl
    by_group Post apart = absurd (apart refl)

warnings_none : (catalog : Catalog) (u : Machine) (now : Run) (n : ℕ) (stmt : Stmt) (owned : Option Owned) (deed : Deed) (fault : Option Fault) → ((own : Owned) → owned ≡ Some own → used now own.number Post ≡ []) → IsDone catalog u now n stmt owned deed → warnings_by catalog deed fault ≡ []
warnings_none catalog u now n stmt owned deeds.Nothing fault empty done = refl
warnings_none catalog u now n stmt owned (deeds.Acts who shard act mark) fault empty done = refl
warnings_none catalog u now n stmt owned (deeds.Commits who shard) fault empty (DidCommit plan own _ _ planned owns worked commits due) = due_none catalog now n own.number who shard fault (empty own owns) due
warnings_none catalog u now n stmt owned (deeds.Fails who shard) fault empty (DidFail plan own _ _ planned owns worked commits due) = due_none catalog now n own.number who shard fault (empty own owns) due

before_none : (request : Request) (before : List Warning) → before ≡ [] → warnings_before request before ≡ []
before_none requests.Join before none = refl
before_none (requests.Say stmt) before none = by_test (is_show_warnings stmt)
  where
    by_test : (t : Bool) → (if t then before else []) ≡ []
    by_test true = none
    by_test false = refl
before_none requests.Reset before none = none
before_none requests.Step before none = none
before_none requests.Leave before none = refl
before_none (requests.Kill who shard) before none = none

module _ (catalog : Catalog) (limits : Limits) (past : Run) (e : Event) where
  own : (e.session == e.session) ≡ true
  own = eq-eqb e.session e.session refl

  owned_asked : (session (now_of e past) e.session) ≡ session_after e.request tags.Nothing e.opens (session past e.session)
  owned_asked = ap (λ b. if b then session_after e.request tags.Nothing e.opens (session past e.session) else session past e.session) own

  pub unwarned_by : warned catalog past e.session ≡ [] → warnings_by catalog e.deed e.fault ≡ [] → warned catalog (Happened e ∷ past) e.session ≡ []
  unwarned_by before none =
      ap (λ b. if b then warnings_before e.request (warned catalog past e.session) ++ warnings_by catalog e.deed e.fault else warned catalog past e.session) own
      ∙ ap (λ (l : List Warning). l ++ warnings_by catalog e.deed e.fault) (before_none e.request (warned catalog past e.session) before)
      ∙ none

  pub stays_unwarned : IsSitting e.request → MayHaveDone catalog past e → HasNext (next_tx past) e.opens → AreNumbered past → (w : Work) → IsWorkAt catalog limits past e.session w → warned catalog past e.session ≡ []
      → warned catalog (Happened e ∷ past) e.session ≡ []
  stays_unwarned sits done has numbered w at before = unwarned_by before (warnings_none catalog (shown catalog past) (now_of e past) e.session done.0 (session (now_of e past) e.session).owned e.deed e.fault empty done.1)
    where
      empty : (own : Owned) → (session (now_of e past) e.session).owned ≡ Some own → used (now_of e past) own.number Post ≡ []
      empty own is =
          elim (asked_or (next_tx past) e.request e.opens (session past e.session) own sits has (sym (ap (λ (s : Session). s.owned) owned_asked) ∙ is)) [
            | inl kept ↦ post_none catalog limits past e.session w own at kept
            | inr new ↦ (numbered.unused own.number (omega (arith, new))).used Post
          ]
