-- What an event leaves of what the run says of its session's INSERT.
use Rattle.std.proofs.Common.{◌≡◌, ◌∙◌, ◌==◌, ◌++◌, ◌∷◌, if◌then◌else◌, ℕ, true, false, List, [], Option, refl, sym, ap, subst}
use Rattle.std.specs.Option.{option_map_or}
use Rattle.std.proofs.lemmas.Bool.{eq-eqb}
use Rattle.std.proofs.lemmas.List.{append-nil}
use Rattle.vl_values.specs.declared.key.Key.{Key}
use Rattle.vl_catalog.specs.declared.catalog.Catalog.{Catalog}
use Rattle.vl_sql.specs.declared.stmt.Stmt.{Stmt}
use Rattle.vl_port.specs.declared.act.Act.{Act}
use Rattle.vl_port.specs.declared.who.Who.{Who}
use Rattle.vl_port.specs.View.{Values}
use Rattle.vl_statement.specs.declared.program_told.ProgramTold.{ProgramTold}
use Rattle.vl_statement.specs.declared.program_told.ProgramTold.TheVariants as told
use Rattle.vl_run.specs.declared.deed.Deed.{Deed}
use Rattle.vl_run.specs.declared.deed.Deed.TheVariants as deeds
use Rattle.vl_run.specs.declared.event.Event.{Event}
use Rattle.vl_run.specs.declared.mark.Mark.{Mark}
use Rattle.vl_run.specs.declared.mark.Mark.TheVariants as marks
use Rattle.vl_run.specs.declared.request.Request.{Request}
use Rattle.vl_run.specs.declared.request.Request.TheVariants as requests
use Rattle.vl_run.specs.Allowed.{now_of}
use Rattle.vl_run.specs.Gathered.{Gathered, GivenBy, Met, MetAct, MetBy, MetSince, OwnOr, Rows, SinceIf, shown}
use Rattle.vl_run.specs.Progress.{act_or, changes_by, claim_by, claimed_now, deed_or, is_read, last_deed, session, since, summed, with_changes, with_claim, wrote}
use Rattle.vl_run.specs.Run.{Run}
use Rattle.vl_run.specs.Run.Point.{Happened}
use Rattle.vl_run.specs.Session.{Owned, Session, session_after}
use Rattle.vl_run.proofs.Others.{given_stays, session_stays, sum_stays}
use Rattle.vl_course.specs.Turning.{GoesOn, HasTag, IsOfStmt}
use Rattle.vl_course.proofs.Behind.{given_said, given_stepped, given_still, is_giving, session_held, session_more, session_stepped, sum_behind, sum_said, sum_stepped}
use Rattle.vl_course_insert.specs.Inserting.{open_tx}
use Rattle.vl_course_insert.proofs.Stays.{SaysSame}

abbrev number_of : Session → ℕ
number_of s = option_map_or (λ (own : Owned). own.number) s.owned 0

module _ (catalog : Catalog) (e : Event) (past : Run) where
  own : (e.session == e.session) ≡ true
  own = eq-eqb e.session e.session refl

  -- ---- what a claim met

  abbrev Before : Key × Values → Type 0
  Before entry = MetSince e.request (Met catalog past e.session) entry

  met_asked : (entry : Key × Values) → Before entry → Met catalog (now_of e past) e.session entry
  met_asked entry met = subst (λ b. OwnOr b (Before entry) (Met catalog past e.session entry)) (sym own) met

  asked_met : (entry : Key × Values) → Met catalog (now_of e past) e.session entry → Before entry
  asked_met entry met = subst (λ b. OwnOr b (Before entry) (Met catalog past e.session entry)) own met

  met_at : (entry : Key × Values) → MetBy (shown catalog past) e.deed Before entry → Met catalog (Happened e ∷ past) e.session entry
  met_at entry met = subst (λ b. OwnOr b (MetBy (shown catalog past) e.deed Before entry) (Met catalog past e.session entry)) (sym own) met

  -- ---- an event without a deed that was done

  says_by : (deed : Deed) → e.deed ≡ deed → ((before : List (Key × Option Values)) → with_changes deed before ≡ before) → ((before : List Key) → with_claim deed before ≡ before)
      → ((before : Deed) → deed_or deed before ≡ before)
      → ((entry : Key × Values) → Before entry → MetBy (shown catalog past) deed Before entry) → is_giving is_read deed ≡ false → SaysSame catalog (now_of e past) (Happened e ∷ past) e.session
  says_by deed is writes claims last met reads = record {
    wrote = sum_behind e past [] with_changes (λ before. refl) ∙ ap (λ (d : Deed). with_changes d (wrote (now_of e past) e.session)) is ∙ writes (wrote (now_of e past) e.session);
    claimed = sum_behind e past [] with_claim (λ before. refl) ∙ ap (λ (d : Deed). with_claim d (claimed_now (now_of e past) e.session)) is ∙ claims (claimed_now (now_of e past) e.session);
    last = sum_behind e past deeds.Nothing deed_or (λ before. refl) ∙ ap (λ (d : Deed). deed_or d (last_deed (now_of e past) e.session)) is ∙ last (last_deed (now_of e past) e.session);
    met = λ entry before. met_at entry (subst (λ (d : Deed). MetBy (shown catalog past) d Before entry) (sym is) (met entry (asked_met entry before)));
    rows = λ rows given. given_still e past catalog is_read rows (ap (is_giving is_read) is ∙ reads) given;
  }

  pub says_idle : e.deed ≡ deeds.Nothing → SaysSame catalog (now_of e past) (Happened e ∷ past) e.session
  says_idle none = says_by deeds.Nothing none (λ before. refl) (λ before. refl) (λ before. refl) (λ entry before. before) refl

  pub says_opened : (who : Who) (shard : ℕ) (act : Act) → e.deed ≡ deeds.Acts who shard act marks.Opens → SaysSame catalog (now_of e past) (Happened e ∷ past) e.session
  says_opened who shard act opens = says_by (deeds.Acts who shard act marks.Opens) opens (λ before. append-nil before) (λ before. refl) (λ before. refl) (λ entry before. before) refl

  -- ---- an act that was done

  module _ (who : Who) (shard : ℕ) (act : Act) (mark : Mark) (deed : e.deed ≡ deeds.Acts who shard act mark) where
    pub acted_wrote : wrote (Happened e ∷ past) e.session ≡ wrote (now_of e past) e.session ++ changes_by mark who.group act
    acted_wrote = sum_behind e past [] with_changes (λ before. refl) ∙ ap (λ (d : Deed). with_changes d (wrote (now_of e past) e.session)) deed

    pub acted_claimed : claimed_now (Happened e ∷ past) e.session ≡ claim_by mark who.group act (claimed_now (now_of e past) e.session)
    acted_claimed = sum_behind e past [] with_claim (λ before. refl) ∙ ap (λ (d : Deed). with_claim d (claimed_now (now_of e past) e.session)) deed

    pub acted_last : last_deed (Happened e ∷ past) e.session ≡ act_or mark (deeds.Acts who shard act mark) (last_deed (now_of e past) e.session)
    acted_last = sum_behind e past deeds.Nothing deed_or (λ before. refl) ∙ ap (λ (d : Deed). deed_or d (last_deed (now_of e past) e.session)) deed

    -- what it met itself, and what was met before
    pub acted_met : (entry : Key × Values) → MetAct (shown catalog past) who mark who.group act (Met catalog (now_of e past) e.session) entry → Met catalog (Happened e ∷ past) e.session entry
    acted_met entry met =
        met_at entry
        (subst (λ (d : Deed). MetBy (shown catalog past) d Before entry) (sym deed)
        (subst (λ b. MetAct (shown catalog past) who mark who.group act (λ (it : Key × Values). OwnOr b (Before it) (Met catalog past e.session it)) entry) own met))

    pub acted_rows : (rows : Rows) → is_read mark ≡ false → Gathered catalog (now_of e past) e.session rows → Gathered catalog (Happened e ∷ past) e.session rows
    acted_rows rows reads given = given_still e past catalog is_read rows (ap (is_giving is_read) deed ∙ reads) given

  -- ---- its session

  -- a statement that goes on keeps its transaction
  pub open_behind : (stmt : Stmt) (tells : ProgramTold) → IsOfStmt e.request stmt → GoesOn tells → HasTag tells e.told → open_tx (Happened e ∷ past) e.session ≡ open_tx (now_of e past) e.session
  open_behind stmt told.More asks on tag = ap number_of (session_more e past stmt asks tag)
  open_behind stmt (told.Held by key count) asks on tag = ap number_of (session_held e past stmt by count asks tag)
  open_behind stmt (told.Reply reply) asks on tag = absurd on

  -- ---- a Step

  pub says_stepped : e.request ≡ requests.Step → SaysSame catalog past (now_of e past) e.session
  says_stepped step = record {
    wrote = sum_stepped e past [] with_changes (λ before. refl) step;
    claimed = sum_stepped e past [] with_claim (λ before. refl) step;
    last = sum_stepped e past deeds.Nothing deed_or (λ before. refl) step;
    met = λ entry met. met_asked entry (subst (λ (r : Request). MetSince r (Met catalog past e.session) entry) (sym step) met);
    rows = λ rows given. given_stepped e past catalog is_read rows step given;
  }

  pub open_stepped : e.request ≡ requests.Step → open_tx (now_of e past) e.session ≡ open_tx past e.session
  open_stepped step = ap number_of (session_stepped e past step)

  -- ---- a kill of a shard session of its own

  module _ (at_who : Who) (at_shard : ℕ) (kill : e.request ≡ requests.Kill at_who at_shard) (still : e.deed ≡ deeds.Nothing) where
    sum_killed : {A : Type 0} (start : A) (more : Deed → A → A) → ((before : A) → more deeds.Nothing before ≡ before) → summed start more (Happened e ∷ past) e.session ≡ summed start more past e.session
    sum_killed start more nothing =
        ap (λ b. if b then more e.deed (since e.request start (summed start more past e.session)) else summed start more past e.session) own
        ∙ ap (λ (d : Deed). more d (since e.request start (summed start more past e.session))) still
        ∙ nothing (since e.request start (summed start more past e.session))
        ∙ ap (λ (r : Request). since r start (summed start more past e.session)) kill

    rows_killed : (rows : Rows) → Gathered catalog past e.session rows → Gathered catalog (Happened e ∷ past) e.session rows
    rows_killed rows given =
        subst (λ b. OwnOr b (GivenBy catalog is_read (shown catalog past) e.deed (SinceIf e.request (Gathered catalog past e.session)) rows) (Gathered catalog past e.session rows)) (sym own)
        (subst (λ (d : Deed). GivenBy catalog is_read (shown catalog past) d (SinceIf e.request (Gathered catalog past e.session)) rows) (sym still)
        (subst (λ (r : Request). SinceIf r (Gathered catalog past e.session) rows) (sym kill) given))

    pub says_killed : SaysSame catalog past (Happened e ∷ past) e.session
    says_killed = record {
      wrote = sum_killed [] with_changes (λ before. refl);
      claimed = sum_killed [] with_claim (λ before. refl);
      last = sum_killed deeds.Nothing deed_or (λ before. refl);
      met = λ entry met.
          met_at entry
          (subst (λ (d : Deed). MetBy (shown catalog past) d Before entry) (sym still) (subst (λ (r : Request). MetSince r (Met catalog past e.session) entry) (sym kill) met));
      rows = rows_killed;
    }

    pub open_killed : open_tx (Happened e ∷ past) e.session ≡ open_tx past e.session
    open_killed =
        ap number_of
        (ap (λ b. if b then session_after e.request e.told e.opens (session past e.session) else session past e.session) own ∙ ap (λ (r : Request). session_after r e.told e.opens (session past e.session)) kill)

  -- ---- an event of another session

  module _ (n : ℕ) (other : (e.session == n) ≡ false) where
    pub says_others : SaysSame catalog past (Happened e ∷ past) n
    says_others = record {
      wrote = sum_stays e past n other [] with_changes;
      claimed = sum_stays e past n other [] with_claim;
      last = sum_stays e past n other deeds.Nothing deed_or;
      met = λ entry met. subst (λ b. OwnOr b (MetBy (shown catalog past) e.deed (MetSince e.request (Met catalog past n)) entry) (Met catalog past n entry)) (sym other) met;
      rows = λ rows given. given_stays e past n other catalog is_read rows given;
    }

    pub open_others : open_tx (Happened e ∷ past) n ≡ open_tx past n
    open_others = ap number_of (session_stays e past n other)

  -- ---- a Say

  module _ (stmt : Stmt) (say : e.request ≡ requests.Say stmt) where
    pub said_wrote : wrote (now_of e past) e.session ≡ []
    said_wrote = sum_said e past [] with_changes stmt (λ before. refl) say

    pub said_claimed : claimed_now (now_of e past) e.session ≡ []
    said_claimed = sum_said e past [] with_claim stmt (λ before. refl) say

    pub said_rows : Gathered catalog (now_of e past) e.session []
    said_rows = given_said e past catalog is_read stmt say
