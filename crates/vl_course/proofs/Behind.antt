-- What the words of the run say of an event's own session as the event is asked, and behind it.
use Rattle.std.proofs.Common.{◌≡◌, ◌∙◌, ◌==◌, ◌++◌, if◌then◌else◌, ℕ, Bool, true, false, List, [], ◌∷◌, Option, Some, None, refl, sym, ap, subst}
use Rattle.std.proofs.lemmas.Bool.{eq-eqb}
use Rattle.std.proofs.lemmas.List.{append-nil}
use Rattle.vl_values.specs.declared.warning.Warning.{Warning}
use Rattle.vl_catalog.specs.declared.catalog.Catalog.{Catalog}
use Rattle.vl_port.specs.declared.act.Act.{Act}
use Rattle.vl_port.specs.declared.who.Who.{Who}
use Rattle.vl_sql.specs.declared.stmt.Stmt.{Stmt}
use Rattle.vl_sql.specs.declared.stmt.Stmt.TheVariants as stmts
use Rattle.vl_run.specs.declared.deed.Deed.{Deed}
use Rattle.vl_run.specs.declared.deed.Deed.TheVariants as deeds
use Rattle.vl_run.specs.declared.event.Event.{Event}
use Rattle.vl_run.specs.declared.fault.Fault.{Fault}
use Rattle.vl_run.specs.declared.mark.Mark.{Mark}
use Rattle.vl_run.specs.declared.request.Request.{Request}
use Rattle.vl_run.specs.declared.request.Request.TheVariants as requests
use Rattle.vl_run.specs.declared.tag.Tag.{Tag}
use Rattle.vl_run.specs.declared.tag.Tag.TheVariants as tags
use Rattle.vl_run.specs.Allowed.{now_of}
use Rattle.vl_run.specs.Gathered.{ExtendsIf, Given, GivenBy, OwnOr, ReadsBy, Rows, SinceIf, shown}
use Rattle.vl_run.specs.Machine.{Machine}
use Rattle.vl_run.specs.Progress.{own_tries, session, since, summed, tries, warned, warnings_before, warnings_by, with_shard}
use Rattle.vl_run.specs.Run.{Run}
use Rattle.vl_run.specs.Run.Point.{Happened}
use Rattle.vl_run.specs.Session.{Session, answered, goes_on, kind_of, said, session_after}
use Rattle.vl_run.specs.Session.Kind.{Works}
use Rattle.vl_course.specs.Turning.{IsOfStmt}

-- ---- a deed that gives no rows of a kind

abbrev pub is_giving : (Mark → Bool) → Deed → Bool
is_giving is deeds.Nothing = false
is_giving is (deeds.Acts who shard act mark) = is mark
is_giving is (deeds.Commits who shard) = false
is_giving is (deeds.Fails who shard) = false

pub no_shard : (is : Mark → Bool) (deed : Deed) (before : List ℕ) → is_giving is deed ≡ false → with_shard is deed before ≡ before
no_shard is deeds.Nothing before none = refl
no_shard is (deeds.Acts who shard act mark) before none = ap (λ b. if b then before ++ shard ∷ [] else before) none
no_shard is (deeds.Commits who shard) before none = refl
no_shard is (deeds.Fails who shard) before none = refl

none_given : (catalog : Catalog) (is : Mark → Bool) (u : Machine) (deed : Deed) (Before : Rows → Type 0) (rows : Rows) → is_giving is deed ≡ false → Before rows → GivenBy catalog is u deed Before rows
none_given catalog is u deeds.Nothing Before rows none before = before
none_given catalog is u (deeds.Acts who shard act mark) Before rows none before = subst (λ b. ExtendsIf b Before (ReadsBy catalog u who shard act) rows) (sym none) before
none_given catalog is u (deeds.Commits who shard) Before rows none before = before
none_given catalog is u (deeds.Fails who shard) Before rows none before = before

-- ---- a session that goes on

still_goes : (opens : Option ℕ) (s : Session) (doing : Option Stmt) → goes_on tags.Nothing opens s doing ≡ s
still_goes opens s None = refl
still_goes opens s (Some stmt) = refl

more_goes : (opens : Option ℕ) (s : Session) (doing : Option Stmt) → goes_on tags.More opens s doing ≡ s
more_goes opens s None = refl
more_goes opens s (Some stmt) = refl

held_goes : (count : ℕ) (by : ℕ) (opens : Option ℕ) (s : Session) (doing : Option Stmt) → goes_on (tags.Held by count) opens s doing ≡ s
held_goes count by opens s None = refl
held_goes count by opens s (Some stmt) = refl

after_more : (request : Request) (stmt : Stmt) (opens : Option ℕ) (s : Session) → IsOfStmt request stmt → session_after request tags.More opens s ≡ session_after request tags.Nothing opens s
after_more (requests.Say said) stmt opens s asks = refl
after_more requests.Step stmt opens s asks = more_goes opens s s.doing ∙ sym (still_goes opens s s.doing)
after_more requests.Join stmt opens s asks = absurd asks
after_more requests.Reset stmt opens s asks = absurd asks
after_more requests.Leave stmt opens s asks = absurd asks
after_more (requests.Kill who shard) stmt opens s asks = absurd asks

after_held : (request : Request) (stmt : Stmt) (by count : ℕ) (opens : Option ℕ) (s : Session) → IsOfStmt request stmt → session_after request (tags.Held by count) opens s ≡ session_after request tags.Nothing opens s
after_held (requests.Say said) stmt by count opens s asks = refl
after_held requests.Step stmt by count opens s asks = held_goes count by opens s s.doing ∙ sym (still_goes opens s s.doing)
after_held requests.Join stmt by count opens s asks = absurd asks
after_held requests.Reset stmt by count opens s asks = absurd asks
after_held requests.Leave stmt by count opens s asks = absurd asks
after_held (requests.Kill who shard) stmt by count opens s asks = absurd asks

goes_by : (told : Tag) (opens : Option ℕ) (s : Session) (doing : Option Stmt) (stmt : Stmt) → doing ≡ Some stmt → goes_on told opens s doing ≡ answered told stmt opens s
goes_by told opens s doing stmt is = ap (goes_on told opens s) is

answers_by : (request : Request) (stmt : Stmt) (told : Tag) (opens : Option ℕ) (s : Session) → IsOfStmt request stmt → (session_after request tags.Nothing opens s).doing ≡ Some stmt
    → session_after request told opens s ≡ answered told stmt opens (session_after request tags.Nothing opens s)
answers_by (requests.Say it) stmt told opens s asks doing = ap (λ (q : Stmt). answered told q opens (said it opens s)) asks
answers_by requests.Step stmt told opens s asks doing =
    let same = still_goes opens s s.doing in
    goes_by told opens s s.doing stmt (sym (ap (λ (it : Session). it.doing) same) ∙ doing) ∙ ap (answered told stmt opens) (sym same)
answers_by requests.Join stmt told opens s asks doing = absurd asks
answers_by requests.Reset stmt told opens s asks doing = absurd asks
answers_by requests.Leave stmt told opens s asks doing = absurd asks
answers_by (requests.Kill who shard) stmt told opens s asks doing = absurd asks

-- ---- warnings

abbrev pub is_act : Deed → Bool
is_act deeds.Nothing = true
is_act (deeds.Acts who shard act mark) = true
is_act (deeds.Commits who shard) = false
is_act (deeds.Fails who shard) = false

no_warning : (catalog : Catalog) (deed : Deed) (fault : Option Fault) → is_act deed ≡ true → warnings_by catalog deed fault ≡ []
no_warning catalog deeds.Nothing fault acts = refl
no_warning catalog (deeds.Acts who shard act mark) fault acts = refl
no_warning catalog (deeds.Commits who shard) fault acts = absurd (cc)
no_warning catalog (deeds.Fails who shard) fault acts = absurd (cc)

works_anew : (stmt : Stmt) (before : List Warning) → kind_of stmt ≡ Works → warnings_before (requests.Say stmt) before ≡ []
works_anew (stmts.Insert t names rows) before works = refl
works_anew (stmts.Select what t tests orders limit lock) before works = refl
works_anew (stmts.Update t assignments tests) before works = refl
works_anew (stmts.Delete t tests) before works = refl
works_anew stmts.Begin before works = refl
works_anew stmts.StartTransaction before works = refl
works_anew stmts.Commit before works = refl
works_anew stmts.Rollback before works = refl
works_anew (stmts.SetAutocommit on) before works = refl
works_anew (stmts.SetNames charset) before works = refl
works_anew (stmts.Use name) before works = refl
works_anew stmts.ShowTables before works = refl
works_anew stmts.ShowDatabases before works = refl
works_anew stmts.ShowWarnings before works = absurd (cc)
works_anew stmts.SelectVersionComment before works = refl
works_anew stmts.SelectDatabase before works = refl

module _ (e : Event) (past : Run) where
  own : (e.session == e.session) ≡ true
  own = eq-eqb e.session e.session refl

  -- ---- what its deeds add up to

  sum_at : {A : Type 0} (start : A) (more : Deed → A → A) → summed start more (Happened e ∷ past) e.session ≡ more e.deed (since e.request start (summed start more past e.session))
  sum_at start more = ap (λ b. if b then more e.deed (since e.request start (summed start more past e.session)) else summed start more past e.session) own

  sum_asked : {A : Type 0} (start : A) (more : Deed → A → A) → ((before : A) → more deeds.Nothing before ≡ before) → summed start more (now_of e past) e.session ≡ since e.request start (summed start more past e.session)
  sum_asked start more nothing =
      ap (λ b. if b then more deeds.Nothing (since e.request start (summed start more past e.session)) else summed start more past e.session) own ∙ nothing (since e.request start (summed start more past e.session))

  -- a Step leaves it as it is asked
  pub sum_stepped : {A : Type 0} (start : A) (more : Deed → A → A) → ((before : A) → more deeds.Nothing before ≡ before) → e.request ≡ requests.Step → summed start more (now_of e past) e.session ≡ summed start more past e.session
  sum_stepped start more nothing step = sum_asked start more nothing ∙ ap (λ (r : Request). since r start (summed start more past e.session)) step

  -- and a Say begins anew
  pub sum_said : {A : Type 0} (start : A) (more : Deed → A → A) (stmt : Stmt) → ((before : A) → more deeds.Nothing before ≡ before) → e.request ≡ requests.Say stmt → summed start more (now_of e past) e.session ≡ start
  sum_said start more stmt nothing say = sum_asked start more nothing ∙ ap (λ (r : Request). since r start (summed start more past e.session)) say

  pub sum_behind : {A : Type 0} (start : A) (more : Deed → A → A) → ((before : A) → more deeds.Nothing before ≡ before) → summed start more (Happened e ∷ past) e.session ≡ more e.deed (summed start more (now_of e past) e.session)
  sum_behind start more nothing = sum_at start more ∙ ap (more e.deed) (sym (sum_asked start more nothing))

  -- ---- its tries

  tries_asked : tries (now_of e past) e.session ≡ since e.request 0 (tries past e.session)
  tries_asked = ap (λ b. if b then own_tries e.request tags.Nothing (tries past e.session) else tries past e.session) own

  pub tries_stepped : e.request ≡ requests.Step → tries (now_of e past) e.session ≡ tries past e.session
  tries_stepped step = tries_asked ∙ ap (λ (r : Request). since r 0 (tries past e.session)) step

  pub tries_said : (stmt : Stmt) → e.request ≡ requests.Say stmt → tries (now_of e past) e.session ≡ 0
  tries_said stmt say = tries_asked ∙ ap (λ (r : Request). since r 0 (tries past e.session)) say

  tries_at : tries (Happened e ∷ past) e.session ≡ own_tries e.request e.told (tries past e.session)
  tries_at = ap (λ b. if b then own_tries e.request e.told (tries past e.session) else tries past e.session) own

  pub tries_more : e.told ≡ tags.More → tries (Happened e ∷ past) e.session ≡ 0
  tries_more more = tries_at ∙ ap (λ (t : Tag). own_tries e.request t (tries past e.session)) more

  pub tries_held : (by count : ℕ) → e.told ≡ tags.Held by count → tries (Happened e ∷ past) e.session ≡ count
  tries_held by count held = tries_at ∙ ap (λ (t : Tag). own_tries e.request t (tries past e.session)) held

  -- ---- its warnings

  warned_at : (catalog : Catalog) → warned catalog (Happened e ∷ past) e.session ≡ warnings_before e.request (warned catalog past e.session) ++ warnings_by catalog e.deed e.fault
  warned_at catalog = ap (λ b. if b then warnings_before e.request (warned catalog past e.session) ++ warnings_by catalog e.deed e.fault else warned catalog past e.session) own

  warned_asked : (catalog : Catalog) → warned catalog (now_of e past) e.session ≡ warnings_before e.request (warned catalog past e.session)
  warned_asked catalog =
      ap (λ b. if b then warnings_before e.request (warned catalog past e.session) ++ [] else warned catalog past e.session) own ∙ append-nil (warnings_before e.request (warned catalog past e.session))

  pub warned_stepped : (catalog : Catalog) → e.request ≡ requests.Step → warned catalog (now_of e past) e.session ≡ warned catalog past e.session
  warned_stepped catalog step = warned_asked catalog ∙ ap (λ (r : Request). warnings_before r (warned catalog past e.session)) step

  pub warned_said : (catalog : Catalog) (stmt : Stmt) → e.request ≡ requests.Say stmt → kind_of stmt ≡ Works → warned catalog (now_of e past) e.session ≡ []
  warned_said catalog stmt say works = warned_asked catalog ∙ ap (λ (r : Request). warnings_before r (warned catalog past e.session)) say ∙ works_anew stmt (warned catalog past e.session) works

  -- only a commit warns
  pub warned_behind : (catalog : Catalog) → is_act e.deed ≡ true → warned catalog (Happened e ∷ past) e.session ≡ warned catalog (now_of e past) e.session
  warned_behind catalog acts =
      warned_at catalog ∙ ap (λ (ws : List Warning). warnings_before e.request (warned catalog past e.session) ++ ws) (no_warning catalog e.deed e.fault acts)
      ∙ append-nil (warnings_before e.request (warned catalog past e.session)) ∙ sym (warned_asked catalog)

  -- ---- its session

  session_asked : session (now_of e past) e.session ≡ session_after e.request tags.Nothing e.opens (session past e.session)
  session_asked = ap (λ b. if b then session_after e.request tags.Nothing e.opens (session past e.session) else session past e.session) own

  pub session_stepped : e.request ≡ requests.Step → session (now_of e past) e.session ≡ session past e.session
  session_stepped step =
      session_asked ∙ ap (λ (r : Request). session_after r tags.Nothing e.opens (session past e.session)) step ∙ still_goes e.opens (session past e.session) (session past e.session).doing

  pub session_said : (stmt : Stmt) → e.request ≡ requests.Say stmt → session (now_of e past) e.session ≡ said stmt e.opens (session past e.session)
  session_said stmt say = session_asked ∙ ap (λ (r : Request). session_after r tags.Nothing e.opens (session past e.session)) say

  session_at : session (Happened e ∷ past) e.session ≡ session_after e.request e.told e.opens (session past e.session)
  session_at = ap (λ b. if b then session_after e.request e.told e.opens (session past e.session) else session past e.session) own

  pub session_more : (stmt : Stmt) → IsOfStmt e.request stmt → e.told ≡ tags.More → session (Happened e ∷ past) e.session ≡ session (now_of e past) e.session
  session_more stmt asks more =
      session_at ∙ ap (λ (t : Tag). session_after e.request t e.opens (session past e.session)) more ∙ after_more e.request stmt e.opens (session past e.session) asks ∙ sym session_asked

  pub session_held : (stmt : Stmt) (by count : ℕ) → IsOfStmt e.request stmt → e.told ≡ tags.Held by count → session (Happened e ∷ past) e.session ≡ session (now_of e past) e.session
  session_held stmt by count asks held =
      session_at ∙ ap (λ (t : Tag). session_after e.request t e.opens (session past e.session)) held ∙ after_held e.request stmt by count e.opens (session past e.session) asks ∙ sym session_asked

  -- an answer ends the statement that is in progress
  pub session_answered : (stmt : Stmt) → IsOfStmt e.request stmt → (session (now_of e past) e.session).doing ≡ Some stmt → session (Happened e ∷ past) e.session ≡ answered e.told stmt e.opens (session (now_of e past) e.session)
  session_answered stmt asks doing =
      session_at ∙ answers_by e.request stmt e.told e.opens (session past e.session) asks (sym (ap (λ (s : Session). s.doing) session_asked) ∙ doing)
      ∙ ap (answered e.told stmt e.opens) (sym session_asked)

  -- ---- what its reads gave

  given_asked : (catalog : Catalog) (is : Mark → Bool) (rows : Rows) → SinceIf e.request (Given catalog is past e.session) rows → Given catalog is (now_of e past) e.session rows
  given_asked catalog is rows given = subst (λ b. OwnOr b (SinceIf e.request (Given catalog is past e.session) rows) (Given catalog is past e.session rows)) (sym own) given

  asked_given : (catalog : Catalog) (is : Mark → Bool) (rows : Rows) → Given catalog is (now_of e past) e.session rows → SinceIf e.request (Given catalog is past e.session) rows
  asked_given catalog is rows given = subst (λ b. OwnOr b (SinceIf e.request (Given catalog is past e.session) rows) (Given catalog is past e.session rows)) own given

  pub given_stepped : (catalog : Catalog) (is : Mark → Bool) (rows : Rows) → e.request ≡ requests.Step → Given catalog is past e.session rows → Given catalog is (now_of e past) e.session rows
  given_stepped catalog is rows step given = given_asked catalog is rows (subst (λ (r : Request). SinceIf r (Given catalog is past e.session) rows) (sym step) given)

  pub given_said : (catalog : Catalog) (is : Mark → Bool) (stmt : Stmt) → e.request ≡ requests.Say stmt → Given catalog is (now_of e past) e.session []
  given_said catalog is stmt say = given_asked catalog is [] (subst (λ (r : Request). SinceIf r (Given catalog is past e.session) []) (sym say) refl)

  given_at : (catalog : Catalog) (is : Mark → Bool) (rows : Rows) → GivenBy catalog is (shown catalog past) e.deed (SinceIf e.request (Given catalog is past e.session)) rows → Given catalog is (Happened e ∷ past) e.session rows
  given_at catalog is rows given =
      subst (λ b. OwnOr b (GivenBy catalog is (shown catalog past) e.deed (SinceIf e.request (Given catalog is past e.session)) rows) (Given catalog is past e.session rows)) (sym own) given

  -- an event without a read of this kind leaves it
  pub given_still : (catalog : Catalog) (is : Mark → Bool) (rows : Rows) → is_giving is e.deed ≡ false → Given catalog is (now_of e past) e.session rows → Given catalog is (Happened e ∷ past) e.session rows
  given_still catalog is rows none given =
      given_at catalog is rows (none_given catalog is (shown catalog past) e.deed (SinceIf e.request (Given catalog is past e.session)) rows none (asked_given catalog is rows given))

  -- and a read puts its rows behind
  pub given_more : (catalog : Catalog) (is : Mark → Bool) (rows more : Rows) (who : Who) (shard : ℕ) (act : Act) (mark : Mark) → e.deed ≡ deeds.Acts who shard act mark → is mark ≡ true → ReadsBy catalog (shown catalog past) who shard act more
      → Given catalog is (now_of e past) e.session rows → Given catalog is (Happened e ∷ past) e.session (rows ++ more)
  given_more catalog is rows more who shard act mark deed gives read given =
      given_at catalog is (rows ++ more)
      (subst (λ (d : Deed). GivenBy catalog is (shown catalog past) d (SinceIf e.request (Given catalog is past e.session)) (rows ++ more)) (sym deed)
      (subst (λ b. ExtendsIf b (SinceIf e.request (Given catalog is past e.session)) (ReadsBy catalog (shown catalog past) who shard act) (rows ++ more)) (sym gives)
      (record { front = rows; back = more; joined = refl; before = asked_given catalog is rows given; more = read })))
