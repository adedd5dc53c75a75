-- The numbers of transactions: each is given once, and no two sessions have one.
use Rattle.std.proofs.Common.{◌≡◌, ◌∙◌, ◌==◌, ◌≤◌, ◌<◌, ◌⊎◌, inl, inr, if◌then◌else◌, ℕ, Bool, true, false, [], ◌∷◌, Option, Some, None, refl, sym, ap, subst, arith}
use Rattle.std.specs.Option.{option_map}
use Rattle.std.proofs.lemmas.Bool.{eq-eqb, eqb-true, true≢false}
use Rattle.std.proofs.lemmas.Option.{same_Some}
use Rattle.vl_catalog.specs.declared.catalog.Catalog.{Catalog}
use Rattle.vl_sql.specs.declared.stmt.Stmt.{Stmt}
use Rattle.vl_port.specs.declared.limits.Limits.{Limits}
use Rattle.vl_run.specs.declared.deed.Deed.{Deed}
use Rattle.vl_run.specs.declared.deed.Deed.TheVariants as deeds
use Rattle.vl_run.specs.declared.event.Event.{Event}
use Rattle.vl_run.specs.declared.request.Request.{Request}
use Rattle.vl_run.specs.declared.request.Request.TheVariants as requests
use Rattle.vl_run.specs.declared.tag.Tag.{Tag}
use Rattle.vl_run.specs.declared.tag.Tag.TheVariants as tags
use Rattle.vl_run.specs.declared.what.What.{What}
use Rattle.vl_run.specs.Gathered.{shown}
use Rattle.vl_run.specs.Allowed.{Answers, FollowsBy, IsDone, IsRun, IsStill, Opens, asked, now_of}
use Rattle.vl_run.specs.Allowed.IsDone.{DidAct, DidCommit, DidFail, DidNothing}
use Rattle.vl_run.specs.Allowed.Opens.{Begun, First, Later, Refused}
use Rattle.vl_run.specs.Machine.{Machine}
use Rattle.vl_run.specs.Progress.{session}
use Rattle.vl_run.specs.Run.{Run, behind_opened, next_tx}
use Rattle.vl_run.specs.Run.Point.{Began, Happened}
use Rattle.vl_run.specs.Session.{Kind, Owned, Session, answered, goes_on, is_single, kind_of, opened_for, owned_done, owned_refused, said, session_after}
use Rattle.vl_run.specs.Session.Kind.{Begins, Commits, RollsBack, SetsAuto, Stays, Works}
use Rattle.vl_course.specs.Course.{AreNumbered, AreOwned, AreUnused, HasNext, IsApart, IsBelow}
use Rattle.vl_course.proofs.Bystanders.{unused_stay}
use Rattle.vl_course.proofs.Owners.{apart_of, below_of, done_own}

-- ---- where a transaction comes from

-- it was open before, or the event opened it
data Source (before : Option Owned) (opens : Option ℕ) (own : Owned) : Type 0 where
  Kept : (it : Owned) → before ≡ Some it → it.number ≡ own.number → Source before opens own
  Opened : opens ≡ Some own.number → Source before opens own

kept_same : (before : Option Owned) (opens : Option ℕ) (own : Owned) → before ≡ Some own → Source before opens own
kept_same before opens own is = Kept own is refl

opened_from : (kind : Kind) (auto : Bool) (before : Option Owned) (number : ℕ) (own : Owned) → opened_for kind auto before number ≡ Some own → Source before (Some number) own
opened_from Works auto None number own is = Opened (ap (λ (o : Owned). Some o.number) (same_Some (record { number = number; single = auto }) own is))
opened_from Works auto (Some it) number own is = kept_same (Some it) (Some number) own is
opened_from Begins auto before number own is = kept_same before (Some number) own is
opened_from Commits auto before number own is = kept_same before (Some number) own is
opened_from RollsBack auto before number own is = kept_same before (Some number) own is
opened_from (SetsAuto on) auto before number own is = kept_same before (Some number) own is
opened_from Stays auto before number own is = kept_same before (Some number) own is

said_from : (stmt : Stmt) (opens : Option ℕ) (s : Session) (own : Owned) → (said stmt opens s).owned ≡ Some own → Source s.owned opens own
said_from stmt None s own is = kept_same s.owned None own is
said_from stmt (Some number) s own is = opened_from (kind_of stmt) s.auto s.owned number own is

-- an answer keeps the transaction, or ends it; that of a BEGIN opens one
left_by : (single : Bool) (before : Option Owned) (own : Owned) → (if single then None else before) ≡ Some own → before ≡ Some own
left_by true before own is = absurd (cc)
left_by false before own is = is

begun_from : (opens : Option ℕ) (own : Owned) → option_map {U = Owned} (λ number. record { number = number; single = false }) opens ≡ Some own → opens ≡ Some own.number
begun_from None own is = absurd (cc)
begun_from (Some number) own is = ap (λ (o : Owned). Some o.number) (same_Some (record { number = number; single = false }) own is)

done_from : (kind : Kind) (before : Option Owned) (opens : Option ℕ) (own : Owned) → owned_done kind before opens ≡ Some own → (before ≡ Some own) ⊎ (opens ≡ Some own.number)
done_from Works before opens own is = inl (left_by (is_single before) before own is)
done_from Begins before opens own is = inr (begun_from opens own is)
done_from Commits before opens own is = absurd (cc)
done_from RollsBack before opens own is = absurd (cc)
done_from (SetsAuto true) before opens own is = absurd (cc)
done_from (SetsAuto false) before opens own is = inl is
done_from Stays before opens own is = inl is

refused_from : (stays : Bool) (before : Option Owned) (own : Owned) → owned_refused stays before ≡ Some own → before ≡ Some own
refused_from true before own is = is
refused_from false before own is = absurd (cc)

answered_from : (told : Tag) (stmt : Stmt) (opens : Option ℕ) (s : Session) (own : Owned) → (answered told stmt opens s).owned ≡ Some own → (s.owned ≡ Some own) ⊎ (opens ≡ Some own.number)
answered_from tags.Nothing stmt opens s own is = inl is
answered_from tags.More stmt opens s own is = inl is
answered_from (tags.Held by tries) stmt opens s own is = inl is
answered_from (tags.Ok affected found warnings tx auto) stmt opens s own is = done_from (kind_of stmt) s.owned opens own is
answered_from (tags.Rows tx auto) stmt opens s own is = done_from (kind_of stmt) s.owned opens own is
answered_from (tags.Err code tx) stmt opens s own is = inl (refused_from tx s.owned own is)

either : (before : Option Owned) (opens : Option ℕ) (own : Owned) → (before ≡ Some own) ⊎ (opens ≡ Some own.number) → Source before opens own
either before opens own (inl is) = kept_same before opens own is
either before opens own (inr is) = Opened is

say_from : (stmt : Stmt) (opens : Option ℕ) (s : Session) (own : Owned) → ((said stmt opens s).owned ≡ Some own) ⊎ (opens ≡ Some own.number) → Source s.owned opens own
say_from stmt opens s own (inl is) = said_from stmt opens s own is
say_from stmt opens s own (inr is) = Opened is

goes_from : (told : Tag) (opens : Option ℕ) (s : Session) (doing : Option Stmt) (own : Owned) → (goes_on told opens s doing).owned ≡ Some own → Source s.owned opens own
goes_from told opens s None own is = kept_same s.owned opens own is
goes_from told opens s (Some stmt) own is = either s.owned opens own (answered_from told stmt opens s own is)

owned_from : (request : Request) (told : Tag) (opens : Option ℕ) (s : Session) (own : Owned) → (session_after request told opens s).owned ≡ Some own → Source s.owned opens own
owned_from requests.Join told opens s own is = absurd (cc)
owned_from (requests.Say stmt) told opens s own is = say_from stmt opens s own (answered_from told stmt opens (said stmt opens s) own is)
owned_from requests.Step told opens s own is = goes_from told opens s s.doing own is
owned_from requests.Reset told opens s own is = absurd (cc)
owned_from requests.Leave told opens s own is = absurd (cc)
owned_from (requests.Kill who shard) told opens s own is = kept_same s.owned opens own is

-- ---- numbers

unequal : (a b : ℕ) → (a ≡ b → ⊥) → (a == b) ≡ false
unequal a b apart = by_test (a == b) refl
  where
    by_test : (t : Bool) → (a == b) ≡ t → (a == b) ≡ false
    by_test true is = absurd (apart (eqb-true a b is))
    by_test false is = is

next_more : (opens : Option ℕ) (next : ℕ) → HasNext next opens → next ≤ behind_opened opens next
next_more None next has = omega arith
next_more (Some number) next has = omega (arith, has)

next_given : (opens : Option ℕ) (next number : ℕ) → opens ≡ Some number → number < behind_opened opens next
next_given None next number is = absurd (cc)
next_given (Some other) next number is = omega (arith, same_Some other number is)

next_is : (opens : Option ℕ) (next number : ℕ) → HasNext next opens → opens ≡ Some number → number ≡ next
next_is None next number has is = absurd (cc)
next_is (Some other) next number has is = sym (same_Some other number is) ∙ has

module _ (e : Event) (past : Run) (has : HasNext (next_tx past) e.opens) (owned : AreOwned past) where
  -- where the transaction of a session comes from
  data From (n : ℕ) (own : Owned) : Type 0 where
    Before : (it : Owned) → (session past n).owned ≡ Some it → it.number ≡ own.number → From n own
    Now : e.session ≡ n → e.opens ≡ Some own.number → From n own

  from_source : (n : ℕ) (own : Owned) → e.session ≡ n → Source (session past n).owned e.opens own → From n own
  from_source n own same (Kept it is number) = Before it is number
  from_source n own same (Opened is) = Now same is

  from_by : (n : ℕ) (own : Owned) (same : Bool) → (e.session == n) ≡ same → (if same then session_after e.request e.told e.opens (session past n) else session past n).owned ≡ Some own → From n own
  from_by n own true same is = from_source n own (eqb-true e.session n same) (owned_from e.request e.told e.opens (session past n) own is)
  from_by n own false same is = Before own is refl

  from_owned : (n : ℕ) (own : Owned) → (session (Happened e ∷ past) n).owned ≡ Some own → From n own
  from_owned n own is = from_by n own (e.session == n) refl is

  given_from : (n : ℕ) (own : Owned) → From n own → own.number < next_tx (Happened e ∷ past)
  given_from n own (Before it is number) = omega (arith, owned.given n it is, number, next_more e.opens (next_tx past) has)
  given_from n own (Now same is) = next_given e.opens (next_tx past) own.number is

  apart_from : (n m : ℕ) (own other : Owned) → (n == m) ≡ false → From n own → From m other → (own.number == other.number) ≡ false
  apart_from n m own other apart (Before a is number) (Before b there also) =
      ap (λ (k : ℕ). k == other.number) (sym number) ∙ ap (λ (k : ℕ). a.number == k) (sym also) ∙ owned.apart n m a b apart is there
  apart_from n m own other apart (Before a is number) (Now same opens) =
      unequal own.number other.number (λ e. omega (arith, e, owned.given n a is, number, next_is_other other.number opens))
    where
      next_is_other : (k : ℕ) → e.opens ≡ Some k → k ≡ next_tx past
      next_is_other k is = next_is e.opens (next_tx past) k has is
  apart_from n m own other apart (Now same opens) (Before b there also) =
      unequal own.number other.number (λ e. omega (arith, e, owned.given m b there, also, next_is_own own.number opens))
    where
      next_is_own : (k : ℕ) → e.opens ≡ Some k → k ≡ next_tx past
      next_is_own k is = next_is e.opens (next_tx past) k has is
  apart_from n m own other apart (Now same opens) (Now also there) = absurd (true≢false (sym (eq-eqb n m (sym same ∙ also)) ∙ apart))

  pub owned_stay : AreOwned (Happened e ∷ past)
  owned_stay = record {
    given = λ n own is. given_from n own (from_owned n own is);
    apart = λ n m own other apart is there. apart_from n m own other apart (from_owned n own is) (from_owned m other there);
  }

pub owned_asked : (e : Event) (past : Run) → HasNext (next_tx past) e.opens → AreOwned past → AreOwned (now_of e past)
owned_asked e past has owned = owned_stay (asked e) past has owned

-- ---- a deed's transaction

below_by : (catalog : Catalog) (u : Machine) (now : Run) (n next : ℕ) (stmt : Stmt) (o : Option Owned) (deed : Deed) → ((own : Owned) → o ≡ Some own → own.number < next) → IsDone catalog u now n stmt o deed → IsBelow deed next
below_by catalog u now n next stmt o deed given DidNothing = tt
below_by catalog u now n next stmt o deed given (DidAct purpose who shard act mark due comes marked) =
    below_of (deeds.Acts who shard act mark) due.own.number next (done_own catalog u now n stmt o due.own (deeds.Acts who shard act mark) due.owns (DidAct purpose who shard act mark due comes marked)) (given due.own due.owns)
below_by catalog u now n next stmt o deed given (DidCommit plan own who shard planned owns worked commits due) = tt
below_by catalog u now n next stmt o deed given (DidFail plan own who shard planned owns worked commits due) = tt

-- what a session does is of no other's transaction
apart_by : (catalog : Catalog) (u : Machine) (now : Run) (n number : ℕ) (stmt : Stmt) (o : Option Owned) (deed : Deed) → ((own : Owned) → o ≡ Some own → (own.number == number) ≡ false) → IsDone catalog u now n stmt o deed → IsApart deed number
apart_by catalog u now n number stmt o deed apart DidNothing = tt
apart_by catalog u now n number stmt o deed apart (DidAct purpose who shard act mark due comes marked) =
    apart_of (deeds.Acts who shard act mark) due.own.number number (done_own catalog u now n stmt o due.own (deeds.Acts who shard act mark) due.owns (DidAct purpose who shard act mark due comes marked)) (apart due.own due.owns)
apart_by catalog u now n number stmt o deed apart (DidCommit plan own who shard planned owns worked commits due) = tt
apart_by catalog u now n number stmt o deed apart (DidFail plan own who shard planned owns worked commits due) = tt

pub deed_apart : (catalog : Catalog) (u : Machine) (now : Run) (n m : ℕ) (stmt : Stmt) (deed : Deed) (own : Owned) → AreOwned now → IsDone catalog u now n stmt (session now n).owned deed → (n == m) ≡ false → (session now m).owned ≡ Some own → IsApart deed own.number
deed_apart catalog u now n m stmt deed own owned done other is = apart_by catalog u now n own.number stmt (session now n).owned deed (λ it owns. owned.apart n m it own other owns is) done

-- ---- a run

pub numbered_by : (e : Event) (past : Run) → HasNext (next_tx past) e.opens → IsBelow e.deed (next_tx (Happened e ∷ past)) → AreNumbered past → AreNumbered (Happened e ∷ past)
numbered_by e past has below before = record { owned = owned_stay e past has before.owned; unused = unused_stay e past (next_more e.opens (next_tx past) has) below before.unused }

numbered_still : (e : Event) (past : Run) → IsStill e → AreNumbered past → AreNumbered (Happened e ∷ past)
numbered_still e past still before =
    numbered_by e past (subst (HasNext (next_tx past)) (sym still.opens) tt) (subst (λ (d : Deed). IsBelow d (next_tx (Happened e ∷ past))) (sym still.deed) tt) before

next_opened : (past : Run) (e : Event) (stmt : Stmt) (before : Option Owned) (opens : Option ℕ) → Opens past e stmt before opens → HasNext (next_tx past) opens
next_opened past e stmt before opens (First said opens_first few) = refl
next_opened past e stmt before opens (Begun affected found warnings tx auto kind told few) = refl
next_opened past e stmt before opens (Refused code tx told deed fault) = tt
next_opened past e stmt before opens (Later unopened none) = tt

module _ (catalog : Catalog) (limits : Limits) (past : Run) (e : Event) (what : What) (before : AreNumbered past) where
  pub answers_numbered : Answers catalog limits past e what → AreNumbered (Happened e ∷ past)
  answers_numbered answers =
      let has = next_opened past e answers.stmt (session past e.session).owned e.opens answers.opens in
      let asks = owned_asked e past has before.owned in
      numbered_by e past has
      (below_by catalog (shown catalog past) (now_of e past) e.session (next_tx (now_of e past)) answers.stmt (session (now_of e past) e.session).owned e.deed (asks.given e.session) answers.done) before

  follows_numbered : (request : Request) → FollowsBy request catalog limits past e what → AreNumbered (Happened e ∷ past)
  follows_numbered requests.Join follows = numbered_still e past follows.still before
  follows_numbered (requests.Say stmt) follows = answers_numbered follows.1
  follows_numbered requests.Reset follows = numbered_still e past follows.1.still before
  follows_numbered requests.Step follows = answers_numbered follows.1
  follows_numbered requests.Leave follows = numbered_still e past follows.still before
  follows_numbered (requests.Kill who shard) follows = numbered_still e past follows.still before

numbered_at_first : (now : Run) → ((n : ℕ) → (session now n).owned ≡ None) → AreUnused now → AreNumbered now
numbered_at_first now none unused = record {
  owned = record { given = λ n own is. absurd (no_own own (sym (none n) ∙ is)); apart = λ n m own other apart is there. absurd (no_own own (sym (none n) ∙ is)) };
  unused = unused;
}
  where
    no_own : (own : Owned) → None ≡ Some own → ⊥
    no_own own same = cc

-- in a run each number is given once, and is one session's
pub run_numbered : (catalog : Catalog) (limits : Limits) (past : Run) → IsRun catalog limits past → AreNumbered past
run_numbered catalog limits [] is = numbered_at_first [] (λ n. refl) (λ tx above. record { used = λ group. refl; changes = refl; claimed = refl; removed = refl })
run_numbered catalog limits (Began opening ∷ past) is = numbered_at_first (Began opening ∷ past) (λ n. refl) (λ tx above. record { used = λ group. refl; changes = refl; claimed = refl; removed = refl })
run_numbered catalog limits (Happened e ∷ past) is = follows_numbered catalog limits past e is.1.0 (run_numbered catalog limits past is.0) e.request is.1.1
