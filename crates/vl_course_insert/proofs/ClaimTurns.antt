-- A step of an INSERT's claim is an event that the run allows.
use Rattle.std.proofs.Common.{◌≡◌, ◌∙◌, ◌&&◌, nat_lt, ℕ, Bool, true, false, List, [], ◌∷◌, length, Option, Some, None, refl, sym, ap, subst}
use Rattle.std.proofs.lemmas.Bool.{true≢false}
use Rattle.std.proofs.lemmas.Slice.Eq.{bytes_eq-Decides}
use Rattle.std.proofs.lemmas.Option.{same_Some}
use Rattle.vl_values.specs.declared.cause.Cause.TheVariants as causes
use Rattle.vl_values.specs.declared.group.Group.{Group}
use Rattle.vl_values.specs.declared.group.Group.TheVariants.{Main, Pre}
use Rattle.vl_values.specs.declared.key.Key.{Key}
use Rattle.vl_values.specs.declared.limit.Limit.TheVariants as quantities
use Rattle.vl_values.specs.Keyed.{is_among_keys}
use Rattle.vl_catalog.specs.declared.catalog.Catalog.{Catalog}
use Rattle.vl_catalog.specs.declared.lookup.Lookup.{Lookup}
use Rattle.vl_catalog.specs.Place.{ksid_of}
use Rattle.vl_rules.proofs.Passed.{not_false, not_true}
use Rattle.vl_sql.specs.declared.stmt.Stmt.{Stmt}
use Rattle.vl_port.specs.declared.act.Act.{Act}
use Rattle.vl_port.specs.declared.act.Act.TheVariants.{Find, Insert, Put}
use Rattle.vl_port.specs.declared.answer.Answer.{Answer}
use Rattle.vl_port.specs.declared.answer.Answer.TheVariants.{Done, Unchanged, Rows as Given, Found, Held, Lost, Device, Limit, Memory as NoMemory}
use Rattle.vl_port.specs.declared.claimed.Claimed.{Claimed}
use Rattle.vl_port.specs.declared.limits.Limits.{Limits}
use Rattle.vl_port.specs.declared.tx_state.TxState.{TxState}
use Rattle.vl_port.specs.declared.who.Who.{Who}
use Rattle.vl_port.specs.Asking.{Lists}
use Rattle.vl_port.specs.Limiting.{has_all_changes, is_full}
use Rattle.vl_port.specs.Outcomes.{outcome_of}
use Rattle.vl_port.specs.Transaction.{session_of}
use Rattle.vl_port.specs.View.{Values}
use Rattle.vl_plan.specs.declared.insert_plan.InsertPlan.{InsertPlan}
use Rattle.vl_plan.specs.declared.plan.Plan.TheVariants as plans
use Rattle.vl_lookup.specs.declared.claim_told.ClaimTold.{ClaimTold}
use Rattle.vl_lookup.specs.declared.stage.Stage.{Stage}
use Rattle.vl_lookup.specs.declared.stage.Stage.TheVariants as stages
use Rattle.vl_lookup.specs.Answering.{AnsweredAt, IsRefusal as IsToldAs, Refuses as ClaimRefuses, at_stage, claim_free, is_kept, told_free}
use Rattle.vl_lookup.specs.Making.{IsClaim}
use Rattle.vl_lookup.specs.Progress.{Progress as Claiming, due_at, is_first}
use Rattle.vl_lookup.specs.Stepping.{with_claimed}
use Rattle.vl_statement.specs.declared.program_told.ProgramTold.{ProgramTold}
use Rattle.vl_statement.specs.declared.program_told.ProgramTold.TheVariants as told
use Rattle.vl_statement.specs.Refusing.{IsRefusedFor, duplicate_entry, refused, removed_and_claimed}
use Rattle.vl_insert.specs.declared.task.Task.{Task}
use Rattle.vl_insert.specs.declared.task.Task.TheVariants as tasks
use Rattle.vl_insert.specs.Answering.{ClaimMeans}
use Rattle.vl_insert.specs.Progress.{Progress, at_claim, with_action, with_task}
use Rattle.vl_run.specs.declared.deed.Deed.TheVariants as deeds
use Rattle.vl_run.specs.declared.event.Event.{Event}
use Rattle.vl_run.specs.declared.mark.Mark.TheVariants as marks
use Rattle.vl_run.specs.Allowed.{now_of}
use Rattle.vl_run.specs.Gathered.{shown}
use Rattle.vl_run.specs.Machine.{of_tx, view}
use Rattle.vl_run.specs.Named.{Changing, Checking, Inserting, IsNext}
use Rattle.vl_run.specs.Named.IsDue.{Checks, Claims, Redirects}
use Rattle.vl_run.specs.Progress.{changes, removed}
use Rattle.vl_run.specs.Refused.{is_write}
use Rattle.vl_run.specs.Refused.Refuses.{Crossed, Full, HasEntry}
use Rattle.vl_run.specs.Run.{Run}
use Rattle.vl_run.specs.Run.Point.{Happened}
use Rattle.vl_run.specs.Session.{Owned}
use Rattle.vl_course.specs.Answered.{IsAnswered}
use Rattle.vl_course.specs.Course.{IsTx}
use Rattle.vl_course.specs.Turning.{GoesOn, HasTag, IsOfAct}
use Rattle.vl_course.proofs.Events.{next_owned, proceeds_act}
use Rattle.vl_course.proofs.Listed.{kept_listed, session_listed, tx_acted, tx_wrote}
use Rattle.vl_course.proofs.Named.{session_as}
use Rattle.vl_course_insert.specs.Inserting.{InsertTurned, IsChecking, IsFoundAs, IsReady, IsRedirecting, IsStageAt, open_tx}
use Rattle.vl_course_insert.proofs.Advances.{IsPast, claim_found, claim_inserted, claim_kept, claim_other, claim_put}
use Rattle.vl_course_insert.proofs.Dues.{check_due, entry_placed, first_due, is_next, is_open, known, redirect_due}
use Rattle.vl_course_insert.proofs.Here.{IsClaimHere, claim_here}
use Rattle.vl_course_insert.proofs.Moves.{open_behind}
use Rattle.vl_course_insert.proofs.Refusals.{RefusedAs, due_for, refusal_turned}
use Rattle.vl_course_insert.proofs.Taken.{keys_of, keys_passed, tx_claimed, tx_inserted, tx_relisted}
use Rattle.vl_course_insert.proofs.Telling.{IsFree, IsLeft, IsNamed, IsRefusal, IsStart, acted_turned, caused_left, count_as, goes_left, idle_turned, limit_same, on_left, or_false, or_true, read_sound, refused_left, still_sound, write_sound}

module _ {catalog : Catalog} {limits : Limits} {past : Run} {e : Event} {stmt : Stmt} {plan : InsertPlan} {own : Owned} {tx : TxState} {p : Progress} (s : IsStart catalog limits past e stmt plan own tx p) (claim : Claiming)
    (is : p.task ≡ Some (tasks.Claim claim)) where
  here : IsClaimHere catalog (now_of e past) e.session plan p claim
  here = claim_here s.at is

  ready : IsClaim catalog s.count claim
  ready = s.made.task (tasks.Claim claim) is

  abbrev lookup : Lookup
  lookup = here.at.made.lookup

  abbrev before : ℕ
  before = length here.before

  abbrev group_at : Stage → Group
  group_at stage = (due_at stage claim).group

  abbrev shard_at : Stage → ℕ
  shard_at stage = (due_at stage claim).shard

  abbrev act_at : Stage → Act
  act_at stage = (due_at stage claim).act

  abbrev who_at : Stage → Who
  who_at stage = session_of tx (group_at stage)

  abbrev Stands : Stage → Type 0
  Stands stage = IsStageAt catalog (now_of e past) e.session plan stage before lookup here.row claim

  -- ---- the act that is due

  next_first : Stands stages.First → IsNext catalog (shown catalog past) (now_of e past) e.session stmt (Some own) Inserting (session_of tx Pre) claim.shard (Insert claim.key claim.row)
  next_first stands =
      is_next own s.course.planned
      (Claims plan (session_of tx Pre) claim.shard (Insert claim.key claim.row) (first_due s.course.owned s.course.is_tx s.checked (shown catalog past) here ready stands))

  next_check : (ksid : List ℕ) (shard : ℕ) → Stands (stages.Check ksid shard) → IsNext catalog (shown catalog past) (now_of e past) e.session stmt (Some own) Checking (session_of tx Main) shard (Find claim.pred true)
  next_check ksid shard stands =
      is_next own s.course.planned
      (Checks plan (session_of tx Main) shard (Find claim.pred true) (check_due s.course.owned s.course.is_tx s.checked (shown catalog past) here ready ksid shard stands))

  next_put : Stands stages.Put → IsNext catalog (shown catalog past) (now_of e past) e.session stmt (Some own) Changing (session_of tx Pre) claim.shard (Put claim.key claim.row)
  next_put stands =
      is_next own s.course.planned
      (Redirects plan (session_of tx Pre) claim.shard (Put claim.key claim.row) (redirect_due s.course.owned s.course.is_tx s.checked (shown catalog past) here ready stands))

  named_at : (stage : Stage) → Stands stage → IsNamed catalog past e stmt own (who_at stage) (shard_at stage) (act_at stage)
  named_at stages.First stands = record { purpose = Inserting; next = next_first stands; opens = tt }
  named_at (stages.Check ksid shard) stands = record { purpose = Checking; next = next_check ksid shard stands; opens = tt }
  named_at stages.Put stands = record { purpose = Changing; next = next_put stands; opens = tt }

  removed_as : is_among_keys (removed (now_of e past) own.number) claim.key ≡ is_among_keys tx.removed claim.key
  removed_as = ap (λ (keys : List Key). is_among_keys keys claim.key) (sym s.course.is_tx.removed)

  no_write : false ≡ true → nat_lt tx.changes tx.limits.changes ≡ true
  no_write write = absurd (true≢false (sym write))

  free_at : (stage : Stage) → (is_first stage && is_among_keys tx.removed claim.key) ≡ false → is_full tx (act_at stage) ≡ false → IsFree s (group_at stage) (shard_at stage) (act_at stage)
  free_at stages.First apart room = record {
    room = λ write. not_false (nat_lt tx.changes tx.limits.changes) room;
    uncrossed = ap (λ (k : ℕ). is_among_keys (removed (now_of e past) k) claim.key) s.course.is_tx.number ∙ removed_as ∙ apart;
  }
  free_at (stages.Check ksid shard) apart room = record { room = no_write; uncrossed = tt }
  free_at stages.Put apart room = record { room = λ write. not_false (nat_lt tx.changes tx.limits.changes) room; uncrossed = tt }

  -- ---- nothing was asked of a shard

  module _ (tells : ProgramTold) (new : Progress) (tx_new : TxState) (tag : HasTag tells e.told) where
    abbrev Turns : Type 0
    Turns = InsertTurned catalog limits past e stmt plan own tells new tx_new

    module _ (none : e.deed ≡ deeds.Nothing) (visits : e.visits ≡ None) (fault : e.fault ≡ None) (same : tx_new ≡ tx) where
      -- the entry is one that the transaction removes
      crossed_cause : (stage : Stage) → Stands stage → (is_first stage && is_among_keys tx.removed claim.key) ≡ true → IsRefusal catalog limits past e stmt (removed_and_claimed catalog claim.lookup claim.row)
      crossed_cause stages.First stands crossed =
          subst (λ (l : ℕ). IsRefusal catalog limits past e stmt (removed_and_claimed catalog l claim.row)) (sym here.at.made.numbered)
          (Crossed own plan.table plan.rows (session_of tx Pre) claim.shard (Insert claim.key claim.row)
          (first_due s.course.owned s.course.is_tx s.checked (shown catalog past) here ready stands)
          s.course.owned s.course.planned (removed_as ∙ crossed) none fault)
      crossed_cause (stages.Check ksid shard) stands crossed = absurd (true≢false (sym crossed))
      crossed_cause stages.Put stands crossed = absurd (true≢false (sym crossed))

      pub crossed_turned : (is_first claim.stage && is_among_keys tx.removed claim.key) ≡ true → IsRefusedFor tx p.wrote tells (removed_and_claimed catalog claim.lookup claim.row) → Turns
      crossed_turned crossed refused =
          idle_turned s tells new tx_new none visits fault same tag
          (caused_left s p.wrote (removed_and_claimed catalog claim.lookup claim.row) tells new (still_sound s none fault) (crossed_cause claim.stage here.at.stage crossed) refused)

      -- the write would be one more than there may be
      full_cause : (stage : Stage) → Stands stage → is_full tx (act_at stage) ≡ true → IsRefusal catalog limits past e stmt (causes.Limit quantities.Changes tx.limits.changes)
      full_cause stage stands full =
          let named = named_at stage stands in
          let spent : nat_lt (changes (now_of e past) tx.number) limits.changes ≡ false = count_as s ∙ not_true (nat_lt tx.changes tx.limits.changes) (all_changes stage full) in
          subst (λ (k : ℕ). IsRefusal catalog limits past e stmt (causes.Limit quantities.Changes k)) (sym (limit_same s))
          (Full named.purpose (who_at stage) (shard_at stage) (act_at stage)
          (next_owned catalog limits past e stmt (plans.Insert plan) own tx p.tries p.wrote s.course named.purpose (who_at stage) (shard_at stage) (act_at stage) named.next) (writes stage full) none fault spent)
        where
          all_changes : (stage : Stage) → is_full tx (act_at stage) ≡ true → has_all_changes tx ≡ true
          all_changes stages.First full = full
          all_changes (stages.Check ksid shard) full = absurd (true≢false (sym full))
          all_changes stages.Put full = full

          writes : (stage : Stage) → is_full tx (act_at stage) ≡ true → is_write (act_at stage) ≡ true
          writes stages.First full = refl
          writes (stages.Check ksid shard) full = absurd (true≢false (sym full))
          writes stages.Put full = refl

      pub full_turned : is_full tx (act_at claim.stage) ≡ true → tells ≡ refused tx p.wrote (causes.Limit quantities.Changes tx.limits.changes) → Turns
      full_turned full refused =
          idle_turned s tells new tx_new none visits fault same tag
          (refused_left s p.wrote (causes.Limit quantities.Changes tx.limits.changes) tells new (still_sound s none fault) (full_cause claim.stage here.at.stage full) refused)

    -- ---- the action that was due was done and answered

    -- the action of this stage with its answer, and what the claim and the program say of that
    pub record IsDid (stage : Stage) (answer : Answer) : Type 0 where
      pub uncrossed : (is_first stage && is_among_keys tx.removed claim.key) ≡ false
      pub room : is_full tx (act_at stage) ≡ false
      pub mid : TxState
      pub claims : List Claimed
      pub lists : Lists tx (group_at stage) (shard_at stage) answer mid
      pub same : tx_new ≡ with_claimed claims mid
      pub said : ClaimTold
      pub claim_new : Claiming
      pub answered : AnsweredAt stage catalog claim tx.claimed answer said claim_new claims
      pub means : ClaimMeans catalog tx (at_claim claim_new p) (group_at stage) claim_new said tells new
      pub port : IsAnswered catalog past (who_at stage) (shard_at stage) (act_at stage) answer
      pub found : IsFoundAs catalog past (who_at stage) (act_at stage) answer
      pub event : IsOfAct e (Some (due_for tx (group_at stage) (shard_at stage) (act_at stage))) (Some (outcome_of answer))

    -- ---- an answer that does nothing for the claim

    at_same : (claim_new : Claiming) → claim_new ≡ claim → at_claim claim_new p ≡ p
    at_same claim_new same = ap (λ (c : Claiming). at_claim c p) same ∙ ap (λ (t : Option Task). record p { task = t }) (sym is)

    told_as : (q : Progress) (group : Group) (shard : ℕ) (claim_new : Claiming) (said : ClaimTold) (answer : Answer) → IsToldAs shard answer said → ClaimMeans catalog tx q group claim_new said tells new
        → RefusedAs catalog tx q group shard answer tells new
    told_as q group shard claim_new said (Held by key) says means = subst (λ (it : ClaimTold). ClaimMeans catalog tx q group claim_new it tells new) says means
    told_as q group shard claim_new said (Lost why) says means = subst (λ (it : ClaimTold). ClaimMeans catalog tx q group claim_new it tells new) says means
    told_as q group shard claim_new said Device says means = subst (λ (it : ClaimTold). ClaimMeans catalog tx q group claim_new it tells new) says means
    told_as q group shard claim_new said (Limit what count) says means = subst (λ (it : ClaimTold). ClaimMeans catalog tx q group claim_new it tells new) says means
    told_as q group shard claim_new said NoMemory says means = subst (λ (it : ClaimTold). ClaimMeans catalog tx q group claim_new it tells new) says means
    told_as q group shard claim_new said Done says means = absurd says
    told_as q group shard claim_new said Unchanged says means = absurd says
    told_as q group shard claim_new said (Given rows) says means = absurd says
    told_as q group shard claim_new said (Found key row) says means = absurd says

    refused_at : (stage : Stage) (answer : Answer) → Stands stage → (it : IsDid stage answer) → ClaimRefuses (shard_at stage) claim tx.claimed answer it.said it.claim_new it.claims → Turns
    refused_at stage answer stands it refuses =
        refusal_turned s (group_at stage) (shard_at stage) (act_at stage) (named_at stage stands) (free_at stage it.uncrossed it.room) tells new tx_new tag answer it.port it.event
        (record { mid = it.mid; lists = it.lists; claims = it.claims; same = it.same; kept = refuses.list })
        (subst (λ (q : Progress). RefusedAs catalog tx q (group_at stage) (shard_at stage) answer tells new) (at_same it.claim_new refuses.claim)
        (told_as (at_claim it.claim_new p) (group_at stage) (shard_at stage) it.claim_new it.said answer refuses.says it.means))

    past_task : (writes : Bool) → IsPast e past s.at (with_task writes p)
    past_task writes = record { task = refl; later = refl; rows = refl }

    -- ---- the Insert of the entry

    inserted : IsReady catalog (now_of e past) e.session plan before → IsDid stages.First Done → Turns
    inserted stands it =
        let act : Act = Insert claim.key claim.row in
        let deed : e.deed ≡ deeds.Acts (session_of tx Pre) claim.shard act marks.Writes = it.event.0 in
        let free = free_at stages.First it.uncrossed it.room in
        let listed = kept_listed tx it.lists.0 Pre claim.shard it.lists.1 in
        let goes = subst (λ (t : ClaimTold). ClaimMeans catalog tx (at_claim it.claim_new p) Pre it.claim_new t tells new) it.answered.says it.means in
        let there = claim_inserted e past s.at here (session_of tx Pre) claim.shard refl deed stands (with_task true p) (past_task true) in
        acted_turned s Pre claim.shard act true tells new tx_new marks.Writes Inserting (next_first stands) (it.found.inserted claim.key claim.row refl refl) deed it.event.1 tt free (it.port.spared refl)
        (write_sound s Pre claim.shard act deed it.event.2)
        (tx_inserted limits e past e.session own tx s.course.is_tx Pre claim.shard claim.key claim.row it.lists.0 it.mid it.lists.1 it.lists.2 (free.room refl) s.fits deed tx_new true refl
        (it.same ∙ ap (λ (cs : List Claimed). with_claimed cs it.mid) it.answered.list))
        (ap (λ (t : TxState). t.auto) (it.same ∙ ap (with_claimed it.claims) it.lists.2) ∙ listed.auto) tag
        (goes_left s true (with_task true p) tells new refl (or_true p.wrote) there (proceeds_act e (session_of tx Pre) claim.shard act marks.Writes deed tt it.event.2) goes)

    -- a statement that goes on keeps its transaction
    by_open : (group : Group) → tells ≡ told.More → session_of tx group ≡ of_tx e.session (open_tx (Happened e ∷ past) e.session) group
    by_open group more =
        session_as limits (now_of e past) e.session own tx s.course.is_tx group
        ∙ ap (λ (k : ℕ). of_tx e.session k group)
        (sym
        (open_behind catalog e past stmt tells s.asks (subst GoesOn (sym more) tt) tag
        ∙ is_open s.course.owned s.course.is_tx))

    found_there : (k : Key) (found : Values) → IsReady catalog (now_of e past) e.session plan before → IsDid stages.First (Found k found) → Turns
    found_there k found stands it =
        let act : Act = Insert claim.key claim.row in
        let deed : e.deed ≡ deeds.Acts (session_of tx Pre) claim.shard act marks.Takes = it.event.0 in
        let free = free_at stages.First it.uncrossed it.room in
        let listed = kept_listed tx it.mid Pre claim.shard it.lists in
        let goes = subst (λ (t : ClaimTold). ClaimMeans catalog tx (at_claim it.claim_new p) Pre it.claim_new t tells new) it.answered.says it.means in
        let seen : view (shown catalog past) (session_of tx Pre) claim.key ≡ Some found = (it.found.found claim.key k claim.row found refl refl).1 in
        let q : Progress = with_action (at_claim it.claim_new p) in
        let facts = known s.checked here ready in
        let placed = entry_placed s.checked here ready in
        let there = claim_found e past s.at here (session_of tx Pre) claim.shard refl deed stands (by_open Pre goes.0) (sym placed) found seen facts.to q (ap (λ (c : Claiming). Some (tasks.Claim c)) it.answered.claim) refl refl in
        acted_turned s Pre claim.shard act p.wrote tells new tx_new marks.Takes Inserting (next_first stands) (found, seen) deed it.event.1 tt free (it.port.spared refl)
        (read_sound s Pre claim.shard act marks.Takes deed refl it.event.2)
        (tx_claimed limits e past e.session own tx s.course.is_tx Pre claim.shard claim.key claim.row it.mid it.lists deed tx_new _ refl (it.same ∙ ap (λ (cs : List Claimed). with_claimed cs it.mid) it.answered.list))
        (ap (λ (t : TxState). t.auto) it.same ∙ listed.auto) tag
        (on_left s p.wrote q tells new (tasks.Claim it.claim_new) refl refl refl there (proceeds_act e (session_of tx Pre) claim.shard act marks.Takes deed tt it.event.2) goes.0 goes.1)

    -- ---- its owner check

    module _ (ksid : List ℕ) (shard : ℕ) (stands : IsChecking catalog (now_of e past) e.session plan before lookup claim ksid shard) where
      abbrev find : Act
      find = Find claim.pred true

      abbrev who : Who
      who = session_of tx Main

      module _ (rows : List (Key × Values)) (it : IsDid (stages.Check ksid shard) (Given rows)) where
        deed : e.deed ≡ deeds.Acts who shard find marks.Takes
        deed = it.event.0

        -- the list of claims has the keys that it had
        checked_tx : keys_of it.claims ≡ keys_of tx.claimed → IsTx limits (Happened e ∷ past) e.session own tx_new
        checked_tx keys =
            let listed = kept_listed tx it.mid Main shard it.lists in
            tx_relisted limits (Happened e ∷ past) e.session own it.mid tx_new it.claims
            (tx_acted limits e past e.session own tx s.course.is_tx it.mid who shard find marks.Takes deed refl refl refl (session_listed tx it.mid Main shard own.number s.course.is_tx.number it.lists) listed) it.same
            (keys ∙ ap keys_of (sym listed.claimed))

        checked : keys_of it.claims ≡ keys_of tx.claimed → IsLeft s p.wrote tells new → Turns
        checked keys left =
            let listed = kept_listed tx it.mid Main shard it.lists in
            acted_turned s Main shard find p.wrote tells new tx_new marks.Takes Checking (next_check ksid shard stands) tt deed it.event.1 tt (free_at (stages.Check ksid shard) it.uncrossed it.room) (it.port.spared refl)
            (read_sound s Main shard find marks.Takes deed refl it.event.2)
            (checked_tx keys) (ap (λ (t : TxState). t.auto) it.same ∙ listed.auto) tag left

      -- no row has the values of the entry
      none_has : (b : Bool) → is_kept ksid claim ≡ b → (it : IsDid (stages.Check ksid shard) (Given [])) → IsLeft s p.wrote tells new
      none_has true kept it =
          let facts = known s.checked here ready in
          let same : ksid ≡ claim.ksid = (bytes_eq-Decides ksid claim.ksid).0 kept in
          let goes = subst (λ (t : ClaimTold). ClaimMeans catalog tx (at_claim it.claim_new p) Main it.claim_new t tells new) (it.answered.says ∙ ap told_free kept) it.means in
          let there = claim_kept e past s.at here who shard refl claim.pred (deed [] it) ksid shard stands (facts.ksid ∙ ap (λ (k : List ℕ). Some k) (sym same)) (with_task false p) (past_task false) in
          goes_left s p.wrote (with_task false p) tells new refl (or_false p.wrote) there (proceeds_act e who shard find marks.Takes (deed [] it) tt it.event.2) goes
      none_has false other it =
          let facts = known s.checked here ready in
          let apart : ksid_of catalog plan.table here.row ≡ Some ksid → ⊥ = λ is_own. true≢false (sym ((bytes_eq-Decides ksid claim.ksid).1 (same_Some ksid claim.ksid (sym is_own ∙ facts.ksid))) ∙ other) in
          let goes = subst (λ (t : ClaimTold). ClaimMeans catalog tx (at_claim it.claim_new p) Main it.claim_new t tells new) (it.answered.says ∙ ap told_free other) it.means in
          let becomes : it.claim_new ≡ at_stage stages.Put claim = it.answered.claim ∙ ap (λ b. claim_free b claim) other in
          let q : Progress = with_action (at_claim it.claim_new p) in
          let there = claim_other e past s.at here who shard refl claim.pred (deed [] it) ksid shard stands apart q (ap (λ (c : Claiming). Some (tasks.Claim c)) becomes) refl refl in
          on_left s p.wrote q tells new (tasks.Claim it.claim_new) refl refl refl there (proceeds_act e who shard find marks.Takes (deed [] it) tt it.event.2) goes.0 goes.1

      -- or one has them
      one_has : (row : Key × Values) (rows : List (Key × Values)) → (it : IsDid (stages.Check ksid shard) (Given (row ∷ rows))) → IsLeft s p.wrote tells new
      one_has row rows it =
          let due = check_due s.course.owned s.course.is_tx s.checked (shown catalog past) here ready ksid shard stands in
          let means = subst (λ (t : ClaimTold). ClaimMeans catalog tx (at_claim it.claim_new p) Main it.claim_new t tells new) it.answered.says it.means in
          let refused : IsRefusedFor tx p.wrote tells (duplicate_entry catalog claim.lookup claim.row shard row.0) =
          subst (λ (c : Claiming). IsRefusedFor tx p.wrote tells (duplicate_entry catalog claim.lookup c.row shard row.0)) it.answered.claim means in
          caused_left s p.wrote (duplicate_entry catalog claim.lookup claim.row shard row.0) tells new (read_sound s Main shard find marks.Takes (deed (row ∷ rows) it) refl it.event.2)
          (subst (λ (l : ℕ). IsRefusal catalog limits past e stmt (duplicate_entry catalog l claim.row shard row.0)) (sym here.at.made.numbered)
          (HasEntry own.number plan.table plan.rows who shard claim.pred row rows due s.course.planned (deed (row ∷ rows) it) it.event.2 (it.port.rows (row ∷ rows) refl)))
          refused

      by_rows : (rows : List (Key × Values)) → IsDid (stages.Check ksid shard) (Given rows) → Turns
      by_rows [] it = checked [] it (ap keys_of it.answered.list ∙ keys_passed claim.key tx.claimed) (none_has (is_kept ksid claim) refl it)
      by_rows (row ∷ rows) it = checked (row ∷ rows) it (ap keys_of it.answered.list) (one_has row rows it)

    -- ---- its Put

    redirected : IsRedirecting catalog (now_of e past) e.session plan before lookup here.row claim → IsDid stages.Put Done → Turns
    redirected stands it =
        let act : Act = Put claim.key claim.row in
        let deed : e.deed ≡ deeds.Acts (session_of tx Pre) claim.shard act marks.Writes = it.event.0 in
        let free = free_at stages.Put it.uncrossed it.room in
        let listed = kept_listed tx it.lists.0 Pre claim.shard it.lists.1 in
        let goes = subst (λ (t : ClaimTold). ClaimMeans catalog tx (at_claim it.claim_new p) Pre it.claim_new t tells new) it.answered.says it.means in
        let there = claim_put e past s.at here (session_of tx Pre) claim.shard refl deed stands.claimed (with_task true p) (past_task true) in
        let is_mid = tx_wrote limits e past e.session own tx s.course.is_tx it.lists.0 it.mid (session_of tx Pre) claim.shard act deed refl refl s.course.is_tx.number
        (session_listed tx it.lists.0 Pre claim.shard own.number s.course.is_tx.number it.lists.1) listed it.lists.2 (free.room refl) s.fits in
        acted_turned s Pre claim.shard act true tells new tx_new marks.Writes Changing (next_put stands) tt deed it.event.1 tt free (it.port.spared refl) (write_sound s Pre claim.shard act deed it.event.2)
        (tx_relisted limits (Happened e ∷ past) e.session own it.mid tx_new it.claims is_mid it.same (ap keys_of it.answered.list ∙ ap keys_of (sym listed.claimed) ∙ ap (λ (t : TxState). keys_of t.claimed) (sym it.lists.2)))
        (ap (λ (t : TxState). t.auto) (it.same ∙ ap (with_claimed it.claims) it.lists.2) ∙ listed.auto) tag
        (goes_left s true (with_task true p) tells new refl (or_true p.wrote) there (proceeds_act e (session_of tx Pre) claim.shard act marks.Writes deed tt it.event.2) goes)

    -- ---- by its stage

    by_stage : (stage : Stage) → Stands stage → (answer : Answer) → IsDid stage answer → Turns
    by_stage stages.First stands Done it = inserted stands it
    by_stage stages.First stands (Found key row) it = found_there key row stands it
    by_stage stages.First stands (Held by key) it = refused_at stages.First (Held by key) stands it it.answered
    by_stage stages.First stands (Lost why) it = refused_at stages.First (Lost why) stands it it.answered
    by_stage stages.First stands Device it = refused_at stages.First Device stands it it.answered
    by_stage stages.First stands (Limit what count) it = refused_at stages.First (Limit what count) stands it it.answered
    by_stage stages.First stands NoMemory it = refused_at stages.First NoMemory stands it it.answered
    by_stage stages.First stands Unchanged it = refused_at stages.First Unchanged stands it it.answered
    by_stage stages.First stands (Given rows) it = refused_at stages.First (Given rows) stands it it.answered
    by_stage (stages.Check ksid shard) stands (Given rows) it = by_rows ksid shard stands rows it
    by_stage (stages.Check ksid shard) stands Done it = refused_at (stages.Check ksid shard) Done stands it it.answered
    by_stage (stages.Check ksid shard) stands (Found key row) it = refused_at (stages.Check ksid shard) (Found key row) stands it it.answered
    by_stage (stages.Check ksid shard) stands (Held by key) it = refused_at (stages.Check ksid shard) (Held by key) stands it it.answered
    by_stage (stages.Check ksid shard) stands (Lost why) it = refused_at (stages.Check ksid shard) (Lost why) stands it it.answered
    by_stage (stages.Check ksid shard) stands Device it = refused_at (stages.Check ksid shard) Device stands it it.answered
    by_stage (stages.Check ksid shard) stands (Limit what count) it = refused_at (stages.Check ksid shard) (Limit what count) stands it it.answered
    by_stage (stages.Check ksid shard) stands NoMemory it = refused_at (stages.Check ksid shard) NoMemory stands it it.answered
    by_stage (stages.Check ksid shard) stands Unchanged it = refused_at (stages.Check ksid shard) Unchanged stands it it.answered
    by_stage stages.Put stands Done it = redirected stands it
    by_stage stages.Put stands (Given rows) it = refused_at stages.Put (Given rows) stands it it.answered
    by_stage stages.Put stands (Found key row) it = refused_at stages.Put (Found key row) stands it it.answered
    by_stage stages.Put stands (Held by key) it = refused_at stages.Put (Held by key) stands it it.answered
    by_stage stages.Put stands (Lost why) it = refused_at stages.Put (Lost why) stands it it.answered
    by_stage stages.Put stands Device it = refused_at stages.Put Device stands it it.answered
    by_stage stages.Put stands (Limit what count) it = refused_at stages.Put (Limit what count) stands it it.answered
    by_stage stages.Put stands NoMemory it = refused_at stages.Put NoMemory stands it it.answered
    by_stage stages.Put stands Unchanged it = refused_at stages.Put Unchanged stands it it.answered

    pub did_turned : (answer : Answer) → IsDid claim.stage answer → Turns
    did_turned answer it = by_stage claim.stage here.at.stage answer it
