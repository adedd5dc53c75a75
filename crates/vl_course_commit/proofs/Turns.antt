-- A step of a commit is an event that the run may have.
use Rattle.std.proofs.Common.{◌≡◌, ◌∙◌, ◌&&◌, ◌||◌, ◌+◌, ◌-◌, ◌≤◌, ◌<◌, ◌++◌, not, ℕ, Bool, true, false, List, [], ◌∷◌, length, map, Option, Some, None, refl, sym, ap, subst, arith}
use Rattle.std.specs.Prelude.{slice_get}
use Rattle.std.specs.Option.{is_some, option_map}
use Rattle.std.proofs.Math.Bool.{and-false}
use Rattle.std.proofs.lemmas.List.{append-nil, length-map, map-append}
use Rattle.std.proofs.lemmas.Option.{slice_get_past, slice_get_within}
use Rattle.vl_values.specs.declared.cause.Cause.{Cause}
use Rattle.vl_values.specs.declared.cause.Cause.TheVariants as causes
use Rattle.vl_values.specs.declared.group.Group.{Group}
use Rattle.vl_values.specs.declared.group.Group.TheVariants.{Pre, Main, Post}
use Rattle.vl_values.specs.declared.lost_why.LostWhy.{LostWhy}
use Rattle.vl_values.specs.declared.reply.Reply.{Reply}
use Rattle.vl_values.specs.declared.reply.Reply.TheVariants as replies
use Rattle.vl_values.specs.declared.warning.Warning.{Warning as Reported}
use Rattle.vl_values.specs.Cause.{error_code}
use Rattle.vl_catalog.specs.declared.catalog.Catalog.{Catalog}
use Rattle.vl_text.specs.ShardText.{shard_text}
use Rattle.vl_sql.specs.declared.stmt.Stmt.{Stmt}
use Rattle.vl_port.specs.declared.committed.Committed.{Committed}
use Rattle.vl_port.specs.declared.committed.Committed.TheVariants as outcomes
use Rattle.vl_port.specs.declared.limits.Limits.{Limits}
use Rattle.vl_port.specs.declared.tx_state.TxState.{TxState}
use Rattle.vl_port.specs.declared.who.Who.{Who}
use Rattle.vl_port.specs.Calls.{HasCommitted, PortView}
use Rattle.vl_port.specs.Transaction.{listed, session_of}
use Rattle.vl_plan.specs.declared.plan.Plan.{Plan}
use Rattle.vl_commit.specs.declared.commit_told.CommitTold.{CommitTold}
use Rattle.vl_commit.specs.declared.commit_told.CommitTold.TheVariants as told
use Rattle.vl_commit.specs.declared.failure.Failure.{Failure}
use Rattle.vl_commit.specs.declared.failure.Failure.TheVariants as failures
use Rattle.vl_commit.specs.declared.warning.Warning.{Warning}
use Rattle.vl_commit.specs.Sessions.{Session as ShardSession, sessions, start_of}
use Rattle.vl_commit.specs.Stepping.{CommitStepped, Committing, DealsWith, EndsAt, FailsIn, Goes, TellsOf, due, failed, passed, warned as with_warning}
use Rattle.vl_commit.specs.Stepping.CommitStepped.{Dealt, Idle}
use Rattle.vl_commit.proofs.Leaving.{past_all}
use Rattle.vl_run.specs.declared.deed.Deed.{Deed}
use Rattle.vl_run.specs.declared.deed.Deed.TheVariants as deeds
use Rattle.vl_run.specs.declared.ends.Ends.TheVariants as ends
use Rattle.vl_run.specs.declared.event.Event.{Event}
use Rattle.vl_run.specs.declared.fault.Fault.{Fault}
use Rattle.vl_run.specs.declared.fault.Fault.TheVariants as faults
use Rattle.vl_run.specs.declared.tag.Tag.{Tag}
use Rattle.vl_run.specs.declared.tag.Tag.TheVariants as tags
use Rattle.vl_run.specs.declared.what.What.TheVariants as whats
use Rattle.vl_run.specs.Allowed.{Allows, HasCome, HasCommitted as HasDealtWithAll, IsDone, IsOver, IsUnharmed, IsUnharmedBy, IsVisit, Proceeds, ends_due, failed_one, if_rolled_back, now_of}
use Rattle.vl_run.specs.Allowed.IsDone.{DidCommit, DidFail, DidNothing}
use Rattle.vl_run.specs.Allowed.IsVisit.{ByCommit, ByFailure, Nowhere}
use Rattle.vl_run.specs.Gathered.{shown}
use Rattle.vl_run.specs.Machine.{of_tx}
use Rattle.vl_run.specs.Named.{HasWorked, IsCommitDue, of_group, sessions as run_sessions}
use Rattle.vl_run.specs.Progress.{commits, has_begun_to_commit, has_written, post_warnings, session, warned, warnings_by, with_commit}
use Rattle.vl_run.specs.Refused.{IsWithin, MayBeLost, MayDo, Refuses, done_before}
use Rattle.vl_run.specs.Refused.Refuses.{CommitFailed, CommitLost}
use Rattle.vl_run.specs.Run.{Run, used, was_killed}
use Rattle.vl_run.specs.Run.Point.{Happened}
use Rattle.vl_run.specs.Session.{Kind, Owned, Session, is_committing, is_kept, kind_of}
use Rattle.vl_run.specs.Session.Kind.{Begins, Commits, RollsBack, SetsAuto, Stays, Works}
use Rattle.vl_replay.specs.Ending.{IsNoAct, committed_deed}
use Rattle.vl_course.specs.Course.{IsTx}
use Rattle.vl_course.specs.Turning.{IsOfStmt}
use Rattle.vl_course.proofs.Behind.{session_more}
use Rattle.vl_course.proofs.Kills.{loss_now, spared_now}
use Rattle.vl_course_commit.specs.Committing.{IsCommitAt, IsReplyOf, completed, fault_by, reported, reported_as}
use Rattle.vl_course_commit.specs.Dealing.{CommitTurned, HasTag, IsCommitStep, IsDealt, IsDoneTag, IsOfSession, MayAnswer, cause_of, ends_of, failure_told}
use Rattle.vl_course_commit.proofs.Kept.{counted_kept, reply_kept, result_kept, within_kept, worked_kept}
use Rattle.vl_course_commit.proofs.Leaving.{commit_counts, commit_no_act, commits_after, leaves_commit, tx_after, warned_after}

-- ---- the event, by the outcome of the commit

abbrev fault_of : Committed → Option Fault
fault_of outcomes.Done = None
fault_of (outcomes.Lost why) = Some (faults.Lost why)
fault_of outcomes.Device = Some faults.Device

record IsCommitOf (e : Event) (past : Run) (who : Who) (shard : ℕ) (outcome : Committed) : Type 0 where
  done : Bool
  deed : e.deed ≡ committed_deed done who shard
  visits : e.visits ≡ Some shard
  fault : e.fault ≡ fault_of outcome
  dealt : IsDealt past who shard done outcome

record IsIdle (e : Event) : Type 0 where
  deed : e.deed ≡ deeds.Nothing
  visits : e.visits ≡ None
  fault : e.fault ≡ None

the_last : (warnings : List Warning) (more : Warning) → slice_get (warnings ++ more ∷ []) (length warnings) ≡ Some more
the_last [] more = refl
the_last (warning ∷ warnings) more = the_last warnings more

abbrev why_in : List Warning → ℕ → Option Failure
why_in warnings n = option_map (λ (warning : Warning). warning.why) (slice_get warnings n)

-- what is told of the warnings that are left
told_by : (c next : Committing) (o : Option ShardSession) (tells : CommitTold) (new : Committing) → TellsOf o next tells new → failure_told c tells new ≡ why_in next.warnings (length c.warnings)
told_by c next None tells new says = ap (λ (t : CommitTold). failure_told c t new) says.0
told_by c next (Some it) tells new says = ap (λ (t : CommitTold). failure_told c t new) says.0 ∙ ap (λ (n : Committing). why_in n.warnings (length c.warnings)) says.1

none_told : (c : Committing) (o : Option ShardSession) (next : Committing) (tells : CommitTold) (new : Committing) → next.warnings ≡ c.warnings → TellsOf o next tells new → failure_told c tells new ≡ None
none_told c o next tells new same says =
    told_by c next o tells new says ∙ ap (λ (warnings : List Warning). why_in warnings (length c.warnings)) same ∙ ap (λ (w : Option Warning). option_map (λ (warning : Warning). warning.why) w) (slice_get_past c.warnings (length c.warnings) (omega arith))

one_told : (c : Committing) (shard : ℕ) (why : Failure) (o : Option ShardSession) (tells : CommitTold) (new : Committing) → TellsOf o (with_warning shard why c) tells new → failure_told c tells new ≡ Some why
one_told c shard why o tells new says =
    told_by c (with_warning shard why c) o tells new says ∙ ap (λ (w : Option Warning). option_map (λ (warning : Warning). warning.why) w) (the_last c.warnings (record { shard = shard; why = why }))

fail_told : (group : Group) (c : Committing) (it : ShardSession) (why : Failure) (between : PortView) (tells : CommitTold) (new : Committing) (port_new : PortView) → FailsIn group c it why between tells new port_new → failure_told c tells new ≡ Some why
fail_told Pre c it why between tells new port_new fails = ap (λ (t : CommitTold). failure_told c t new) fails.refused
fail_told Main c it why between tells new port_new fails = ap (λ (t : CommitTold). failure_told c t new) fails.refused
fail_told Post c it why between tells new port_new goes = one_told c it.1 why (due (with_warning it.1 why c)) tells new goes.says

-- the fault of the outcome is the one that is told
deal_told : (outcome : Committed) (c : Committing) (it : ShardSession) (between : PortView) (tells : CommitTold) (new : Committing) (port_new : PortView) → DealsWith outcome c it between tells new port_new → option_map fault_by (failure_told c tells new) ≡ fault_of outcome
deal_told outcomes.Done c it between tells new port_new goes = ap (λ (f : Option Failure). option_map fault_by f) (none_told c (due (passed c)) (passed c) tells new refl goes.says)
deal_told (outcomes.Lost why) c it between tells new port_new fails = ap (λ (f : Option Failure). option_map fault_by f) (fail_told it.0 c it (failures.Lost why) between tells new port_new fails)
deal_told outcomes.Device c it between tells new port_new fails = ap (λ (f : Option Failure). option_map fault_by f) (fail_told it.0 c it failures.Device between tells new port_new fails)

of_session : (e : Event) (c : Committing) (done : Bool) (o : Option ShardSession) (it : ShardSession) → o ≡ Some it → IsOfSession e c done o → IsOfSession e c done (Some it)
of_session e c done o it is of = subst (IsOfSession e c done) is of

of_none : (e : Event) (c : Committing) (done : Bool) (o : Option ShardSession) → o ≡ None → IsOfSession e c done o → IsOfSession e c done None
of_none e c done o is of = subst (IsOfSession e c done) is of

-- ---- the sessions that end

none_rolled_back : (kind : Kind) (owned : Option Owned) → is_committing kind owned ≡ true → if_rolled_back kind owned ≡ ends.Nobody
none_rolled_back Works owned commits = refl
none_rolled_back Begins owned commits = refl
none_rolled_back Commits owned commits = refl
none_rolled_back RollsBack owned commits = absurd (cc)
none_rolled_back (SetsAuto on) owned commits = refl
none_rolled_back Stays owned commits = refl

ends_done : (tag : Tag) (kind : Kind) (deed : Deed) (owned : Option Owned) → IsDoneTag tag → is_committing kind owned ≡ true → ends_due tag kind deed owned ≡ failed_one deed
ends_done tags.Nothing kind deed owned is commits = absurd is
ends_done tags.More kind deed owned is commits = absurd is
ends_done (tags.Held by tries) kind deed owned is commits = absurd is
ends_done (tags.Ok affected found warnings tx auto) kind deeds.Nothing owned is commits = none_rolled_back kind owned commits
ends_done (tags.Ok affected found warnings tx auto) kind (deeds.Acts who shard act mark) owned is commits = none_rolled_back kind owned commits
ends_done (tags.Ok affected found warnings tx auto) kind (deeds.Commits who shard) owned is commits = none_rolled_back kind owned commits
ends_done (tags.Ok affected found warnings tx auto) kind (deeds.Fails who shard) owned is commits = refl
ends_done (tags.Rows tx auto) kind deed owned is commits = refl
ends_done (tags.Err code tx) kind deed owned is commits = absurd is

ends_told : (catalog : Catalog) (tells : CommitTold) (tag : Tag) (kind : Kind) (deed : Deed) (owned : Option Owned) (own : Owned) → owned ≡ Some own → HasTag catalog tells tag → is_committing kind owned ≡ true → ends_due tag kind deed owned ≡ ends_of tells own deed
ends_told catalog told.More tag kind deed owned own is has commits = ap (λ (t : Tag). ends_due t kind deed owned) has
ends_told catalog (told.Ok warnings) tag kind deed owned own is has commits = ends_done tag kind deed owned has commits
ends_told catalog (told.Failed group done of shard why) tag kind deed owned own is has commits = ap (λ (t : Tag). ends_due t kind deed owned) has ∙ ap (λ (o : Option Owned). ends_due (tags.Err (error_code (cause_of catalog group done of shard why)) false) kind deed o) is

-- ---- what a commit's warnings are

-- done leaves none, and only one of post leaves one
warns_none : (catalog : Catalog) (done : Bool) (who : Who) (shard : ℕ) → warnings_by catalog (committed_deed done who shard) None ≡ []
warns_none catalog true who shard = by_group who.group
  where
    by_group : (group : Option Group) → post_warnings catalog group shard None ≡ []
    by_group None = refl
    by_group (Some Pre) = refl
    by_group (Some Main) = refl
    by_group (Some Post) = refl
warns_none catalog false who shard = by_group who.group
  where
    by_group : (group : Option Group) → post_warnings catalog group shard None ≡ []
    by_group None = refl
    by_group (Some Pre) = refl
    by_group (Some Main) = refl
    by_group (Some Post) = refl

warns_once : (catalog : Catalog) (done : Bool) (tx : TxState) (shard : ℕ) (why : Failure) → warnings_by catalog (committed_deed done (session_of tx Post) shard) (Some (fault_by why)) ≡ reported catalog (record { shard = shard; why = why } ∷ [])
warns_once catalog true tx shard why = refl
warns_once catalog false tx shard why = refl

-- ---- what proceeds

comes : (done : Bool) (who : Who) (shard : ℕ) → HasCome (committed_deed done who shard)
comes true who shard = tt
comes false who shard = tt

unharmed : (done : Bool) (who : Who) (shard : ℕ) (fault : Option Fault) → IsUnharmedBy who.group fault → (done ≡ false → is_some fault ≡ true) → IsUnharmed (committed_deed done who shard) fault
unharmed true who shard fault by some = by
unharmed false who shard fault by some = (some refl, by)

module _ (catalog : Catalog) (limits : Limits) (past : Run) (e : Event) (stmt : Stmt) (plan : Plan) (own : Owned) (c : Committing) (at : IsCommitAt catalog limits (now_of e past) e.session stmt plan own c) (asks : IsOfStmt e.request stmt) where
  -- ---- the transaction's sessions

  same_sessions : (after : Run) → IsTx limits after e.session own c.tx → run_sessions after own.number ≡ sessions c.tx
  same_sessions after is =
      ap (λ (shards : List ℕ). map (of_group Pre) shards ++ (map (of_group Main) (used after own.number Main) ++ map (of_group Post) (used after own.number Post))) (is.used Pre)
      ∙ ap (λ (shards : List ℕ). map (of_group Pre) c.tx.pre ++ (map (of_group Main) shards ++ map (of_group Post) (used after own.number Post))) (is.used Main)
      ∙ ap (λ (shards : List ℕ). map (of_group Pre) c.tx.pre ++ (map (of_group Main) c.tx.main ++ map (of_group Post) shards)) (is.used Post)

  by_own : (group : Group) → session_of c.tx group ≡ of_tx e.session own.number group
  by_own group = ap (λ n. record { session = n; tx = c.tx.number; group = Some group }) at.is_tx.session ∙ ap (λ n. record { session = e.session; tx = n; group = Some group }) at.is_tx.number

  due_now : (it : ShardSession) → due c ≡ Some it → slice_get (run_sessions (now_of e past) own.number) (commits (now_of e past) e.session) ≡ Some it
  due_now it is = ap (λ (all : List ShardSession). slice_get all (commits (now_of e past) e.session)) (same_sessions (now_of e past) at.is_tx) ∙ ap (slice_get (sessions c.tx)) at.dealt ∙ is

  commit_due : (it : ShardSession) → due c ≡ Some it → IsCommitDue (now_of e past) e.session own.number (session_of c.tx it.0) it.1
  commit_due it is = record { group = it.0; due = due_now it is; by = by_own it.0 }

  -- ---- the deed

  commits_own : is_committing (kind_of stmt) (session (now_of e past) e.session).owned ≡ true
  commits_own = ap (is_committing (kind_of stmt)) at.owned ∙ at.committing

  dealt_done : (done : Bool) (who : Who) (shard : ℕ) → IsCommitDue (now_of e past) e.session own.number who shard
      → IsDone catalog (shown catalog past) (now_of e past) e.session stmt (session (now_of e past) e.session).owned (committed_deed done who shard)
  dealt_done true who shard is = DidCommit plan own who shard at.planned at.owned at.worked commits_own is
  dealt_done false who shard is = DidFail plan own who shard at.planned at.owned at.worked commits_own is

  dealt_may : (done : Bool) (who : Who) (shard : ℕ) → (done ≡ true → was_killed past who shard ≡ false) → MayDo limits (now_of e past) (committed_deed done who shard)
  dealt_may true who shard spared = spared_now e past stmt asks who shard (spared refl)
  dealt_may false who shard spared = tt

  dealt_visit : (done : Bool) (who : Who) (shard : ℕ) → IsVisit catalog (shown catalog past) (now_of e past) e.session stmt (session (now_of e past) e.session).owned (committed_deed done who shard) (Some shard)
  dealt_visit true who shard = ByCommit who shard
  dealt_visit false who shard = ByFailure who shard

  -- what was done, or that nothing was
  record IsMade : Type 0 where
    done : IsDone catalog (shown catalog past) (now_of e past) e.session stmt (session (now_of e past) e.session).owned e.deed
    may : MayDo limits (now_of e past) e.deed
    visit : IsVisit catalog (shown catalog past) (now_of e past) e.session stmt (session (now_of e past) e.session).owned e.deed e.visits
    none : IsNoAct e.deed

  abbrev Goal : Deed → Option ℕ → Type 0
  Goal deed visits = IsVisit catalog (shown catalog past) (now_of e past) e.session stmt (session (now_of e past) e.session).owned deed visits

  made_idle : IsIdle e → IsMade
  made_idle idle = record {
    done = subst (IsDone catalog (shown catalog past) (now_of e past) e.session stmt (session (now_of e past) e.session).owned) (sym idle.deed) DidNothing;
    may = subst (MayDo limits (now_of e past)) (sym idle.deed) tt;
    visit = subst (λ (v : Option ℕ). Goal e.deed v) (sym idle.visits) (subst (λ (d : Deed). Goal d None) (sym idle.deed) Nowhere);
    none = subst IsNoAct (sym idle.deed) tt;
  }

  made_commit : (who : Who) (shard : ℕ) (outcome : Committed) → IsCommitDue (now_of e past) e.session own.number who shard → IsCommitOf e past who shard outcome → IsMade
  made_commit who shard outcome is of = record {
    done = subst (IsDone catalog (shown catalog past) (now_of e past) e.session stmt (session (now_of e past) e.session).owned) (sym of.deed) (dealt_done of.done who shard is);
    may = subst (MayDo limits (now_of e past)) (sym of.deed) (dealt_may of.done who shard of.dealt.spared);
    visit = subst (λ (v : Option ℕ). Goal e.deed v) (sym of.visits) (subst (λ (d : Deed). Goal d (Some shard)) (sym of.deed) (dealt_visit of.done who shard));
    none = subst IsNoAct (sym of.deed) (commit_no_act of.done who shard);
  }

  -- ---- a step that goes on, or comes to the end

  module _ (made : IsMade) (next : Committing) (tx : next.tx ≡ c.tx) (count : commits (Happened e ∷ past) e.session ≡ next.at) (bounded : next.at ≤ length (sessions c.tx)) (warns : warned catalog (Happened e ∷ past) e.session ≡ reported catalog next.warnings)
      (proceeds : Proceeds e) where
    worked_after : HasWorked catalog (Happened e ∷ past) e.session plan
    worked_after = worked_kept catalog (now_of e past) (Happened e ∷ past) e.session (leaves_commit catalog e past made.none) plan at.worked

    is_tx_after : IsTx limits (Happened e ∷ past) e.session own c.tx
    is_tx_after = tx_after catalog e past made.none limits own c.tx at.is_tx

    dealt_with_all : next.at ≡ length (sessions c.tx) → HasDealtWithAll (Happened e ∷ past) e.session (is_committing (kind_of stmt) (session (now_of e past) e.session).owned) (session (now_of e past) e.session).owned
    dealt_with_all all =
        subst (λ b. HasDealtWithAll (Happened e ∷ past) e.session b (session (now_of e past) e.session).owned) (sym commits_own)
        (subst (λ (o : Option Owned). HasDealtWithAll (Happened e ∷ past) e.session true o) (sym at.owned) (count ∙ all ∙ sym (ap length (same_sessions (Happened e ∷ past) is_tx_after))))

    all_dealt_with : HasDealtWithAll (Happened e ∷ past) e.session (is_committing (kind_of stmt) (session (now_of e past) e.session).owned) (session (now_of e past) e.session).owned → next.at ≡ length (sessions c.tx)
    all_dealt_with all =
        let told : commits (Happened e ∷ past) e.session ≡ length (run_sessions (Happened e ∷ past) own.number) =
        subst (λ (o : Option Owned). HasDealtWithAll (Happened e ∷ past) e.session true o) at.owned (subst (λ b. HasDealtWithAll (Happened e ∷ past) e.session b (session (now_of e past) e.session).owned) commits_own all) in
        sym count ∙ told ∙ ap length (same_sessions (Happened e ∷ past) is_tx_after)

    within_after : IsWithin catalog limits (Happened e ∷ past) e.session stmt
    within_after = within_kept catalog (now_of e past) (Happened e ∷ past) e.session (leaves_commit catalog e past made.none) limits stmt at.within

    more_allowed : next.at < length (sessions c.tx) → Allows catalog limits past e e.session stmt (session (now_of e past) e.session) whats.More
    more_allowed left = (proceeds, within_after, λ other over. absurd (omega (arith, left, all_dealt_with over.committed)))

    stands_after : e.told ≡ tags.More → IsCommitAt catalog limits (Happened e ∷ past) e.session stmt plan own next
    stands_after more =
        let same = session_more e past stmt asks more in
        record {
          doing = ap (λ (s : Session). s.doing) same ∙ at.doing;
          planned = at.planned;
          owned = ap (λ (s : Session). s.owned) same ∙ at.owned;
          committing = at.committing;
          is_tx = subst (IsTx limits (Happened e ∷ past) e.session own) (sym tx) is_tx_after;
          worked = worked_after;
          within = within_after;
          dealt = count;
          bounded = subst (λ (t : TxState). next.at ≤ length (sessions t)) (sym tx) bounded;
          warned = warns;
        }

    over_after : next.at ≡ length (sessions c.tx) → IsOver catalog (Happened e ∷ past) e.session stmt (session (now_of e past) e.session).owned plan
    over_after all = record { planned = at.planned; worked = worked_after; committed = dealt_with_all all }

    ok_allowed : next.at ≡ length (sessions c.tx) → (reply : Reply) (stays on : Bool) → IsReplyOf catalog (now_of e past) e.session stmt plan reply
        → Allows catalog limits past e e.session stmt (session (now_of e past) e.session) (whats.Reply (completed (length next.warnings) stays on reply))
    ok_allowed all (replies.Ok affected found warnings before was) stays on is = record {
      plan = plan;
      over = over_after all;
      counted = counted_kept catalog (now_of e past) (Happened e ∷ past) e.session (leaves_commit catalog e past made.none) plan affected found is.1;
      warned = sym (ap length warns ∙ length-map next.warnings (reported_as catalog));
      rowless = is.0;
      within = within_after;
      proceeds = proceeds;
    }
    ok_allowed all (replies.Rows columns rows before was) stays on is = record {
      plan = plan;
      over = over_after all;
      result = result_kept catalog (now_of e past) (Happened e ∷ past) e.session (leaves_commit catalog e past made.none) stmt (session (now_of e past) e.session) (session (now_of e past) e.session) plan columns rows is.0 is.1;
      within = within_after;
      proceeds = proceeds;
    }
    ok_allowed all (replies.Err code why before) stays on is = absurd is

    by_due : (o : Option ShardSession) (tells : CommitTold) (new : Committing) → due next ≡ o → TellsOf o next tells new → HasTag catalog tells e.told → CommitTurned catalog limits past e stmt plan own tells new
    by_due None tells new none says tag =
        let all : next.at ≡ length (sessions c.tx) = omega (arith, bounded, past_all (sessions c.tx) next.at (subst (λ (t : TxState). slice_get (sessions t) next.at ≡ None) tx none)) in
        record {
          done = made.done;
          may = made.may;
          visit = made.visit;
          ends = ends_told catalog tells e.told (kind_of stmt) e.deed (session (now_of e past) e.session).owned own at.owned tag commits_own;
          answers = subst (MayAnswer catalog limits past e stmt plan own) (sym says.0) (λ reply stays on is. ok_allowed all reply stays on is);
          stands = λ more. absurd (apart (sym says.0 ∙ more));
          keeps = λ more. absurd (apart (sym says.0 ∙ more));
        }
      where
        apart : told.Ok next.warnings ≡ told.More → ⊥
        apart same = cc
    by_due (Some it) tells new some says tag =
        let left : next.at < length (sessions c.tx) = slice_get_within (sessions c.tx) next.at it (subst (λ (t : TxState). slice_get (sessions t) next.at ≡ Some it) tx some) in
        record {
          done = made.done;
          may = made.may;
          visit = made.visit;
          ends = ends_told catalog tells e.told (kind_of stmt) e.deed (session (now_of e past) e.session).owned own at.owned tag commits_own;
          answers = subst (MayAnswer catalog limits past e stmt plan own) (sym says.0) (more_allowed left);
          stands = λ more. subst (IsCommitAt catalog limits (Happened e ∷ past) e.session stmt plan own) (sym says.1) (stands_after (subst (λ (t : CommitTold). HasTag catalog t e.told) more tag));
          keeps = λ more reply is. reply_kept catalog (now_of e past) (Happened e ∷ past) e.session (leaves_commit catalog e past made.none) stmt plan reply is;
        }

  -- ---- a refusal

  so_many_before : (group : Group) → done_before (now_of e past) e.session own.number group ≡ c.at - start_of c.tx group
  so_many_before Pre = omega (arith, at.dealt)
  so_many_before Main = ap (λ k. k - length (used (now_of e past) own.number Pre)) at.dealt ∙ ap (λ (shards : List ℕ). c.at - length shards) (at.is_tx.used Pre)
  so_many_before Post =
      ap (λ k. k - (length (used (now_of e past) own.number Pre) + length (used (now_of e past) own.number Main))) at.dealt
      ∙ ap (λ (shards : List ℕ). c.at - (length shards + length (used (now_of e past) own.number Main))) (at.is_tx.used Pre)
      ∙ ap (λ (shards : List ℕ). c.at - (length c.tx.pre + length shards)) (at.is_tx.used Main)

  so_many : (group : Group) → length (used (now_of e past) own.number group) ≡ length (listed c.tx group)
  so_many group = ap length (at.is_tx.used group)

  abbrev IsRefusal : Cause → Type 0
  IsRefusal cause = Refuses catalog limits (shown catalog past) past (now_of e past) (Happened e ∷ past) e e.session stmt (session (now_of e past) e.session) cause

  -- the cause, counted as the commit counts it
  abbrev cause_at : ShardSession → Failure → Cause
  cause_at it why = cause_of catalog it.0 (c.at - start_of c.tx it.0) (length (listed c.tx it.0)) it.1 why

  due_own : (it : ShardSession) → due c ≡ Some it → IsCommitDue (now_of e past) e.session own.number (of_tx e.session own.number it.0) it.1
  due_own it is = record { group = it.0; due = due_now it is; by = refl }

  lost_refuses : (it : ShardSession) (reason : LostWhy) → due c ≡ Some it → IsCommitOf e past (session_of c.tx it.0) it.1 (outcomes.Lost reason) → IsRefusal (cause_at it (failures.Lost reason))
  lost_refuses it reason is of =
      let may : MayBeLost (now_of e past) (of_tx e.session own.number it.0) it.1 reason =
      subst (λ (w : Who). MayBeLost (now_of e past) w it.1 reason) (by_own it.0) (loss_now e past stmt asks (session_of c.tx it.0) it.1 reason (of.dealt.lost reason refl)) in
      let counted : causes.CommitLost it.0 (done_before (now_of e past) e.session own.number it.0) (length (used (now_of e past) own.number it.0)) (shard_text catalog it.1) reason ≡ cause_at it (failures.Lost reason) =
      ap (λ k. causes.CommitLost it.0 k (length (used (now_of e past) own.number it.0)) (shard_text catalog it.1) reason) (so_many_before it.0)
      ∙ ap (λ k. causes.CommitLost it.0 (c.at - start_of c.tx it.0) k (shard_text catalog it.1) reason) (so_many it.0) in
      subst IsRefusal counted (CommitLost own it.1 it.0 reason at.owned (due_own it is) of.visits of.fault may)

  device_refuses : (it : ShardSession) → due c ≡ Some it → IsCommitOf e past (session_of c.tx it.0) it.1 outcomes.Device → IsRefusal (cause_at it failures.Device)
  device_refuses it is of =
      let counted : causes.CommitDevice it.0 (done_before (now_of e past) e.session own.number it.0) (length (used (now_of e past) own.number it.0)) (shard_text catalog it.1) ≡ cause_at it failures.Device =
      ap (λ k. causes.CommitDevice it.0 k (length (used (now_of e past) own.number it.0)) (shard_text catalog it.1)) (so_many_before it.0)
      ∙ ap (λ k. causes.CommitDevice it.0 (c.at - start_of c.tx it.0) k (shard_text catalog it.1)) (so_many it.0) in
      subst IsRefusal counted (CommitFailed own it.1 it.0 at.owned (due_own it is) of.visits of.fault)

  -- no transaction stays open behind it
  refused_allowed : (it : ShardSession) (why : Failure) (fault : Fault) → e.fault ≡ Some fault → IsRefusal (cause_at it why) → MayAnswer catalog limits past e stmt plan own (failed c it why)
  refused_allowed it why fault met refuses = record {
    coded = refl;
    caused = refuses;
    kept = let written = has_written (Happened e ∷ past) e.session in
        let begun = has_begun_to_commit (Happened e ∷ past) e.session in
        sym
        (ap (λ (o : Option Owned). is_kept written (is_some e.fault || begun) o) at.owned ∙ ap (λ (f : Option Fault). not own.single && (not written && not (is_some f || begun))) met
        ∙ ap (λ b. not own.single && b) (and-false (not written)) ∙ and-false (not own.single));
  }

  refused_turned : (it : ShardSession) (why : Failure) (fault : Fault) (between : PortView) (tells : CommitTold) (new : Committing) (port_new : PortView) → IsMade → e.fault ≡ Some fault → IsRefusal (cause_at it why) → EndsAt c it why between tells new port_new → HasTag catalog tells e.told
      → CommitTurned catalog limits past e stmt plan own tells new
  refused_turned it why fault between tells new port_new made met refuses ended tag = record {
    done = made.done;
    may = made.may;
    visit = made.visit;
    ends = ends_told catalog tells e.told (kind_of stmt) e.deed (session (now_of e past) e.session).owned own at.owned tag commits_own;
    answers = subst (MayAnswer catalog limits past e stmt plan own) (sym ended.refused) (refused_allowed it why fault met refuses);
    stands = λ more. absurd (apart (sym ended.refused ∙ more));
    keeps = λ more. absurd (apart (sym ended.refused ∙ more));
  }
    where
      apart : failed c it why ≡ told.More → ⊥
      apart same = cc

  -- ---- a commit

  module _ (it : ShardSession) (outcome : Committed) (is : due c ≡ Some it) (of : IsCommitOf e past (session_of c.tx it.0) it.1 outcome) where
    counts_one : commits (Happened e ∷ past) e.session ≡ c.at + 1
    counts_one =
        commits_after catalog e past ∙ ap (λ (d : Deed). with_commit d (commits (now_of e past) e.session)) of.deed ∙ commit_counts of.done (session_of c.tx it.0) it.1 (commits (now_of e past) e.session)
        ∙ ap (λ k. k + 1) at.dealt

    has_next : c.at + 1 ≤ length (sessions c.tx)
    has_next = omega (arith, slice_get_within (sessions c.tx) c.at it is)

    made : IsMade
    made = made_commit (session_of c.tx it.0) it.1 outcome (commit_due it is) of

    warns_more : (more : List Reported) → warnings_by catalog (committed_deed of.done (session_of c.tx it.0) it.1) (fault_of outcome) ≡ more → warned catalog (Happened e ∷ past) e.session ≡ reported catalog c.warnings ++ more
    warns_more more by =
        warned_after catalog e past ∙ ap (λ (ws : List Reported). ws ++ warnings_by catalog e.deed e.fault) at.warned
        ∙ ap (λ (ws : List Reported). reported catalog c.warnings ++ ws)
        (ap (λ (d : Deed). warnings_by catalog d e.fault) of.deed ∙ ap (λ (f : Option Fault). warnings_by catalog (committed_deed of.done (session_of c.tx it.0) it.1) f) of.fault ∙ by)

    proceeds_by : IsUnharmedBy (Some it.0) (fault_of outcome) → (of.done ≡ false → is_some (fault_of outcome) ≡ true) → Proceeds e
    proceeds_by by some = record {
      sound = subst (λ (f : Option Fault). IsUnharmed e.deed f) (sym of.fault)
          (subst (λ (d : Deed). IsUnharmed d (fault_of outcome)) (sym of.deed) (unharmed of.done (session_of c.tx it.0) it.1 (fault_of outcome) by some));
      come = subst HasCome (sym of.deed) (comes of.done (session_of c.tx it.0) it.1);
    }

  module _ (tells : CommitTold) (new : Committing) (port_new : PortView) (tag : HasTag catalog tells e.told) where
    -- done
    done_turned : (it : ShardSession) (between : PortView) (is : due c ≡ Some it) (of : IsCommitOf e past (session_of c.tx it.0) it.1 outcomes.Done) → Goes (passed c) tells new between port_new → CommitTurned catalog limits past e stmt plan own tells new
    done_turned it between is of goes =
        by_due (made it outcomes.Done is of) (passed c) refl (counts_one it outcomes.Done is of) (has_next it outcomes.Done is of)
        (warns_more it outcomes.Done is of [] (warns_none catalog of.done (session_of c.tx it.0) it.1) ∙ append-nil (reported catalog c.warnings))
        (proceeds_by it outcomes.Done is of tt (λ undone. absurd (both of.done (of.dealt.answered refl) undone))) (due (passed c)) tells new refl goes.says tag
      where
        both : (b : Bool) → b ≡ true → b ≡ false → ⊥
        both b is_done undone = cc

    -- failed, in post
    warned_turned : (it : ShardSession) (outcome : Committed) (why : Failure) (between : PortView) (is : due c ≡ Some it) (of : IsCommitOf e past (session_of c.tx it.0) it.1 outcome) → fault_of outcome ≡ Some (fault_by why) → it.0 ≡ Post
        → Goes (with_warning it.1 why c) tells new between port_new → CommitTurned catalog limits past e stmt plan own tells new
    warned_turned it outcome why between is of fault post goes =
        let warning : Warning = record { shard = it.1; why = why } in
        let told : warnings_by catalog (committed_deed of.done (session_of c.tx it.0) it.1) (fault_of outcome) ≡ reported catalog (warning ∷ []) =
        ap (λ (f : Option Fault). warnings_by catalog (committed_deed of.done (session_of c.tx it.0) it.1) f) fault
        ∙ ap (λ g. warnings_by catalog (committed_deed of.done (session_of c.tx g) it.1) (Some (fault_by why))) post ∙ warns_once catalog of.done c.tx it.1 why in
        by_due (made it outcome is of) (with_warning it.1 why c) refl (counts_one it outcome is of) (has_next it outcome is of)
        (warns_more it outcome is of (reported catalog (warning ∷ [])) told ∙ sym (map-append (reported_as catalog) c.warnings (warning ∷ [])))
        (proceeds_by it outcome is of (subst (IsUnharmedBy (Some it.0)) (sym fault) (ap Some post)) (λ undone. ap (λ (f : Option Fault). is_some f) fault)) (due (with_warning it.1 why c)) tells new refl goes.says tag

    fails_turned : (it : ShardSession) (outcome : Committed) (why : Failure) (between : PortView) (is : due c ≡ Some it) (of : IsCommitOf e past (session_of c.tx it.0) it.1 outcome) → fault_of outcome ≡ Some (fault_by why) → IsRefusal (cause_at it why)
        → (group : Group) → it.0 ≡ group → FailsIn group c it why between tells new port_new → CommitTurned catalog limits past e stmt plan own tells new
    fails_turned it outcome why between is of fault refuses Pre group fails = refused_turned it why (fault_by why) between tells new port_new (made it outcome is of) (of.fault ∙ fault) refuses fails tag
    fails_turned it outcome why between is of fault refuses Main group fails = refused_turned it why (fault_by why) between tells new port_new (made it outcome is of) (of.fault ∙ fault) refuses fails tag
    fails_turned it outcome why between is of fault refuses Post group fails = warned_turned it outcome why between is of fault group fails

    dealt_turned : (it : ShardSession) (outcome : Committed) (between : PortView) → due c ≡ Some it → IsCommitOf e past (session_of c.tx it.0) it.1 outcome → DealsWith outcome c it between tells new port_new → CommitTurned catalog limits past e stmt plan own tells new
    dealt_turned it outcomes.Done between is of deals = done_turned it between is of deals
    dealt_turned it (outcomes.Lost why) between is of deals = fails_turned it (outcomes.Lost why) (failures.Lost why) between is of refl (lost_refuses it why is of) it.0 refl deals
    dealt_turned it outcomes.Device between is of deals = fails_turned it outcomes.Device failures.Device between is of refl (device_refuses it is of) it.0 refl deals

    -- none is left
    idle_turned : due c ≡ None → IsIdle e → TellsOf (due c) c tells new → CommitTurned catalog limits past e stmt plan own tells new
    idle_turned none idle says =
        by_due (made_idle idle) c refl (commits_after catalog e past ∙ ap (λ (d : Deed). with_commit d (commits (now_of e past) e.session)) idle.deed ∙ at.dealt) at.bounded
        (warned_after catalog e past ∙ ap (λ (ws : List Reported). ws ++ warnings_by catalog e.deed e.fault) at.warned
        ∙ ap (λ (d : Deed). reported catalog c.warnings ++ warnings_by catalog d e.fault) idle.deed ∙ append-nil (reported catalog c.warnings))
        (record { sound = subst (λ (d : Deed). IsUnharmed d e.fault) (sym idle.deed) idle.fault; come = subst HasCome (sym idle.deed) tt }) (due c) tells new refl says tag

pub commit_turned : (catalog : Catalog) (limits : Limits) (past : Run) (e : Event) (stmt : Stmt) (plan : Plan) (own : Owned) (c : Committing) → IsCommitAt catalog limits (now_of e past) e.session stmt plan own c → (port port_new : PortView) (tells : CommitTold) (new : Committing) (done : Bool)
    → CommitStepped c port tells new port_new → IsCommitStep catalog e stmt c done tells new
    → ((it : ShardSession) (outcome : Committed) (between : PortView) → due c ≡ Some it → HasCommitted port (session_of c.tx it.0) it.1 outcome between → DealsWith outcome c it between tells new port_new → IsDealt past (session_of c.tx it.0) it.1 done outcome)
    → CommitTurned catalog limits past e stmt plan own tells new
commit_turned catalog limits past e stmt plan own c at port port_new tells new done (Idle none goes) step dealt =
    let of = of_none e c done (due c) none step.session in
    idle_turned catalog limits past e stmt plan own c at step.asked tells new port_new step.tag none
    (record { deed = of.0; visits = of.1; fault = step.fault ∙ ap (λ (f : Option Failure). option_map fault_by f) (none_told c (due c) c tells new refl goes.says) }) goes.says
commit_turned catalog limits past e stmt plan own c at port port_new tells new done (Dealt it outcome between is committed deals) step dealt =
    let of = of_session e c done (due c) it is step.session in
    dealt_turned catalog limits past e stmt plan own c at step.asked tells new port_new step.tag it outcome between is
    (record { done = done; deed = of.0; visits = of.1; fault = step.fault ∙ deal_told outcome c it between tells new port_new deals; dealt = dealt it outcome between is committed deals }) deals
