-- The shards show what the run says with the event of a step.
use Rattle.std.proofs.Common.{◌≡◌, ◌∙◌, ◌∷◌, ◌+◌, ◌-◌, ◌≤◌, ◌<◌, ℕ, Bool, true, false, length, Option, Some, None, refl, sym, ap, subst, arith}
use Rattle.std.specs.Option.{option_map}
use Rattle.std.proofs.lemmas.Option.{slice_get_within}
use Rattle.vl_catalog.specs.declared.catalog.Catalog.{Catalog}
use Rattle.vl_port.specs.declared.committed.Committed.TheVariants as outcomes
use Rattle.vl_port.specs.declared.tx_state.TxState.{TxState}
use Rattle.vl_port.specs.Calls.{PortView}
use Rattle.vl_port.specs.Transaction.{session_of}
use Rattle.vl_commit.specs.declared.commit_told.CommitTold.{CommitTold}
use Rattle.vl_commit.specs.declared.commit_told.CommitTold.TheVariants as told
use Rattle.vl_commit.specs.Closing.{AreClosed}
use Rattle.vl_commit.specs.Sessions.{Session as ShardSession, sessions}
use Rattle.vl_commit.specs.Stepping.{Committing, IsOver, TellsOf, due, passed}
use Rattle.vl_commit.proofs.Endings.{committed_ends as commit_ends_one}
use Rattle.vl_commit.proofs.Leaving.{left_next, past_all}
use Rattle.vl_run.specs.declared.deed.Deed.TheVariants as deeds
use Rattle.vl_run.specs.declared.ends.Ends.TheVariants as ends
use Rattle.vl_run.specs.declared.event.Event.{Event}
use Rattle.vl_run.specs.Allowed.{failed_one}
use Rattle.vl_run.specs.Run.{Run}
use Rattle.vl_run.specs.Run.Point.{Happened}
use Rattle.vl_run.proofs.Laws.{nobody_goes}
use Rattle.vl_replay.specs.Ending.{IsIdle, committed_deed, committed_ends}
use Rattle.vl_replay.specs.Showing.{AreUp, Shows}
use Rattle.vl_replay.proofs.Frees.{frees_none}
use Rattle.vl_replay.proofs.Moves.{moved, replays_by}
use Rattle.vl_replay.proofs.Refusals.{failed_shows}
use Rattle.vl_replay.proofs.Standing.{closed_shows, committed_shows}
use Rattle.vl_course_commit.specs.Dealing.{failure_told}
use Rattle.vl_session.specs.Ready.{IsCommitIn}
use Rattle.vl_committing.specs.Telling.{deed_of, due_named, is_done, named}
use Rattle.vl_committing.proofs.Dealings.{Went, none_told}
use Rattle.vl_committing.proofs.Dealings.Went.{Done, Idled, Lost}

-- the commit wasn't told as failed
abbrev pub IsUnfailed : CommitTold → Type 0
IsUnfailed told.More = Unit {0}
IsUnfailed (told.Ok warnings) = Unit {0}
IsUnfailed (told.Failed group done of_ shard why) = ⊥

-- nothing was closed
closes_nothing : (tx : TxState) (from n : ℕ) (port : PortView) → n ≡ 0 → AreClosed tx from n port port
closes_nothing tx from n port none = subst (λ (k : ℕ). AreClosed tx from k port port) (sym none) (record { closed = λ shard. refl; quiet = record { faults = refl; carried = refl; way = refl; losses = refl } })

none_due : (o : Option ShardSession) (next : Committing) (tells : CommitTold) (new : Committing) → TellsOf o next tells new → IsOver tells → o ≡ None
none_due None next tells new says over = refl
none_due (Some it) next tells new says over = absurd (subst IsOver says.0 over)

-- nothing was done, and no session ended
idle_shows : (catalog : Catalog) (past : Run) (count : ℕ) (e : Event) (port : PortView) → Shows catalog past count port.shards → e.deed ≡ deeds.Nothing → e.ends ≡ ends.Nobody → Shows catalog (Happened e ∷ past) count port.shards
idle_shows catalog past count e port shows deed gone = record {
  keyed = shows.keyed;
  replays = replays_by catalog past port.shards shows.replays port.shards e deeds.Nothing ends.Nobody deed gone tt (λ k. sym (nobody_goes catalog (moved catalog past port.shards shows.replays deeds.Nothing) k));
  serves = shows.serves;
  lanes = shows.lanes;
  up = shows.up;
  bare = shows.bare;
}

module _ (catalog : Catalog) (past : Run) (count : ℕ) (e : Event) (c new : Committing) (tells : CommitTold) (old mid : PortView) (shows : Shows catalog past count old.shards) (ready : IsCommitIn count c old.shards) (up : AreUp count mid.shards)
    (deed : e.deed ≡ deed_of (due_named c) (is_done (failure_told c tells new))) where
  within : (it : ShardSession) → due c ≡ Some it → it.1 < count
  within it is = (ready.left.opened c.at it (omega arith) is).0

  behind : (it : ShardSession) → due c ≡ Some it → c.at + 1 ≤ length (sessions c.tx)
  behind it is = omega (arith, slice_get_within (sessions c.tx) c.at it is)

  nothing_at : due c ≡ None → e.deed ≡ deeds.Nothing
  nothing_at none = deed ∙ ap (λ (o : Option ShardSession). deed_of (option_map (named c.tx) o) (is_done (failure_told c tells new))) none

  deed_at : (it : ShardSession) (done : Bool) → due c ≡ Some it → is_done (failure_told c tells new) ≡ done → e.deed ≡ committed_deed done (session_of c.tx it.0) it.1
  deed_at it done is so =
      deed ∙ ap (λ (o : Option ShardSession). deed_of (option_map (named c.tx) o) (is_done (failure_told c tells new))) is
      ∙ ap (λ (b : Bool). committed_deed b (session_of c.tx it.0) it.1) so

  done_is : TellsOf (due (passed c)) (passed c) tells new → is_done (failure_told c tells new) ≡ true
  done_is says = ap is_done (none_told c (due (passed c)) (passed c) tells new refl says)

  -- the transaction goes on, or has come to its end
  pub stays_shown : Went c new tells old mid → IsUnfailed tells → e.ends ≡ failed_one e.deed → Shows catalog (Happened e ∷ past) count mid.shards
  stays_shown (Idled none says same) unfailed gone =
      let is = nothing_at none in
      subst (λ (p : PortView). Shows catalog (Happened e ∷ past) count p.shards) (sym same) (idle_shows catalog past count e old shows is (gone ∙ ap failed_one is))
  stays_shown (Done it is commits done says) unfailed gone =
      let deed_is = deed_at it true is (done_is says) in
      committed_shows catalog past count old mid (session_of c.tx it.0) it.1 shows (within it is) refl outcomes.Done commits (up it.1 (within it is)) e
      (deed_is ∙ sym (ap (λ (b : Bool). committed_deed b (session_of c.tx it.0) it.1) done)) (gone ∙ ap failed_one deed_is ∙ sym (ap (λ (b : Bool). committed_ends b (session_of c.tx it.0) it.1) done))
  stays_shown (Lost it reason between is commits up_between undone ended) unfailed gone = absurd (subst IsUnfailed ended.refused unfailed)

  -- or all of it ended
  pub whole_shown : Went c new tells old mid → IsOver tells → c.at ≤ length (sessions c.tx) → e.ends ≡ ends.Whole c.tx.number → Shows catalog (Happened e ∷ past) count mid.shards
  whole_shown (Idled none says same) over bounded gone =
      subst (λ (p : PortView). Shows catalog (Happened e ∷ past) count p.shards) (sym same)
      (closed_shows catalog past c.tx count c.at old.shards old old e shows ready.owned (λ t. frees_none c.tx.number (old.shards t)) bounded ready.left shows.serves shows.up
      (closes_nothing c.tx c.at (length (sessions c.tx) - c.at) old (omega (arith, past_all (sessions c.tx) c.at none))) (subst IsIdle (sym (nothing_at none)) tt) gone)
  whole_shown (Done it is commits done says) over bounded gone =
      let all : length (sessions c.tx) ≤ c.at + 1 = past_all (sessions c.tx) (c.at + 1) (none_due (due (passed c)) (passed c) tells new says over) in
      failed_shows catalog past c.tx count (c.at + 1) old mid mid it.0 it.1 outcomes.Done shows ready.owned (within it is) commits (up it.1 (within it is)) (behind it is)
      (left_next c.tx c.at count old.shards mid.shards it ready.left is (commit_ends_one old mid (session_of c.tx it.0) it.1 outcomes.Done commits))
      (closes_nothing c.tx (c.at + 1) (length (sessions c.tx) - (c.at + 1)) mid (omega (arith, all))) e
      (deed_at it true is (done_is says) ∙ sym (ap (λ (b : Bool). committed_deed b (session_of c.tx it.0) it.1) done)) gone
  whole_shown (Lost it reason between is commits up_between undone ended) over bounded gone =
      failed_shows catalog past c.tx count (c.at + 1) old between mid it.0 it.1 (outcomes.Lost reason) shows ready.owned (within it is) commits up_between (behind it is)
      (left_next c.tx c.at count old.shards between.shards it ready.left is (commit_ends_one old between (session_of c.tx it.0) it.1 (outcomes.Lost reason) commits)) ended.closed e
      (deed_at it false is (ap (λ (t : CommitTold). is_done (failure_told c t new)) ended.refused) ∙ sym (ap (λ (b : Bool). committed_deed b (session_of c.tx it.0) it.1) undone)) gone
