-- What a step of a commit leaves, by what it did.
use Rattle.std.proofs.Common.{◌≡◌, ℕ, ◌+◌, ◌-◌, ◌<◌, ◌≤◌, length, Option, Some, None, refl, sym, ap, ◌∙◌, subst, arith}
use Rattle.std.proofs.lemmas.Option.{same_Some, slice_get_within}
use Rattle.vl_catalog.specs.declared.catalog.Catalog.{Catalog}
use Rattle.vl_values.specs.declared.group.Group.{Group}
use Rattle.vl_values.specs.declared.group.Group.TheVariants.{Pre, Main, Post}
use Rattle.vl_port.specs.declared.committed.Committed.{Committed}
use Rattle.vl_port.specs.declared.committed.Committed.TheVariants as outcomes
use Rattle.vl_port.specs.declared.tx_state.TxState.{TxState}
use Rattle.vl_port.specs.declared.who.Who.{Who}
use Rattle.vl_port.specs.Calls.{HasCommitted, IsSamePort, PortView}
use Rattle.vl_port.specs.Others.{LeavesOthers}
use Rattle.vl_port.specs.Serving.{Serves, Shards}
use Rattle.vl_port.specs.Transaction.{listed, session_of}
use Rattle.vl_port.proofs.Leaving.{leaves_committed, leaves_same, leaves_trans}
use Rattle.vl_port.proofs.Served.{serves_committed}
use Rattle.vl_commit.specs.declared.commit_told.CommitTold.{CommitTold}
use Rattle.vl_commit.specs.declared.commit_told.CommitTold.TheVariants as told
use Rattle.vl_commit.specs.declared.failure.Failure.{Failure}
use Rattle.vl_commit.specs.declared.failure.Failure.TheVariants as failures
use Rattle.vl_commit.specs.Sessions.{AreLeft, HasEnded, Session, sessions, start_of}
use Rattle.vl_commit.specs.Stepping.{CommitStepped, Committing, Dealt, DealsWith, EndsAt, FailsIn, Goes, Idle, IsDoneIn, IsOver, RisesOnce, TellsOf, due, passed, warned}
use Rattle.vl_commit.proofs.Closings.{all_ended, rest_leaves}
use Rattle.vl_commit.proofs.Endings.{committed_ends, committed_rises}
use Rattle.vl_commit.proofs.Leaving.{left_next, none_left, past_all}
use Rattle.vl_commit.proofs.Places.{place_of}

-- ---- what is told of a commit that goes on, or has come to its end

told_tx : (o : Option Session) (c new : Committing) (tells : CommitTold) → TellsOf o c tells new → new.tx ≡ c.tx
told_tx None c new tells h = ap (λ (it : Committing). it.tx) h.1
told_tx (Some session) c new tells h = ap (λ (it : Committing). it.tx) h.1

told_more : (o : Option Session) (c new : Committing) (tells : CommitTold) → TellsOf o c tells new → tells ≡ told.More → new ≡ c
told_more None c new tells h more = absurd (cc (h.0, more))
told_more (Some session) c new tells h more = h.1

more_within : (o : Option Session) (c new : Committing) (tells : CommitTold) → due c ≡ o → TellsOf o c tells new → tells ≡ told.More → c.at < length (sessions c.tx)
more_within None c new tells is h more = absurd (cc (h.0, more))
more_within (Some session) c new tells is h more = slice_get_within (sessions c.tx) c.at session is

over_at : (o : Option Session) (c new : Committing) (tells : CommitTold) → due c ≡ o → TellsOf o c tells new → IsOver tells → length (sessions c.tx) ≤ c.at
over_at None c new tells is h over = past_all (sessions c.tx) c.at is
over_at (Some session) c new tells is h over = absurd (subst IsOver h.0 over)

-- ---- what a step leaves

pub record StepLeaves (catalog : Catalog) (count : ℕ) (old : Committing) (port : PortView) (tells : CommitTold) (new : Committing) (after : PortView) : Type 0 where
  pub tx : new.tx ≡ old.tx
  pub left : tells ≡ told.More → AreLeft new.tx new.at count after.shards
  pub ended : IsOver tells → HasEnded old.tx count after.shards
  pub counted : tells ≡ told.More → (new.at ≡ old.at + 1) × (new.at < length (sessions new.tx))
  pub serves : Serves catalog count after.shards
  pub others : LeavesOthers old.tx.number port.shards after.shards
  pub rises : RisesOnce port.shards after.shards

-- the commit between: what it leaves, before it is known what its outcome means
pub record Between (catalog : Catalog) (count : ℕ) (old : Committing) (port between : PortView) : Type 0 where
  pub left : AreLeft old.tx (old.at + 1) count between.shards
  pub serves : Serves catalog count between.shards
  pub others : LeavesOthers old.tx.number port.shards between.shards
  pub rises : RisesOnce port.shards between.shards

pub left_behind : (c : Committing) (count : ℕ) (port between : PortView) (session : Session) (outcome : Committed) → AreLeft c.tx c.at count port.shards → due c ≡ Some session
    → HasCommitted port (session_of c.tx session.0) session.1 outcome between → AreLeft c.tx (c.at + 1) count between.shards
left_behind c count port between session outcome left is committed =
    left_next c.tx c.at count port.shards between.shards session left is (committed_ends port between (session_of c.tx session.0) session.1 outcome committed)

committed_between : (catalog : Catalog) (count : ℕ) (old : Committing) (port between : PortView) (session : Session) (outcome : Committed) → AreLeft old.tx old.at count port.shards → Serves catalog count port.shards
    → due old ≡ Some session → HasCommitted port (session_of old.tx session.0) session.1 outcome between → Between catalog count old port between
committed_between catalog count old port between session outcome left serves is committed =
    let open_ = left.opened old.at session (omega arith) is in
    record {
      left = left_behind old count port between session outcome left is committed;
      serves = serves_committed catalog count port between (session_of old.tx session.0) session.1 outcome serves committed;
      others = leaves_committed port between (session_of old.tx session.0) session.1 outcome (serves.each session.1 open_.0).kept committed;
      rises = committed_rises port between (session_of old.tx session.0) session.1 outcome committed;
    }

-- the session was dealt with, and the port is as its commit left it
goes_leaves : (catalog : Catalog) (count : ℕ) (old c new : Committing) (port between after : PortView) (tells : CommitTold) → c.tx ≡ old.tx → c.at ≡ old.at + 1 → Between catalog count old port between
    → Goes c tells new between after → StepLeaves catalog count old port tells new after
goes_leaves catalog count old c new port between after tells same_tx at b goes =
    let left : AreLeft c.tx c.at count between.shards = subst (λ (t : TxState). AreLeft t c.at count between.shards) (sym same_tx) (subst (λ (n : ℕ). AreLeft old.tx n count between.shards) (sym at) b.left) in
    subst (StepLeaves catalog count old port tells new) (sym goes.same) (record {
      tx = told_tx (due c) c new tells goes.says ∙ same_tx;
      left = λ more. subst (λ (it : Committing). AreLeft it.tx it.at count between.shards) (sym (told_more (due c) c new tells goes.says more)) left;
      ended = λ over.
          subst (λ (t : TxState). HasEnded t count between.shards) same_tx (none_left c.tx c.at count between.shards left (over_at (due c) c new tells refl goes.says over));
      counted = λ more.
          let is = told_more (due c) c new tells goes.says more in
          (ap (λ (it : Committing). it.at) is ∙ at, subst (λ (it : Committing). it.at < length (sessions it.tx)) (sym is) (more_within (due c) c new tells refl goes.says more));
      serves = b.serves;
      others = b.others;
      rises = b.rises;
    })

-- the sessions behind it were closed
rises_on : (old mid new : Shards) → RisesOnce old mid → ((shard : ℕ) → (new shard).incarnation ≡ (mid shard).incarnation) → RisesOnce old new
rises_on old mid new rises stays = λ shard. subst (λ (n : ℕ). n ≤ (old shard).incarnation + 1) (sym (stays shard)) (rises shard)

refused_leaves : (catalog : Catalog) (count : ℕ) (old new : Committing) (port between after : PortView) (tells : CommitTold) (session : Session) (why : Failure) → due old ≡ Some session → Between catalog count old port between
    → EndsAt old session why between tells new after → StepLeaves catalog count old port tells new after
refused_leaves catalog count old new port between after tells session why is b ends =
    let below : old.at < length (sessions old.tx) = slice_get_within (sessions old.tx) old.at session is in
    let within : old.at + 1 ≤ length (sessions old.tx) = omega (arith, below) in
    let whole : old.at + 1 + (length (sessions old.tx) - (old.at + 1)) ≤ length (sessions old.tx) = omega (arith, within) in
    let rest = rest_leaves catalog count old.tx (old.at + 1) (length (sessions old.tx) - (old.at + 1)) between after whole b.left ends.closed in
    record {
      tx = ap (λ (it : Committing). it.tx) ends.same;
      left = λ more. absurd (cc (ends.refused, more));
      ended = λ over. all_ended catalog count old.tx (old.at + 1) between.shards after.shards within rest;
      counted = λ more. absurd (cc (ends.refused, more));
      serves = rest.serves b.serves;
      others = leaves_trans old.tx.number port.shards between.shards after.shards b.others (rest.others b.serves);
      rises = rises_on port.shards between.shards after.shards b.rises rest.stays;
    }

fails_leaves : (catalog : Catalog) (count : ℕ) (old new : Committing) (port between after : PortView) (tells : CommitTold) (group : Group) (session : Session) (why : Failure) → due old ≡ Some session
    → Between catalog count old port between → FailsIn group old session why between tells new after → StepLeaves catalog count old port tells new after
fails_leaves catalog count old new port between after tells Pre session why is b ends = refused_leaves catalog count old new port between after tells session why is b ends
fails_leaves catalog count old new port between after tells Main session why is b ends = refused_leaves catalog count old new port between after tells session why is b ends
fails_leaves catalog count old new port between after tells Post session why is b goes = goes_leaves catalog count old (warned session.1 why old) new port between after tells refl refl b goes

deals_leaves : (catalog : Catalog) (count : ℕ) (old new : Committing) (port between after : PortView) (tells : CommitTold) (session : Session) (outcome : Committed) → due old ≡ Some session
    → Between catalog count old port between → DealsWith outcome old session between tells new after → StepLeaves catalog count old port tells new after
deals_leaves catalog count old new port between after tells session outcomes.Done is b deals = goes_leaves catalog count old (passed old) new port between after tells refl refl b deals
deals_leaves catalog count old new port between after tells session (outcomes.Lost why) is b deals = fails_leaves catalog count old new port between after tells session.0 session (failures.Lost why) is b deals
deals_leaves catalog count old new port between after tells session outcomes.Device is b deals = fails_leaves catalog count old new port between after tells session.0 session failures.Device is b deals

none_more : (c new : Committing) (o : Option Session) (tells : CommitTold) → o ≡ None → TellsOf o c tells new → tells ≡ told.More → ⊥
none_more c new None tells is h more = cc (h.0, more)
none_more c new (Some session) tells is h more = cc is

idle_leaves : (catalog : Catalog) (count : ℕ) (old new : Committing) (port after : PortView) (tells : CommitTold) → AreLeft old.tx old.at count port.shards → Serves catalog count port.shards → due old ≡ None
    → Goes old tells new port after → StepLeaves catalog count old port tells new after
idle_leaves catalog count old new port after tells left serves none goes = subst (StepLeaves catalog count old port tells new) (sym goes.same) (record {
  tx = told_tx (due old) old new tells goes.says;
  left = λ more. absurd (none_more old new (due old) tells none goes.says more);
  ended = λ over. none_left old.tx old.at count port.shards left (past_all (sessions old.tx) old.at none);
  counted = λ more. absurd (none_more old new (due old) tells none goes.says more);
  serves = serves;
  others = leaves_same old.tx.number port.shards;
  rises = λ shard. omega arith;
})

stepped_leaves : (catalog : Catalog) (count : ℕ) (old new : Committing) (port after : PortView) (tells : CommitTold) → AreLeft old.tx old.at count port.shards → Serves catalog count port.shards
    → CommitStepped old port tells new after → StepLeaves catalog count old port tells new after
stepped_leaves catalog count old new port after tells left serves (Idle none goes) = idle_leaves catalog count old new port after tells left serves none goes
stepped_leaves catalog count old new port after tells left serves (Dealt session outcome between is committed deals) =
    deals_leaves catalog count old new port between after tells session outcome is (committed_between catalog count old port between session outcome left serves is committed) deals

pub step_leaves : (past catalog : Catalog) (before count : ℕ) (old new : Committing) (port after : PortView) (tells : CommitTold) → AreLeft old.tx old.at before port.shards → Serves past before port.shards
    → CommitStepped old port tells new after → IsSamePort past before catalog count → StepLeaves catalog count old port tells new after
step_leaves past catalog before count old new port after tells left serves stepped same =
    subst (λ (c : Catalog). StepLeaves c count old port tells new after) (sym same.serves)
    (subst (λ (n : ℕ). StepLeaves past n old port tells new after) (sym same.counts) (stepped_leaves past before old new port after tells left serves stepped))

-- ---- what passes in pre and main was done

fails_more : (old new : Committing) (between after : PortView) (tells : CommitTold) (group : Group) (session : Session) (why : Failure) → (group ≡ Post → ⊥) → FailsIn group old session why between tells new after
    → tells ≡ told.More → ⊥
fails_more old new between after tells Pre session why apart ends more = cc (ends.refused, more)
fails_more old new between after tells Main session why apart ends more = cc (ends.refused, more)
fails_more old new between after tells Post session why apart ends more = apart refl

deals_done : (old new : Committing) (port between after : PortView) (tells : CommitTold) (session : Session) (outcome : Committed) → HasCommitted port (session_of old.tx session.0) session.1 outcome between
    → DealsWith outcome old session between tells new after → tells ≡ told.More → (session.0 ≡ Post → ⊥) → HasCommitted port (session_of old.tx session.0) session.1 outcomes.Done after
deals_done old new port between after tells session outcomes.Done committed deals more apart = subst (HasCommitted port (session_of old.tx session.0) session.1 outcomes.Done) (sym deals.same) committed
deals_done old new port between after tells session (outcomes.Lost why) committed deals more apart = absurd (fails_more old new between after tells session.0 session (failures.Lost why) apart deals more)
deals_done old new port between after tells session outcomes.Device committed deals more apart = absurd (fails_more old new between after tells session.0 session failures.Device apart deals more)

two_due : (o : Option Session) (session : Session) → o ≡ None → o ≡ Some session → ⊥
two_due None session none is = cc is
two_due (Some other) session none is = cc none

pub step_done : (old new : Committing) (port after : PortView) (tells : CommitTold) → CommitStepped old port tells new after → tells ≡ told.More → IsDoneIn old port after
step_done old new port after tells (Idle none goes) more = λ session is apart. absurd (two_due (due old) session none is)
step_done old new port after tells (Dealt one outcome between its committed deals) more = λ session is apart.
    let same : one ≡ session = same_Some one session (sym its ∙ is) in
    subst (λ (s : Session). HasCommitted port (session_of old.tx s.0) s.1 outcomes.Done after) same
    (deals_done old new port between after tells one outcome committed deals more (λ (e : one.0 ≡ Post). apart (sym (ap (λ (s : Session). s.0) same) ∙ e)))

-- ---- what the code does

pub due_behind : (c : Committing) (group : Group) (shard : ℕ) → due c ≡ Some (group, shard) → start_of c.tx group ≤ c.at
due_behind c group shard is = let place = place_of c.tx c.at (group, shard) is in omega (arith, place.is)

pub due_within : (c : Committing) (group : Group) (shard : ℕ) → due c ≡ Some (group, shard) → c.at < start_of c.tx group + length (listed c.tx group)
due_within c group shard is = let place = place_of c.tx c.at (group, shard) is in omega (arith, place.is, slice_get_within (listed c.tx group) place.k shard place.at)

pub dealt_at : (old new : Committing) (port between after : PortView) (tells : CommitTold) (session : Session) (who : Who) (outcome : Committed) → due old ≡ Some session → who ≡ session_of old.tx session.0
    → HasCommitted port who session.1 outcome between → DealsWith outcome old session between tells new after → CommitStepped old port tells new after
dealt_at old new port between after tells session who outcome is own committed deals =
    Dealt session outcome between is (subst (λ (w : Who). HasCommitted port w session.1 outcome between) own committed) deals
