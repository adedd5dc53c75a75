-- What the commit of a step came to, where the link passed it on and no shard went down.
use Rattle.std.proofs.Common.{◌≡◌, ◌∙◌, ◌+◌, ◌-◌, ℕ, Bool, true, false, List, [], length, Option, Some, None, refl, sym, ap, subst, arith}
use Rattle.std.specs.Prelude.{slice_get}
use Rattle.std.specs.Option.{option_map}
use Rattle.std.proofs.lemmas.Option.{slice_get_past}
use Rattle.vl_values.specs.declared.group.Group.{Group}
use Rattle.vl_values.specs.declared.group.Group.TheVariants.{Pre, Main, Post}
use Rattle.vl_values.specs.declared.lost_why.LostWhy.{LostWhy}
use Rattle.vl_values.specs.declared.lost_why.LostWhy.TheVariants as why
use Rattle.vl_port.specs.declared.carried.Carried.{Carried}
use Rattle.vl_port.specs.declared.carried.Carried.TheVariants.{Passed, LostBefore, LostAfter}
use Rattle.vl_port.specs.declared.committed.Committed.{Committed}
use Rattle.vl_port.specs.declared.committed.Committed.TheVariants as outcomes
use Rattle.vl_port.specs.declared.tx_state.TxState.{TxState}
use Rattle.vl_port.specs.declared.who.Who.{Who}
use Rattle.vl_port.specs.Calls.{HasCommitted, PortView}
use Rattle.vl_port.specs.Carrying.{CommitCarries, CommitUses}
use Rattle.vl_port.specs.Life.{loss_of}
use Rattle.vl_port.specs.Transaction.{listed, session_of}
use Rattle.vl_port.specs.View.{View}
use Rattle.vl_commit.specs.declared.commit_told.CommitTold.{CommitTold}
use Rattle.vl_commit.specs.declared.failure.Failure.{Failure}
use Rattle.vl_commit.specs.declared.failure.Failure.TheVariants as failures
use Rattle.vl_commit.specs.declared.warning.Warning.{Warning}
use Rattle.vl_commit.specs.Sessions.{Session as ShardSession, sessions}
use Rattle.vl_commit.specs.Stepping.{CommitStepped, Committing, DealsWith, EndsAt, FailsIn, TellsOf, due, passed}
use Rattle.vl_commit.specs.Stepping.CommitStepped.{Dealt, Idle}
use Rattle.vl_commit.proofs.Places.{place_of}
use Rattle.vl_run.specs.Refused.{MayBeLost}
use Rattle.vl_run.specs.Run.{Run, was_killed}
use Rattle.vl_replay.specs.Ending.{was_done}
use Rattle.vl_replay.proofs.Ends.{done_was_done}
use Rattle.vl_replay.proofs.Standing.{all_up}
use Rattle.vl_course.specs.Answered.{IsMarkedAs}
use Rattle.vl_course_commit.specs.Dealing.{IsDealt, failure_told}
use Rattle.vl_committing.specs.Telling.{is_done}

never : true ≡ false → ⊥
never same = cc

no_some : {A : Type 0} {a : A} → None ≡ Some a → ⊥
no_some same = cc

-- ---- no session of post

none_there : (k x : ℕ) (xs : List ℕ) → xs ≡ [] → slice_get xs k ≡ Some x → ⊥
none_there k x xs none at = no_some (sym (slice_get_past xs k (omega (arith, ap length none))) ∙ at)

pub no_post : (tx : TxState) (n : ℕ) (it : ShardSession) → tx.post ≡ [] → slice_get (sessions tx) n ≡ Some it → it.0 ≡ Post → ⊥
no_post tx n it none at is =
    let p = place_of tx n it at in
    none_there p.k it.1 (listed tx Post) none (subst (λ (g : Group). slice_get (listed tx g) p.k ≡ Some it.1) is p.at)

-- ---- what is told

abbrev why_in : List Warning → ℕ → Option Failure
why_in warnings n = option_map (λ (warning : Warning). warning.why) (slice_get warnings n)

told_by : (c next : Committing) (o : Option ShardSession) (tells : CommitTold) (new : Committing) → TellsOf o next tells new → failure_told c tells new ≡ why_in next.warnings (length c.warnings)
told_by c next None tells new says = ap (λ (t : CommitTold). failure_told c t new) says.0
told_by c next (Some it) tells new says = ap (λ (t : CommitTold). failure_told c t new) says.0 ∙ ap (λ (n : Committing). why_in n.warnings (length c.warnings)) says.1

pub none_told : (c : Committing) (o : Option ShardSession) (next : Committing) (tells : CommitTold) (new : Committing) → next.warnings ≡ c.warnings → TellsOf o next tells new → failure_told c tells new ≡ None
none_told c o next tells new same says =
    told_by c next o tells new says ∙ ap (λ (warnings : List Warning). why_in warnings (length c.warnings)) same ∙ ap (λ (w : Option Warning). option_map (λ (warning : Warning). warning.why) w) (slice_get_past c.warnings (length c.warnings) (omega arith))

ends_at : (group : Group) (c : Committing) (it : ShardSession) (why : Failure) (between : PortView) (tells : CommitTold) (new : Committing) (mid : PortView) → (group ≡ Post → ⊥) → FailsIn group c it why between tells new mid → EndsAt c it why between tells new mid
ends_at Pre c it why between tells new mid apart fails = fails
ends_at Main c it why between tells new mid apart fails = fails
ends_at Post c it why between tells new mid apart fails = absurd (apart refl)

-- ---- whether it was done

lost_undone : (loss : Option LostWhy) (reason : LostWhy) (v w : View) (who : Who) → CommitUses loss v who (outcomes.Lost reason) w → was_done Passed loss ≡ false
lost_undone None reason v w who uses = absurd uses
lost_undone (Some other) reason v w who uses = refl

device_down : (loss : Option LostWhy) (v w : View) (who : Who) → CommitUses loss v who outcomes.Device w → w.up ≡ true → ⊥
device_down None v w who uses up = never (sym up ∙ ap (λ (x : View). x.up) uses.1)
device_down (Some other) v w who uses up = apart uses.0
  where
    apart : outcomes.Device ≡ outcomes.Lost other → ⊥
    apart same = cc

module _ (old between : PortView) (who : Who) (shard : ℕ) (way : between.way ≡ Passed) where
  uses_by : (outcome : Committed) → HasCommitted old who shard outcome between → CommitUses (loss_of (old.shards shard) who) (old.shards shard) who outcome (between.shards shard)
  uses_by outcome commits = subst (λ (w : Carried). CommitCarries w (old.shards shard) who outcome (between.shards shard)) way commits.settled

  done_by : HasCommitted old who shard outcomes.Done between → was_done between.way (loss_of (old.shards shard) who) ≡ true
  done_by commits = done_was_done between.way (old.shards shard) (between.shards shard) who commits.settled

  lost_by : (reason : LostWhy) → HasCommitted old who shard (outcomes.Lost reason) between → was_done between.way (loss_of (old.shards shard) who) ≡ false
  lost_by reason commits =
      ap (λ (w : Carried). was_done w (loss_of (old.shards shard) who)) way
      ∙ lost_undone (loss_of (old.shards shard) who) reason (old.shards shard) (between.shards shard) who (uses_by (outcomes.Lost reason) commits)

-- ---- a step

-- nothing was due; or a commit was done; or it was lost, and the sessions behind it were closed
pub data Went (c new : Committing) (tells : CommitTold) (old mid : PortView) : Type 0 where
  Idled : due c ≡ None → TellsOf (due c) c tells new → mid ≡ old → Went c new tells old mid
  Done : (it : ShardSession) → due c ≡ Some it → HasCommitted old (session_of c.tx it.0) it.1 outcomes.Done mid → was_done mid.way (loss_of (old.shards it.1) (session_of c.tx it.0)) ≡ true → TellsOf (due (passed c)) (passed c) tells new → Went c new tells old mid
  Lost : (it : ShardSession) (reason : LostWhy) (between : PortView) → due c ≡ Some it → HasCommitted old (session_of c.tx it.0) it.1 (outcomes.Lost reason) between → (between.shards it.1).up ≡ true
      → was_done between.way (loss_of (old.shards it.1) (session_of c.tx it.0)) ≡ false → EndsAt c it (failures.Lost reason) between tells new mid → Went c new tells old mid

module _ (c new : Committing) (tells : CommitTold) (old mid : PortView) (way : mid.way ≡ Passed) where
  ended_way : (it : ShardSession) (why : Failure) (between : PortView) → EndsAt c it why between tells new mid → between.way ≡ Passed
  ended_way it why between ended = sym ended.closed.quiet.way ∙ way

  ended_up : (it : ShardSession) (why : Failure) (between : PortView) → (mid.shards it.1).up ≡ true → EndsAt c it why between tells new mid → (between.shards it.1).up ≡ true
  ended_up it why between up ended =
      sym (all_up c.tx (c.at + 1) (length (sessions c.tx) - (c.at + 1)) between.shards it.1) ∙ sym (ap (λ (v : View). v.up) (ended.closed.closed it.1)) ∙ up

  deal_went : (it : ShardSession) (outcome : Committed) (between : PortView) → due c ≡ Some it → (it.0 ≡ Post → ⊥) → (mid.shards it.1).up ≡ true → HasCommitted old (session_of c.tx it.0) it.1 outcome between → DealsWith outcome c it between tells new mid
      → Went c new tells old mid
  deal_went it outcomes.Done between is apart up commits goes =
      let done : HasCommitted old (session_of c.tx it.0) it.1 outcomes.Done mid = subst (λ (p : PortView). HasCommitted old (session_of c.tx it.0) it.1 outcomes.Done p) (sym goes.same) commits in
      Done it is done (done_by old mid (session_of c.tx it.0) it.1 way done) goes.says
  deal_went it (outcomes.Lost reason) between is apart up commits fails =
      let ended = ends_at it.0 c it (failures.Lost reason) between tells new mid apart fails in
      Lost it reason between is commits (ended_up it (failures.Lost reason) between up ended) (lost_by old between (session_of c.tx it.0) it.1 (ended_way it (failures.Lost reason) between ended) reason commits) ended
  deal_went it outcomes.Device between is apart up commits fails =
      let ended = ends_at it.0 c it failures.Device between tells new mid apart fails in
      absurd (device_down (loss_of (old.shards it.1) (session_of c.tx it.0)) (old.shards it.1) (between.shards it.1) (session_of c.tx it.0)
      (uses_by old between (session_of c.tx it.0) it.1 (ended_way it failures.Device between ended) outcomes.Device commits) (ended_up it failures.Device between up ended))

  pub went : c.tx.post ≡ [] → ((it : ShardSession) → due c ≡ Some it → (mid.shards it.1).up ≡ true) → CommitStepped c old tells new mid → Went c new tells old mid
  went post up (Idle none goes) = Idled none goes.says goes.same
  went post up (Dealt it outcome between is commits deals) = deal_went it outcome between is (no_post c.tx c.at it post is) (up it is) commits deals

  -- the outcome is what is told of it
  deal_done : (it : ShardSession) (outcome : Committed) (between : PortView) → (it.0 ≡ Post → ⊥) → (mid.shards it.1).up ≡ true → HasCommitted old (session_of c.tx it.0) it.1 outcome between → DealsWith outcome c it between tells new mid
      → was_done between.way (loss_of (old.shards it.1) (session_of c.tx it.0)) ≡ is_done (failure_told c tells new)
  deal_done it outcomes.Done between apart up commits goes =
      done_by old between (session_of c.tx it.0) it.1 (ap (λ (p : PortView). p.way) (sym goes.same) ∙ way) commits
      ∙ sym (ap (λ (f : Option Failure). is_done f) (none_told c (due (passed c)) (passed c) tells new refl goes.says))
  deal_done it (outcomes.Lost reason) between apart up commits fails =
      let ended = ends_at it.0 c it (failures.Lost reason) between tells new mid apart fails in
      lost_by old between (session_of c.tx it.0) it.1 (ended_way it (failures.Lost reason) between ended) reason commits ∙ sym (ap (λ (t : CommitTold). is_done (failure_told c t new)) ended.refused)
  deal_done it outcomes.Device between apart up commits fails =
      let ended = ends_at it.0 c it failures.Device between tells new mid apart fails in
      absurd (device_down (loss_of (old.shards it.1) (session_of c.tx it.0)) (old.shards it.1) (between.shards it.1) (session_of c.tx it.0)
      (uses_by old between (session_of c.tx it.0) it.1 (ended_way it failures.Device between ended) outcomes.Device commits) (ended_up it failures.Device between up ended))

-- ---- what the outcome says of the run

unlost : (way : Carried) (loss : Option LostWhy) → was_done way loss ≡ true → loss ≡ None
unlost Passed None done = refl
unlost LostBefore None done = refl
unlost LostAfter None done = refl
unlost Passed (Some loss) done = absurd (never (sym done))
unlost LostBefore (Some loss) done = absurd (never (sym done))
unlost LostAfter (Some loss) done = absurd (never (sym done))

spared_by : (b : Bool) (past : Run) (who : Who) (shard : ℕ) (loss : Option LostWhy) → was_killed past who shard ≡ b → loss ≡ None → IsMarkedAs past who shard loss → was_killed past who shard ≡ false
spared_by true past who shard loss is none marked = absurd (no_some (sym none ∙ marked.killed is))
spared_by false past who shard loss is none marked = is

not_dropped : (b : Bool) (past : Run) (who : Who) (shard : ℕ) (loss : Option LostWhy) → was_killed past who shard ≡ b → (loss ≡ Some why.Dropped → ⊥) → IsMarkedAs past who shard loss → was_killed past who shard ≡ false
not_dropped true past who shard loss is apart marked = absurd (apart (marked.killed is))
not_dropped false past who shard loss is apart marked = is

may_be_lost : (past : Run) (who : Who) (shard : ℕ) (loss : Option LostWhy) (reason : LostWhy) → IsMarkedAs past who shard loss → loss ≡ Some reason → MayBeLost past who shard reason
may_be_lost past who shard loss why.Link marked is = tt
may_be_lost past who shard loss why.Dropped marked is = marked.dropped is
may_be_lost past who shard loss (why.Restarted had current) marked is = (not_dropped (was_killed past who shard) past who shard loss refl (λ same. apart (sym is ∙ same)) marked, marked.young had current is)
  where
    apart : Some (why.Restarted had current) ≡ Some why.Dropped → ⊥
    apart same = cc

lost_as_told : (loss : Option LostWhy) (reason : LostWhy) (v w : View) (who : Who) → CommitUses loss v who (outcomes.Lost reason) w → loss ≡ Some reason
lost_as_told None reason v w who uses = absurd uses
lost_as_told (Some other) reason v w who uses = sym (same_reason uses.0)
  where
    same_reason : outcomes.Lost reason ≡ outcomes.Lost other → Some reason ≡ Some other
    same_reason same = cc

module _ (past : Run) (old between : PortView) (who : Who) (shard : ℕ) (way : between.way ≡ Passed) (marked : IsMarkedAs past who shard (loss_of (old.shards shard) who)) where
  pub dealt_as_told : (outcome : Committed) (done : Bool) → HasCommitted old who shard outcome between → was_done between.way (loss_of (old.shards shard) who) ≡ done → IsDealt past who shard done outcome
  dealt_as_told outcome done commits is = record {
    answered = λ same. sym is ∙ done_by old between who shard way (subst (λ (o : Committed). HasCommitted old who shard o between) same commits);
    spared = λ so. spared_by (was_killed past who shard) past who shard (loss_of (old.shards shard) who) refl (unlost between.way (loss_of (old.shards shard) who) (is ∙ so)) marked;
    lost = λ reason same. may_be_lost past who shard (loss_of (old.shards shard) who) reason marked
        (lost_as_told (loss_of (old.shards shard) who) reason (old.shards shard) (between.shards shard) who
        (uses_by old between who shard way (outcomes.Lost reason) (subst (λ (o : Committed). HasCommitted old who shard o between) same commits)));
  }

module _ (past : Run) (c new : Committing) (tells : CommitTold) (old mid : PortView) (way : mid.way ≡ Passed) (post : c.tx.post ≡ []) (up : (it : ShardSession) → due c ≡ Some it → (mid.shards it.1).up ≡ true)
    (marked : (it : ShardSession) → due c ≡ Some it → IsMarkedAs past (session_of c.tx it.0) it.1 (loss_of (old.shards it.1) (session_of c.tx it.0))) where
  between_way : (it : ShardSession) (outcome : Committed) (between : PortView) → (it.0 ≡ Post → ⊥) → DealsWith outcome c it between tells new mid → between.way ≡ Passed
  between_way it outcomes.Done between apart goes = ap (λ (p : PortView). p.way) (sym goes.same) ∙ way
  between_way it (outcomes.Lost reason) between apart fails = ended_way c new tells old mid way it (failures.Lost reason) between (ends_at it.0 c it (failures.Lost reason) between tells new mid apart fails)
  between_way it outcomes.Device between apart fails = ended_way c new tells old mid way it failures.Device between (ends_at it.0 c it failures.Device between tells new mid apart fails)

  pub is_dealt_with : (it : ShardSession) (outcome : Committed) (between : PortView) → due c ≡ Some it → HasCommitted old (session_of c.tx it.0) it.1 outcome between → DealsWith outcome c it between tells new mid
      → IsDealt past (session_of c.tx it.0) it.1 (is_done (failure_told c tells new)) outcome
  is_dealt_with it outcome between is commits deals =
      let apart = no_post c.tx c.at it post is in
      dealt_as_told past old between (session_of c.tx it.0) it.1 (between_way it outcome between apart deals) (marked it is) outcome (is_done (failure_told c tells new)) commits
      (deal_done c new tells old mid way it outcome between apart (up it is) commits deals)
