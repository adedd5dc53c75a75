-- What a step keeps and changes, by what it did.
use Rattle.std.proofs.Common.{◌≡◌, ◌⊎◌, ◌<◌, ◌≤◌, ℕ, ◌+◌, ◌∙◌, inl, inr, Bool, true, false, List, length, Option, Some, None, refl, sym, ap, subst, arith}
use Rattle.std.specs.Prelude.{Contains, nat_lt}
use Rattle.std.proofs.lemmas.Bool.{ltb-true, ltb-false}
use Rattle.vl_values.specs.declared.cause.Cause.{Cause}
use Rattle.vl_values.specs.declared.cause.Cause.TheVariants as causes
use Rattle.vl_values.specs.declared.key.Key.{Key}
use Rattle.vl_values.specs.declared.limit.Limit.{Limit as Quantity}
use Rattle.vl_values.specs.declared.reply.Reply.{Reply}
use Rattle.vl_catalog.specs.declared.catalog.Catalog.{Catalog}
use Rattle.vl_catalog.specs.Place.{shard_count}
use Rattle.vl_port.specs.declared.answer.Answer.{Answer}
use Rattle.vl_port.specs.declared.answer.Answer.TheVariants.{Done, Unchanged, Rows, Found, Held, Lost, Device, Limit, Memory}
use Rattle.vl_port.specs.declared.limits.Limits.{Limits}
use Rattle.vl_port.specs.declared.tx_state.TxState.{TxState}
use Rattle.vl_port.specs.Asking.{IsSameTx}
use Rattle.vl_port.specs.Calls.{PortView}
use Rattle.vl_port.specs.Transaction.{session_of}
use Rattle.vl_port.specs.View.{Values}
use Rattle.vl_route.proofs.Visited.{visited_ascend, visited_below}
use Rattle.vl_model.specs.Visiting.{visited}
use Rattle.vl_statement.specs.declared.program_told.ProgramTold.{ProgramTold}
use Rattle.vl_statement.specs.declared.program_told.ProgramTold.TheVariants as told
use Rattle.vl_statement.specs.Effects.{HasLocksOf, HasPendingOf, IsWell, LeavesOpen}
use Rattle.vl_statement.specs.Refusing.{device_failed, lock_wait, refused, refused_whole}
use Rattle.vl_statement.specs.Waiting.{WaitsOn}
use Rattle.vl_select.specs.Answering.{Answered, Ends, Goes, GoesOn, GoesTo, Takes, TakesOf, loss}
use Rattle.vl_select.specs.Making.{IsMade}
use Rattle.vl_select.specs.Progress.{Action, IsNearer, Progress, acts_done, due, passed, shards_known, with_entries, with_rows, with_try}
use Rattle.vl_select.specs.Stepping.{Idle, Locked, Looked, NoRoom, Stepped}
use Rattle.vl_select.proofs.Dues.{IsDue, due_is, shard_left}
use Rattle.vl_select.proofs.Unmoved.{IsKept, Keeps, keeps_same, read_keeps}
use Rattle.vl_select.proofs.Short.{ascending_short}

-- ---- what stays

-- the reply leaves the transaction open, or the statement goes on or is done
abbrev pub IsKeeping : ProgramTold → Type 0
IsKeeping tells = LeavesOpen tells ⊎ IsWell tells

whole_is_over : {X : Type 0} (tells : ProgramTold) (cause : Cause) → tells ≡ refused_whole cause → IsKeeping tells → X
whole_is_over tells cause is (inl leaves) = absurd (cc (subst LeavesOpen is leaves))
whole_is_over tells cause is (inr well) = absurd (subst IsWell is well)

answer_kept : (catalog : Catalog) (tx : TxState) (old new : Progress) (action : Action) (session : Bool) (answer : Answer) (tells : ProgramTold) → Answered catalog tx old action session answer tells new → IsKeeping tells → IsKept answer
answer_kept catalog tx old new action session (Rows rows) tells answered keeping = tt
answer_kept catalog tx old new action session (Held by key) tells answered keeping = tt
answer_kept catalog tx old new action session (Limit what count) tells answered keeping = tt
answer_kept catalog tx old new action session Memory tells answered keeping = tt
answer_kept catalog tx old new action session (Lost why) tells answered keeping = whole_is_over tells (loss catalog action session why) answered keeping
answer_kept catalog tx old new action session Device tells answered keeping = whole_is_over tells (device_failed catalog action.shard) answered keeping
answer_kept catalog tx old new action session Done tells answered keeping = absurd answered
answer_kept catalog tx old new action session Unchanged tells answered keeping = absurd answered
answer_kept catalog tx old new action session (Found key row) tells answered keeping = absurd answered

stepped_keeps : (catalog : Catalog) (old new : Progress) (tx tx_new : TxState) (port after : PortView) (tells : ProgramTold) → Stepped catalog old tx port tells new tx_new after → IsKeeping tells → Keeps port.shards after.shards
stepped_keeps catalog old new tx tx_new port after tells (Idle none ends same shown) keeping = keeps_same port after shown
stepped_keeps catalog old new tx tx_new port after tells (NoRoom action is takes replied unasked) keeping = keeps_same port after unasked.shown
stepped_keeps catalog old new tx tx_new port after tells (Locked action answer is takes asked answered) keeping =
    read_keeps port after (session_of tx action.group) action.shard action.act answer (answer_kept catalog tx old new action true answer tells answered keeping) asked.acts
stepped_keeps catalog old new tx tx_new port after tells (Looked action session answer is plain there acts same answered) keeping =
    read_keeps port after _ action.shard action.act answer (answer_kept catalog tx old new action session answer tells answered keeping) acts

pub stepped_kept : (catalog : Catalog) (old new : Progress) (tx tx_new : TxState) (port after : PortView) (tells : ProgramTold) → Stepped catalog old tx port tells new tx_new after → IsKeeping tells → HasPendingOf tx port.shards after.shards
stepped_kept catalog old new tx tx_new port after tells step keeping shard group key row =
    let same = (stepped_keeps catalog old new tx tx_new port after tells step keeping).pending shard key in (λ h. same ∙ h, λ h. sym same ∙ h)

pub stepped_locked : (catalog : Catalog) (old new : Progress) (tx tx_new : TxState) (port after : PortView) (tells : ProgramTold) → Stepped catalog old tx port tells new tx_new after → IsKeeping tells → HasLocksOf tx port.shards after.shards
stepped_locked catalog old new tx tx_new port after tells step keeping shard group key held = (stepped_keeps catalog old new tx tx_new port after tells step keeping).holder shard key (session_of tx group) held

-- ---- how the program goes on

pub data Went (catalog : Catalog) (limit : ℕ) (old : Progress) (tells : ProgramTold) (new : Progress) : Type 0 where
  Entered : (entries : List (Key × Values)) → nat_lt old.looked (length old.entries) ≡ true → new ≡ with_entries catalog entries old → Went catalog limit old tells new
  Read : (rows : List (Key × Values)) → nat_lt old.looked (length old.entries) ≡ false → new ≡ with_rows rows old → Went catalog limit old tells new
  Waited : (by : ℕ) (key : Key) → nat_lt (old.tries + 1) limit ≡ true → tells ≡ told.Held by key (old.tries + 1) → new ≡ with_try old → Went catalog limit old tells new

over : {X : Type 0} (tells : ProgramTold) (reply : Reply) → tells ≡ told.Reply reply → GoesOn tells → X
over tells reply is on = absurd (subst GoesOn is on)

refusal_over : {X : Type 0} (tx : TxState) (tells : ProgramTold) (cause : Cause) → tells ≡ refused tx false cause → GoesOn tells → X
refusal_over tx tells cause is on = absurd (subst GoesOn is on)

whole_over : {X : Type 0} (tells : ProgramTold) (cause : Cause) → tells ≡ refused_whole cause → GoesOn tells → X
whole_over tells cause is on = absurd (subst GoesOn is on)

ends_over : {X : Type 0} (catalog : Catalog) (tx : TxState) (p : Progress) (tells : ProgramTold) → Ends catalog tx p tells → GoesOn tells → X
ends_over catalog tx p tells (inl is) on = refusal_over tx tells causes.OutOfMemory is on
ends_over catalog tx p tells (inr answers) on = over tells _ answers.2 on

goes_to : (catalog : Catalog) (tx : TxState) (o : Option Action) (after new : Progress) (tells : ProgramTold) → GoesTo catalog tx o after tells new → GoesOn tells → new ≡ after
goes_to catalog tx None after new tells ends on = ends_over catalog tx after tells ends on
goes_to catalog tx (Some action) after new tells goes on = goes.1

or_goes : (catalog : Catalog) (tx : TxState) (after new : Progress) (tells : ProgramTold) → (tells ≡ refused tx false causes.OutOfMemory) ⊎ Goes catalog tx after tells new → GoesOn tells → new ≡ after
or_goes catalog tx after new tells (inl is) on = refusal_over tx tells causes.OutOfMemory is on
or_goes catalog tx after new tells (inr goes) on = goes_to catalog tx (due after) after new tells goes on

takes : (catalog : Catalog) (tx : TxState) (o : Option (Quantity × ℕ)) (old new : Progress) (rows : List (Key × Values)) (tells : ProgramTold) → Takes catalog tx o old rows tells new → GoesOn tells → new ≡ with_rows rows old
takes catalog tx None old new rows tells goes on = or_goes catalog tx (with_rows rows old) new tells goes on
takes catalog tx (Some limit) old new rows tells is on = refusal_over tx tells (causes.Limit limit.0 limit.1) is on

takes_of : (catalog : Catalog) (tx : TxState) (limit : ℕ) (b : Bool) (old new : Progress) (rows : List (Key × Values)) (tells : ProgramTold) → nat_lt old.looked (length old.entries) ≡ b → TakesOf catalog tx b old rows tells new → GoesOn tells → Went catalog limit old tells new
takes_of catalog tx limit true old new rows tells is goes on = Entered rows is (or_goes catalog tx (with_entries catalog rows old) new tells goes on)
takes_of catalog tx limit false old new rows tells is goes on = Read rows is (takes catalog tx (passed old.what tx.limits old.tally rows) old new rows tells goes on)

waits : (catalog : Catalog) (tx : TxState) (b : Bool) (old new : Progress) (by : ℕ) (key : Key) (tells : ProgramTold) → nat_lt (old.tries + 1) tx.limits.tries ≡ b → WaitsOn catalog tx b false old.tries by key tells (with_try old) new → GoesOn tells
    → Went catalog tx.limits.tries old tells new
waits catalog tx true old new by key tells is waits_on on = Waited by key is waits_on.0 waits_on.1
waits catalog tx false old new by key tells is (inl refused_is) on = refusal_over tx tells causes.OutOfMemory refused_is on
waits catalog tx false old new by key tells is (inr refused_is) on = refusal_over tx tells (lock_wait catalog tx.limits.tries by key) refused_is on

went : (catalog : Catalog) (tx : TxState) (old new : Progress) (action : Action) (session : Bool) (answer : Answer) (tells : ProgramTold) → Answered catalog tx old action session answer tells new → GoesOn tells → Went catalog tx.limits.tries old tells new
went catalog tx old new action session (Rows rows) tells answered on = takes_of catalog tx tx.limits.tries (nat_lt old.looked (length old.entries)) old new rows tells refl answered on
went catalog tx old new action session (Held by key) tells answered on = waits catalog tx (nat_lt (old.tries + 1) tx.limits.tries) old new by key tells refl answered on
went catalog tx old new action session (Limit what count) tells answered on = refusal_over tx tells (causes.Limit what count) answered on
went catalog tx old new action session (Lost why) tells answered on = whole_over tells (loss catalog action session why) answered on
went catalog tx old new action session Device tells answered on = whole_over tells (device_failed catalog action.shard) answered on
went catalog tx old new action session Memory tells answered on = refusal_over tx tells causes.OutOfMemory answered on
went catalog tx old new action session Done tells answered on = absurd answered
went catalog tx old new action session Unchanged tells answered on = absurd answered
went catalog tx old new action session (Found key row) tells answered on = absurd answered

-- a step after which the program goes on did a read
pub record WentOn (catalog : Catalog) (limit : ℕ) (old : Progress) (tells : ProgramTold) (new : Progress) : Type 0 where
  pub action : Action
  pub due : IsDue old action
  pub goes : Went catalog limit old tells new

went_on : (catalog : Catalog) (old new : Progress) (tx tx_new : TxState) (port after : PortView) (tells : ProgramTold) → Stepped catalog old tx port tells new tx_new after → GoesOn tells → WentOn catalog tx.limits.tries old tells new
went_on catalog old new tx tx_new port after tells (Idle none ends same shown) on = ends_over catalog tx old tells ends on
went_on catalog old new tx tx_new port after tells (NoRoom action is takes_keys replied unasked) on = refusal_over tx tells causes.OutOfMemory replied on
went_on catalog old new tx tx_new port after tells (Locked action answer is takes_keys asked answered) on =
    record { action = action; due = due_is old action is; goes = went catalog tx old new action true answer tells answered on }
went_on catalog old new tx tx_new port after tells (Looked action session answer is plain there acts same answered) on =
    record { action = action; due = due_is old action is; goes = went catalog tx old new action session answer tells answered on }

-- ---- nearer to the end

more_goes : (tells : ProgramTold) → tells ≡ told.More → GoesOn tells
more_goes tells is = subst GoesOn (sym is) tt

none_looked : (p : Progress) → nat_lt p.looked (length p.entries) ≡ false → p.looked < length p.entries → ⊥
none_looked p is below = omega (arith, ltb-false p.looked (length p.entries) is, below)

went_nearer : (catalog : Catalog) (limit : ℕ) (old new : Progress) (tells : ProgramTold) (action : Action) → IsDue old action → Went catalog limit old tells new → tells ≡ told.More → IsNearer old new
went_nearer catalog limit old new tells action due_now (Entered entries is new_is) more =
    subst (IsNearer old) (sym new_is) (inl (omega (arith, ltb-true old.looked (length old.entries) is)))
went_nearer catalog limit old new tells action due_now (Read rows is new_is) more =
    subst (IsNearer old) (sym new_is) (inr (refl, omega (arith, shard_left old action due_now (none_looked old is))))
went_nearer catalog limit old new tells action due_now (Waited by key is held new_is) more = absurd (cc (held, more))

went_counted : (catalog : Catalog) (limit : ℕ) (old new : Progress) (tells : ProgramTold) → Went catalog limit old tells new → tells ≡ told.More → acts_done new ≡ acts_done old + 1
went_counted catalog limit old new tells (Entered entries is new_is) more = let e : (old.looked + 1) + old.read ≡ (old.looked + old.read) + 1 = omega arith in ap acts_done new_is ∙ e
went_counted catalog limit old new tells (Read rows is new_is) more = let e : old.looked + (old.read + 1) ≡ (old.looked + old.read) + 1 = omega arith in ap acts_done new_is ∙ e
went_counted catalog limit old new tells (Waited by key is held new_is) more = absurd (cc (held, more))

pub stepped_nearer : (catalog : Catalog) (old new : Progress) (tx tx_new : TxState) (port after : PortView) (tells : ProgramTold) → Stepped catalog old tx port tells new tx_new after → tells ≡ told.More → IsNearer old new
stepped_nearer catalog old new tx tx_new port after tells step more =
    let on = went_on catalog old new tx tx_new port after tells step (more_goes tells more) in went_nearer catalog tx.limits.tries old new tells on.action on.due on.goes more

pub stepped_counted : (catalog : Catalog) (old new : Progress) (tx tx_new : TxState) (port after : PortView) (tells : ProgramTold) → Stepped catalog old tx port tells new tx_new after → tells ≡ told.More → acts_done new ≡ acts_done old + 1
stepped_counted catalog old new tx tx_new port after tells step more =
    let on = went_on catalog old new tx tx_new port after tells step (more_goes tells more) in went_counted catalog tx.limits.tries old new tells on.goes more

same_entries : (catalog : Catalog) (limit : ℕ) (old new : Progress) (tells : ProgramTold) → Went catalog limit old tells new → new.entries ≡ old.entries
same_entries catalog limit old new tells (Entered entries is new_is) = ap (λ (p : Progress). p.entries) new_is
same_entries catalog limit old new tells (Read rows is new_is) = ap (λ (p : Progress). p.entries) new_is
same_entries catalog limit old new tells (Waited by key is held new_is) = ap (λ (p : Progress). p.entries) new_is

pub stepped_entries : (catalog : Catalog) (old new : Progress) (tx tx_new : TxState) (port after : PortView) (tells : ProgramTold) → Stepped catalog old tx port tells new tx_new after → GoesOn tells → new.entries ≡ old.entries
stepped_entries catalog old new tx tx_new port after tells step on = same_entries catalog tx.limits.tries old new tells (went_on catalog old new tx tx_new port after tells step on).goes

-- ---- what the next step asks for

pub known_within : (catalog : Catalog) (table : ℕ) (p : Progress) (b : Bool) (ksids : List (List ℕ)) (shard : ℕ) → Contains (shards_known catalog table p.route b ksids) shard → shard < shard_count catalog.rings
known_within catalog table p true ksids shard among = absurd (omega (arith, among.1))
known_within catalog table p false ksids shard among = visited_below catalog table p.route ksids shard among

pub known_few : (catalog : Catalog) (table : ℕ) (p : Progress) (b : Bool) (ksids : List (List ℕ)) → length (shards_known catalog table p.route b ksids) ≤ shard_count catalog.rings
known_few catalog table p true ksids = omega arith
known_few catalog table p false ksids = ascending_short (visited catalog table p.route ksids) (shard_count catalog.rings) (visited_ascend catalog table p.route ksids) (λ shard among. visited_below catalog table p.route ksids shard among)

went_made : (catalog : Catalog) (count limit : ℕ) (old new : Progress) (tells : ProgramTold) (action : Action) → count ≡ shard_count catalog.rings → IsMade catalog count limit old → IsDue old action → Went catalog limit old tells new
    → IsMade catalog count limit new
went_made catalog count limit old new tells action all made due_now (Entered entries is new_is) =
    let below = ltb-true old.looked (length old.entries) is in
    let none = made.after below in
    subst (IsMade catalog count limit) (sym new_is)
    (record {
      pred = made.pred;
      locking = made.locking;
      find = made.find;
      fits = made.fits;
      entries = made.entries;
      looked = omega (arith, below);
      shards = λ shard among. subst (λ (n : ℕ). shard < n) (sym all) (known_within catalog old.table old (nat_lt (old.looked + 1) (length old.entries)) (with_entries catalog entries old).ksids shard among);
      few = subst (λ (n : ℕ). length (with_entries catalog entries old).shards ≤ n) (sym all) (known_few catalog old.table old (nat_lt (old.looked + 1) (length old.entries)) (with_entries catalog entries old).ksids);
      read = omega (arith, none);
      after = λ more. none;
      tries = omega (arith, made.tries);
    })
went_made catalog count limit old new tells action all made due_now (Read rows is new_is) =
    let left = shard_left old action due_now (none_looked old is) in
    subst (IsMade catalog count limit) (sym new_is)
    (record {
      pred = made.pred;
      locking = made.locking;
      find = made.find;
      fits = made.fits;
      entries = made.entries;
      looked = made.looked;
      shards = made.shards;
      few = made.few;
      read = omega (arith, left);
      after = λ more. absurd (none_looked old is more);
      tries = omega (arith, made.tries);
    })
went_made catalog count limit old new tells action all made due_now (Waited by key is held new_is) =
    subst (IsMade catalog count limit) (sym new_is)
    (record {
      pred = made.pred;
      locking = made.locking;
      find = made.find;
      fits = made.fits;
      entries = made.entries;
      looked = made.looked;
      shards = made.shards;
      few = made.few;
      read = made.read;
      after = made.after;
      tries = ltb-true (old.tries + 1) limit is;
    })

limits_kept : (tx new : TxState) → IsSameTx tx new → new.limits.tries ≡ tx.limits.tries
limits_kept tx new same = ap (λ (l : Limits). l.tries) same.limits

pub stepped_made : (catalog : Catalog) (count : ℕ) (old new : Progress) (tx tx_new : TxState) (port after : PortView) (tells : ProgramTold) → count ≡ shard_count catalog.rings → IsMade catalog count tx.limits.tries old → IsSameTx tx tx_new
    → Stepped catalog old tx port tells new tx_new after → GoesOn tells → IsMade catalog count tx_new.limits.tries new
stepped_made catalog count old new tx tx_new port after tells all made same step on =
    let it = went_on catalog old new tx tx_new port after tells step on in
    subst (λ (n : ℕ). IsMade catalog count n new) (sym (limits_kept tx tx_new same)) (went_made catalog count tx.limits.tries old new tells it.action all made it.due it.goes)

pub few_acts : (catalog : Catalog) (count limit : ℕ) (p : Progress) → IsMade catalog count limit p → acts_done p ≤ length p.entries + count
few_acts catalog count limit p made = omega (arith, made.looked, made.read, made.few)
