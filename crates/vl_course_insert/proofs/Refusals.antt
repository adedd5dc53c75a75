-- A step of an INSERT whose act is answered by a key of another, a limit, a loss or want of memory.
use Rattle.std.proofs.Common.{◌≡◌, ◌∙◌, ◌+◌, nat_lt, ℕ, Bool, true, false, List, ◌∷◌, inl, inr, Some, None, refl, sym, ap, subst, arith}
use Rattle.std.proofs.lemmas.Bool.{ltb-false, ltb-true}
use Rattle.vl_values.specs.declared.cause.Cause.TheVariants as causes
use Rattle.vl_values.specs.declared.group.Group.{Group}
use Rattle.vl_values.specs.declared.key.Key.{Key}
use Rattle.vl_catalog.specs.declared.catalog.Catalog.{Catalog}
use Rattle.vl_sql.specs.declared.stmt.Stmt.{Stmt}
use Rattle.vl_port.specs.declared.act.Act.{Act}
use Rattle.vl_port.specs.declared.answer.Answer.{Answer}
use Rattle.vl_port.specs.declared.answer.Answer.TheVariants.{Done, Unchanged, Rows as Given, Found, Held, Lost, Device, Limit, Memory as NoMemory}
use Rattle.vl_port.specs.declared.claimed.Claimed.{Claimed}
use Rattle.vl_port.specs.declared.limits.Limits.{Limits}
use Rattle.vl_port.specs.declared.tx_state.TxState.{TxState}
use Rattle.vl_port.specs.declared.who.Who.{Who}
use Rattle.vl_port.specs.Asking.{IsListed, Lists}
use Rattle.vl_port.specs.Outcomes.{outcome_of}
use Rattle.vl_port.specs.Transaction.{session_of}
use Rattle.vl_plan.specs.declared.insert_plan.InsertPlan.{InsertPlan}
use Rattle.vl_plan.specs.declared.plan.Plan.TheVariants as plans
use Rattle.vl_lookup.specs.Stepping.{with_claimed}
use Rattle.vl_statement.specs.declared.program_told.ProgramTold.{ProgramTold}
use Rattle.vl_statement.specs.Refusing.{device_failed, lock_wait, refused_whole, session_lost}
use Rattle.vl_statement.specs.Waiting.{WaitsOn}
use Rattle.vl_insert.specs.Answering.{AwaitsKey, refused_now}
use Rattle.vl_insert.specs.Progress.{Progress, with_try}
use Rattle.vl_run.specs.declared.deed.Deed.TheVariants as deeds
use Rattle.vl_run.specs.declared.event.Event.{Event}
use Rattle.vl_run.specs.declared.fault.Fault.TheVariants as faults
use Rattle.vl_run.specs.declared.mark.Mark.TheVariants as marks
use Rattle.vl_run.specs.Allowed.{now_of}
use Rattle.vl_run.specs.Gathered.{shown}
use Rattle.vl_run.specs.Progress.{tries}
use Rattle.vl_run.specs.Refused.{IsHeld}
use Rattle.vl_run.specs.Refused.Refuses.{Failed, Lost as WasLost, Memory, Spent, Waits}
use Rattle.vl_run.specs.Run.{Run, was_killed}
use Rattle.vl_run.specs.Run.Point.{Happened}
use Rattle.vl_run.specs.Session.{Owned}
use Rattle.vl_course.specs.Answered.{IsAnswered}
use Rattle.vl_course.specs.Course.{IsTx}
use Rattle.vl_course.specs.Turning.{Due, HasTag, IsOfAct, MayTell}
use Rattle.vl_course.proofs.Behind.{tries_held}
use Rattle.vl_course.proofs.Events.{next_owned}
use Rattle.vl_course.proofs.Kills.{loss_now}
use Rattle.vl_course.proofs.Listed.{kept_listed, session_listed, tx_acted}
use Rattle.vl_course_insert.specs.Inserting.{InsertTurned, IsInsertAt}
use Rattle.vl_course_insert.proofs.Moves.{open_behind, says_opened}
use Rattle.vl_course_insert.proofs.Stays.{insert_stays}
use Rattle.vl_course_insert.proofs.Taken.{keys_of, tx_relisted}
use Rattle.vl_course_insert.proofs.Telling.{IsFree, IsLeft, IsNamed, IsRefusal, IsStart, acted_turned, idle_turned, lost_turned, read_sound, refused_left, still_sound}

-- the due act of a session of this group, which obtains its keys
abbrev pub due_for : TxState → Group → ℕ → Act → Due
due_for tx group shard act = record { who = session_of tx group; shard = shard; act = act; mark = marks.Takes }

-- what a program tells of such an answer, whose action went by the session of this group
abbrev pub RefusedAs : Catalog → TxState → Progress → Group → ℕ → Answer → ProgramTold → Progress → Type 0
RefusedAs catalog tx p group shard (Held by key) tells new = AwaitsKey catalog tx p by key tells new
RefusedAs catalog tx p group shard (Limit what count) tells new = tells ≡ refused_now tx p (causes.Limit what count)
RefusedAs catalog tx p group shard (Lost why) tells new = tells ≡ refused_whole (session_lost catalog group shard why)
RefusedAs catalog tx p group shard Device tells new = tells ≡ refused_whole (device_failed catalog shard)
RefusedAs catalog tx p group shard NoMemory tells new = tells ≡ refused_now tx p causes.OutOfMemory
RefusedAs catalog tx p group shard Done tells new = ⊥
RefusedAs catalog tx p group shard Unchanged tells new = ⊥
RefusedAs catalog tx p group shard (Given rows) tells new = ⊥
RefusedAs catalog tx p group shard (Found key row) tells new = ⊥

-- the transaction lists the session, and has the claims that it had
pub record IsRelisted (tx : TxState) (group : Group) (shard : ℕ) (answer : Answer) (tx_new : TxState) : Type 0 where
  pub mid : TxState
  pub lists : Lists tx group shard answer mid
  pub claims : List Claimed
  pub same : tx_new ≡ with_claimed claims mid
  pub kept : claims ≡ tx.claimed

module _ {catalog : Catalog} {limits : Limits} {past : Run} {e : Event} {stmt : Stmt} {plan : InsertPlan} {own : Owned} {tx : TxState} {p : Progress} (s : IsStart catalog limits past e stmt plan own tx p) (group : Group)
    (shard : ℕ) (act : Act) where
  abbrev who : Who
  who = session_of tx group

  abbrev DidOpen : Type 0
  DidOpen = e.deed ≡ deeds.Acts who shard act marks.Opens

  tries_same : tx.limits.tries ≡ limits.tries
  tries_same = ap (λ (l : Limits). l.tries) s.course.is_tx.limits

  -- ---- a key of another

  waits : (by : ℕ) (key : Key) → nat_lt (p.tries + 1) tx.limits.tries ≡ false → DidOpen → e.fault ≡ None → IsHeld catalog (shown catalog past) tx.number shard act by key
      → IsRefusal catalog limits past e stmt (lock_wait catalog tx.limits.tries by key)
  waits by key last did fault held =
      let end : tries (now_of e past) e.session + 1 ≡ limits.tries = omega (arith, s.course.tried, s.made.tries, tries_same, ltb-false (p.tries + 1) tx.limits.tries last) in
      subst (λ (k : ℕ). IsRefusal catalog limits past e stmt (lock_wait catalog k by key)) (sym tries_same) (Waits tx.number who shard act by key did refl fault held end)

  held_left : (by : ℕ) (key : Key) (tells : ProgramTold) (new : Progress) (left : Bool) → nat_lt (p.tries + 1) tx.limits.tries ≡ left → HasTag tells e.told → DidOpen → e.fault ≡ None
      → IsHeld catalog (shown catalog past) tx.number shard act by key
      → WaitsOn catalog tx left p.wrote p.tries by key tells (with_try p) new → IsLeft s p.wrote tells new
  held_left by key tells new true left tag did fault held goes = record {
    tells_so = subst (λ (t : ProgramTold). MayTell catalog limits past e stmt (plans.Insert plan) own t) (sym goes.0)
        (record {
          who = who;
          shard = shard;
          act = act;
          met = did;
          held = held;
          counted = ap (λ (k : ℕ). k + 1) (sym s.course.tried);
          below = omega (arith, tries_same, ltb-true (p.tries + 1) tx.limits.tries left);
          sound = fault;
        });
    stands = λ on.
        subst (IsInsertAt catalog limits (Happened e ∷ past) e.session plan) (sym goes.1)
        (insert_stays (says_opened catalog e past who shard act did) (open_behind catalog e past stmt tells s.asks on tag) (with_try p) refl refl refl s.at);
    tried = λ on tagged. tries_held e past by (p.tries + 1) (subst (λ (t : ProgramTold). HasTag t e.told) goes.0 tagged) ∙ sym (ap (λ (q : Progress). q.tries) goes.1);
    wrote = λ on. sym (ap (λ (q : Progress). q.wrote) goes.1);
  }
  held_left by key tells new false last tag did fault held (inl refused) = refused_left s p.wrote causes.OutOfMemory tells new (read_sound s group shard act marks.Opens did refl fault) Memory refused
  held_left by key tells new false last tag did fault held (inr refused) =
      refused_left s p.wrote (lock_wait catalog tx.limits.tries by key) tells new (read_sound s group shard act marks.Opens did refl fault) (waits by key last did fault held) refused

  -- ---- the transaction behind it

  opened_tx : (mid tx_new : TxState) (claims : List Claimed) → DidOpen → IsListed tx group shard mid → tx_new ≡ with_claimed claims mid → claims ≡ tx.claimed → IsTx limits (Happened e ∷ past) e.session own tx_new
  opened_tx mid tx_new claims did lists same kept =
      let listed = kept_listed tx mid group shard lists in
      tx_relisted limits (Happened e ∷ past) e.session own mid tx_new claims
      (tx_acted limits e past e.session own tx s.course.is_tx mid who shard act marks.Opens did refl refl refl (session_listed tx mid group shard own.number s.course.is_tx.number lists) listed) same (ap keys_of (kept ∙ sym listed.claimed))

  same_auto : (mid tx_new : TxState) (claims : List Claimed) → IsListed tx group shard mid → tx_new ≡ with_claimed claims mid → tx_new.auto ≡ tx.auto
  same_auto mid tx_new claims lists same = ap (λ (t : TxState). t.auto) same ∙ (kept_listed tx mid group shard lists).auto

  -- ---- by its answer

  module _ (named : IsNamed catalog past e stmt own who shard act) (free : IsFree s group shard act) (tells : ProgramTold) (new : Progress) (tx_new : TxState) (tag : HasTag tells e.told) where
    abbrev Turns : Type 0
    Turns = InsertTurned catalog limits past e stmt plan own tells new tx_new

    abbrev IsEvent : Answer → Type 0
    IsEvent answer = IsOfAct e (Some (due_for tx group shard act)) (Some (outcome_of answer))

    opened : (answer : Answer) (mid : TxState) (claims : List Claimed) → DidOpen → e.visits ≡ Some shard → e.fault ≡ None → was_killed past who shard ≡ false → IsListed tx group shard mid → tx_new ≡ with_claimed claims mid
        → claims ≡ tx.claimed → IsLeft s p.wrote tells new → Turns
    opened answer mid claims did visits fault spared lists same kept left =
        acted_turned s group shard act p.wrote tells new tx_new marks.Opens named.purpose named.next named.opens did visits tt free spared (read_sound s group shard act marks.Opens did refl fault) (opened_tx mid tx_new claims did lists same kept)
        (same_auto mid tx_new claims lists same) tag left

    pub refusal_turned : (answer : Answer) → IsAnswered catalog past who shard act answer → IsEvent answer → IsRelisted tx group shard answer tx_new → RefusedAs catalog tx p group shard answer tells new → Turns
    refusal_turned (Held by key) port is relisted after =
        opened (Held by key) relisted.mid relisted.claims is.0 is.1 is.2 (port.spared refl) relisted.lists relisted.same relisted.kept
        (held_left by key tells new (nat_lt (p.tries + 1) tx.limits.tries) refl tag is.0 is.2 (port.held by key refl) after)
    refusal_turned (Limit what times) port is relisted after =
        opened (Limit what times) relisted.mid relisted.claims is.0 is.1 is.2 (port.spared refl) relisted.lists relisted.same relisted.kept
        (refused_left s p.wrote (causes.Limit what times) tells new (read_sound s group shard act marks.Opens is.0 refl is.2) (Spent who shard act what times is.0 is.2 (λ k. port.spent what times k refl)) after)
    refusal_turned (Lost reason) port is relisted after =
        lost_turned s group shard act tells new tx_new (session_lost catalog group shard reason) (faults.Lost reason) named is.0 is.1 is.2
        (WasLost named.purpose who group shard act reason (next_owned catalog limits past e stmt (plans.Insert plan) own tx p.tries p.wrote s.course named.purpose who shard act named.next) refl is.1 is.2
        (loss_now e past stmt s.asks who shard reason (port.lost reason refl)))
        after
    refusal_turned Device port is relisted after =
        lost_turned s group shard act tells new tx_new (device_failed catalog shard) faults.Device named is.0 is.1 is.2
        (Failed named.purpose who shard act (next_owned catalog limits past e stmt (plans.Insert plan) own tx p.tries p.wrote s.course named.purpose who shard act named.next) is.1 is.2) after
    refusal_turned NoMemory port is relisted after =
        let same : tx_new ≡ tx = relisted.same ∙ ap (λ (claims : List Claimed). with_claimed claims relisted.mid) relisted.kept ∙ ap (with_claimed tx.claimed) relisted.lists in
        idle_turned s tells new tx_new is.0 is.1 is.2 same tag (refused_left s p.wrote causes.OutOfMemory tells new (still_sound s is.0 is.2) Memory after)
    refusal_turned Done port is relisted after = absurd after
    refusal_turned Unchanged port is relisted after = absurd after
    refusal_turned (Given rows) port is relisted after = absurd after
    refusal_turned (Found key row) port is relisted after = absurd after
