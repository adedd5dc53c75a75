-- What the commit of a shard session leaves of the marks of the others.
use Rattle.std.proofs.Common.{◌≡◌, ◌∙◌, ◌∷◌, if◌then◌else◌, inl, inr, ℕ, Bool, true, false, Option, Some, None, sym, ap, subst, arith}
use Rattle.std.proofs.lemmas.Bool.{false_from_ne_true}
use Rattle.vl_values.specs.declared.lost_why.LostWhy.{LostWhy}
use Rattle.vl_sql.specs.declared.stmt.Stmt.{Stmt}
use Rattle.vl_port.specs.declared.committed.Committed.{Committed}
use Rattle.vl_port.specs.declared.opened.Opened.{Opened}
use Rattle.vl_port.specs.declared.who.Who.{Who}
use Rattle.vl_port.specs.Calls.{HasCommitted, PortView}
use Rattle.vl_port.specs.Life.{loss_in, loss_of}
use Rattle.vl_port.specs.Serving.{Shards}
use Rattle.vl_port.specs.Transaction.{session_of}
use Rattle.vl_port.specs.View.{View, is_who}
use Rattle.vl_port.proofs.Enlisting.{groups_apart}
use Rattle.vl_port.proofs.Leaving.{same_or_other}
use Rattle.vl_port.proofs.Naming.{is_who-true}
use Rattle.vl_commit.specs.Sessions.{AreLeft, Session as ShardSession}
use Rattle.vl_commit.specs.Stepping.{Committing, due, passed}
use Rattle.vl_run.specs.declared.event.Event.{Event}
use Rattle.vl_run.specs.Run.{Run, was_killed}
use Rattle.vl_run.specs.Run.Point.{Happened}
use Rattle.vl_replay.specs.Ending.{CommitLeaves, was_done}
use Rattle.vl_replay.proofs.Ends.{commit_leaves}
use Rattle.vl_course.specs.Answered.{AreMarked, IsMarkedAs}
use Rattle.vl_course.specs.Turning.{IsOfStmt}
use Rattle.vl_session.specs.Ready.{AreLeftMarked, IsUnopened}
use Rattle.vl_committing.proofs.Keeping.{Fewer, unopened_stays}
use Rattle.vl_committing.proofs.Parts.{killed_after}

never : true ≡ false → ⊥
never same = cc

no_some : {A : Type 0} {a : A} → None ≡ Some a → ⊥
no_some same = cc

-- ---- whether a session is lost

loss_left : (done : Bool) (old new : View) (who w : Who) → CommitLeaves done who old new → is_who who w ≡ false → loss_of new w ≡ loss_of old w
loss_left true old new who w is apart = ap (λ (v : View). loss_of v w) is ∙ ap (λ (b : Bool). loss_in old.incarnation (if b then None else old.sessions w)) apart
loss_left false old new who w is apart = ap (λ (v : View). loss_of v w) is ∙ ap (λ (b : Bool). loss_in old.incarnation (if b then None else old.sessions w)) apart

loss_stays : (old mid : PortView) (who : Who) (shard : ℕ) (told : Committed) → HasCommitted old who shard told mid → (mid.shards shard).up ≡ true → (t : ℕ) (w : Who) → (t ≡ shard → is_who who w ≡ false) → loss_of (mid.shards t) w ≡ loss_of (old.shards t) w
loss_stays old mid who shard told commits up t w apart = elim (same_or_other t shard) [
  | inl here ↦ subst (λ (n : ℕ). loss_of (mid.shards n) w ≡ loss_of (old.shards n) w) (sym here)
      (loss_left (was_done mid.way (loss_of (old.shards shard) who)) (old.shards shard) (mid.shards shard) who w (commit_leaves mid.way (old.shards shard) (mid.shards shard) who told up commits.settled) (apart here))
  | inr other ↦ ap (λ (v : View). loss_of v w) (commits.others t other)
]

marked_by : (now after : Run) (w : Who) (shard : ℕ) (old new : Option LostWhy) → was_killed after w shard ≡ was_killed now w shard → new ≡ old → IsMarkedAs now w shard old → IsMarkedAs after w shard new
marked_by now after w shard old new same loss mark = record {
  killed = λ killed. loss ∙ mark.killed (sym same ∙ killed);
  dropped = λ dropped. same ∙ mark.dropped (sym loss ∙ dropped);
  young = λ had current lost. mark.young had current (sym loss ∙ lost);
  plain = λ none. loss ∙ mark.plain none;
}

-- ---- those that are left of the commit

pair_is : (one other : ShardSession) → one.0 ≡ other.0 → one.1 ≡ other.1 → one ≡ other
pair_is (g, s) (h, t) first second = cc (first, second)

module _ (e : Event) (past : Run) (stmt : Stmt) (asks : IsOfStmt e.request stmt) where
  pub left_marked : (c : Committing) (it : ShardSession) (told : Committed) (count : ℕ) (old mid : PortView) → AreLeft c.tx c.at count old.shards → due c ≡ Some it → HasCommitted old (session_of c.tx it.0) it.1 told mid → (mid.shards it.1).up ≡ true
      → AreLeftMarked past c old.shards → AreLeftMarked (Happened e ∷ past) (passed c) mid.shards
  left_marked c it told count old mid left is commits up marks = λ place other from at.
      marked_by past (Happened e ∷ past) (session_of c.tx other.0) other.1 (loss_of (old.shards other.1) (session_of c.tx other.0)) (loss_of (mid.shards other.1) (session_of c.tx other.0))
      (killed_after e past stmt (session_of c.tx other.0) other.1 asks)
      (loss_stays old mid (session_of c.tx it.0) it.1 told commits up other.1 (session_of c.tx other.0) (λ here. false_from_ne_true (is_who (session_of c.tx it.0) (session_of c.tx other.0)) (λ same.
      let one : it ≡ other = pair_is it other (groups_apart c.tx it.0 other.0 (is_who-true (session_of c.tx it.0) (session_of c.tx other.0) same)) (sym here) in
      let e : c.at ≡ place = left.once c.at place other (is ∙ ap (λ (s : ShardSession). Some s) one) at in
      absurd (omega (arith, e, from)))))
      (marks place other (omega (arith, from)) at)

  -- ---- those of the transaction that opens

  pub unopened_marked : (count next : ℕ) (old mid : Shards) → Fewer old mid → IsUnopened past count next old → AreMarked (Happened e ∷ past) next mid
  unopened_marked count next old mid fewer unopened = λ who shard own.
      let none : loss_of (mid shard) who ≡ None = ap (λ (o : Option Opened). loss_in (mid shard).incarnation o) (unopened_stays old mid next fewer unopened.sessions shard who own) in
      let spared : was_killed (Happened e ∷ past) who shard ≡ false = killed_after e past stmt who shard asks ∙ unopened.spared shard who own in
      record {
        killed = λ killed. absurd (never (sym killed ∙ spared));
        dropped = λ dropped. absurd (no_some (sym none ∙ dropped));
        young = λ had current lost. absurd (no_some (sym none ∙ lost));
        plain = λ plain. none;
      }
