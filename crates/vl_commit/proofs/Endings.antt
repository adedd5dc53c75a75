-- A commit and a close end their session and no other, whatever the commit answers and whatever way it took.
use Rattle.std.proofs.Common.{◌≡◌, ◌≢◌, ◌≤◌, ◌+◌, ℕ, inl, inr, Bool, false, cond, Option, Some, None, sym, ap, ◌∙◌, subst, arith}
use Rattle.vl_values.specs.declared.lost_why.LostWhy.{LostWhy}
use Rattle.vl_port.specs.declared.carried.Carried.{Carried}
use Rattle.vl_port.specs.declared.carried.Carried.TheVariants.{Passed, LostBefore, LostAfter}
use Rattle.vl_port.specs.declared.committed.Committed.{Committed}
use Rattle.vl_port.specs.declared.committed.Committed.TheVariants as outcomes
use Rattle.vl_port.specs.declared.who.Who.{Who}
use Rattle.vl_port.specs.Calls.{HasClosed, HasCommitted, PortView}
use Rattle.vl_port.specs.Carrying.{CommitCarries, CommitUses}
use Rattle.vl_port.specs.Life.{loss_of}
use Rattle.vl_port.specs.Serving.{Shards}
use Rattle.vl_port.specs.View.{View, is_who}
use Rattle.vl_port.proofs.Leaving.{same_or_other}
use Rattle.vl_port.proofs.Naming.{is_who-same}
use Rattle.vl_commit.specs.Stepping.{RisesOnce}

-- the session ended on its shard, no other session did, and the other shards show what they did
pub record EndsOne (old new : Shards) (who : Who) (shard : ℕ) : Type 0 where
  pub ended : (new shard).sessions who ≡ None
  pub strangers : (other : Who) → is_who who other ≡ false → (new shard).sessions other ≡ (old shard).sessions other
  pub others : (s : ℕ) → s ≢ shard → new s ≡ old s

-- of one shard: its sessions but this one, and no further incarnation than the next
record Ends (who : Who) (old new : View) : Type 0 where
  pub sessions : (w : Who) → new.sessions w ≡ cond (is_who who w) None (old.sessions w)
  pub once : new.incarnation ≤ old.incarnation + 1

same_once : (old new : View) → new.incarnation ≡ old.incarnation → new.incarnation ≤ old.incarnation + 1
same_once old new same = omega (arith, same)

next_once : (old new : View) → new.incarnation ≡ old.incarnation + 1 → new.incarnation ≤ old.incarnation + 1
next_once old new next = omega (arith, next)

uses_ends : (loss : Option LostWhy) (old new : View) (who : Who) (told : Committed) → CommitUses loss old who told new → Ends who old new
uses_ends None old new who outcomes.Done h = record { sessions = λ w. ap (λ (v : View). v.sessions w) h; once = same_once old new (ap (λ (v : View). v.incarnation) h) }
uses_ends None old new who (outcomes.Lost why) h = absurd h
uses_ends None old new who outcomes.Device h = record { sessions = λ w. ap (λ (v : View). v.sessions w) h.1; once = next_once old new (ap (λ (v : View). v.incarnation) h.1) }
uses_ends (Some loss) old new who told h = record { sessions = λ w. ap (λ (v : View). v.sessions w) h.1; once = same_once old new (ap (λ (v : View). v.incarnation) h.1) }

carries_ends : (way : Carried) (old new : View) (who : Who) (told : Committed) → CommitCarries way old who told new → Ends who old new
carries_ends Passed old new who told h = uses_ends (loss_of old who) old new who told h
carries_ends LostBefore old new who told h = record { sessions = λ w. ap (λ (v : View). v.sessions w) h.1; once = same_once old new (ap (λ (v : View). v.incarnation) h.1) }
carries_ends LostAfter old new who told h = uses_ends (loss_of old who) old new who h.1.0 h.1.1

ends_there : (old new : Shards) (who : Who) (shard : ℕ) → ((w : Who) → (new shard).sessions w ≡ cond (is_who who w) None ((old shard).sessions w)) → ((other : ℕ) → other ≢ shard → new other ≡ old other)
    → EndsOne old new who shard
ends_there old new who shard sessions others = record {
  ended = sessions who ∙ ap (λ (b : Bool). cond b None ((old shard).sessions who)) (is_who-same who);
  strangers = λ other apart. sessions other ∙ ap (λ (b : Bool). cond b None ((old shard).sessions other)) apart;
  others = others;
}

pub committed_ends : (old new : PortView) (who : Who) (shard : ℕ) (told : Committed) → HasCommitted old who shard told new → EndsOne old.shards new.shards who shard
committed_ends old new who shard told committed =
    ends_there old.shards new.shards who shard (carries_ends new.way (old.shards shard) (new.shards shard) who told committed.settled).sessions committed.others

pub closed_ends : (old new : PortView) (who : Who) (shard : ℕ) → HasClosed old who shard new → EndsOne old.shards new.shards who shard
closed_ends old new who shard closed = ends_there old.shards new.shards who shard (λ w. ap (λ (v : View). v.sessions w) closed.closed) closed.others

-- ---- how often the shards went down

pub committed_rises : (old new : PortView) (who : Who) (shard : ℕ) (told : Committed) → HasCommitted old who shard told new → RisesOnce old.shards new.shards
committed_rises old new who shard told committed = λ s. elim (same_or_other s shard) [
  | inl here ↦ subst (λ (n : ℕ). (new.shards n).incarnation ≤ (old.shards n).incarnation + 1) (sym here) (carries_ends new.way (old.shards shard) (new.shards shard) who told committed.settled).once
  | inr other ↦ same_once (old.shards s) (new.shards s) (ap (λ (v : View). v.incarnation) (committed.others s other))
]

pub closed_stays : (old new : PortView) (who : Who) (shard : ℕ) → HasClosed old who shard new → (s : ℕ) → (new.shards s).incarnation ≡ (old.shards s).incarnation
closed_stays old new who shard closed s = elim (same_or_other s shard) [
  | inl here ↦ subst (λ (n : ℕ). (new.shards n).incarnation ≡ (old.shards n).incarnation) (sym here) (ap (λ (v : View). v.incarnation) closed.closed)
  | inr other ↦ ap (λ (v : View). v.incarnation) (closed.others s other)
]
