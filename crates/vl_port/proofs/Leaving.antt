-- What the calls for one transaction leave of all others.
use Rattle.std.proofs.Common.{◌≡◌, ◌≢◌, ◌==◌, ◌≤◌, ◌+◌, ◌⊎◌, ℕ, Bool, true, false, inl, inr, refl, sym, ◌∙◌, ap, subst, arith, Option, Some, None}
use Rattle.std.proofs.lemmas.Bool.{cases_Bool, eqb-true, eqb-false}
use Rattle.vl_values.specs.declared.key.Key.{Key}
use Rattle.vl_values.specs.declared.lost_why.LostWhy.{LostWhy}
use Rattle.vl_catalog.specs.declared.catalog.Catalog.{Catalog}
use Rattle.vl_catalog.specs.Place.{shard_count}
use Rattle.vl_port.specs.declared.act.Act.{Act}
use Rattle.vl_port.specs.declared.answer.Answer.{Answer}
use Rattle.vl_port.specs.declared.answer.Answer.TheVariants.{Done, Unchanged, Rows, Found, Held, Lost, Device, Limit, Memory}
use Rattle.vl_port.specs.declared.carried.Carried.{Carried}
use Rattle.vl_port.specs.declared.carried.Carried.TheVariants.{Passed, LostBefore, LostAfter}
use Rattle.vl_port.specs.declared.committed.Committed.{Committed}
use Rattle.vl_port.specs.declared.committed.Committed.TheVariants as outcome
use Rattle.vl_port.specs.declared.who.Who.{Who}
use Rattle.vl_port.specs.Acting.{Acted}
use Rattle.vl_port.specs.Calls.{HasActed, HasClosed, HasCommitted, PortView}
use Rattle.vl_port.specs.Carrying.{ActsThere, Carries, Closes, CommitCarries, CommitUses, Commits, Does, Uses}
use Rattle.vl_port.specs.Keeping.{IsKept, Stays}
use Rattle.vl_port.specs.Life.{Reaches, WentDown, loss_of}
use Rattle.vl_port.specs.Others.{LeavesOthers}
use Rattle.vl_port.specs.Serving.{Serves, Shards}
use Rattle.vl_port.specs.View.{View, is_who}
use Rattle.vl_port.proofs.Keeps.{IsGrouped}
use Rattle.vl_port.proofs.Naming.{apart_back}
use Rattle.vl_port.proofs.Staying.{stays_carried, stays_commit, stays_ended, stays_same, stays_trans}
use Rattle.vl_port.proofs.Strangers.{apart_by_tx, stranger_carried, stranger_closed, stranger_commit}

pub same_or_other : (m n : ℕ) → (m ≡ n) ⊎ (m ≢ n)
same_or_other m n = elim (cases_Bool (m == n)) [ inl same ↦ inl (eqb-true m n same) | inr apart ↦ inr (eqb-false m n apart) ]

-- ---- the same shards, and one call behind another

pub leaves_same : (tx : ℕ) (shards : Shards) → LeavesOthers tx shards shards
leaves_same tx shards = record {
  sessions = λ shard who apart. refl;
  keys = λ shard who key apart held. inr (stays_same (shards shard) key);
  later = λ shard. omega (arith);
}

pub leaves_equal : (tx : ℕ) (old new : Shards) → new ≡ old → LeavesOthers tx old new
leaves_equal tx old new same = subst (LeavesOthers tx old) (sym same) (leaves_same tx old)

went_first : (a b c : ℕ) → a + 1 ≤ b → b ≤ c → a + 1 ≤ c
went_first a b c h k = omega (arith, h, k)

went_second : (a b c : ℕ) → a ≤ b → b + 1 ≤ c → a + 1 ≤ c
went_second a b c h k = omega (arith, h, k)

later_both : (a b c : ℕ) → a ≤ b → b ≤ c → a ≤ c
later_both a b c h k = omega (arith, h, k)

keys_trans : (tx : ℕ) (one two three : Shards) → LeavesOthers tx one two → LeavesOthers tx two three → (shard : ℕ) (who : Who) (key : Key) → who.tx ≢ tx → (one shard).holder key ≡ Some who
    → WentDown (one shard) (three shard) ⊎ Stays (one shard) (three shard) key
keys_trans tx one two three first then shard who key apart held =
    elim (first.keys shard who key apart held) [
      | inl down ↦ inl (went_first (one shard).incarnation (two shard).incarnation (three shard).incarnation down (then.later shard))
      | inr stays ↦
          elim (then.keys shard who key apart (stays.holder ∙ held)) [
            | inl down ↦ inl (went_second (one shard).incarnation (two shard).incarnation (three shard).incarnation (first.later shard) down)
            | inr more ↦ inr (stays_trans (one shard) (two shard) (three shard) key stays more)
          ]
    ]

pub leaves_trans : (tx : ℕ) (one two three : Shards) → LeavesOthers tx one two → LeavesOthers tx two three → LeavesOthers tx one three
leaves_trans tx one two three first then = record {
  sessions = λ shard who apart. then.sessions shard who apart ∙ first.sessions shard who apart;
  keys = keys_trans tx one two three first then;
  later = λ shard. later_both (one shard).incarnation (two shard).incarnation (three shard).incarnation (first.later shard) (then.later shard);
}

-- ---- no shard goes back

reached_incarnation : (old there : View) → Reaches old there → there.incarnation ≡ old.incarnation
reached_incarnation old there (inl same) = ap (λ (v : View). v.incarnation) same.1
reached_incarnation old there (inr raises) = ap (λ (v : View). v.incarnation) raises.1.1

same_acted : (old new : View) (who : Who) (act : Act) (answer : Answer) → Acted old who act answer new → new.incarnation ≡ old.incarnation
same_acted old new who act Done h = ap (λ (v : View). v.incarnation) h.2
same_acted old new who act Unchanged h = ap (λ (v : View). v.incarnation) h.2
same_acted old new who act (Rows rows) h = ap (λ (v : View). v.incarnation) h.2
same_acted old new who act (Found key row) h = ap (λ (v : View). v.incarnation) h.2
same_acted old new who act (Held by key) h = ap (λ (v : View). v.incarnation) h.1
same_acted old new who act (Lost why) h = absurd h
same_acted old new who act Device h = absurd h
same_acted old new who act (Limit what count) h = ap (λ (v : View). v.incarnation) h.2
same_acted old new who act Memory h = ap (λ (v : View). v.incarnation) h

module _ (old new : View) (who : Who) (act : Act) where
  same_there : (answer : Answer) → ActsThere old who act answer new → new.incarnation ≡ old.incarnation
  same_there answer h = same_acted h.0 new who act answer h.2 ∙ reached_incarnation old h.0 h.1

  same_memory : (new ≡ old) ⊎ Reaches old new → new.incarnation ≡ old.incarnation
  same_memory (inl same) = ap (λ (v : View). v.incarnation) same
  same_memory (inr reaches) = reached_incarnation old new reaches

  same_does : (answer : Answer) → Does old who act answer new → new.incarnation ≡ old.incarnation
  same_does Done h = same_there Done h
  same_does Unchanged h = same_there Unchanged h
  same_does (Rows rows) h = same_there (Rows rows) h
  same_does (Found key row) h = same_there (Found key row) h
  same_does (Held by key) h = same_there (Held by key) h
  same_does (Limit what count) h = same_there (Limit what count) h
  same_does (Lost why) h = absurd h
  same_does Device h = ap (λ (v : View). v.incarnation) h.1
  same_does Memory h = same_memory h

  same_used : (loss : Option LostWhy) (answer : Answer) → Uses loss old who act answer new → new.incarnation ≡ old.incarnation
  same_used None answer h = same_does answer h
  same_used (Some loss) answer h = ap (λ (v : View). v.incarnation) h.1

-- an act takes no shard down
pub same_carried : (way : Carried) (old new : View) (who : Who) (act : Act) (answer : Answer) → Carries way old who act answer new → new.incarnation ≡ old.incarnation
same_carried Passed old new who act answer h = same_used old new who act (loss_of old who) answer h
same_carried LostBefore old new who act answer (inl full) = ap (λ (v : View). v.incarnation) full.1
same_carried LostBefore old new who act answer (inr off) = ap (λ (v : View). v.incarnation) off.1
same_carried LostAfter old new who act answer (inl full) = same_used old new who act (loss_of old who) Memory full.1
same_carried LostAfter old new who act answer (inr lost) = ap (λ (v : View). v.incarnation) lost.4.1 ∙ same_used old lost.1 who act (loss_of old who) lost.0 lost.3

from_same : (old new : ℕ) → new ≡ old → old ≤ new
from_same old new h = omega (arith, h)

ends_later : (old new : View) (incarnation : ℕ) → old.incarnation ≤ incarnation → new.incarnation ≡ incarnation → old.incarnation ≤ new.incarnation
ends_later old new incarnation h k = subst (λ (n : ℕ). old.incarnation ≤ n) (sym k) h

later_commits : (old new : View) (who : Who) (told : Committed) → Commits old who told new → old.incarnation ≤ new.incarnation
later_commits old new who outcome.Done h = from_same old.incarnation new.incarnation (ap (λ (v : View). v.incarnation) h)
later_commits old new who (outcome.Lost why) h = absurd h
later_commits old new who outcome.Device h = ends_later old new (old.incarnation + 1) (omega (arith)) (ap (λ (v : View). v.incarnation) h.1)

later_commit_uses : (loss : Option LostWhy) (old new : View) (who : Who) (told : Committed) → CommitUses loss old who told new → old.incarnation ≤ new.incarnation
later_commit_uses None old new who told h = later_commits old new who told h
later_commit_uses (Some loss) old new who told h = from_same old.incarnation new.incarnation (ap (λ (v : View). v.incarnation) h.1)

pub later_commit : (way : Carried) (old new : View) (who : Who) (told : Committed) → CommitCarries way old who told new → old.incarnation ≤ new.incarnation
later_commit Passed old new who told h = later_commit_uses (loss_of old who) old new who told h
later_commit LostBefore old new who told h = from_same old.incarnation new.incarnation (ap (λ (v : View). v.incarnation) h.1)
later_commit LostAfter old new who told h = later_commit_uses (loss_of old who) old new who h.1.0 h.1.1

-- ---- one call

-- sessions of another transaction, seen from either side
pub apart_from : (who other : Who) → other.tx ≢ who.tx → is_who who other ≡ false
apart_from who other apart = apart_by_tx who other (λ (e : who.tx ≡ other.tx). apart (sym e))

pub apart_to : (who other : Who) → other.tx ≢ who.tx → is_who other who ≡ false
apart_to who other apart = apart_by_tx other who apart

-- a call that changes one shard, and leaves there what others have
pub leaves_on : (who : Who) (old new : Shards) (shard : ℕ) → ((other : ℕ) → other ≢ shard → new other ≡ old other)
    → ((other : Who) → other.tx ≢ who.tx → (new shard).sessions other ≡ (old shard).sessions other)
    → ((other : Who) (key : Key) → other.tx ≢ who.tx → (old shard).holder key ≡ Some other → WentDown (old shard) (new shard) ⊎ Stays (old shard) (new shard) key)
    → (old shard).incarnation ≤ (new shard).incarnation → LeavesOthers who.tx old new
leaves_on who old new shard others sessions keys later = record {
  sessions = λ s other apart.
      elim (same_or_other s shard) [
        | inl at ↦ subst (λ (n : ℕ). (new n).sessions other ≡ (old n).sessions other) (sym at) (sessions other apart)
        | inr away ↦ ap (λ (v : View). v.sessions other) (others s away)
      ];
  keys = λ s other key apart held.
      elim (same_or_other s shard) [
        | inl at ↦ subst (λ (n : ℕ). (old n).holder key ≡ Some other → WentDown (old n) (new n) ⊎ Stays (old n) (new n) key) (sym at) (keys other key apart) held
        | inr away ↦ inr (subst (λ (v : View). Stays (old s) v key) (sym (others s away)) (stays_same (old s) key))
      ];
  later = λ s.
      elim (same_or_other s shard) [
        | inl at ↦ subst (λ (n : ℕ). (old n).incarnation ≤ (new n).incarnation) (sym at) later
        | inr away ↦ from_same (old s).incarnation (new s).incarnation (ap (λ (v : View). v.incarnation) (others s away))
      ];
}

pub leaves_acted : (old new : PortView) (who : Who) (shard : ℕ) (act : Act) (answer : Answer) → IsKept (old.shards shard) → IsGrouped who act → HasActed old who shard act answer new → LeavesOthers who.tx old.shards new.shards
leaves_acted old new who shard act answer kept grouped h =
    leaves_on who old.shards new.shards shard h.others
    (λ other apart. stranger_carried new.way (old.shards shard) (new.shards shard) who other act answer (apart_from who other apart) h.acted)
    (λ other key apart held. inr (stays_carried new.way (old.shards shard) (new.shards shard) other who act answer key kept grouped held (apart_to who other apart) h.acted))
    (from_same (old.shards shard).incarnation (new.shards shard).incarnation (same_carried new.way (old.shards shard) (new.shards shard) who act answer h.acted))

pub leaves_committed : (old new : PortView) (who : Who) (shard : ℕ) (told : Committed) → IsKept (old.shards shard) → HasCommitted old who shard told new → LeavesOthers who.tx old.shards new.shards
leaves_committed old new who shard told kept h =
    leaves_on who old.shards new.shards shard h.others
    (λ other apart. stranger_commit new.way (old.shards shard) (new.shards shard) who other told (apart_from who other apart) h.settled)
    (λ other key apart held. stays_commit (old.shards shard) (new.shards shard) other who key kept held (apart_to who other apart) new.way told h.settled)
    (later_commit new.way (old.shards shard) (new.shards shard) who told h.settled)

pub leaves_closed : (old new : PortView) (who : Who) (shard : ℕ) → IsKept (old.shards shard) → HasClosed old who shard new → LeavesOthers who.tx old.shards new.shards
leaves_closed old new who shard kept h =
    leaves_on who old.shards new.shards shard h.others
    (λ other apart. stranger_closed (old.shards shard) (new.shards shard) who other (apart_from who other apart) h.closed)
    (λ other key apart held. inr (stays_ended (old.shards shard) (new.shards shard) other who key kept held (apart_to who other apart) h.closed))
    (from_same (old.shards shard).incarnation (new.shards shard).incarnation (ap (λ (v : View). v.incarnation) h.closed))
