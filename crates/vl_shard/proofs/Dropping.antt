-- A Drop leaves what all other transactions have.
use Rattle.std.proofs.Common.{◌≡◌, ◌≢◌, ◌≤◌, ℕ, Bool, true, false, inl, inr, sym, ap, ◌∙◌, subst, arith}
use Rattle.vl_values.specs.declared.group.Group.{Group}
use Rattle.vl_port.specs.declared.fate.Fate.TheVariants as fates
use Rattle.vl_port.specs.declared.who.Who.{Who}
use Rattle.vl_port.specs.Keeping.{IsKept, Stays}
use Rattle.vl_port.specs.Life.{lost_as}
use Rattle.vl_port.specs.Others.{LeavesOthers}
use Rattle.vl_port.specs.Serving.{Shards}
use Rattle.vl_port.specs.View.{View}
use Rattle.vl_port.proofs.Leaving.{apart_from, apart_to, leaves_on, same_or_other}
use Rattle.vl_port.proofs.Staying.{stays_lost}
use Rattle.vl_port.proofs.Strangers.{lost_other}
use Rattle.vl_shard.specs.Calls.{DropLeaves, Drops}

at_least : (old new : ℕ) → new ≡ old → old ≤ new
at_least old new h = omega (arith, h)

leaves_lost : (old new : Shards) (shard : ℕ) (who : Who) → IsKept (old shard) → ((other : ℕ) → other ≢ shard → new other ≡ old other) → new shard ≡ lost_as fates.Dropped who (old shard) → LeavesOthers who.tx old new
leaves_lost old new shard who kept others is =
    leaves_on who old new shard others
    (λ other apart. ap (λ (v : View). v.sessions other) is ∙ lost_other fates.Dropped (old shard) who other (apart_from who other apart))
    (λ other key apart held. inr (subst (λ (v : View). Stays (old shard) v key) (sym is) (stays_lost (old shard) other who key held (apart_to who other apart) fates.Dropped kept)))
    (at_least (old shard).incarnation (new shard).incarnation (ap (λ (v : View). v.incarnation) is))

none_changed : (old new : Shards) (shard : ℕ) → new shard ≡ old shard → ((other : ℕ) → other ≢ shard → new other ≡ old other) → (any : ℕ) → new any ≡ old any
none_changed old new shard same others any =
    elim (same_or_other any shard) [
      | inl at ↦ subst (λ (n : ℕ). new n ≡ old n) (sym at) same
      | inr away ↦ others any away
    ]

pub drop_leaves : (old new : Shards) (shard session : ℕ) (group : Group) (told : Bool) → IsKept (old shard) → ((other : ℕ) → other ≢ shard → new other ≡ old other) → Drops (old shard) session group told (new shard)
    → DropLeaves old shard session group told new
drop_leaves old new shard session group true kept others h = (h.0, h.1, leaves_lost old new shard h.0 kept others h.2)
drop_leaves old new shard session group false kept others h = none_changed old new shard h.1 others
