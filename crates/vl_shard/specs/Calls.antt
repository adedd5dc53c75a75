-- What the calls of a shard without a device and without limits do.
use Rattle.std.specs.Prelude.{◌≡◌, ℕ, Bool, true, false, Some, None}
use Rattle.vl_values.specs.declared.group.Group.{Group}
use Rattle.vl_port.specs.declared.act.Act.{Act}
use Rattle.vl_port.specs.declared.answer.Answer.{Answer}
use Rattle.vl_port.specs.declared.answer.Answer.TheVariants.{Memory}
use Rattle.vl_port.specs.declared.fate.Fate.TheVariants as fates
use Rattle.vl_port.specs.declared.who.Who.{Who}
use Rattle.vl_port.specs.Acting.{Acted}
use Rattle.vl_port.specs.Calls.{IsLimited}
use Rattle.vl_port.specs.Life.{is_live, lost_as}
use Rattle.vl_port.specs.Others.{LeavesOthers}
use Rattle.vl_port.specs.Serving.{Shards}
use Rattle.vl_port.specs.View.{View}

-- the act is done, and no limit refuses it
abbrev pub Acts : View → Who → Act → Answer → View → Type 0
Acts old who act answer new = Acted old who act answer new × IsLimited None answer

-- whether memory was refused
abbrev pub IsRefusal : Bool → Answer → Type 0
IsRefusal true answer = answer ≡ Memory
IsRefusal false answer = answer ≡ Memory → ⊥

-- a live shard session of this client session and group
pub record IsLiveOf (view : View) (client : ℕ) (part : Group) (who : Who) : Type 0 where
  pub session : who.session ≡ client
  pub group : who.group ≡ Some part
  pub live : is_live view who ≡ true

-- a Drop kills a live shard session of the client session and group; false tells that there is none
abbrev pub Drops : View → ℕ → Group → Bool → View → Type 0
Drops old session group true new = (who : Who) × IsLiveOf old session group who × (new ≡ lost_as fates.Dropped who old)
Drops old session group false new = ((who : Who) → IsLiveOf old session group who → ⊥) × (new ≡ old)

-- what a Drop leaves of all other transactions: what they have
abbrev pub DropLeaves : Shards → ℕ → ℕ → Group → Bool → Shards → Type 0
DropLeaves old shard session group true new = (who : Who) × IsLiveOf (old shard) session group who × LeavesOthers who.tx old new
DropLeaves old shard session group false new = (any : ℕ) → new any ≡ old any
