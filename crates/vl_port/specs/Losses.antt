-- Losses that a link was told to play, and the way that they make it take a message.
use Rattle.std.specs.Prelude.{◌≡◌, ℕ, Bool, true, false, ◌==◌, ◌-◌, if◌then◌else◌, List, slice_index_or, slice_set, Option, Some, None}
use Rattle.vl_base.specs.Faults.{Rose}
use Rattle.vl_port.specs.declared.carried.Carried.{Carried}
use Rattle.vl_port.specs.declared.carried.Carried.TheVariants.{Passed, LostBefore, LostAfter}
use Rattle.vl_port.specs.declared.loss.Loss.{Loss}

-- the loss that each shard's messages are still to meet
abbrev pub Losses : Type 0
Losses = ℕ → Option Loss

abbrev pub way_of : Bool → Carried
way_of true = LostAfter
way_of false = LostBefore

-- the way of the next message to a shard
abbrev pub next_way : Option Loss → Carried
next_way None = Passed
next_way (Some loss) = if loss.nth == 1 then way_of loss.after else Passed

-- what is left to play behind it
abbrev pub rest_of : Option Loss → Option Loss
rest_of None = None
rest_of (Some loss) = if loss.nth == 1 then None else Some (record loss { nth = loss.nth - 1 })

abbrev pub played_on : ℕ → Losses → Losses
played_on shard losses = λ s. if s == shard then rest_of (losses s) else losses s

-- a message to the shard took the way that was due. Of a link whose losses nobody arms (None), nothing is known
abbrev pub Plays : Option Losses → ℕ → Carried → Option Losses → Type 0
Plays None shard way new = new ≡ None
Plays (Some losses) shard way new = (way ≡ next_way (losses shard)) × (new ≡ Some (played_on shard losses))

-- a link's count of faults rises where it lost the message, and nowhere else
abbrev pub IsLossCounted : ℕ → Carried → ℕ → Type 0
IsLossCounted before Passed now = now ≡ before
IsLossCounted before LostBefore now = Rose before now
IsLossCounted before LostAfter now = Rose before now

-- what a link that plays losses from a list holds
pub record LinkState : Type 0 where
  -- the loss armed for each shard
  pub armed : List (Option Loss)
  pub faults : ℕ

abbrev pub losses_of : LinkState → Losses
losses_of link = λ shard. slice_index_or link.armed shard None

abbrev pub armed_on : LinkState → ℕ → Loss → LinkState
armed_on link shard loss = record link { armed = slice_set link.armed shard (Some loss) }
