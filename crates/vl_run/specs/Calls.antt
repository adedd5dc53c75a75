-- What a call of the core adds to its run.
use Rattle.std.specs.Prelude.{◌≡◌, ℕ, Bool, true, false, length, ◌∷◌, Some}
use Rattle.std.specs.Option.{is_some}
use Rattle.vl_values.specs.declared.cause.Cause.TheVariants.{OutOfMemory}
use Rattle.vl_values.specs.declared.group.Group.{Group}
use Rattle.vl_values.specs.Reply.{refusal}
use Rattle.vl_catalog.specs.declared.catalog.Catalog.{Catalog}
use Rattle.vl_port.specs.declared.limits.Limits.{Limits}
use Rattle.vl_run.specs.declared.ask.Ask.{Ask}
use Rattle.vl_run.specs.declared.ask.Ask.TheVariants as asks
use Rattle.vl_run.specs.declared.event.Event.{Event}
use Rattle.vl_run.specs.declared.request.Request.TheVariants as requests
use Rattle.vl_run.specs.declared.what.What.{What}
use Rattle.vl_run.specs.declared.what.What.TheVariants as whats
use Rattle.vl_run.specs.Allowed.{Follows, IsLive, IsStray, request_of}
use Rattle.vl_run.specs.Machine.{of_tx}
use Rattle.vl_run.specs.Numbers.{most_sessions}
use Rattle.vl_run.specs.Progress.{session}
use Rattle.vl_run.specs.Run.{Run, joined, seat}
use Rattle.vl_run.specs.Run.Point.{Happened}

-- ---- act

-- a client session's ask was an event, and this was told of it
pub record Acted (catalog : Catalog) (limits : Limits) (past : Run) (n : ℕ) (ask : Ask) (what : What) (new : Run) : Type 0 where
  pub event : Event
  pub adds : new ≡ Happened event ∷ past
  pub by : event.session ≡ n
  pub asked : event.request ≡ request_of ask
  pub follows : Follows catalog limits past event what

abbrev pub MayLackRoom : Ask → Type 0
MayLackRoom (asks.Say stmt) = Unit {0}
MayLackRoom asks.Reset = Unit {0}
MayLackRoom asks.Step = ⊥

-- what `act` answers to the ask of session n by a pass that saw the event `seen` last
pub data Answered (catalog : Catalog) (limits : Limits) (past : Run) (n seen : ℕ) (ask : Ask) : What → Run → Type 0 where
  -- an event of its own
  AsEvent : (what : What) (new : Run) → (IsStray past n seen ask → ⊥) → Acted catalog limits past n ask what new → Answered catalog limits past n seen ask what new
  -- no event: the pass is stray, and nothing has changed
  AsStray : IsStray past n seen ask → Answered catalog limits past n seen ask whats.Stray past
  -- no event: the trace has no room for it, and nothing has changed
  NoRoom : (IsStray past n seen ask → ⊥) → MayLackRoom ask → Answered catalog limits past n seen ask (whats.Reply (refusal OutOfMemory (is_some (session past n).owned))) past

-- the number that the pass has seen then: that of its session's last event
abbrev pub IsPassOf : Run → ℕ → ℕ → Type 0
IsPassOf new n seen = seat new n ≡ Some seen

-- ---- join, leave and drop

-- a session has joined, in an event of its own
pub record Joined (catalog : Catalog) (limits : Limits) (past : Run) (n : ℕ) (new : Run) : Type 0 where
  pub event : Event
  pub adds : new ≡ Happened event ∷ past
  pub by : event.session ≡ n
  pub asked : event.request ≡ requests.Join
  pub follows : Follows catalog limits past event whats.More

-- no session joins where as many are joined as may be
abbrev pub IsFull : Run → Type 0
IsFull past = length (joined past) ≡ most_sessions

-- the session left in an event of its own, or the pass is none that it has
pub data Left (catalog : Catalog) (limits : Limits) (past : Run) (n seen : ℕ) : Run → Type 0 where
  Leaves : (event : Event) → seat past n ≡ Some seen → event.session ≡ n → event.request ≡ requests.Leave → Follows catalog limits past event whats.More → Left catalog limits past n seen (Happened event ∷ past)
  NoPass : (seat past n ≡ Some seen → ⊥) → Left catalog limits past n seen past

-- a shard session of the client session's transaction was killed in an event of its own, or there is no live one
pub data Dropped (catalog : Catalog) (limits : Limits) (past : Run) (n : ℕ) (group : Group) (shard : ℕ) : Bool → Run → Type 0 where
  Kills : (event : Event) (tx : ℕ) → event.session ≡ n → event.request ≡ requests.Kill (of_tx n tx group) shard → Follows catalog limits past event whats.More → Dropped catalog limits past n group shard true (Happened event ∷ past)
  NoSession : ((tx : ℕ) → IsLive past n (of_tx n tx group) shard → ⊥) → Dropped catalog limits past n group shard false past
