-- What the port's answer to an act says of the run.
use Rattle.std.specs.Prelude.{◌≡◌, nat_lt, ℕ, Bool, true, false, Option, Some, None}
use Rattle.vl_values.specs.declared.key.Key.{Key}
use Rattle.vl_values.specs.declared.limit.Limit.{Limit as Quantity}
use Rattle.vl_values.specs.declared.lost_why.LostWhy.{LostWhy}
use Rattle.vl_values.specs.declared.lost_why.LostWhy.TheVariants as why
use Rattle.vl_catalog.specs.declared.catalog.Catalog.{Catalog}
use Rattle.vl_port.specs.declared.act.Act.{Act}
use Rattle.vl_port.specs.declared.answer.Answer.{Answer}
use Rattle.vl_port.specs.declared.answer.Answer.TheVariants.{Done, Rows as Given, Held, Lost, Limit}
use Rattle.vl_port.specs.declared.outcome.Outcome.{Outcome}
use Rattle.vl_port.specs.declared.outcome.Outcome.TheVariants as outcomes
use Rattle.vl_port.specs.declared.who.Who.{Who}
use Rattle.vl_port.specs.Life.{loss_of}
use Rattle.vl_port.specs.Outcomes.{outcome_of}
use Rattle.vl_port.specs.Serving.{Shards}
use Rattle.vl_run.specs.Gathered.{ReadsBy, Rows, shown}
use Rattle.vl_run.specs.Refused.{IsHeld, MayBeLost, is_blocked, is_write}
use Rattle.vl_run.specs.Run.{Run, was_killed}

-- whether the shard did something for the session
abbrev pub is_told : Outcome → Bool
is_told outcomes.Refused = false
is_told outcomes.Opened = true
is_told outcomes.Took = true
is_told outcomes.Wrote = true
is_told (outcomes.Lost why) = false
is_told outcomes.Device = false

-- the port shows what the run says, and its marks of sessions are those of the run's kills
pub record IsAnswered (catalog : Catalog) (past : Run) (who : Who) (shard : ℕ) (act : Act) (answer : Answer) : Type 0 where
  -- rows are those that the reader sees there
  pub rows : (rows : Rows) → answer ≡ Given rows → ReadsBy catalog (shown catalog past) who shard act rows
  -- a key that stands in the way is in the hand of another transaction
  pub held : (by : ℕ) (key : Key) → answer ≡ Held by key → IsHeld catalog (shown catalog past) who.tx shard act by key
  -- and none does where a quantity is spent
  pub spent : (what : Quantity) (count : ℕ) (k : Key) → answer ≡ Limit what count → is_blocked catalog (shown catalog past) who.tx shard act k ≡ false
  -- only a write writes
  pub wrote : answer ≡ Done → is_write act ≡ true
  -- a killed session does nothing
  pub spared : is_told (outcome_of answer) ≡ true → was_killed past who shard ≡ false
  pub lost : (reason : LostWhy) → answer ≡ Lost reason → MayBeLost past who shard reason
  -- a read without a session has none to lose
  pub lost_read : (reason : LostWhy) → answer ≡ Lost reason → who.group ≡ None → reason ≡ why.Link

-- ---- marks

-- the session is dropped where a kill named it, and only there. None is of an incarnation that is still to come, and a read
-- without a group has none to lose
pub record IsMarkedAs (past : Run) (who : Who) (shard : ℕ) (loss : Option LostWhy) : Type 0 where
  pub killed : was_killed past who shard ≡ true → loss ≡ Some why.Dropped
  pub dropped : loss ≡ Some why.Dropped → was_killed past who shard ≡ true
  pub young : (had current : ℕ) → loss ≡ Some (why.Restarted had current) → nat_lt had current ≡ true
  pub plain : who.group ≡ None → loss ≡ None

-- all sessions of a transaction are
abbrev pub AreMarked : Run → ℕ → Shards → Type 0
AreMarked past tx seen = (who : Who) (shard : ℕ) → who.tx ≡ tx → IsMarkedAs past who shard (loss_of (seen shard) who)

-- what the shards show of the keys of an act, as the run says it
pub record IsShown (catalog : Catalog) (past : Run) (who : Who) (shard : ℕ) (act : Act) (answer : Answer) : Type 0 where
  pub rows : (rows : Rows) → answer ≡ Given rows → ReadsBy catalog (shown catalog past) who shard act rows
  pub held : (by : ℕ) (key : Key) → answer ≡ Held by key → IsHeld catalog (shown catalog past) who.tx shard act by key
  pub spent : (what : Quantity) (count : ℕ) (k : Key) → answer ≡ Limit what count → is_write act ≡ true → is_blocked catalog (shown catalog past) who.tx shard act k ≡ false
