-- An act, a commit and a close on their way to a shard, in layers: what a session that isn't lost does,
-- what becomes of the use of a lost one, and what the link makes of it.
use Rattle.std.specs.Prelude.{◌≡◌, ◌⊎◌, true, false, Option, Some, None}
use Rattle.vl_values.specs.declared.key.Key.{Key}
use Rattle.vl_values.specs.declared.lost_why.LostWhy.{LostWhy}
use Rattle.vl_values.specs.declared.lost_why.LostWhy.TheVariants as why
use Rattle.vl_port.specs.declared.act.Act.{Act}
use Rattle.vl_port.specs.declared.answer.Answer.{Answer}
use Rattle.vl_port.specs.declared.answer.Answer.TheVariants.{Done, Unchanged, Rows, Found, Held, Lost, Device, Limit, Memory}
use Rattle.vl_port.specs.declared.carried.Carried.{Carried}
use Rattle.vl_port.specs.declared.carried.Carried.TheVariants.{Passed, LostBefore, LostAfter}
use Rattle.vl_port.specs.declared.change.Change.{Change}
use Rattle.vl_port.specs.declared.committed.Committed.{Committed}
use Rattle.vl_port.specs.declared.committed.Committed.TheVariants as outcome
use Rattle.vl_port.specs.declared.who.Who.{Who}
use Rattle.vl_port.specs.Acting.{Acted, settled}
use Rattle.vl_port.specs.Life.{Reaches, closed, cut, downed_in, loss_of}
use Rattle.vl_port.specs.View.{View, has_group, is_who}

-- ---- an act

-- the shard is reached, and the act is done there
abbrev pub ActsThere : View → Who → Act → Answer → View → Type 0
ActsThere old who act answer new = (there : View) × Reaches old there × Acted there who act answer new

-- of a session that isn't lost. A shard that is down and can't be opened cuts the session; want of memory
-- may come behind an opening
abbrev pub Does : View → Who → Act → Answer → View → Type 0
Does old who act Done new = ActsThere old who act Done new
Does old who act Unchanged new = ActsThere old who act Unchanged new
Does old who act (Rows rows) new = ActsThere old who act (Rows rows) new
Does old who act (Found key row) new = ActsThere old who act (Found key row) new
Does old who act (Held by key) new = ActsThere old who act (Held by key) new
Does old who act (Limit what count) new = ActsThere old who act (Limit what count) new
Does old who act (Lost why) new = ⊥
Does old who act Device new = (old.up ≡ false) × (new ≡ cut who old)
Does old who act Memory new = (new ≡ old) ⊎ Reaches old new

-- the use of a lost session tells its loss, does nothing and opens no shard
abbrev pub Uses : Option LostWhy → View → Who → Act → Answer → View → Type 0
Uses None old who act answer new = Does old who act answer new
Uses (Some loss) old who act answer new = (answer ≡ Lost loss) × (new ≡ old)

-- the link lost the message, and the session with it
abbrev pub IsCutOff : View → Who → Answer → View → Type 0
IsCutOff there who answer new = (answer ≡ Lost why.Link) × (new ≡ cut who there)

-- there was no memory to list the session, which was not listed yet
abbrev pub NoRoom : View → Who → Answer → View → Type 0
NoRoom old who answer new = (answer ≡ Memory) × (new ≡ old) × (has_group who.group ≡ true) × (old.sessions who ≡ None)

-- by the way that the link took it. A message lost before the shard is not done there; one lost behind it
-- is done, and its answer is lost. Memory is refused before the message leaves, or at the shard, and is
-- never lost
abbrev pub Carries : Carried → View → Who → Act → Answer → View → Type 0
Carries Passed old who act answer new = Uses (loss_of old who) old who act answer new
Carries LostBefore old who act answer new = NoRoom old who answer new ⊎ IsCutOff old who answer new
Carries LostAfter old who act answer new = ((answer ≡ Memory) × Uses (loss_of old who) old who act Memory new)
    ⊎ ((inner : Answer) × (there : View) × (inner ≡ Memory → ⊥) × Uses (loss_of old who) old who act inner there × IsCutOff there who answer new)

-- ---- a commit: whatever it answers, its session has ended

-- a session without changes writes nothing to the disks
abbrev pub HasChanges : View → Who → Type 0
HasChanges view who = (key : Key) × (change : Change) × (view.pending key ≡ Some change) × (is_who change.who who ≡ true)

abbrev pub Commits : View → Who → Committed → View → Type 0
Commits old who outcome.Done new = new ≡ settled who old
Commits old who (outcome.Lost why) new = ⊥
Commits old who outcome.Device new = HasChanges old who × (new ≡ closed who (downed_in who old))

abbrev pub CommitUses : Option LostWhy → View → Who → Committed → View → Type 0
CommitUses None old who told new = Commits old who told new
CommitUses (Some loss) old who told new = (told ≡ outcome.Lost loss) × (new ≡ closed who old)

abbrev pub CommitCarries : Carried → View → Who → Committed → View → Type 0
CommitCarries Passed old who told new = CommitUses (loss_of old who) old who told new
CommitCarries LostBefore old who told new = (told ≡ outcome.Lost why.Link) × (new ≡ closed who old)
CommitCarries LostAfter old who told new = (told ≡ outcome.Lost why.Link) × ((inner : Committed) × CommitUses (loss_of old who) old who inner new)

-- ---- a close, which the link doesn't carry

abbrev pub Closes : View → Who → View → Type 0
Closes old who new = new ≡ closed who old
