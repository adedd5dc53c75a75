-- Which answers a read may get, and what it leaves as it was.
use Rattle.std.proofs.Common.{◌≡◌, ℕ, Bool, Some, ap, ◌∙◌, subst}
use Rattle.vl_values.specs.declared.key.Key.{Key}
use Rattle.vl_values.specs.declared.pred.Pred.{Pred}
use Rattle.vl_port.specs.declared.act.Act.{Act}
use Rattle.vl_port.specs.declared.act.Act.TheVariants.{Find}
use Rattle.vl_port.specs.declared.answer.Answer.{Answer}
use Rattle.vl_port.specs.declared.answer.Answer.TheVariants.{Done, Unchanged, Rows, Found, Held, Lost, Device, Limit, Memory}
use Rattle.vl_port.specs.declared.who.Who.{Who}
use Rattle.vl_port.specs.Acting.{Acted}
use Rattle.vl_port.specs.Calls.{HasActed, PortView}
use Rattle.vl_port.specs.Serving.{Shards}
use Rattle.vl_port.specs.View.{View}
use Rattle.vl_statement.proofs.Leaving.{IsSpared, act_holds, act_pends}
use Rattle.vl_statement.proofs.Reached.{IsOfAct, done_there}
use Rattle.vl_select.specs.Answering.{IsReadAnswer}

-- ---- answers

acted_as : (port after : PortView) (who : Who) (shard : ℕ) (act find : Act) (answer : Answer) → act ≡ find → IsOfAct answer → HasActed port who shard act answer after → (there : View) × Acted there who find answer (after.shards shard)
acted_as port after who shard act find answer is of acts =
    let done = done_there port after who shard act answer of acts in
    (done.there, subst (λ (a : Act). Acted done.there who a answer (after.shards shard)) is done.acted)

pub read_answer : (port after : PortView) (who : Who) (shard : ℕ) (act : Act) (pred : Pred) (locking : Bool) (answer : Answer) → act ≡ Find pred locking → HasActed port who shard act answer after → IsReadAnswer answer
read_answer port after who shard act pred locking Done is acts = absurd ((acted_as port after who shard act (Find pred locking) Done is tt acts).1.1)
read_answer port after who shard act pred locking Unchanged is acts = absurd ((acted_as port after who shard act (Find pred locking) Unchanged is tt acts).1.1)
read_answer port after who shard act pred locking (Found key row) is acts = absurd ((acted_as port after who shard act (Find pred locking) (Found key row) is tt acts).1.1)
read_answer port after who shard act pred locking (Rows rows) is acts = tt
read_answer port after who shard act pred locking (Held by key) is acts = tt
read_answer port after who shard act pred locking (Limit what count) is acts = tt
read_answer port after who shard act pred locking (Lost why) is acts = tt
read_answer port after who shard act pred locking Device is acts = tt
read_answer port after who shard act pred locking Memory is acts = tt

-- ---- pending versions and locks

pub record Keeps (old new : Shards) : Type 0 where
  pub pending : (shard : ℕ) (key : Key) → (new shard).pending key ≡ (old shard).pending key
  pub holder : (shard : ℕ) (key : Key) (other : Who) → (old shard).holder key ≡ Some other → (new shard).holder key ≡ Some other

pub keeps_same : (old new : PortView) → new ≡ old → Keeps old.shards new.shards
keeps_same old new same = record {
  pending = λ shard key. ap (λ (v : PortView). (v.shards shard).pending key) same;
  holder = λ shard key other held. ap (λ (v : PortView). (v.shards shard).holder key) same ∙ held;
}

-- the answers that leave all as it was
abbrev pub IsKept : Answer → Type 0
IsKept (Rows rows) = Unit {0}
IsKept (Held by key) = Unit {0}
IsKept (Limit what count) = Unit {0}
IsKept Memory = Unit {0}
IsKept (Lost why) = ⊥
IsKept Device = ⊥
IsKept Done = ⊥
IsKept Unchanged = ⊥
IsKept (Found key row) = ⊥

-- after them the session lives on, and nothing was written
kept_spared : (answer : Answer) → IsKept answer → IsSpared answer
kept_spared (Rows rows) kept = tt
kept_spared (Held by key) kept = tt
kept_spared (Limit what count) kept = tt
kept_spared Memory kept = tt
kept_spared (Lost why) kept = absurd kept
kept_spared Device kept = absurd kept
kept_spared Done kept = absurd kept
kept_spared Unchanged kept = absurd kept
kept_spared (Found key row) kept = absurd kept

pub read_keeps : (port after : PortView) (who : Who) (shard : ℕ) (act : Act) (answer : Answer) → IsKept answer → HasActed port who shard act answer after → Keeps port.shards after.shards
read_keeps port after who shard act answer kept acts = record {
  pending = λ s key. act_pends port after who shard act answer s key (kept_spared answer kept) (λ done. subst IsKept done kept) acts;
  holder = λ s key other held. act_holds port after who other shard act answer s key (kept_spared answer kept) acts held;
}
