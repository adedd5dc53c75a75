-- What an action that a transaction asked for keeps.
use Rattle.std.proofs.Common.{◌≡◌, ◌≢◌, ◌≤◌, ◌<◌, ℕ, inl, inr, Bool, true, false, refl, sym, ap, subst, ◌∙◌, arith}
use Rattle.vl_values.specs.declared.group.Group.{Group}
use Rattle.vl_values.specs.declared.group.Group.TheVariants.{Pre, Main, Post}
use Rattle.vl_catalog.specs.declared.catalog.Catalog.{Catalog}
use Rattle.vl_port.specs.declared.act.Act.{Act}
use Rattle.vl_port.specs.declared.answer.Answer.{Answer}
use Rattle.vl_port.specs.declared.answer.Answer.TheVariants.{Done, Unchanged, Rows, Found, Held, Lost, Device, Limit, Memory}
use Rattle.vl_port.specs.declared.asked.Asked.{Asked}
use Rattle.vl_port.specs.declared.asked.Asked.TheVariants.{Unlisted, Answered}
use Rattle.vl_port.specs.declared.tx_state.TxState.{TxState}
use Rattle.vl_port.specs.declared.who.Who.{Who}
use Rattle.vl_port.specs.Asking.{HasAsked, IsListed, IsSameTx, Lists, reader_in, with_change}
use Rattle.vl_port.specs.Calls.{HasActed, PortView}
use Rattle.vl_port.specs.Others.{LeavesOthers}
use Rattle.vl_port.specs.Placing.{IsActOn}
use Rattle.vl_port.specs.Serving.{Serves, Shards}
use Rattle.vl_port.specs.Taking.{takes_keys}
use Rattle.vl_port.specs.Transaction.{Enlists, IsIn, session_of}
use Rattle.vl_port.proofs.Enlisting.{in_answered}
use Rattle.vl_port.proofs.Keeps.{IsGrouped}
use Rattle.vl_port.proofs.Leaving.{leaves_acted, leaves_equal}
use Rattle.vl_port.proofs.Naming.{no_both}
use Rattle.vl_port.proofs.Served.{serves_acted}

-- ---- the same transaction

pub same_from : (tx new : TxState) → new ≡ tx → IsSameTx tx new
same_from tx new is =
    subst (IsSameTx tx) (sym is)
    (record { number = refl; session = refl; limits = refl; auto = refl; single = refl; changes = omega (arith); claimed = refl; removed = refl })

listed_same : (tx new with_one : TxState) → new ≡ with_one → IsSameTx tx with_one → IsSameTx tx new
listed_same tx new with_one is same = subst (IsSameTx tx) (sym is) same

pub same_enlisted : (tx new : TxState) (group : Group) (shard : ℕ) (added : Bool) → Enlists tx group shard added new → IsSameTx tx new
same_enlisted tx new Pre shard true h =
    listed_same tx new _ h.1 (record { number = refl; session = refl; limits = refl; auto = refl; single = refl; changes = omega (arith); claimed = refl; removed = refl })
same_enlisted tx new Main shard true h =
    listed_same tx new _ h.1 (record { number = refl; session = refl; limits = refl; auto = refl; single = refl; changes = omega (arith); claimed = refl; removed = refl })
same_enlisted tx new Post shard true h =
    listed_same tx new _ h.1 (record { number = refl; session = refl; limits = refl; auto = refl; single = refl; changes = omega (arith); claimed = refl; removed = refl })
same_enlisted tx new group shard false h = same_from tx new h.1

-- a write is counted
same_changed : (tx with_one new : TxState) → IsSameTx tx with_one → new ≡ with_change with_one → tx.changes ≤ new.changes → IsSameTx tx new
same_changed tx with_one new same is more = record {
  number = ap (λ (t : TxState). t.number) is ∙ same.number;
  session = ap (λ (t : TxState). t.session) is ∙ same.session;
  limits = ap (λ (t : TxState). t.limits) is ∙ same.limits;
  auto = ap (λ (t : TxState). t.auto) is ∙ same.auto;
  single = ap (λ (t : TxState). t.single) is ∙ same.single;
  changes = more;
  claimed = ap (λ (t : TxState). t.claimed) is ∙ same.claimed;
  removed = ap (λ (t : TxState). t.removed) is ∙ same.removed;
}

same_listed : (tx new : TxState) (group : Group) (shard : ℕ) → IsListed tx group shard new → IsSameTx tx new
same_listed tx new group shard h = same_enlisted tx new group shard h.0 h.1

same_lists : (tx new : TxState) (group : Group) (shard : ℕ) (answer : Answer) → tx.changes ≤ new.changes → Lists tx group shard answer new → IsSameTx tx new
same_lists tx new group shard Memory more h = same_from tx new h
same_lists tx new group shard Done more h = same_changed tx h.0 new (same_listed tx h.0 group shard h.1) h.2 more
same_lists tx new group shard Unchanged more h = same_listed tx new group shard h
same_lists tx new group shard (Rows rows) more h = same_listed tx new group shard h
same_lists tx new group shard (Found key row) more h = same_listed tx new group shard h
same_lists tx new group shard (Held by key) more h = same_listed tx new group shard h
same_lists tx new group shard (Lost why) more h = same_listed tx new group shard h
same_lists tx new group shard Device more h = same_listed tx new group shard h
same_lists tx new group shard (Limit what count) more h = same_listed tx new group shard h

pub asked_same : (tx new : TxState) (group : Group) (shard : ℕ) (act : Act) (old port : PortView) (r : Asked) → tx.changes ≤ new.changes → HasAsked old tx group shard act r new port → IsSameTx tx new
asked_same tx new group shard act old port Unlisted more h = same_from tx new h.same
asked_same tx new group shard act old port (Answered answer) more h = same_lists tx new group shard answer more h.lists

-- ---- its sessions, the port, and all others

pub asked_in : (tx new : TxState) (count : ℕ) (group : Group) (shard : ℕ) (act : Act) (old port : PortView) (r : Asked) → shard < count → HasAsked old tx group shard act r new port → IsIn tx count old.shards → IsIn new count port.shards
asked_in tx new count group shard act old port Unlisted below h isin =
    subst (λ (t : TxState). IsIn t count port.shards) (sym h.same) (subst (λ (p : PortView). IsIn tx count p.shards) (sym h.shown) isin)
asked_in tx new count group shard act old port (Answered answer) below h isin = in_answered tx new count old port group shard act isin below answer h

pub asked_serves : (catalog : Catalog) (tx new : TxState) (count : ℕ) (group : Group) (shard : ℕ) (act : Act) (old port : PortView) (r : Asked) → IsActOn catalog shard act → HasAsked old tx group shard act r new port
    → Serves catalog count old.shards → Serves catalog count port.shards
asked_serves catalog tx new count group shard act old port Unlisted fits h serves = subst (λ (p : PortView). Serves catalog count p.shards) (sym h.shown) serves
asked_serves catalog tx new count group shard act old port (Answered answer) fits h serves =
    serves_acted catalog count old port (session_of tx group) shard act answer serves (λ takes. refl) fits h.acts

pub asked_others : (catalog : Catalog) (tx new : TxState) (count : ℕ) (group : Group) (shard : ℕ) (act : Act) (old port : PortView) (r : Asked) → shard < count → HasAsked old tx group shard act r new port
    → Serves catalog count old.shards → LeavesOthers tx.number old.shards port.shards
asked_others catalog tx new count group shard act old port Unlisted below h serves = leaves_equal tx.number old.shards port.shards (ap (λ (p : PortView). p.shards) h.shown)
asked_others catalog tx new count group shard act old port (Answered answer) below h serves =
    leaves_acted old port (session_of tx group) shard act answer (serves.each shard below).kept (λ takes. refl) h.acts

-- ---- a read without locks

plain_grouped : (who : Who) (act : Act) → takes_keys act ≡ false → IsGrouped who act
plain_grouped who act plain = λ takes. absurd (no_both (takes_keys act) takes plain)

pub looked_serves : (catalog : Catalog) (count : ℕ) (who : Who) (shard : ℕ) (act : Act) (answer : Answer) (old port : PortView) → takes_keys act ≡ false → IsActOn catalog shard act → HasActed old who shard act answer port
    → Serves catalog count old.shards → Serves catalog count port.shards
looked_serves catalog count who shard act answer old port plain fits h serves = serves_acted catalog count old port who shard act answer serves (plain_grouped who act plain) fits h

pub looked_others : (catalog : Catalog) (count : ℕ) (who : Who) (shard : ℕ) (act : Act) (answer : Answer) (old port : PortView) → shard < count → takes_keys act ≡ false → HasActed old who shard act answer port
    → Serves catalog count old.shards → LeavesOthers who.tx old.shards port.shards
looked_others catalog count who shard act answer old port below plain h serves = leaves_acted old port who shard act answer (serves.each shard below).kept (plain_grouped who act plain) h

reader_tx : (tx : TxState) (group : Group) (there : Bool) → (reader_in tx group there).tx ≡ tx.number
reader_tx tx group true = refl
reader_tx tx group false = refl

-- the reader is of the transaction
pub reads_for : (tx : TxState) (group : Group) (there : Bool) (who : Who) (old new : Shards) → who ≡ reader_in tx group there → LeavesOthers who.tx old new → LeavesOthers tx.number old new
reads_for tx group there who old new is leaves = subst (λ (n : ℕ). LeavesOthers n old new) (ap (λ (w : Who). w.tx) is ∙ reader_tx tx group there) leaves
