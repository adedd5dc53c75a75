-- Each call leaves all shards as a port keeps them under its catalog.
use Rattle.std.proofs.Common.{◌≡◌, ◌≢◌, ◌==◌, ℕ, true, false, inl, inr, sym, subst}
use Rattle.std.proofs.lemmas.Bool.{cases_Bool, eqb-true, eqb-false}
use Rattle.vl_catalog.specs.declared.catalog.Catalog.{Catalog}
use Rattle.vl_port.specs.declared.act.Act.{Act}
use Rattle.vl_port.specs.declared.answer.Answer.{Answer}
use Rattle.vl_port.specs.declared.carried.Carried.{Carried}
use Rattle.vl_port.specs.declared.committed.Committed.{Committed}
use Rattle.vl_port.specs.declared.fate.Fate.{Fate}
use Rattle.vl_port.specs.declared.who.Who.{Who}
use Rattle.vl_port.specs.View.{View}
use Rattle.vl_port.specs.Calls.{HasActed, HasClosed, HasCommitted, IsSamePort, PortView}
use Rattle.vl_port.specs.Carrying.{Carries, Closes, CommitCarries}
use Rattle.vl_port.specs.Life.{is_alive, lost_as}
use Rattle.vl_port.specs.Placing.{IsActOn}
use Rattle.vl_port.specs.Serving.{Shards, IsServed, Serves}
use Rattle.vl_port.proofs.Keeps.{IsGrouped, kept_carried, kept_commit, kept_ended, kept_lost}
use Rattle.vl_port.proofs.Placed.{placed_carried, placed_closed, placed_commit, placed_lost}

-- ---- one shard

pub served_carried : (catalog : Catalog) (shard : ℕ) (way : Carried) (old new : View) (who : Who) (act : Act) (answer : Answer) → IsServed catalog shard old → IsGrouped who act → IsActOn catalog shard act
    → Carries way old who act answer new → IsServed catalog shard new
served_carried catalog shard way old new who act answer served grouped fits h = record {
  kept = kept_carried way old new who act answer served.kept grouped h;
  placed = placed_carried catalog shard way old new who act answer served.placed fits h;
}

pub served_commit : (catalog : Catalog) (shard : ℕ) (way : Carried) (old new : View) (who : Who) (told : Committed) → IsServed catalog shard old → CommitCarries way old who told new → IsServed catalog shard new
served_commit catalog shard way old new who told served h = record {
  kept = kept_commit way old new who told served.kept h;
  placed = placed_commit catalog shard way old new who told served.placed h;
}

pub served_closed : (catalog : Catalog) (shard : ℕ) (old new : View) (who : Who) → IsServed catalog shard old → Closes old who new → IsServed catalog shard new
served_closed catalog shard old new who served h = record {
  kept = kept_ended old new who served.kept h;
  placed = placed_closed catalog shard old new who served.placed h;
}

-- a session that a Drop killed, or the link
pub served_lost : (catalog : Catalog) (shard : ℕ) (fate : Fate) (view : View) (who : Who) → is_alive fate ≡ false → IsServed catalog shard view → IsServed catalog shard (lost_as fate who view)
served_lost catalog shard fate view who dead served = record {
  kept = kept_lost fate view who dead served.kept;
  placed = placed_lost catalog shard fate view who served.placed;
}

-- ---- all shards, of which a call changes one

pub serves_changed : (catalog : Catalog) (count : ℕ) (old new : Shards) (shard : ℕ) → Serves catalog count old → ((other : ℕ) → other ≢ shard → new other ≡ old other)
    → (IsServed catalog shard (old shard) → IsServed catalog shard (new shard)) → Serves catalog count new
serves_changed catalog count old new shard serves others changed = record {
  shards = serves.shards;
  each = λ s within.
      elim (cases_Bool (s == shard)) [
        | inl same ↦ subst (λ (n : ℕ). IsServed catalog n (old n) → IsServed catalog n (new n)) (sym (eqb-true s shard same)) changed (serves.each s within)
        | inr apart ↦ subst (IsServed catalog s) (sym (others s (eqb-false s shard apart))) (serves.each s within)
      ];
}

pub serves_acted : (catalog : Catalog) (count : ℕ) (old new : PortView) (who : Who) (shard : ℕ) (act : Act) (answer : Answer) → Serves catalog count old.shards → IsGrouped who act → IsActOn catalog shard act
    → HasActed old who shard act answer new → Serves catalog count new.shards
serves_acted catalog count old new who shard act answer serves grouped fits h =
    serves_changed catalog count old.shards new.shards shard serves h.others
    (λ served. served_carried catalog shard new.way (old.shards shard) (new.shards shard) who act answer served grouped fits h.acted)

pub serves_committed : (catalog : Catalog) (count : ℕ) (old new : PortView) (who : Who) (shard : ℕ) (told : Committed) → Serves catalog count old.shards → HasCommitted old who shard told new → Serves catalog count new.shards
serves_committed catalog count old new who shard told serves h =
    serves_changed catalog count old.shards new.shards shard serves h.others
    (λ served. served_commit catalog shard new.way (old.shards shard) (new.shards shard) who told served h.settled)

pub serves_closed : (catalog : Catalog) (count : ℕ) (old new : PortView) (who : Who) (shard : ℕ) → Serves catalog count old.shards → HasClosed old who shard new → Serves catalog count new.shards
serves_closed catalog count old new who shard serves h =
    serves_changed catalog count old.shards new.shards shard serves h.others (λ served. served_closed catalog shard (old.shards shard) (new.shards shard) who served h.closed)

-- ---- the same port

pub serves_renamed : (past catalog : Catalog) (before count : ℕ) (shards : Shards) → catalog ≡ past → count ≡ before → Serves past before shards → Serves catalog count shards
serves_renamed past catalog before count shards same long serves = subst (λ (c : Catalog). Serves c count shards) (sym same) (subst (λ (n : ℕ). Serves past n shards) (sym long) serves)

-- the catalog and the count are named anew
pub serves_same : (past catalog : Catalog) (before count : ℕ) (shards : Shards) → IsSamePort past before catalog count → Serves past before shards → Serves catalog count shards
serves_same past catalog before count shards same serves = serves_renamed past catalog before count shards same.serves same.counts serves

pub port_trans : (first second third : Catalog) (one two three : ℕ) → IsSamePort first one second two → IsSamePort second two third three → IsSamePort first one third three
port_trans first second third one two three past next = record {
  serves = subst (λ (c : Catalog). third ≡ c) past.serves next.serves;
  counts = subst (λ (n : ℕ). three ≡ n) past.counts next.counts;
}
