-- A shard more in a list of them, what new shards show, and what a call of one of them leaves.
use Rattle.std.proofs.Common.{◌≡◌, ◌≢◌, ◌<◌, ◌+◌, ℕ, Bool, true, false, zero, suc, List, [], ◌∷◌, ◌++◌, length, length-append, length-set, set, get_or, get_or-set_same, get_or-set_other, arith, refl, sym, ap, subst, ◌∙◌}
use Rattle.std.proofs.lemmas.List.{get_or_read}
use Rattle.vl_catalog.specs.declared.catalog.Catalog.{Catalog}
use Rattle.vl_catalog.specs.Place.{shard_count}
use Rattle.vl_values.specs.declared.group.Group.{Group}
use Rattle.vl_port.specs.declared.act.Act.{Act}
use Rattle.vl_port.specs.declared.answer.Answer.{Answer}
use Rattle.vl_port.specs.declared.carried.Carried.{Carried}
use Rattle.vl_port.specs.declared.committed.Committed.{Committed}
use Rattle.vl_port.specs.declared.who.Who.{Who}
use Rattle.vl_port.specs.View.{View}
use Rattle.vl_port.specs.Carrying.{Carries, Closes, CommitCarries}
use Rattle.vl_port.specs.Keeping.{IsKept}
use Rattle.vl_port.specs.Placing.{ArePlaced, IsActOn}
use Rattle.vl_port.specs.Serving.{IsServed, Serves}
use Rattle.vl_port.specs.declared.fate.Fate.TheVariants as fates
use Rattle.vl_port.proofs.Keeps.{IsGrouped}
use Rattle.vl_port.proofs.Lives.{none_some}
use Rattle.vl_port.proofs.Served.{served_carried, served_closed, served_commit, served_lost, serves_changed, serves_renamed}
use Rattle.vl_shard.specs.Parts.{Parts, view_of}
use Rattle.vl_shard.specs.Banks.{no_shard, shard_seen, IsEmpty, AreNew}
use Rattle.vl_shard.specs.Calls.{Drops}

-- what holds of each shard, and of one more
each_more : (P : View → Type 0) (shards : List Parts) (shard : Parts) → ((i : ℕ) → i < length shards → P (shard_seen shards i)) → P (view_of shard)
    → (i : ℕ) → i < length (shards ++ shard ∷ []) → P (shard_seen (shards ++ shard ∷ []) i)
each_more P [] shard each more zero h = more
each_more P [] shard each more (suc i) h = absurd (omega arith)
each_more P (x ∷ shards) shard each more zero h = each 0 (omega arith)
each_more P (x ∷ shards) shard each more (suc i) h = each_more P shards shard (λ j within. each (suc j) (omega arith)) more i (omega arith)

pub new_more : (shards : List Parts) (count : ℕ) (shard : Parts) → AreNew shards count → IsEmpty (view_of shard) → shard.incarnation ≡ 1 → IsKept (view_of shard) → AreNew (shards ++ shard ∷ []) (count + 1)
new_more shards count shard before empty first kept = record {
  long = omega (arith, before.long, length-append shards (shard ∷ []));
  empty = each_more IsEmpty shards shard before.empty empty;
  first = each_more (λ v. v.incarnation ≡ 1) shards shard before.first first;
  kept = each_more IsKept shards shard before.kept kept;
}

-- an empty shard has no version that could stand elsewhere
empty_placed : (catalog : Catalog) (shard : ℕ) (view : View) → IsEmpty view → ArePlaced catalog shard view
empty_placed catalog shard view empty = record {
  committed = λ key row h. absurd (none_some row (sym (empty.committed key) ∙ h));
  pending = λ key change row h left. absurd (none_some change (sym (empty.pending key) ∙ h));
  changed = λ key change h. absurd (none_some change (sym (empty.pending key) ∙ h));
  doubted = λ key row h. absurd (none_some _ (sym (empty.doubt key) ∙ h));
}

pub new_serves : (catalog : Catalog) (shards : List Parts) → AreNew shards (shard_count catalog.rings) → Serves catalog (length shards) (shard_seen shards)
new_serves catalog shards new = record {
  shards = new.long;
  each = λ shard within. record { kept = new.kept shard within; placed = empty_placed catalog shard (shard_seen shards shard) (new.empty shard within) };
}

-- ---- a call of one shard

module _ (catalog : Catalog) (shards : List Parts) (shard : ℕ) (old new : Parts) (within : shard < length shards) (read : old ≡ get_or shards shard old) where
  was : view_of old ≡ shard_seen shards shard
  was = ap view_of (get_or_read shards shard old within read no_shard)

  is : shard_seen (set shards shard new) shard ≡ view_of new
  is = ap view_of (get_or-set_same shards shard new no_shard within)

  pub bank_others : (other : ℕ) → other ≢ shard → shard_seen (set shards shard new) other ≡ shard_seen shards other
  bank_others other apart = ap view_of (get_or-set_other shards shard other new no_shard apart)

  -- what a call says of the shard's parts, said of the bank's
  pub between : (Call : View → View → Type 0) → Call (view_of old) (view_of new) → Call (shard_seen shards shard) (shard_seen (set shards shard new) shard)
  between Call h = subst (λ (v : View). Call v (shard_seen (set shards shard new) shard)) was (subst (Call (view_of old)) (sym is) h)

  module _ (serves : Serves catalog (length shards) (shard_seen shards)) where
    -- the shard that was called is served as before, so all are
    serves_now : (IsServed catalog shard (view_of old) → IsServed catalog shard (view_of new)) → Serves catalog (length (set shards shard new)) (shard_seen (set shards shard new))
    serves_now changed =
        serves_renamed catalog catalog (length shards) (length (set shards shard new)) (shard_seen (set shards shard new)) refl (length-set shards shard new)
        (serves_changed catalog (length shards) (shard_seen shards) (shard_seen (set shards shard new)) shard serves bank_others (between (λ v w. IsServed catalog shard v → IsServed catalog shard w) changed))

    pub bank_acted : (who : Who) (act : Act) (way : Carried) (answer : Answer) → IsGrouped who act → IsActOn catalog shard act → Carries way (view_of old) who act answer (view_of new)
        → Serves catalog (length (set shards shard new)) (shard_seen (set shards shard new))
    bank_acted who act way answer grouped fits h = serves_now (λ served. served_carried catalog shard way (view_of old) (view_of new) who act answer served grouped fits h)

    pub bank_committed : (who : Who) (way : Carried) (told : Committed) → CommitCarries way (view_of old) who told (view_of new) → Serves catalog (length (set shards shard new)) (shard_seen (set shards shard new))
    bank_committed who way told h = serves_now (λ served. served_commit catalog shard way (view_of old) (view_of new) who told served h)

    pub bank_closed : (who : Who) → Closes (view_of old) who (view_of new) → Serves catalog (length (set shards shard new)) (shard_seen (set shards shard new))
    bank_closed who h = serves_now (λ served. served_closed catalog shard (view_of old) (view_of new) who served h)

    served_killed : (session : ℕ) (group : Group) (found : Bool) → Drops (view_of old) session group found (view_of new) → IsServed catalog shard (view_of old) → IsServed catalog shard (view_of new)
    served_killed session group true h served = subst (IsServed catalog shard) (sym h.2) (served_lost catalog shard fates.Dropped (view_of old) h.0 refl served)
    served_killed session group false h served = subst (IsServed catalog shard) (sym h.1) served

    pub bank_killed : (session : ℕ) (group : Group) (found : Bool) → Drops (view_of old) session group found (view_of new) → Serves catalog (length (set shards shard new)) (shard_seen (set shards shard new))
    bank_killed session group found h = serves_now (served_killed session group found h)
