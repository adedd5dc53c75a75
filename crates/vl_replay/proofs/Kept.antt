-- What the shards keep by each call: the lanes, that they are up, and that nothing stands behind the last.
use Rattle.std.proofs.Common.{◌≡◌, ◌≢◌, ◌==◌, ◌≤◌, ◌<◌, if◌then◌else◌, ℕ, Bool, true, false, Option, Some, None, refl, sym, ap, subst, ◌∙◌, inl, inr, arith}
use Rattle.std.proofs.lemmas.Bool.{and_parts, cases_Bool, eqb-false, eqb-true, or_cases}
use Rattle.vl_values.specs.declared.group.Group.{Group}
use Rattle.vl_values.specs.declared.key.Key.{Key}
use Rattle.vl_values.specs.declared.pred.Pred.{Pred}
use Rattle.vl_values.specs.Pred.{matches}
use Rattle.vl_values.proofs.KeyOrder.{is_key-true}
use Rattle.vl_catalog.specs.declared.catalog.Catalog.{Catalog}
use Rattle.vl_port.specs.declared.act.Act.{Act}
use Rattle.vl_port.specs.declared.act.Act.TheVariants.{Insert, Put, Remove, RemoveIf, Find}
use Rattle.vl_port.specs.declared.answer.Answer.{Answer}
use Rattle.vl_port.specs.declared.answer.Answer.TheVariants.{Done, Unchanged, Rows, Found, Held, Lost, Device, Limit, Memory}
use Rattle.vl_port.specs.declared.change.Change.{Change}
use Rattle.vl_port.specs.declared.who.Who.{Who}
use Rattle.vl_port.specs.Acting.{Acted, row_left, settled, taken, written}
use Rattle.vl_port.specs.Holding.{needs}
use Rattle.vl_port.specs.Life.{closed}
use Rattle.vl_port.specs.Reading.{is_match}
use Rattle.vl_port.specs.Serving.{Shards}
use Rattle.vl_port.specs.View.{Values, View, changed_to}
use Rattle.vl_model.specs.Entries.{is_lookup_table}
use Rattle.vl_replay.specs.Ending.{CommitLeaves, IsFreed, IsUndone}
use Rattle.vl_replay.specs.Lanes.{InLanes, IsActInLane, IsLane, IsReadInLane}
use Rattle.vl_replay.specs.Showing.{AreBare, AreUp}
use Rattle.vl_run.specs.Machine.{is_entry}
use Rattle.vl_replay.proofs.Frees.{freed_before, freed_without, undone_before, undone_dropped}

never : true ≡ false → ⊥
never same = cc

same_some : {A : Type 0} (a b : A) → Some a ≡ Some b → a ≡ b
same_some a b same = cc

-- ---- one shard

-- each key that is held or changed there is in its lane
pub record IsInLanes (catalog : Catalog) (v : View) : Type 0 where
  pub holders : (key : Key) (who : Who) → v.holder key ≡ Some who → IsLane who.group (is_entry catalog key)
  pub changes : (key : Key) (change : Change) → v.pending key ≡ Some change → IsLane change.who.group (is_entry catalog key)

module _ (catalog : Catalog) where
  pub lanes_freed : (tx : ℕ) (old new : View) → ((k : Key) → IsUndone tx (old.pending k) (new.pending k)) → ((k : Key) → IsFreed tx (old.holder k) (new.holder k)) → IsInLanes catalog old → IsInLanes catalog new
  lanes_freed tx old new pending holder is = record {
    holders = λ k who held. is.holders k who (freed_before tx (old.holder k) (new.holder k) who (holder k) held);
    changes = λ k change changed. is.changes k change (undone_before tx (old.pending k) (new.pending k) change (pending k) changed);
  }

  pub lanes_left : (done : Bool) (who : Who) (old new : View) → CommitLeaves done who old new → IsInLanes catalog old → IsInLanes catalog new
  lanes_left true who old new left is = subst (IsInLanes catalog) (sym left) (lanes_freed who.tx old (settled who old) (λ k. undone_dropped who (old.pending k)) (λ k. freed_without who (old.holder k)) is)
  lanes_left false who old new left is = subst (IsInLanes catalog) (sym left) (lanes_freed who.tx old (closed who old) (λ k. undone_dropped who (old.pending k)) (λ k. freed_without who (old.holder k)) is)

  -- the keys that an act in its lane must obtain are in that
  table_of : (pred : Pred) (k : Key) (row : Option Values) → is_match pred k row ≡ true → k.table ≡ pred.table
  table_of pred k None matched = absurd (cc)
  table_of pred k (Some row) matched = eqb-true k.table pred.table (and_parts (k.table == pred.table) (matches pred row) matched).0

  found_lane : (group : Option Group) (pred : Pred) (v : View) (k : Key) (locking : Bool) → IsReadInLane group locking (is_lookup_table catalog pred.table) → needs v (Find pred locking) k ≡ true → IsLane group (is_entry catalog k)
  found_lane group pred v k false lane needed = absurd (never (sym needed))
  found_lane group pred v k true lane needed = subst (λ (t : ℕ). IsLane group (is_lookup_table catalog t)) (sym table) lane
    where
      table : k.table ≡ pred.table
      table = elim (or_cases (is_match pred k (v.committed k)) (is_match pred k (changed_to (v.pending k))) needed) [
        | inl matched ↦ table_of pred k (v.committed k) matched
        | inr matched ↦ table_of pred k (changed_to (v.pending k)) matched
      ]

  pub needed_lane : (who : Who) (act : Act) (v : View) (k : Key) → IsActInLane catalog who.group act → needs v act k ≡ true → IsLane who.group (is_entry catalog k)
  needed_lane who (Insert key row) v k lane needed = subst (λ (j : Key). IsLane who.group (is_entry catalog j)) (is_key-true key k needed) lane
  needed_lane who (Put key row) v k lane needed = subst (λ (j : Key). IsLane who.group (is_entry catalog j)) (is_key-true key k needed) lane
  needed_lane who (Remove key) v k lane needed = subst (λ (j : Key). IsLane who.group (is_entry catalog j)) (is_key-true key k needed) lane
  needed_lane who (RemoveIf key column value) v k lane needed = subst (λ (j : Key). IsLane who.group (is_entry catalog j)) (is_key-true key k needed) lane
  needed_lane who (Find pred locking) v k lane needed = found_lane who.group pred v k locking lane needed

  module _ (who : Who) (act : Act) (old : View) (lane : IsActInLane catalog who.group act) (is : IsInLanes catalog old) where
    holder_in : (b : Bool) (k : Key) (w : Who) → (b ≡ true → IsLane who.group (is_entry catalog k)) → (if b then Some who else old.holder k) ≡ Some w → IsLane w.group (is_entry catalog k)
    holder_in true k w mine held = subst (λ (v : Who). IsLane v.group (is_entry catalog k)) (same_some who w held) (mine refl)
    holder_in false k w mine held = is.holders k w held

    change_in : (row : Option Values) (b : Bool) (k : Key) (change : Change) → (b ≡ true → IsLane who.group (is_entry catalog k)) → (if b then Some (record { who = who; row = row }) else old.pending k) ≡ Some change → IsLane change.who.group (is_entry catalog k)
    change_in row true k change mine changed = subst (λ (c : Change). IsLane c.who.group (is_entry catalog k)) (same_some (record { who = who; row = row }) change changed) (mine refl)
    change_in row false k change mine changed = is.changes k change changed

    lanes_taken : IsInLanes catalog (taken who act old)
    lanes_taken = record { holders = λ k w held. holder_in (needs old act k) k w (needed_lane who act old k lane) held; changes = is.changes }

    lanes_written : IsInLanes catalog (written who act old)
    lanes_written = record {
      holders = λ k w held. holder_in (needs old act k) k w (needed_lane who act old k lane) held;
      changes = λ k change changed. change_in (row_left act) (needs old act k) k change (needed_lane who act old k lane) changed;
    }

    pub lanes_acted : (answer : Answer) (new : View) → Acted old who act answer new → IsInLanes catalog new
    lanes_acted Done new (free, can, same) = subst (IsInLanes catalog) (sym same) lanes_written
    lanes_acted Unchanged new (free, nothing, same) = subst (IsInLanes catalog) (sym same) lanes_taken
    lanes_acted (Rows rows) new (free, read, same) = subst (IsInLanes catalog) (sym same) lanes_taken
    lanes_acted (Found key row) new (free, found, same) = subst (IsInLanes catalog) (sym same) lanes_taken
    lanes_acted (Held by key) new (held, same) = subst (IsInLanes catalog) (sym same) (record { holders = is.holders; changes = is.changes })
    lanes_acted (Lost why) new acted = absurd acted
    lanes_acted Device new acted = absurd acted
    lanes_acted (Limit what count) new (free, can, same) = subst (IsInLanes catalog) (sym same) (record { holders = is.holders; changes = is.changes })
    lanes_acted Memory new same = subst (IsInLanes catalog) (sym same) is

-- an act that came back leaves its shard up
pub acted_up : (old new : View) (who : Who) (act : Act) (answer : Answer) → old.up ≡ true → Acted old who act answer new → new.up ≡ true
acted_up old new who act Done up (free, can, same) = ap (λ (v : View). v.up) same ∙ up
acted_up old new who act Unchanged up (free, nothing, same) = ap (λ (v : View). v.up) same ∙ up
acted_up old new who act (Rows rows) up (free, read, same) = ap (λ (v : View). v.up) same ∙ up
acted_up old new who act (Found key row) up (free, found, same) = ap (λ (v : View). v.up) same ∙ up
acted_up old new who act (Held by key) up (held, same) = ap (λ (v : View). v.up) same ∙ up
acted_up old new who act (Lost why) up acted = absurd acted
acted_up old new who act Device up acted = absurd acted
acted_up old new who act (Limit what count) up (free, can, same) = ap (λ (v : View). v.up) same ∙ up
acted_up old new who act Memory up same = ap (λ (v : View). v.up) same ∙ up

-- ---- all shards, of which a call changes one

module _ (catalog : Catalog) (count : ℕ) (old new : Shards) (shard : ℕ) (others : (t : ℕ) → t ≢ shard → new t ≡ old t) where
  -- what holds of the view of each shard
  each_changed : (P : View → Type 0) → P (new shard) → (t : ℕ) → P (old t) → P (new t)
  each_changed P here t before = elim (cases_Bool (t == shard)) [
    | inl same ↦ subst (λ (n : ℕ). P (new n)) (sym (eqb-true t shard same)) here
    | inr apart ↦ subst P (sym (others t (eqb-false t shard apart))) before
  ]

  on_shard : InLanes catalog count old → (t : ℕ) → t < count → IsInLanes catalog (old t)
  on_shard lanes t within = record { holders = λ k who held. lanes.holders t k who within held; changes = λ k change changed. lanes.changes t k change within changed }

  pub lanes_changed : shard < count → InLanes catalog count old → (IsInLanes catalog (old shard) → IsInLanes catalog (new shard)) → InLanes catalog count new
  lanes_changed within lanes changed = record {
    holders = λ t k who below held. (at t below).holders k who held;
    changes = λ t k change below is. (at t below).changes k change is;
  }
    where
      at : (t : ℕ) → t < count → IsInLanes catalog (new t)
      at t below = each_changed (IsInLanes catalog) (changed (on_shard lanes shard within)) t (on_shard lanes t below)

  pub up_changed : AreUp count old → (new shard).up ≡ true → AreUp count new
  up_changed up here = λ t below. each_changed (λ (v : View). v.up ≡ true) here t (up t below)

  pub bare_changed : shard < count → AreBare count old → AreBare count new
  bare_changed within bare = record {
    holders = λ t k behind. ap (λ (v : View). v.holder k) (others t (λ same. apart t behind same)) ∙ bare.holders t k behind;
    changes = λ t k behind. ap (λ (v : View). v.pending k) (others t (λ same. apart t behind same)) ∙ bare.changes t k behind;
  }
    where
      apart : (t : ℕ) → count ≤ t → t ≡ shard → ⊥
      apart t behind same = absurd (omega (arith, within, behind, same))
