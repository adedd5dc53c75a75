-- What the shards do is the steps of the deed: keys are obtained, versions written, and sessions committed or closed.
use Rattle.std.proofs.Common.{◌≡◌, ◌≢◌, ◌==◌, ◌&&◌, if◌then◌else◌, ℕ, Bool, true, false, Option, Some, None, refl, sym, ap, ◌∙◌, inl, inr}
use Rattle.std.proofs.lemmas.Bool.{cases_Bool, eqb-true, eq-eqb}
use Rattle.vl_values.specs.declared.key.Key.{Key}
use Rattle.vl_values.specs.Keyed.{is_key}
use Rattle.vl_values.proofs.KeyOrder.{is_key-true}
use Rattle.vl_catalog.specs.declared.catalog.Catalog.{Catalog}
use Rattle.vl_port.specs.declared.act.Act.{Act}
use Rattle.vl_port.specs.declared.act.Act.TheVariants.{Insert, Put, Remove, RemoveIf, Find}
use Rattle.vl_port.specs.declared.change.Change.{Change}
use Rattle.vl_port.specs.declared.who.Who.{Who}
use Rattle.vl_port.specs.Acting.{row_left, settled, taken, written}
use Rattle.vl_port.specs.Life.{closed, dropped, without}
use Rattle.vl_port.specs.Holding.{needs}
use Rattle.vl_port.specs.Serving.{Shards}
use Rattle.vl_port.specs.View.{Values, View, is_who}
use Rattle.vl_run.specs.declared.ends.Ends.TheVariants as ends
use Rattle.vl_run.specs.Machine.{Cell, after, ended_change, ended_holder, is_on, key_place, settled_cell, taken_by, takes}
use Rattle.vl_run.specs.Machine.Step.{LetGo, Settle, Take, Write}
use Rattle.vl_run.specs.Replays.{cell_of, shards_cells}
use Rattle.vl_run.proofs.Laws.{settle_leaves, take_leaves, write_leaves}

never : true ≡ false → ⊥
never same = cc

module _ (catalog : Catalog) (shard : ℕ) (old new : Shards) (others : (t : ℕ) → t ≢ shard → new t ≡ old t) where
  -- a key of another shard shows what it did
  off_stays : (k : Key) → is_on catalog shard k ≡ false → shards_cells catalog new k ≡ shards_cells catalog old k
  off_stays k off = ap (λ (v : View). cell_of v k) (others (key_place catalog k) (λ same. never (sym (eq-eqb (key_place catalog k) shard same) ∙ off)))

  -- one of this shard what the call made of it
  on_becomes : (f : View → View) → new shard ≡ f (old shard) → (k : Key) → is_on catalog shard k ≡ true → shards_cells catalog new k ≡ cell_of (f (old (key_place catalog k))) k
  on_becomes f is k on =
      ap (λ (t : ℕ). cell_of (new t) k) (eqb-true (key_place catalog k) shard on) ∙ ap (λ (v : View). cell_of v k) is
      ∙ ap (λ (t : ℕ). cell_of (f (old t)) k) (sym (eqb-true (key_place catalog k) shard on))

  takes_is : (act : Act) (k : Key) → needs (old (key_place catalog k)) act k ≡ takes (shards_cells catalog old) act k
  takes_is (Insert key row) k = refl
  takes_is (Put key row) k = refl
  takes_is (Remove key) k = refl
  takes_is (RemoveIf key column value) k = refl
  takes_is (Find pred locking) k = refl

  holder_set : (who : Who) (c : Cell) (b : Bool) → record c { holder = if b then Some who else c.holder } ≡ (if b then record c { holder = Some who } else c)
  holder_set who c true = refl
  holder_set who c false = refl

  -- the keys that an act obtains are those that its step takes
  pub take_replays : (who : Who) (act : Act) → new shard ≡ taken who act (old shard) → (k : Key) → shards_cells catalog new k ≡ after catalog (Take who (taken_by catalog (shards_cells catalog old) shard act)) (shards_cells catalog old) k
  take_replays who act is k = elim (cases_Bool (is_on catalog shard k)) [
    | inl on ↦ on_becomes (taken who act) is k on ∙ holder_set who (shards_cells catalog old k) (needs (old (key_place catalog k)) act k)
        ∙ ap (λ (b : Bool). if b then record (shards_cells catalog old k) { holder = Some who } else shards_cells catalog old k) (takes_is act k ∙ sym (ap (λ (b : Bool). b && takes (shards_cells catalog old) act k) on))
    | inr off ↦ off_stays k off ∙ sym (take_leaves catalog who (taken_by catalog (shards_cells catalog old) shard act) (shards_cells catalog old) k (ap (λ (b : Bool). b && takes (shards_cells catalog old) act k) off))
  ]

  -- a commit that was done settles what its session has changed
  pub settle_replays : (who : Who) → new shard ≡ settled who (old shard) → (k : Key) → shards_cells catalog new k ≡ after catalog (Settle who shard) (shards_cells catalog old) k
  settle_replays who is k = elim (cases_Bool (is_on catalog shard k)) [
    | inl on ↦ on_becomes (settled who) is k on ∙ sym (ap (λ (b : Bool). if b then settled_cell who (shards_cells catalog old k) else shards_cells catalog old k) on)
    | inr off ↦ off_stays k off ∙ sym (settle_leaves catalog who shard (shards_cells catalog old) k off)
  ]

  -- a write of a key is the taking of the key and the write of its row
  same_written : (who : Who) (row : Option Values) (c : Cell) (b : Bool)
      → record c { change = if b then Some (record { who = who; row = row }) else c.change; holder = if b then Some who else c.holder }
      ≡ (if b then record (if b then record c { holder = Some who } else c) { change = Some (record { who = who; row = row }) } else (if b then record c { holder = Some who } else c))
  same_written who row c true = refl
  same_written who row c false = refl

  pub write_replays : (who : Who) (act : Act) (key : Key) (replaces : Option Key) → is_on catalog shard key ≡ true → ((v : View) (k : Key) → needs v act k ≡ is_key key k) → new shard ≡ written who act (old shard)
      → (k : Key) → shards_cells catalog new k ≡ after catalog (Write who key (row_left act) replaces) (after catalog (Take who (taken_by catalog (shards_cells catalog old) shard act)) (shards_cells catalog old)) k
  write_replays who act key replaces home of is k = elim (cases_Bool (is_on catalog shard k)) [
    | inl on ↦ on_becomes (written who act) is k on
        ∙ ap (λ (b : Bool). record (shards_cells catalog old k) { change = if b then Some (record { who = who; row = row_left act }) else (shards_cells catalog old k).change; holder = if b then Some who else (shards_cells catalog old k).holder }) (of (old (key_place catalog k)) k)
        ∙ same_written who (row_left act) (shards_cells catalog old k) (is_key key k)
        ∙ ap (λ (b : Bool). if is_key key k then record (if b then record (shards_cells catalog old k) { holder = Some who } else shards_cells catalog old k) { change = Some (record { who = who; row = row_left act }) } else (if b then record (shards_cells catalog old k) { holder = Some who } else shards_cells catalog old k))
        (sym (of (old (key_place catalog k)) k) ∙ takes_is act k ∙ sym (ap (λ (b : Bool). b && takes (shards_cells catalog old) act k) on))
    | inr off ↦ off_stays k off ∙ sym (write_leaves catalog who key (row_left act) replaces (after catalog (Take who (taken_by catalog (shards_cells catalog old) shard act)) (shards_cells catalog old)) k (elsewhere k off)
        ∙ take_leaves catalog who (taken_by catalog (shards_cells catalog old) shard act) (shards_cells catalog old) k (ap (λ (b : Bool). b && takes (shards_cells catalog old) act k) off))
  ]
    where
      elsewhere : (k : Key) → is_on catalog shard k ≡ false → is_key key k ≡ false
      elsewhere k off = elim (cases_Bool (is_key key k)) [
        | inl same ↦ absurd (never (sym home ∙ ap (λ (j : Key). is_on catalog shard j) (is_key-true key k same) ∙ off))
        | inr apart ↦ apart
      ]

  -- a session that was closed has let go
  and_true : (b : Bool) → (b && true) ≡ b
  and_true true = refl
  and_true false = refl

  and_false : (b : Bool) → (b && false) ≡ false
  and_false true = refl
  and_false false = refl

  holder_ends : (who : Who) (place : ℕ) (h : Option Who) → (shard == place) ≡ true → without who h ≡ ended_holder (ends.One who shard) place h
  holder_ends who place None here = refl
  holder_ends who place (Some holder) here = ap (λ (b : Bool). if b then None else Some holder) (sym (and_true (is_who holder who)) ∙ sym (ap (λ (b : Bool). is_who holder who && b) here))

  change_ends : (who : Who) (place : ℕ) (c : Option Change) → (shard == place) ≡ true → dropped who c ≡ ended_change (ends.One who shard) place c
  change_ends who place None here = refl
  change_ends who place (Some change) here = ap (λ (b : Bool). if b then None else Some change) (sym (and_true (is_who change.who who)) ∙ sym (ap (λ (b : Bool). is_who change.who who && b) here))

  holder_stays : (who : Who) (place : ℕ) (h : Option Who) → (shard == place) ≡ false → h ≡ ended_holder (ends.One who shard) place h
  holder_stays who place None there = refl
  holder_stays who place (Some holder) there = ap (λ (b : Bool). if b then None else Some holder) (sym (and_false (is_who holder who)) ∙ sym (ap (λ (b : Bool). is_who holder who && b) there))

  change_stays : (who : Who) (place : ℕ) (c : Option Change) → (shard == place) ≡ false → c ≡ ended_change (ends.One who shard) place c
  change_stays who place None there = refl
  change_stays who place (Some change) there = ap (λ (b : Bool). if b then None else Some change) (sym (and_false (is_who change.who who)) ∙ sym (ap (λ (b : Bool). is_who change.who who && b) there))

  here_of : (k : Key) → is_on catalog shard k ≡ true → (shard == key_place catalog k) ≡ true
  here_of k on = eq-eqb shard (key_place catalog k) (sym (eqb-true (key_place catalog k) shard on))

  there_of : (k : Key) → is_on catalog shard k ≡ false → (shard == key_place catalog k) ≡ false
  there_of k off = elim (cases_Bool (shard == key_place catalog k)) [
    | inl same ↦ absurd (never (sym (eq-eqb (key_place catalog k) shard (sym (eqb-true shard (key_place catalog k) same))) ∙ off))
    | inr apart ↦ apart
  ]

  pub close_replays : (who : Who) → new shard ≡ closed who (old shard) → (k : Key) → shards_cells catalog new k ≡ after catalog (LetGo (ends.One who shard)) (shards_cells catalog old) k
  close_replays who is k = elim (cases_Bool (is_on catalog shard k)) [
    | inl on ↦ on_becomes (closed who) is k on
        ∙ ap (λ (c : Option Change). record (shards_cells catalog old k) { change = c; holder = without who (shards_cells catalog old k).holder }) (change_ends who (key_place catalog k) (shards_cells catalog old k).change (here_of k on))
        ∙ ap (λ (h : Option Who). record (shards_cells catalog old k) { change = ended_change (ends.One who shard) (key_place catalog k) (shards_cells catalog old k).change; holder = h }) (holder_ends who (key_place catalog k) (shards_cells catalog old k).holder (here_of k on))
    | inr off ↦ off_stays k off
        ∙ ap (λ (c : Option Change). record (shards_cells catalog old k) { change = c }) (change_stays who (key_place catalog k) (shards_cells catalog old k).change (there_of k off))
        ∙ ap (λ (h : Option Who). record (shards_cells catalog old k) { change = ended_change (ends.One who shard) (key_place catalog k) (shards_cells catalog old k).change; holder = h }) (holder_stays who (key_place catalog k) (shards_cells catalog old k).holder (there_of k off))
  ]
