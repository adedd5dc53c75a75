-- What a shard shows of a key is a row that stands on it, and each call leaves it so.
use Rattle.std.proofs.Common.{◌≡◌, ◌⊎◌, ℕ, Bool, true, false, cond, List, Contains, inl, inr, sym, ◌∙◌, ap, subst, refl, Option, Some, None}
use Rattle.vl_catalog.specs.declared.catalog.Catalog.{Catalog}
use Rattle.vl_catalog.specs.Fitting.{IsPlacedKey, IsPlacedRow}
use Rattle.vl_values.specs.declared.key.Key.{Key}
use Rattle.vl_values.specs.declared.lost_why.LostWhy.{LostWhy}
use Rattle.vl_values.specs.declared.pred.Pred.{Pred}
use Rattle.vl_values.proofs.KeyOrder.{is_key-true}
use Rattle.vl_port.specs.declared.act.Act.{Act}
use Rattle.vl_port.specs.declared.act.Act.TheVariants.{Insert, Put, Remove, RemoveIf, Find}
use Rattle.vl_port.specs.declared.answer.Answer.{Answer}
use Rattle.vl_port.specs.declared.answer.Answer.TheVariants.{Done, Unchanged, Rows, Found, Held, Lost, Device, Limit, Memory}
use Rattle.vl_port.specs.declared.carried.Carried.{Carried}
use Rattle.vl_port.specs.declared.carried.Carried.TheVariants.{Passed, LostBefore, LostAfter}
use Rattle.vl_port.specs.declared.change.Change.{Change}
use Rattle.vl_port.specs.declared.committed.Committed.{Committed}
use Rattle.vl_port.specs.declared.committed.Committed.TheVariants as outcome
use Rattle.vl_port.specs.declared.fate.Fate.{Fate}
use Rattle.vl_port.specs.declared.fate.Fate.TheVariants as fates
use Rattle.vl_port.specs.declared.who.Who.{Who}
use Rattle.vl_port.specs.View.{View, Values, has_group, is_who, version_for, standing}
use Rattle.vl_port.specs.Reading.{IsRead}
use Rattle.vl_port.specs.Holding.{needs}
use Rattle.vl_port.specs.Acting.{taken, written, row_left, settled, Acted, CanWrite}
use Rattle.vl_port.specs.Carrying.{ActsThere, Carries, Closes, CommitCarries, CommitUses, Commits, Does, Uses}
use Rattle.vl_port.specs.Life.{Reaches, closed, cut, decided, doubted, downed, downed_in, dropped, lost_as, loss_of, opened, raised}
use Rattle.vl_port.specs.Placing.{IsActOn, ArePlaced}
use Rattle.vl_port.proofs.Lives.{chosen, some_one, none_some}
use Rattle.vl_port.proofs.Keeps.{dropped_some}

-- ---- what is shown

version_placed : (catalog : Catalog) (shard : ℕ) (view : View) (who : Who) (key : Key) (row : Values) (o : Option Change) → ArePlaced catalog shard view → view.pending key ≡ o
    → version_for who o (view.committed key) ≡ Some row → IsPlacedRow catalog shard key row
version_placed catalog shard view who key row None placed is h = placed.committed key row h
version_placed catalog shard view who key row (Some change) placed is h =
    elim (chosen (is_who change.who who) change.row (view.committed key)) [
      | inl own ↦ placed.pending key change row is (sym own.1 ∙ h)
      | inr other ↦ placed.committed key row (sym other.1 ∙ h)
    ]

-- the version that a shard session sees of a key
pub standing_placed : (catalog : Catalog) (shard : ℕ) (view : View) (who : Who) (key : Key) (row : Values) → ArePlaced catalog shard view → standing view who key ≡ Some row → IsPlacedRow catalog shard key row
standing_placed catalog shard view who key row placed h = version_placed catalog shard view who key row (view.pending key) placed refl h

-- each row that a read gives
pub read_placed : (catalog : Catalog) (shard : ℕ) (view : View) (who : Who) (pred : Pred) (rows : List (Key × Values)) (p : Key × Values) → ArePlaced catalog shard view → IsRead view who pred rows
    → Contains rows p → IsPlacedRow catalog shard p.0 p.1
read_placed catalog shard view who pred rows p placed read here = standing_placed catalog shard view who p.0 p.1 placed (read.sound p here).0

-- ---- what the steps of a call leave

placed_opened : (catalog : Catalog) (shard : ℕ) (view : View) (who : Who) → ArePlaced catalog shard view → ArePlaced catalog shard (opened who view)
placed_opened catalog shard view who placed = record { committed = placed.committed; pending = placed.pending; changed = placed.changed; doubted = placed.doubted }

placed_taken : (catalog : Catalog) (shard : ℕ) (view : View) (who : Who) (act : Act) → ArePlaced catalog shard view → ArePlaced catalog shard (taken who act view)
placed_taken catalog shard view who act placed = record { committed = placed.committed; pending = placed.pending; changed = placed.changed; doubted = placed.doubted }

-- the row that a write leaves at its key
left_placed : (catalog : Catalog) (shard : ℕ) (view : View) (act : Act) (key : Key) (row : Values) → IsActOn catalog shard act → needs view act key ≡ true → row_left act ≡ Some row → IsPlacedRow catalog shard key row
left_placed catalog shard view (Insert k r) key row fits needed left = subst (λ (x : Key). IsPlacedRow catalog shard x row) (is_key-true k key needed) (subst (λ (x : Values). IsPlacedRow catalog shard k x) (some_one r row left) fits)
left_placed catalog shard view (Put k r) key row fits needed left = subst (λ (x : Key). IsPlacedRow catalog shard x row) (is_key-true k key needed) (subst (λ (x : Values). IsPlacedRow catalog shard k x) (some_one r row left) fits)
left_placed catalog shard view (Remove k) key row fits needed left = absurd (none_some row left)
left_placed catalog shard view (RemoveIf k column value) key row fits needed left = absurd (none_some row left)
left_placed catalog shard view (Find pred locking) key row fits needed left = absurd (none_some row left)

written_pending : (catalog : Catalog) (shard : ℕ) (view : View) (who : Who) (act : Act) (key : Key) (change : Change) (row : Values) → ArePlaced catalog shard view → IsActOn catalog shard act
    → (written who act view).pending key ≡ Some change → change.row ≡ Some row → IsPlacedRow catalog shard key row
written_pending catalog shard view who act key change row placed fits h left =
    elim (chosen (needs view act key) (Some (record { who = who; row = row_left act })) (view.pending key)) [
      | inl own ↦ left_placed catalog shard view act key row fits own.0 (ap (λ (c : Change). c.row) (some_one _ change (sym own.1 ∙ h)) ∙ left)
      | inr other ↦ placed.pending key change row (sym other.1 ∙ h) left
    ]

-- the key of a write that can be done
key_placed : (catalog : Catalog) (shard : ℕ) (view : View) (who : Who) (act : Act) (key : Key) → IsActOn catalog shard act → CanWrite view who act → needs view act key ≡ true → IsPlacedKey catalog shard key
key_placed catalog shard view who (Insert k r) key fits can needed = subst (IsPlacedKey catalog shard) (is_key-true k key needed) (r, fits)
key_placed catalog shard view who (Put k r) key fits can needed = subst (IsPlacedKey catalog shard) (is_key-true k key needed) (r, fits)
key_placed catalog shard view who (Remove k) key fits can needed = subst (IsPlacedKey catalog shard) (is_key-true k key needed) fits
key_placed catalog shard view who (RemoveIf k column value) key fits can needed = subst (IsPlacedKey catalog shard) (is_key-true k key needed) fits.0
key_placed catalog shard view who (Find pred locking) key fits can needed = absurd can

written_changed : (catalog : Catalog) (shard : ℕ) (view : View) (who : Who) (act : Act) (key : Key) (change : Change) → ArePlaced catalog shard view → IsActOn catalog shard act → CanWrite view who act
    → (written who act view).pending key ≡ Some change → IsPlacedKey catalog shard key
written_changed catalog shard view who act key change placed fits can h =
    elim (chosen (needs view act key) (Some (record { who = who; row = row_left act })) (view.pending key)) [
      | inl own ↦ key_placed catalog shard view who act key fits can own.0
      | inr other ↦ placed.changed key change (sym other.1 ∙ h)
    ]

placed_written : (catalog : Catalog) (shard : ℕ) (view : View) (who : Who) (act : Act) → ArePlaced catalog shard view → IsActOn catalog shard act → CanWrite view who act → ArePlaced catalog shard (written who act view)
placed_written catalog shard view who act placed fits can = record {
  changed = λ key change h. written_changed catalog shard view who act key change placed fits can h;
  committed = placed.committed;
  pending = λ key change row h left. written_pending catalog shard view who act key change row placed fits h left;
  doubted = placed.doubted;
}

placed_dropped : (catalog : Catalog) (shard : ℕ) (view : View) (who : Who) → ArePlaced catalog shard view → ArePlaced catalog shard (closed who view)
placed_dropped catalog shard view who placed = record {
  committed = placed.committed;
  pending = λ key change row h left. placed.pending key change row (dropped_some who (view.pending key) change h).0 left;
  changed = λ key change h. placed.changed key change (dropped_some who (view.pending key) change h).0;
  doubted = placed.doubted;
}

placed_settled : (catalog : Catalog) (shard : ℕ) (view : View) (who : Who) → ArePlaced catalog shard view → ArePlaced catalog shard (settled who view)
placed_settled catalog shard view who placed = record {
  committed = λ key row h. standing_placed catalog shard view who key row placed h;
  pending = λ key change row h left. placed.pending key change row (dropped_some who (view.pending key) change h).0 left;
  changed = λ key change h. placed.changed key change (dropped_some who (view.pending key) change h).0;
  doubted = placed.doubted;
}

-- ---- a session is lost, a shard goes down and comes up

lost_some : (b : Bool) (who : Who) (o : Option Change) (change : Change) → cond b (dropped who o) o ≡ Some change → o ≡ Some change
lost_some true who o change h = (dropped_some who o change h).0
lost_some false who o change h = h

pub placed_lost : (catalog : Catalog) (shard : ℕ) (fate : Fate) (view : View) (who : Who) → ArePlaced catalog shard view → ArePlaced catalog shard (lost_as fate who view)
placed_lost catalog shard fate view who placed = record {
  committed = placed.committed;
  pending = λ key change row h left. placed.pending key change row (lost_some (has_group who.group) who (view.pending key) change h) left;
  changed = λ key change h. placed.changed key change (lost_some (has_group who.group) who (view.pending key) change h);
  doubted = placed.doubted;
}

placed_cut : (catalog : Catalog) (shard : ℕ) (view : View) (who : Who) → ArePlaced catalog shard view → ArePlaced catalog shard (cut who view)
placed_cut catalog shard view who placed = placed_lost catalog shard fates.Cut (opened who view) who (placed_opened catalog shard view who placed)

pub placed_downed : (catalog : Catalog) (shard : ℕ) (view : View) → ArePlaced catalog shard view → ArePlaced catalog shard (downed view)
placed_downed catalog shard view placed = record {
  committed = placed.committed;
  pending = λ key change row h left. absurd (none_some change h);
  changed = λ key change h. absurd (none_some change h);
  doubted = placed.doubted;
}

-- a row in doubt was pending
doubted_some : (who : Who) (o : Option Change) (row : Values) → doubted who o ≡ Some (Some row) → (change : Change) × (o ≡ Some change) × (change.row ≡ Some row)
doubted_some who None row h = absurd (none_some (Some row) h)
doubted_some who (Some change) row h =
    elim (chosen (is_who change.who who) (Some change.row) None) [
      | inl own ↦ (change, refl, some_one change.row (Some row) (sym own.1 ∙ h))
      | inr other ↦ absurd (none_some (Some row) (sym other.1 ∙ h))
    ]

placed_downed_in : (catalog : Catalog) (shard : ℕ) (view : View) (who : Who) → ArePlaced catalog shard view → ArePlaced catalog shard (downed_in who view)
placed_downed_in catalog shard view who placed = record {
  committed = placed.committed;
  pending = λ key change row h left. absurd (none_some change h);
  changed = λ key change h. absurd (none_some change h);
  doubted = λ key row h. let d = doubted_some who (view.pending key) row h in placed.pending key d.0 row d.1 d.2;
}

decided_placed : (catalog : Catalog) (shard : ℕ) (view : View) (key : Key) (row : Values) (o : Option (Option Values)) → ArePlaced catalog shard view → view.doubt key ≡ o → decided o (view.committed key) ≡ Some row
    → IsPlacedRow catalog shard key row
decided_placed catalog shard view key row None placed is h = placed.committed key row h
decided_placed catalog shard view key row (Some left) placed is h = placed.doubted key row (is ∙ ap Some h)

raised_placed : (catalog : Catalog) (shard : ℕ) (view : View) (shown : Bool) (key : Key) (row : Values) → ArePlaced catalog shard view → cond shown (decided (view.doubt key) (view.committed key)) (view.committed key) ≡ Some row
    → IsPlacedRow catalog shard key row
raised_placed catalog shard view true key row placed h = decided_placed catalog shard view key row (view.doubt key) placed refl h
raised_placed catalog shard view false key row placed h = placed.committed key row h

pub placed_raised : (catalog : Catalog) (shard : ℕ) (view : View) (shown : Bool) → ArePlaced catalog shard view → ArePlaced catalog shard (raised shown view)
placed_raised catalog shard view shown placed = record {
  committed = λ key row h. raised_placed catalog shard view shown key row placed h;
  pending = placed.pending;
  changed = placed.changed;
  doubted = λ key row h. absurd (none_some (Some row) h);
}

-- ---- an act

along : (catalog : Catalog) (shard : ℕ) (view new : View) → new ≡ view → ArePlaced catalog shard view → ArePlaced catalog shard new
along catalog shard view new is placed = subst (ArePlaced catalog shard) (sym is) placed

placed_reached : (catalog : Catalog) (shard : ℕ) (old there : View) → Reaches old there → ArePlaced catalog shard old → ArePlaced catalog shard there
placed_reached catalog shard old there (inl same) placed = along catalog shard old there same.1 placed
placed_reached catalog shard old there (inr raises) placed = along catalog shard _ there raises.1.1 (placed_raised catalog shard old raises.1.0 placed)

module _ (catalog : Catalog) (shard : ℕ) (old new : View) (who : Who) (act : Act) (placed : ArePlaced catalog shard old) (fits : IsActOn catalog shard act) where
  placed_acted : (answer : Answer) → Acted old who act answer new → ArePlaced catalog shard new
  placed_acted Done h = along catalog shard _ new h.2 (placed_written catalog shard old who act placed fits h.1)
  placed_acted Unchanged h = along catalog shard _ new h.2 (placed_taken catalog shard old who act placed)
  placed_acted (Rows rows) h = along catalog shard _ new h.2 (placed_taken catalog shard old who act placed)
  placed_acted (Found key row) h = along catalog shard _ new h.2 (placed_taken catalog shard old who act placed)
  placed_acted (Held by key) h = along catalog shard _ new h.1 (placed_opened catalog shard old who placed)
  placed_acted (Lost why) h = absurd h
  placed_acted Device h = absurd h
  placed_acted (Limit what count) h = along catalog shard _ new h.2 (placed_opened catalog shard old who placed)
  placed_acted Memory h = along catalog shard old new h placed

module _ (catalog : Catalog) (shard : ℕ) (old new : View) (who : Who) (act : Act) (placed : ArePlaced catalog shard old) (fits : IsActOn catalog shard act) where
  placed_there : (answer : Answer) → ActsThere old who act answer new → ArePlaced catalog shard new
  placed_there answer h = placed_acted catalog shard h.0 new who act (placed_reached catalog shard old h.0 h.1 placed) fits answer h.2

  placed_memory : (new ≡ old) ⊎ Reaches old new → ArePlaced catalog shard new
  placed_memory (inl same) = along catalog shard old new same placed
  placed_memory (inr reaches) = placed_reached catalog shard old new reaches placed

  placed_does : (answer : Answer) → Does old who act answer new → ArePlaced catalog shard new
  placed_does Done h = placed_there Done h
  placed_does Unchanged h = placed_there Unchanged h
  placed_does (Rows rows) h = placed_there (Rows rows) h
  placed_does (Found key row) h = placed_there (Found key row) h
  placed_does (Held by key) h = placed_there (Held by key) h
  placed_does (Limit what count) h = placed_there (Limit what count) h
  placed_does (Lost why) h = absurd h
  placed_does Device h = along catalog shard _ new h.1 (placed_cut catalog shard old who placed)
  placed_does Memory h = placed_memory h

  placed_used : (loss : Option LostWhy) (answer : Answer) → Uses loss old who act answer new → ArePlaced catalog shard new
  placed_used None answer h = placed_does answer h
  placed_used (Some loss) answer h = along catalog shard old new h.1 placed

pub placed_carried : (catalog : Catalog) (shard : ℕ) (way : Carried) (old new : View) (who : Who) (act : Act) (answer : Answer) → ArePlaced catalog shard old → IsActOn catalog shard act → Carries way old who act answer new
    → ArePlaced catalog shard new
placed_carried catalog shard Passed old new who act answer placed fits h = placed_used catalog shard old new who act placed fits (loss_of old who) answer h
placed_carried catalog shard LostBefore old new who act answer placed fits (inl full) = along catalog shard old new full.1 placed
placed_carried catalog shard LostBefore old new who act answer placed fits (inr off) = along catalog shard _ new off.1 (placed_cut catalog shard old who placed)
placed_carried catalog shard LostAfter old new who act answer placed fits (inl full) = placed_used catalog shard old new who act placed fits (loss_of old who) Memory full.1
placed_carried catalog shard LostAfter old new who act answer placed fits (inr lost) =
    along catalog shard _ new lost.4.1 (placed_cut catalog shard lost.1 who (placed_used catalog shard old lost.1 who act placed fits (loss_of old who) lost.0 lost.3))

-- ---- a commit and a close

pub placed_closed : (catalog : Catalog) (shard : ℕ) (old new : View) (who : Who) → ArePlaced catalog shard old → Closes old who new → ArePlaced catalog shard new
placed_closed catalog shard old new who placed h = along catalog shard _ new h (placed_dropped catalog shard old who placed)

placed_commits : (catalog : Catalog) (shard : ℕ) (old new : View) (who : Who) (told : Committed) → ArePlaced catalog shard old → Commits old who told new → ArePlaced catalog shard new
placed_commits catalog shard old new who outcome.Done placed h = along catalog shard _ new h (placed_settled catalog shard old who placed)
placed_commits catalog shard old new who (outcome.Lost why) placed h = absurd h
placed_commits catalog shard old new who outcome.Device placed h = along catalog shard _ new h.1 (placed_dropped catalog shard (downed_in who old) who (placed_downed_in catalog shard old who placed))

placed_commit_uses : (catalog : Catalog) (shard : ℕ) (loss : Option LostWhy) (old new : View) (who : Who) (told : Committed) → ArePlaced catalog shard old → CommitUses loss old who told new → ArePlaced catalog shard new
placed_commit_uses catalog shard None old new who told placed h = placed_commits catalog shard old new who told placed h
placed_commit_uses catalog shard (Some loss) old new who told placed h = placed_closed catalog shard old new who placed h.1

pub placed_commit : (catalog : Catalog) (shard : ℕ) (way : Carried) (old new : View) (who : Who) (told : Committed) → ArePlaced catalog shard old → CommitCarries way old who told new → ArePlaced catalog shard new
placed_commit catalog shard Passed old new who told placed h = placed_commit_uses catalog shard (loss_of old who) old new who told placed h
placed_commit catalog shard LostBefore old new who told placed h = placed_closed catalog shard old new who placed h.1
placed_commit catalog shard LostAfter old new who told placed h = placed_commit_uses catalog shard (loss_of old who) old new who h.1.0 placed h.1.1
