-- What a reader would try of the one table: who sees a change, what stands in a writer's way, and what a step leaves.
use Rattle.std.proofs.Common.{◌≡◌, ◌==◌, ◌&&◌, if◌then◌else◌, ℕ, Bool, true, false, [], Option, Some, None, Contains, refl, sym, ap, subst, ◌∙◌}
use Rattle.std.proofs.lemmas.Bool.{and_from, and_parts}
use Rattle.vl_values.specs.declared.group.Group.TheVariants.{Main}
use Rattle.vl_values.specs.declared.key.Key.{Key}
use Rattle.vl_values.specs.Keyed.{is_key}
use Rattle.vl_values.proofs.KeyOrder.{is_key-same, is_key-true}
use Rattle.vl_catalog.specs.declared.catalog.Catalog.{Catalog}
use Rattle.vl_catalog.specs.declared.lookup.Lookup.{Lookup}
use Rattle.vl_port.specs.declared.act.Act.TheVariants.{Insert}
use Rattle.vl_port.specs.declared.change.Change.{Change}
use Rattle.vl_port.specs.declared.who.Who.{Who}
use Rattle.vl_port.specs.View.{Values, is_who, version_for}
use Rattle.vl_port.proofs.Naming.{is_who-same}
use Rattle.vl_run.specs.declared.ends.Ends.TheVariants as ends
use Rattle.vl_run.specs.declared.mark.Mark.TheVariants as marks
use Rattle.vl_run.specs.Deeds.{act_steps}
use Rattle.vl_run.specs.Machine.{CanStep, Clash, Machine, after, after_all, ended_change, ended_holder, is_entry, is_on, key_place, of_tx, settled_cell, taken_by, view}
use Rattle.vl_run.specs.Machine.Clash.{SameKey, SameValue}
use Rattle.vl_run.specs.Machine.Step.{LetGo, Settle, Take, Write}
use Rattle.vl_run.specs.Run.{at, committed, joined, next_tx, rows_of, state}

-- ---- views

-- a transaction reads its own pending row, or its removal
pub own_row : (u : Machine) (who : Who) (k : Key) (row : Option Values) → (u k).change ≡ Some (record { who = who; row = row }) → view u who k ≡ row
own_row u who k row changed = ap (λ c. version_for who c (u k).row) changed ∙ ap (λ b. if b then row else (u k).row) (is_who-same who)

-- and not another's
pub other_row : (u : Machine) (who : Who) (k : Key) (change : Change) → is_who change.who who ≡ false → (u k).change ≡ Some change → view u who k ≡ (u k).row
other_row u who k change other changed = ap (λ c. version_for who c (u k).row) changed ∙ ap (λ b. if b then change.row else (u k).row) other

-- ---- two writers of one key

-- a row that is inserted clashes with the row of its key that its transaction sees
pub row_clashes : (catalog : Catalog) (u : Machine) (who : Who) (key : Key) (row other : Values) → view u who key ≡ Some other → Clash catalog u who key row None
row_clashes catalog u who key row other seen = SameKey key other seen refl (is_key-same key)

-- a row that its transaction sees at a key
pub record IsSeen (u : Machine) (who : Who) (key : Key) : Type 0 where
  pub row : Values
  pub seen : view u who key ≡ Some row

-- and without unique lookups with no other
pub clashes_alone : (catalog : Catalog) (u : Machine) (who : Who) (key : Key) (row : Values) → ((lookup : Lookup) → Contains catalog.lookups lookup → lookup.unique ≡ true → ⊥) → Clash catalog u who key row None → IsSeen u who key
clashes_alone catalog u who key row none (SameKey k other seen apart same) = record { row = other; seen = subst (λ (j : Key). view u who j ≡ Some other) (sym (is_key-true key k same)) seen }
clashes_alone catalog u who key row none (SameValue lookup c k other among unique column seen apart indexed other_indexed equal) = absurd (none lookup among unique)

-- a writer can't take a key that is in the hand of another transaction
pub second_waits : (catalog : Catalog) (is_broken : ℕ → Bool) (u seen : Machine) (who other : Who) (shard : ℕ) (key : Key) (row : Values) → is_on catalog shard key ≡ true → (u key).holder ≡ Some other → (other.tx == who.tx) ≡ false
    → CanStep catalog is_broken u (Take who (taken_by catalog seen shard (Insert key row))) → ⊥
second_waits catalog is_broken u seen who other shard key row on held apart can = can key (and_from _ _ on (is_key-same key)) (other, held, apart)

-- and takes one that no other has
pub first_takes : (catalog : Catalog) (is_broken : ℕ → Bool) (u seen : Machine) (who : Who) (shard : ℕ) (key : Key) (row : Values) → (u key).holder ≡ None → CanStep catalog is_broken u (Take who (taken_by catalog seen shard (Insert key row)))
first_takes catalog is_broken u seen who shard key row free = λ k taken hand. no_holder (sym free ∙ ap (λ (j : Key). (u j).holder) (is_key-true key k (and_parts _ _ taken).1) ∙ hand.1)
  where
    no_holder : {w : Who} → None ≡ Some w → ⊥
    no_holder same = cc

-- ---- what a step leaves

pub write_leaves : (catalog : Catalog) (who : Who) (key : Key) (row : Option Values) (old : Option Key) (u : Machine) (k : Key) → is_key key k ≡ false → after catalog (Write who key row old) u k ≡ u k
write_leaves catalog who key row old u k other = ap (λ b. if b then record (u k) { change = Some (record { who = who; row = row }) } else u k) other

pub take_leaves : (catalog : Catalog) (who : Who) (keys : Key → Bool) (u : Machine) (k : Key) → keys k ≡ false → after catalog (Take who keys) u k ≡ u k
take_leaves catalog who keys u k other = ap (λ b. if b then record (u k) { holder = Some who } else u k) other

pub settle_leaves : (catalog : Catalog) (who : Who) (shard : ℕ) (u : Machine) (k : Key) → is_on catalog shard k ≡ false → after catalog (Settle who shard) u k ≡ u k
settle_leaves catalog who shard u k other = ap (λ b. if b then settled_cell who (u k) else u k) other

change_stays : (shard : ℕ) (change : Option Change) → ended_change ends.Nobody shard change ≡ change
change_stays shard None = refl
change_stays shard (Some change) = refl

holder_stays : (shard : ℕ) (holder : Option Who) → ended_holder ends.Nobody shard holder ≡ holder
holder_stays shard None = refl
holder_stays shard (Some who) = refl

-- where nobody ends nothing changes
pub nobody_goes : (catalog : Catalog) (u : Machine) (k : Key) → after catalog (LetGo ends.Nobody) u k ≡ u k
nobody_goes catalog u k =
    ap (λ c. record (u k) { change = c; holder = ended_holder ends.Nobody (key_place catalog k) (u k).holder }) (change_stays (key_place catalog k) (u k).change)
    ∙ ap (λ h. record (u k) { holder = h }) (holder_stays (key_place catalog k) (u k).holder)

-- ---- the effect of an INSERT's row

-- the row is the transaction's own
pub insert_writes : (catalog : Catalog) (n tx shard : ℕ) (key : Key) (row : Values) (u seen : Machine)
    → (after_all catalog (act_steps catalog seen marks.Writes (of_tx n tx Main) shard (Insert key row)) u key).change ≡ Some (record { who = of_tx n tx Main; row = Some row })
insert_writes catalog n tx shard key row u seen =
    ap
    (λ b. (if b then record (after catalog (Take (of_tx n tx Main) (taken_by catalog seen shard (Insert key row))) u key) { change = Some (record { who = of_tx n tx Main; row = Some row }) } else after catalog (Take (of_tx n tx Main) (taken_by catalog seen shard (Insert key row))) u key).change)
    (is_key-same key)

-- and its key is in the transaction's hand
pub insert_takes : (catalog : Catalog) (n tx shard : ℕ) (key : Key) (row : Values) (u seen : Machine) → is_on catalog shard key ≡ true
    → (after catalog (Take (of_tx n tx Main) (taken_by catalog seen shard (Insert key row))) u key).holder ≡ Some (of_tx n tx Main)
insert_takes catalog n tx shard key row u seen on = ap (λ b. (if b then record (u key) { holder = Some (of_tx n tx Main) } else u key).holder) (and_from _ _ on (is_key-same key))

-- ---- a run without events

no_row : (entry : Bool) → rows_of entry None ≡ None
no_row true = refl
no_row false = refl

pub nothing_yet : (catalog : Catalog) (k : Key) → state catalog [] k ≡ record { row = None; change = None; holder = None }
nothing_yet catalog k = ap (λ row. record { row = row; change = None; holder = None }) (no_row (is_entry catalog k))

pub nothing_committed : (catalog : Catalog) (k : Key) → committed catalog [] k ≡ None
nothing_committed catalog k = refl

pub nobody_joined : joined [] ≡ []
nobody_joined = refl

pub no_event : at [] ≡ 0
no_event = refl

pub first_transaction : next_tx [] ≡ 1
first_transaction = refl
