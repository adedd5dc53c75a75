-- The one table is what the shards show with entries left blank: its steps are theirs.
use Rattle.std.proofs.Common.{◌≡◌, ◌==◌, ◌&&◌, ◌++◌, if◌then◌else◌, ℕ, Bool, true, false, List, [], ◌∷◌, Option, Some, None, refl, sym, ap, ◌∙◌, inl, inr}
use Rattle.std.proofs.lemmas.Bool.{cases_Bool, eqb-true, eq-eqb}
use Rattle.vl_values.specs.declared.group.Group.{Group}
use Rattle.vl_values.specs.declared.group.Group.TheVariants.{Pre, Main, Post}
use Rattle.vl_values.specs.declared.key.Key.{Key}
use Rattle.vl_values.specs.Keyed.{is_key}
use Rattle.vl_values.proofs.KeyOrder.{is_key-true}
use Rattle.vl_catalog.specs.declared.catalog.Catalog.{Catalog}
use Rattle.vl_port.specs.declared.act.Act.{Act}
use Rattle.vl_port.specs.declared.act.Act.TheVariants.{Insert, Put, Remove, RemoveIf, Find}
use Rattle.vl_port.specs.declared.change.Change.{Change}
use Rattle.vl_port.specs.declared.who.Who.{Who}
use Rattle.vl_port.specs.Acting.{row_left}
use Rattle.vl_port.specs.Life.{dropped, without}
use Rattle.vl_port.specs.View.{Values, is_who, version_for}
use Rattle.vl_replay.specs.Lanes.{IsActInLane, IsLane}
use Rattle.vl_run.specs.declared.deed.Deed.{Deed}
use Rattle.vl_run.specs.declared.deed.Deed.TheVariants as deeds
use Rattle.vl_run.specs.declared.ends.Ends.{Ends}
use Rattle.vl_run.specs.declared.ends.Ends.TheVariants as ends
use Rattle.vl_run.specs.declared.mark.Mark.{Mark}
use Rattle.vl_run.specs.declared.mark.Mark.TheVariants as marks
use Rattle.vl_run.specs.Deeds.{act_steps, act_takes, commit_steps, deed_moves, deed_steps, replaced, row_writes, version_writes, writes}
use Rattle.vl_run.specs.Machine.{Cell, Machine, Step, after, after_all, ended_change, ended_holder, is_entry, is_on, key_place, let_go, settled_cell, taken_by}
use Rattle.vl_run.specs.Machine.Step.{LetGo, Settle, Take, Write}
use Rattle.vl_run.specs.Replays.{changes_of}
use Rattle.vl_run.specs.Run.{rows_of}

-- ---- a cell

abbrev pub blank_cell : Bool → Cell → Cell
blank_cell entry c = record c { row = rows_of entry c.row; change = changes_of entry c.change }

take_blank : (who : Who) (entry taken : Bool) (c : Cell) → (if taken then record (blank_cell entry c) { holder = Some who } else blank_cell entry c) ≡ blank_cell entry (if taken then record c { holder = Some who } else c)
take_blank who entry true c = refl
take_blank who entry false c = refl

let_go_blank : (gone : Ends) (place : ℕ) (entry : Bool) (c : Cell) → let_go gone place (blank_cell entry c) ≡ blank_cell entry (let_go gone place c)
let_go_blank gone place true c = refl
let_go_blank gone place false c = refl

settled_blank : (who : Who) (entry : Bool) (c : Cell) → settled_cell who (blank_cell entry c) ≡ blank_cell entry (settled_cell who c)
settled_blank who true c = refl
settled_blank who false c = refl

settle_blank : (who : Who) (entry on : Bool) (c : Cell) → (if on then settled_cell who (blank_cell entry c) else blank_cell entry c) ≡ blank_cell entry (if on then settled_cell who c else c)
settle_blank who entry true c = settled_blank who entry c
settle_blank who entry false c = refl

-- a row is written where the key is no entry's
write_blank : (change : Change) (entry same : Bool) (c : Cell) → (same ≡ true → entry ≡ false) → (if same then record (blank_cell entry c) { change = Some change } else blank_cell entry c) ≡ blank_cell entry (if same then record c { change = Some change } else c)
write_blank change true true c row = absurd (never (row refl))
  where
    never : true ≡ false → ⊥
    never same = cc
write_blank change false true c row = refl
write_blank change true false c row = refl
write_blank change false false c row = refl

-- and an entry's version is none of the one table
write_hidden : (change : Change) (entry same : Bool) (c : Cell) → (same ≡ true → entry ≡ true) → blank_cell entry c ≡ blank_cell entry (if same then record c { change = Some change } else c)
write_hidden change false true c hidden = absurd (never (hidden refl))
  where
    never : false ≡ true → ⊥
    never same = cc
write_hidden change true true c hidden = refl
write_hidden change true false c hidden = refl
write_hidden change false false c hidden = refl

-- ---- the commit of a session of pre or post, which has no row

holder_gone : (who : Who) (shard place : ℕ) (here : Bool) (h : Option Who) → (shard == place) ≡ here → ended_holder (ends.One who shard) place h ≡ (if here then without who h else h)
holder_gone who shard place true None is = refl
holder_gone who shard place false None is = refl
holder_gone who shard place here (Some holder) is = ap (λ (b : Bool). if is_who holder who && b then None else Some holder) is ∙ by_here here
  where
    by_here : (here : Bool) → (if is_who holder who && here then None else Some holder) ≡ (if here then without who (Some holder) else Some holder)
    by_here true = ap (λ (b : Bool). if b then None else Some holder) (and_true (is_who holder who))
      where
        and_true : (b : Bool) → (b && true) ≡ b
        and_true true = refl
        and_true false = refl
    by_here false = ap (λ (b : Bool). if b then None else Some holder) (and_false (is_who holder who))
      where
        and_false : (b : Bool) → (b && false) ≡ false
        and_false true = refl
        and_false false = refl

change_gone : (who : Who) (shard place : ℕ) (here : Bool) (c : Option Change) → (shard == place) ≡ here → ended_change (ends.One who shard) place c ≡ (if here then dropped who c else c)
change_gone who shard place true None is = refl
change_gone who shard place false None is = refl
change_gone who shard place here (Some change) is = ap (λ (b : Bool). if is_who change.who who && b then None else Some change) is ∙ by_here here
  where
    by_here : (here : Bool) → (if is_who change.who who && here then None else Some change) ≡ (if here then dropped who (Some change) else Some change)
    by_here true = ap (λ (b : Bool). if b then None else Some change) (and_true (is_who change.who who))
      where
        and_true : (b : Bool) → (b && true) ≡ b
        and_true true = refl
        and_true false = refl
    by_here false = ap (λ (b : Bool). if b then None else Some change) (and_false (is_who change.who who))
      where
        and_false : (b : Bool) → (b && false) ≡ false
        and_false true = refl
        and_false false = refl

same_place : (m n : ℕ) (b : Bool) → (m == n) ≡ b → (n == m) ≡ b
same_place m n true same = eq-eqb n m (sym (eqb-true m n same))
same_place m n false apart = elim (cases_Bool (n == m)) [
  | inl same ↦ absurd (never (sym (eq-eqb m n (sym (eqb-true n m same))) ∙ apart))
  | inr other ↦ other
]
  where
    never : true ≡ false → ⊥
    never same = cc

-- without a change of its own a session's commit leaves a row as it is
row_stays : (who : Who) (c : Option Change) (row : Option Values) → ((change : Change) → c ≡ Some change → is_who change.who who ≡ true → ⊥) → version_for who c row ≡ row
row_stays who None row foreign = refl
row_stays who (Some change) row foreign = elim (cases_Bool (is_who change.who who)) [
  | inl own ↦ absurd (foreign change refl own)
  | inr other ↦ ap (λ (b : Bool). if b then change.row else row) other
]

entry_blank : (who : Who) (shard place : ℕ) (entry here : Bool) (c : Cell) → (shard == place) ≡ here → (here ≡ true → (change : Change) → c.change ≡ Some change → is_who change.who who ≡ true → entry ≡ true)
    → let_go (ends.One who shard) place (blank_cell entry c) ≡ blank_cell entry (if here then settled_cell who c else c)
entry_blank who shard place true true c is foreign = ap (λ (h : Option Who). record c { row = None; change = None; holder = h }) (holder_gone who shard place true c.holder is)
entry_blank who shard place true false c is foreign = ap (λ (h : Option Who). record c { row = None; change = None; holder = h }) (holder_gone who shard place false c.holder is)
entry_blank who shard place false true c is foreign =
    ap (λ (h : Option Who). record c { change = ended_change (ends.One who shard) place c.change; holder = h }) (holder_gone who shard place true c.holder is)
    ∙ ap (λ (d : Option Change). record c { change = d; holder = without who c.holder }) (change_gone who shard place true c.change is)
    ∙ ap (λ (r : Option Values). record { row = r; change = dropped who c.change; holder = without who c.holder }) (sym (row_stays who c.change c.row none))
  where
    none : (change : Change) → c.change ≡ Some change → is_who change.who who ≡ true → ⊥
    none change changed own = never (foreign refl change changed own)
      where
        never : false ≡ true → ⊥
        never same = cc
entry_blank who shard place false false c is foreign =
    ap (λ (h : Option Who). record c { change = ended_change (ends.One who shard) place c.change; holder = h }) (holder_gone who shard place false c.holder is)
    ∙ ap (λ (d : Option Change). record c { change = d }) (change_gone who shard place false c.change is)

-- ---- the machine

module _ (catalog : Catalog) where
  abbrev pub blank : Machine → Machine
  blank u k = blank_cell (is_entry catalog k) (u k)

  -- a deed in its lane: a write of main is of a row, one of pre and post of an entry, and so is what a commit settles
  abbrev pub IsWriteInLane : Mark → Option Group → Act → Type 0
  IsWriteInLane marks.Opens group act = Unit {0}
  IsWriteInLane marks.Takes group act = Unit {0}
  IsWriteInLane marks.Looks group act = Unit {0}
  IsWriteInLane marks.Reads group act = Unit {0}
  IsWriteInLane marks.Writes group act = IsActInLane catalog group act

  abbrev pub IsCommitInLane : Machine → Who → ℕ → Type 0
  IsCommitInLane u who shard = (k : Key) (change : Change) → is_on catalog shard k ≡ true → (u k).change ≡ Some change → is_who change.who who ≡ true → IsLane who.group (is_entry catalog k)

  abbrev pub IsDeedInLane : Machine → Deed → Type 0
  IsDeedInLane u deeds.Nothing = Unit {0}
  IsDeedInLane u (deeds.Acts who shard act mark) = IsWriteInLane mark who.group act
  IsDeedInLane u (deeds.Commits who shard) = ((who.group ≡ None) → ⊥) × IsCommitInLane u who shard
  IsDeedInLane u (deeds.Fails who shard) = Unit {0}

  pub after_let_go : (gone : Ends) (u : Machine) (k : Key) → after catalog (LetGo gone) (blank u) k ≡ blank (after catalog (LetGo gone) u) k
  after_let_go gone u k = let_go_blank gone (key_place catalog k) (is_entry catalog k) (u k)

  pub after_take : (who : Who) (keys : Key → Bool) (u : Machine) (k : Key) → after catalog (Take who keys) (blank u) k ≡ blank (after catalog (Take who keys) u) k
  after_take who keys u k = take_blank who (is_entry catalog k) (keys k) (u k)

  entry_same : (key k : Key) (b : Bool) → is_entry catalog key ≡ b → is_key key k ≡ true → is_entry catalog k ≡ b
  entry_same key k b is same = ap (λ (j : Key). is_entry catalog j) (sym (is_key-true key k same)) ∙ is

  after_write : (who : Who) (key : Key) (row : Option Values) (old : Option Key) (u : Machine) → is_entry catalog key ≡ false → (k : Key) → after catalog (Write who key row old) (blank u) k ≡ blank (after catalog (Write who key row old) u) k
  after_write who key row old u is k = write_blank (record { who = who; row = row }) (is_entry catalog k) (is_key key k) (u k) (entry_same key k false is)

  after_hidden : (who : Who) (key : Key) (row : Option Values) (old : Option Key) (u : Machine) → is_entry catalog key ≡ true → (k : Key) → blank u k ≡ blank (after catalog (Write who key row old) u) k
  after_hidden who key row old u is k = write_hidden (record { who = who; row = row }) (is_entry catalog k) (is_key key k) (u k) (entry_same key k true is)

  -- what a write of the key does to both, by the group of its session
  key_written : (group : Option Group) (who : Who) (act : Act) (key : Key) (u : Machine) → IsLane group (is_entry catalog key) → writes who act ≡ Write who key (row_left act) (replaced act) ∷ []
      → (k : Key) → after_all catalog (row_writes group who act) (blank u) k ≡ blank (after_all catalog (writes who act) u) k
  key_written None who act key u lane is k = absurd lane
  key_written (Some Pre) who act key u lane is k = after_hidden who key (row_left act) (replaced act) u lane k ∙ ap (λ (steps : List Step). blank (after_all catalog steps u) k) (sym is)
  key_written (Some Main) who act key u lane is k =
      ap (λ (steps : List Step). after_all catalog steps (blank u) k) is ∙ after_write who key (row_left act) (replaced act) u lane k ∙ ap (λ (steps : List Step). blank (after_all catalog steps u) k) (sym is)
  key_written (Some Post) who act key u lane is k = after_hidden who key (row_left act) (replaced act) u lane k ∙ ap (λ (steps : List Step). blank (after_all catalog steps u) k) (sym is)

  nothing_written : (group : Option Group) (who : Who) (act : Act) (u : Machine) → writes who act ≡ [] → (k : Key) → after_all catalog (row_writes group who act) (blank u) k ≡ blank (after_all catalog (writes who act) u) k
  nothing_written None who act u is k = ap (λ (steps : List Step). blank (after_all catalog steps u) k) (sym is)
  nothing_written (Some Pre) who act u is k = ap (λ (steps : List Step). blank (after_all catalog steps u) k) (sym is)
  nothing_written (Some Main) who act u is k = ap (λ (steps : List Step). after_all catalog steps (blank u) k) is ∙ ap (λ (steps : List Step). blank (after_all catalog steps u) k) (sym is)
  nothing_written (Some Post) who act u is k = ap (λ (steps : List Step). blank (after_all catalog steps u) k) (sym is)

  act_written : (group : Option Group) (who : Who) (act : Act) (u : Machine) → IsActInLane catalog group act → (k : Key) → after_all catalog (row_writes group who act) (blank u) k ≡ blank (after_all catalog (writes who act) u) k
  act_written group who (Insert key row) u lane k = key_written group who (Insert key row) key u lane refl k
  act_written group who (Put key row) u lane k = key_written group who (Put key row) key u lane refl k
  act_written group who (Remove key) u lane k = key_written group who (Remove key) key u lane refl k
  act_written group who (RemoveIf key column value) u lane k = key_written group who (RemoveIf key column value) key u lane refl k
  act_written group who (Find pred locking) u lane k = nothing_written group who (Find pred locking) u refl k

  -- a commit, by the group of its session
  committed_blank : (group : Option Group) (who : Who) (shard : ℕ) (u : Machine) → ((group ≡ None) → ⊥)
      → ((k : Key) (change : Change) → is_on catalog shard k ≡ true → (u k).change ≡ Some change → is_who change.who who ≡ true → IsLane group (is_entry catalog k))
      → (k : Key) → after_all catalog (commit_steps group who shard) (blank u) k ≡ blank (after catalog (Settle who shard) u) k
  committed_blank None who shard u grouped lanes k = absurd (grouped refl)
  committed_blank (Some Pre) who shard u grouped lanes k = entry_blank who shard (key_place catalog k) (is_entry catalog k) (is_on catalog shard k) (u k) (same_place (key_place catalog k) shard (is_on catalog shard k) refl) (λ on change. lanes k change on)
  committed_blank (Some Main) who shard u grouped lanes k = settle_blank who (is_entry catalog k) (is_on catalog shard k) (u k)
  committed_blank (Some Post) who shard u grouped lanes k = entry_blank who shard (key_place catalog k) (is_entry catalog k) (is_on catalog shard k) (u k) (same_place (key_place catalog k) shard (is_on catalog shard k) refl) (λ on change. lanes k change on)

  -- the steps of a deed in its lane do to the one table what its moves do to the shards
  module _ (seen : Machine) where
    act_blank : (mark : Mark) (who : Who) (shard : ℕ) (act : Act) (u : Machine) → IsWriteInLane mark who.group act
        → (k : Key) → after_all catalog (act_steps catalog seen mark who shard act) (blank u) k ≡ blank (after_all catalog (act_takes catalog seen mark who shard act ++ version_writes mark who act) u) k
    act_blank marks.Opens who shard act u lane k = refl
    act_blank marks.Takes who shard act u lane k = after_take who (taken_by catalog seen shard act) u k
    act_blank marks.Looks who shard act u lane k = after_take who (taken_by catalog seen shard act) u k
    act_blank marks.Reads who shard act u lane k = after_take who (taken_by catalog seen shard act) u k
    act_blank marks.Writes who shard act u lane k =
        ap (λ (v : Machine). after_all catalog (row_writes who.group who act) v k) (λ i j. after_take who (taken_by catalog seen shard act) u j i)
        ∙ act_written who.group who act (after catalog (Take who (taken_by catalog seen shard act)) u) lane k

    pub deed_blank : (d : Deed) (u : Machine) → IsDeedInLane u d → (k : Key) → after_all catalog (deed_steps catalog seen d) (blank u) k ≡ blank (after_all catalog (deed_moves catalog seen d) u) k
    deed_blank deeds.Nothing u lane k = refl
    deed_blank (deeds.Acts who shard act mark) u lane k = act_blank mark who shard act u lane k
    deed_blank (deeds.Commits who shard) u lane k = committed_blank who.group who shard u lane.0 lane.1 k
    deed_blank (deeds.Fails who shard) u lane k = refl
