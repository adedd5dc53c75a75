-- What the shards answer is what the one table and the entries say.
use Rattle.std.proofs.Common.{◌≡◌, ◌==◌, ◌&&◌, ◌||◌, not, if◌then◌else◌, ℕ, Bool, true, false, List, Option, Some, None, refl, sym, ap, subst, ◌∙◌, inl, inr}
use Rattle.std.proofs.lemmas.Bool.{and_from, and_parts, eq-eqb, eqb-true, false_from_ne_true, not_from_false, or_cases}
use Rattle.vl_values.specs.declared.key.Key.{Key}
use Rattle.vl_values.specs.declared.pred.Pred.{Pred}
use Rattle.vl_values.proofs.KeyOrder.{is_key-true}
use Rattle.vl_catalog.specs.declared.catalog.Catalog.{Catalog}
use Rattle.vl_port.specs.declared.act.Act.{Act}
use Rattle.vl_port.specs.declared.act.Act.TheVariants.{Insert, Put, Remove, RemoveIf, Find}
use Rattle.vl_port.specs.declared.answer.Answer.{Answer}
use Rattle.vl_port.specs.declared.answer.Answer.TheVariants.{Done, Unchanged, Rows, Found, Held, Lost, Device, Limit, Memory}
use Rattle.vl_port.specs.declared.change.Change.{Change}
use Rattle.vl_port.specs.declared.who.Who.{Who}
use Rattle.vl_port.specs.Acting.{Acted}
use Rattle.vl_port.specs.Calls.{PortView}
use Rattle.vl_port.specs.Holding.{IsHeld, is_held_by_other, needs}
use Rattle.vl_port.specs.Outcomes.{outcome_of}
use Rattle.vl_port.specs.Placing.{ArePlaced, IsActOn}
use Rattle.vl_port.specs.Reading.{IsRead, is_match}
use Rattle.vl_port.specs.Serving.{Shards}
use Rattle.vl_port.specs.View.{Values, View, changed_to, is_who, standing}
use Rattle.vl_port.proofs.Naming.{is_who-true}
use Rattle.vl_port.proofs.Placed.{standing_placed}
use Rattle.vl_replay.specs.Answers.{IsMarkedBy}
use Rattle.vl_replay.specs.Calls.{ActsOn}
use Rattle.vl_replay.specs.Marks.{HasComeBack, IsTaking, mark_of}
use Rattle.vl_replay.specs.Showing.{ArePlacedByKey, IsAlone, Shows}
use Rattle.vl_run.specs.declared.mark.Mark.{Mark}
use Rattle.vl_run.specs.declared.mark.Mark.TheVariants as marks
use Rattle.vl_run.specs.Gathered.{Reads, shown}
use Rattle.vl_run.specs.Machine.{Cell, Machine, is_entry, is_on, key_place, takes, view}
use Rattle.vl_run.specs.Refused as refused
use Rattle.vl_run.specs.Replays.{Replays, cell_of, shards_cells}
use Rattle.vl_run.specs.Run.{Run, cells, state}
use Rattle.vl_replay.proofs.ActMoves.{came_back}
use Rattle.vl_replay.proofs.Blanks.{blank_cell}
use Rattle.vl_replay.proofs.Places.{key_on, row_on}

never : true ≡ false → ⊥
never same = cc

-- ---- rows and entries are what the shards show

shown_by : (entry : Bool) (cell row from : Cell) → cell ≡ from → row ≡ blank_cell entry from → (if entry then cell else row) ≡ from
shown_by true cell row from same blanked = same
shown_by false cell row from same blanked = blanked

pub same_shown : (catalog : Catalog) (past : Run) (seen : Shards) → Replays catalog past seen → shown catalog past ≡ shards_cells catalog seen
same_shown catalog past seen replays = λ i k. shown_by (is_entry catalog k) (cells catalog past k) (state catalog past k) (shards_cells catalog seen k) (replays.versions k) (replays.table k) i

-- ---- keys are where they stand

module _ (catalog : Catalog) (keyed : ArePlacedByKey catalog) (shard : ℕ) (v : View) (placed : ArePlaced catalog shard v) where
  standing_on : (who : Who) (k : Key) (row : Values) → standing v who k ≡ Some row → is_on catalog shard k ≡ true
  standing_on who k row stands = row_on catalog keyed shard k row (standing_placed catalog shard v who k row placed stands)

  committed_on : (pred : Pred) (k : Key) (row : Option Values) → v.committed k ≡ row → is_match pred k row ≡ true → is_on catalog shard k ≡ true
  committed_on pred k None is matched = absurd (cc)
  committed_on pred k (Some row) is matched = row_on catalog keyed shard k row (placed.committed k row is)

  pending_on : (pred : Pred) (k : Key) (change : Option Change) → v.pending k ≡ change → is_match pred k (changed_to change) ≡ true → is_on catalog shard k ≡ true
  pending_on pred k None is matched = absurd (cc)
  pending_on pred k (Some change) is matched = key_on catalog keyed shard k (placed.changed k change is)

  -- so are those that an act must obtain
  pub needed_on : (act : Act) (k : Key) → IsActOn catalog shard act → needs v act k ≡ true → is_on catalog shard k ≡ true
  needed_on (Insert key row) k fits needed = ap (λ (j : Key). is_on catalog shard j) (sym (is_key-true key k needed)) ∙ row_on catalog keyed shard key row fits
  needed_on (Put key row) k fits needed = ap (λ (j : Key). is_on catalog shard j) (sym (is_key-true key k needed)) ∙ row_on catalog keyed shard key row fits
  needed_on (Remove key) k fits needed = ap (λ (j : Key). is_on catalog shard j) (sym (is_key-true key k needed)) ∙ key_on catalog keyed shard key fits
  needed_on (RemoveIf key column value) k fits needed = ap (λ (j : Key). is_on catalog shard j) (sym (is_key-true key k needed)) ∙ key_on catalog keyed shard key fits.0
  needed_on (Find pred locking) k fits needed =
      elim (or_cases (is_match pred k (v.committed k)) (is_match pred k (changed_to (v.pending k))) (and_parts locking (is_match pred k (v.committed k) || is_match pred k (changed_to (v.pending k))) needed).1) [
        | inl matched ↦ committed_on pred k (v.committed k) refl matched
        | inr matched ↦ pending_on pred k (v.pending k) refl matched
      ]

-- ---- a shard's view is the machine's

module _ (catalog : Catalog) (seen : Shards) (shard : ℕ) where
  at_place : (k : Key) → is_on catalog shard k ≡ true → key_place catalog k ≡ shard
  at_place k on = eqb-true (key_place catalog k) shard on

  pub view_on : (who : Who) (k : Key) → is_on catalog shard k ≡ true → view (shards_cells catalog seen) who k ≡ standing (seen shard) who k
  view_on who k on = ap (λ (t : ℕ). standing (seen t) who k) (at_place k on)

  pub holder_on : (k : Key) → is_on catalog shard k ≡ true → (shards_cells catalog seen k).holder ≡ (seen shard).holder k
  holder_on k on = ap (λ (t : ℕ). (seen t).holder k) (at_place k on)

  takes_needs : (v : View) (u : Machine) (act : Act) (k : Key) → u k ≡ cell_of v k → takes u act k ≡ needs v act k
  takes_needs v u (Insert key row) k is = refl
  takes_needs v u (Put key row) k is = refl
  takes_needs v u (Remove key) k is = refl
  takes_needs v u (RemoveIf key column value) k is = refl
  takes_needs v u (Find pred locking) k is = ap (λ (c : Cell). locking && (is_match pred k c.row || is_match pred k (changed_to c.change))) is

  pub takes_on : (act : Act) (k : Key) → is_on catalog shard k ≡ true → takes (shards_cells catalog seen) act k ≡ needs (seen shard) act k
  takes_on act k on = takes_needs (seen shard) (shards_cells catalog seen) act k (ap (λ (t : ℕ). cell_of (seen t) k) (at_place k on))

-- ---- reads

module _ (catalog : Catalog) (keyed : ArePlacedByKey catalog) (seen : Shards) (shard : ℕ) (placed : ArePlaced catalog shard (seen shard)) where
  pub read_reads : (who : Who) (pred : Pred) (rows : List (Key × Values)) → IsRead (seen shard) who pred rows → Reads catalog (shards_cells catalog seen) who shard pred rows
  read_reads who pred rows read = record {
    ordered = read.ordered;
    sound = λ row has. let on = standing_on catalog keyed shard (seen shard) placed who row.0 row.1 (read.sound row has).0 in
        (view_on catalog seen shard who row.0 on ∙ (read.sound row has).0, (read.sound row has).1, on);
    complete = λ key values stands matched on. read.complete key values (sym (view_on catalog seen shard who key on) ∙ stands) matched;
  }

  -- ---- marks

  pub insert_on : (key : Key) (row : Values) (who : Who) → IsActOn catalog shard (Insert key row) → view (shards_cells catalog seen) who key ≡ standing (seen shard) who key
  insert_on key row who fits = view_on catalog seen shard who key (row_on catalog keyed shard key row fits)

  inserting_marked : (key : Key) (row : Values) (who : Who) (answer : Answer) (taking : Mark) (new : View) → IsTaking taking → IsActOn catalog shard (Insert key row) → Acted (seen shard) who (Insert key row) answer new
      → IsMarkedBy (shards_cells catalog seen) who (Insert key row) (mark_of taking (outcome_of answer))
  inserting_marked key row who Done taking new takes fits (free, can, is) = insert_on key row who fits ∙ can
  inserting_marked key row who Unchanged taking new takes fits (free, nothing, is) = absurd nothing
  inserting_marked key row who (Rows rows) taking new takes fits (free, read, is) = absurd read
  inserting_marked key row who (Found k found) taking new takes fits (free, met, is) = by_mark taking takes
    where
      by_mark : (mark : Mark) → IsTaking mark → IsMarkedBy (shards_cells catalog seen) who (Insert key row) (Some mark)
      by_mark marks.Opens takes = absurd takes
      by_mark marks.Takes takes = (found, insert_on key row who fits ∙ met.1)
      by_mark marks.Looks takes = tt
      by_mark marks.Reads takes = tt
      by_mark marks.Writes takes = absurd takes
  inserting_marked key row who (Held by k) taking new takes fits acted = tt
  inserting_marked key row who (Lost why) taking new takes fits acted = tt
  inserting_marked key row who Device taking new takes fits acted = tt
  inserting_marked key row who (Limit what count) taking new takes fits acted = tt
  inserting_marked key row who Memory taking new takes fits acted = tt

  put_marked : (key : Key) (row : Values) (who : Who) (u : Machine) (mark : Option Mark) → IsMarkedBy u who (Put key row) mark
  put_marked key row who u None = tt
  put_marked key row who u (Some mark) = tt

  remove_marked : (key : Key) (who : Who) (u : Machine) (mark : Option Mark) → IsMarkedBy u who (Remove key) mark
  remove_marked key who u None = tt
  remove_marked key who u (Some mark) = tt

  remove_if_marked : (act : Act) (who : Who) (u : Machine) (mark : Option Mark) → ((m : Mark) → IsMarkedBy u who act (Some m)) → IsMarkedBy u who act mark
  remove_if_marked act who u None any = tt
  remove_if_marked act who u (Some mark) any = any mark

  pub act_marked : (act : Act) (who : Who) (answer : Answer) (taking : Mark) (new : View) → IsTaking taking → IsActOn catalog shard act → Acted (seen shard) who act answer new
      → IsMarkedBy (shards_cells catalog seen) who act (mark_of taking (outcome_of answer))
  act_marked (Insert key row) who answer taking new takes fits acted = inserting_marked key row who answer taking new takes fits acted
  act_marked (Put key row) who answer taking new takes fits acted = put_marked key row who (shards_cells catalog seen) (mark_of taking (outcome_of answer))
  act_marked (Remove key) who answer taking new takes fits acted = remove_marked key who (shards_cells catalog seen) (mark_of taking (outcome_of answer))
  act_marked (RemoveIf key column value) who answer taking new takes fits acted = remove_if_marked (RemoveIf key column value) who (shards_cells catalog seen) (mark_of taking (outcome_of answer)) (λ m. tt)
  act_marked (Find pred locking) who answer taking new takes fits acted = remove_if_marked (Find pred locking) who (shards_cells catalog seen) (mark_of taking (outcome_of answer)) (λ m. tt)

  -- ---- a key of another

  other_by : (who : Who) (holder : Option Who) (h : Who) → holder ≡ Some h → (h.tx == who.tx) ≡ false → refused.is_held_by_other who.tx holder ≡ true
  other_by who None h is apart = absurd (cc)
  other_by who (Some other) h is apart = not_from_false (other.tx == who.tx) (ap (λ (o : Option Who). of_tx_in o) is ∙ apart)
    where
      of_tx_in : Option Who → Bool
      of_tx_in None = false
      of_tx_in (Some w) = w.tx == who.tx

  -- one of another transaction is another
  other_tx : (who : Who) (holder : Option Who) → refused.is_held_by_other who.tx holder ≡ true → is_held_by_other who holder ≡ true
  other_tx who None held = held
  other_tx who (Some other) held = not_from_false (is_who other who) (false_from_ne_true (is_who other who) (λ same. never (sym held ∙ ap (λ (b : Bool). not b) (ap (λ (w : Who). w.tx == who.tx) (is_who-true other who same) ∙ eq-eqb who.tx who.tx refl))))

  pub held_held : (act : Act) (who : Who) (by : ℕ) (key : Key) → IsActOn catalog shard act → IsAlone (seen shard) who act → IsHeld (seen shard) who act by key → refused.IsHeld catalog (shards_cells catalog seen) who.tx shard act by key
  held_held act who by key fits alone held =
      let parts = and_parts (needs (seen shard) act key) (is_held_by_other who ((seen shard).holder key)) held.blocked in
      let on = needed_on catalog keyed shard (seen shard) placed act key fits parts.0 in
      record {
        blocked = and_from _ _ on (and_from _ _ (takes_on catalog seen shard act key on ∙ parts.0)
            (ap (λ (h : Option Who). refused.is_held_by_other who.tx h) (holder_on catalog seen shard key on) ∙ other_by who ((seen shard).holder key) held.holder.0 held.holder.1 (alone.apart key held.holder.0 held.blocked held.holder.1)));
        holder = (held.holder.0, holder_on catalog seen shard key on ∙ held.holder.1, held.holder.2);
        least = λ k blocked.
            let here = and_parts (is_on catalog shard k) (takes (shards_cells catalog seen) act k && refused.is_held_by_other who.tx (shards_cells catalog seen k).holder) blocked in
            let both = and_parts (takes (shards_cells catalog seen) act k) (refused.is_held_by_other who.tx (shards_cells catalog seen k).holder) here.1 in
            held.least k (and_from _ _ (sym (takes_on catalog seen shard act k here.0) ∙ both.0)
            (other_tx who ((seen shard).holder k) (sym (ap (λ (h : Option Who). refused.is_held_by_other who.tx h) (holder_on catalog seen shard k here.0)) ∙ both.1)));
      }

-- ---- the laws

module _ (catalog : Catalog) (past : Run) (count : ℕ) (old new : PortView) (who : Who) (shard : ℕ) (act : Act) (shows : Shows catalog past count old.shards) where
  at_shown : (P : Machine → Type 0) → P (shards_cells catalog old.shards) → P (shown catalog past)
  at_shown P h = subst P (sym (same_shown catalog past old.shards shows.replays)) h

  done_there : (answer : Answer) → ActsOn catalog count old who shard act answer new → HasComeBack answer → Acted (old.shards shard) who act answer (new.shards shard)
  done_there answer acts back = came_back (old.shards shard) (new.shards shard) who act (shows.up shard acts.within) new.way answer back acts.acted.acted

  pub acted_marks : (answer : Answer) (taking : Mark) → ActsOn catalog count old who shard act answer new → HasComeBack answer → IsTaking taking → IsMarkedBy (shown catalog past) who act (mark_of taking (outcome_of answer))
  acted_marks answer taking acts back takes = at_shown (λ u. IsMarkedBy u who act (mark_of taking (outcome_of answer)))
      (act_marked catalog shows.keyed old.shards shard (shows.serves.each shard acts.within).placed act who answer taking (new.shards shard) takes acts.fits (done_there answer acts back))

  pub acted_held : (by : ℕ) (key : Key) → ActsOn catalog count old who shard act (Held by key) new → IsAlone (old.shards shard) who act → refused.IsHeld catalog (shown catalog past) who.tx shard act by key
  acted_held by key acts alone = at_shown (λ u. refused.IsHeld catalog u who.tx shard act by key)
      (held_held catalog shows.keyed old.shards shard (shows.serves.each shard acts.within).placed act who by key acts.fits alone (done_there (Held by key) acts tt).0)

module _ (catalog : Catalog) (past : Run) (count : ℕ) (old new : PortView) (who : Who) (shard : ℕ) (shows : Shows catalog past count old.shards) where
  pub acted_reads : (pred : Pred) (locking : Bool) (rows : List (Key × Values)) → ActsOn catalog count old who shard (Find pred locking) (Rows rows) new → Reads catalog (shown catalog past) who shard pred rows
  acted_reads pred locking rows acts = at_shown catalog past count old new who shard (Find pred locking) shows (λ u. Reads catalog u who shard pred rows)
      (read_reads catalog shows.keyed old.shards shard (shows.serves.each shard acts.within).placed who pred rows (done_there catalog past count old new who shard (Find pred locking) shows (Rows rows) acts tt).1)

  pub inserted_none : (key : Key) (row : Values) → ActsOn catalog count old who shard (Insert key row) Done new → view (shown catalog past) who key ≡ None
  inserted_none key row acts = at_shown catalog past count old new who shard (Insert key row) shows (λ u. view u who key ≡ None)
      (insert_on catalog shows.keyed old.shards shard (shows.serves.each shard acts.within).placed key row who acts.fits ∙ (done_there catalog past count old new who shard (Insert key row) shows Done acts tt).1)

  pub found_stands : (key k : Key) (row found : Values) → ActsOn catalog count old who shard (Insert key row) (Found k found) new → (k ≡ key) × (view (shown catalog past) who key ≡ Some found)
  found_stands key k row found acts = (
    (done_there catalog past count old new who shard (Insert key row) shows (Found k found) acts tt).1.0,
    at_shown catalog past count old new who shard (Insert key row) shows (λ u. view u who key ≡ Some found)
        (insert_on catalog shows.keyed old.shards shard (shows.serves.each shard acts.within).placed key row who acts.fits ∙ (done_there catalog past count old new who shard (Insert key row) shows (Found k found) acts tt).1.1),
  )
