-- The one table may make the steps of an act that came back, of a commit, and of sessions that end.
use Rattle.std.proofs.Common.{◌≡◌, ◌==◌, ◌&&◌, ◌++◌, not, if◌then◌else◌, ℕ, Bool, true, false, List, [], ◌∷◌, Option, Some, None, refl, sym, ap, subst, ◌∙◌, inl, inr}
use Rattle.std.proofs.lemmas.Bool.{and_from, and_parts, cases_Bool, eq-eqb}
use Rattle.vl_values.specs.declared.group.Group.{Group}
use Rattle.vl_values.specs.declared.group.Group.TheVariants.{Pre, Main, Post}
use Rattle.vl_values.specs.declared.key.Key.{Key}
use Rattle.vl_values.proofs.KeyOrder.{is_key-same}
use Rattle.vl_catalog.specs.declared.catalog.Catalog.{Catalog}
use Rattle.vl_port.specs.declared.act.Act.{Act}
use Rattle.vl_port.specs.declared.act.Act.TheVariants.{Insert, Put, Remove, RemoveIf, Find}
use Rattle.vl_port.specs.declared.answer.Answer.{Answer}
use Rattle.vl_port.specs.declared.answer.Answer.TheVariants.{Done, Unchanged, Rows, Found, Held, Lost, Device, Limit, Memory}
use Rattle.vl_port.specs.declared.who.Who.{Who}
use Rattle.vl_port.specs.Acting.{Acted, row_left}
use Rattle.vl_port.specs.Calls.{PortView}
use Rattle.vl_port.specs.Holding.{IsFree, is_held_by_other, needs}
use Rattle.vl_port.specs.Outcomes.{outcome_of}
use Rattle.vl_port.specs.Placing.{IsActOn}
use Rattle.vl_port.specs.Serving.{Shards}
use Rattle.vl_port.specs.View.{Values, View, is_who}
use Rattle.vl_port.proofs.Naming.{is_who-true}
use Rattle.vl_replay.specs.Calls.{ActsOn, Keeps}
use Rattle.vl_replay.specs.Marks.{HasComeBack, IsTaking, MayHaveWritten, MayWriteKey, MayWriteRow, deed_of, mark_of}
use Rattle.vl_replay.specs.Showing.{ArePlacedByKey, Shows}
use Rattle.vl_run.specs.declared.deed.Deed.{Deed}
use Rattle.vl_run.specs.declared.deed.Deed.TheVariants as deeds
use Rattle.vl_run.specs.declared.ends.Ends.{Ends}
use Rattle.vl_run.specs.declared.ends.Ends.TheVariants as ends
use Rattle.vl_run.specs.declared.event.Event.{Event}
use Rattle.vl_run.specs.declared.mark.Mark.{Mark}
use Rattle.vl_run.specs.declared.mark.Mark.TheVariants as marks
use Rattle.vl_run.specs.Deeds.{deed_steps, replaced, row_writes, steps_of, writes, written_key}
use Rattle.vl_run.specs.Machine.{CanStep, CanStepAll, Cell, Clash, Machine, MayWrite, Step, after, is_on, seen_in, taken_by, takes}
use Rattle.vl_run.specs.Machine.Clash.{SameKey, SameValue}
use Rattle.vl_run.specs.Machine.Step.{LetGo, Take, Write}
use Rattle.vl_run.specs.Replays.{shards_cells, shown_machine}
use Rattle.vl_run.specs.Run.{Run, cells, is_broken, state}
use Rattle.vl_replay.proofs.ActMoves.{came_back}
use Rattle.vl_replay.proofs.Moves.{same_cells, same_state}
use Rattle.vl_replay.proofs.Places.{key_on, row_on}
use Rattle.vl_replay.proofs.Shown.{holder_on, takes_on}

never : true ≡ false → ⊥
never same = cc

-- ---- a take leaves what is seen, and so what clashes

seen_taken : (c : Cell) (who reader : Who) (taken : Bool) → seen_in (if taken then record c { holder = Some who } else c) reader ≡ seen_in c reader
seen_taken c who reader true = refl
seen_taken c who reader false = refl

module _ (catalog : Catalog) where
  clash_before : (who : Who) (keys : Key → Bool) (u : Machine) (key : Key) (row : Values) (old : Option Key) → Clash catalog (after catalog (Take who keys) u) who key row old → Clash catalog u who key row old
  clash_before who keys u key row old (SameKey k other seen apart same) = SameKey k other (sym (seen_taken (u k) who who (keys k)) ∙ seen) apart same
  clash_before who keys u key row old (SameValue lookup c k other among unique column seen apart indexed other_indexed equal) =
      SameValue lookup c k other among unique column (sym (seen_taken (u k) who who (keys k)) ∙ seen) apart indexed other_indexed equal

  may_still : (who : Who) (keys : Key → Bool) (u : Machine) (broken : Bool) (key : Key) (row : Option Values) (old : Option Key) → MayWrite catalog u broken who key row old → MayWrite catalog (after catalog (Take who keys) u) broken who key row old
  may_still who keys u true key None old may = tt
  may_still who keys u false key None old may = tt
  may_still who keys u true key (Some row) old may = tt
  may_still who keys u false key (Some row) old may = λ clash. may (clash_before who keys u key row old clash)

  -- ---- the steps of an act

  module _ (keyed : ArePlacedByKey catalog) (broken : ℕ → Bool) (seen : Shards) (shard : ℕ) (who : Who) where
    own_holder : (h : Option Who) (holder : Who) → h ≡ Some holder → is_held_by_other who h ≡ false → (holder.tx == who.tx) ≡ false → ⊥
    own_holder None holder is free apart = absurd (cc)
    own_holder (Some other) holder is free apart =
        elim (cases_Bool (is_who other who)) [
          | inl same ↦ never (sym (eq-eqb who.tx who.tx refl) ∙ ap (λ (w : Who). w.tx == who.tx) (sym (is_who-true other who same)) ∙ ap (λ (o : Option Who). tx_in o) is ∙ apart)
          | inr differs ↦ never (sym (ap (λ (b : Bool). not b) differs) ∙ free)
        ]
      where
        tx_in : Option Who → Bool
        tx_in None = false
        tx_in (Some w) = w.tx == who.tx

    unheld : (a b : Bool) → (a && b) ≡ false → a ≡ true → b ≡ false
    unheld true b free on = free
    unheld false b free on = absurd (never (sym on))

    pub can_take : (act : Act) → IsFree (seen shard) who act → CanStep catalog broken (shown_machine catalog seen) (Take who (taken_by catalog (shards_cells catalog seen) shard act))
    can_take act free = λ k taken hand.
        let parts = and_parts (is_on catalog shard k) (takes (shards_cells catalog seen) act k) taken in
        let needed : needs (seen shard) act k ≡ true = sym (takes_on catalog seen shard act k parts.0) ∙ parts.1 in
        own_holder ((seen shard).holder k) hand.0 (sym (holder_on catalog seen shard k parts.0) ∙ hand.1)
        (unheld (needs (seen shard) act k) (is_held_by_other who ((seen shard).holder k)) (free k) needed) hand.2

    abbrev keys_of : Act → Key → Bool
    keys_of act = taken_by catalog (shards_cells catalog seen) shard act

    -- a row's write of main
    row_written : (act : Act) (key : Key) → writes who act ≡ Write who key (row_left act) (replaced act) ∷ [] → keys_of act key ≡ true
        → MayWrite catalog (shown_machine catalog seen) (broken who.tx) who key (row_left act) (replaced act)
        → CanStepAll catalog broken (after catalog (Take who (keys_of act)) (shown_machine catalog seen)) (writes who act ++ LetGo ends.Nobody ∷ [])
    row_written act key is taken may =
        subst (λ (steps : List Step). CanStepAll catalog broken (after catalog (Take who (keys_of act)) (shown_machine catalog seen)) (steps ++ LetGo ends.Nobody ∷ [])) (sym is) (
          (
            (who, ap (λ (b : Bool). (if b then record (shown_machine catalog seen key) { holder = Some who } else shown_machine catalog seen key).holder) taken, refl),
            may_still who (keys_of act) (shown_machine catalog seen) (broken who.tx) key (row_left act) (replaced act) may,
          ),
          (tt, tt),
        )

    abbrev MayRow : Act → Option Key → Type 0
    MayRow act None = Unit {0}
    MayRow act (Some key) = MayWrite catalog (shown_machine catalog seen) (broken who.tx) who key (row_left act) (replaced act)

    main_written : (act : Act) → IsActOn catalog shard act → MayRow act (written_key act) → CanStepAll catalog broken (after catalog (Take who (keys_of act)) (shown_machine catalog seen)) (writes who act ++ LetGo ends.Nobody ∷ [])
    main_written (Insert key row) fits may = row_written (Insert key row) key refl (and_from _ _ (row_on catalog keyed shard key row fits) (is_key-same key)) may
    main_written (Put key row) fits may = row_written (Put key row) key refl (and_from _ _ (row_on catalog keyed shard key row fits) (is_key-same key)) may
    main_written (Remove key) fits may = row_written (Remove key) key refl (and_from _ _ (key_on catalog keyed shard key fits) (is_key-same key)) may
    main_written (RemoveIf key column value) fits may = row_written (RemoveIf key column value) key refl (and_from _ _ (key_on catalog keyed shard key fits.0) (is_key-same key)) may
    main_written (Find pred locking) fits may = (tt, tt)

    abbrev MayRowBy : Act → Option Group → Type 0
    MayRowBy act None = Unit {0}
    MayRowBy act (Some Pre) = Unit {0}
    MayRowBy act (Some Main) = MayRow act (written_key act)
    MayRowBy act (Some Post) = Unit {0}

    group_written : (act : Act) (group : Option Group) → IsActOn catalog shard act → MayRowBy act group
        → CanStepAll catalog broken (after catalog (Take who (keys_of act)) (shown_machine catalog seen)) (row_writes group who act ++ LetGo ends.Nobody ∷ [])
    group_written act None fits may = (tt, tt)
    group_written act (Some Pre) fits may = (tt, tt)
    group_written act (Some Main) fits may = main_written act fits may
    group_written act (Some Post) fits may = (tt, tt)

    abbrev CanDo : Deed → Type 0
    CanDo deed = CanStepAll catalog broken (shown_machine catalog seen) (deed_steps catalog (shards_cells catalog seen) deed ++ LetGo ends.Nobody ∷ [])

    took_can : (act : Act) (taking : Mark) → IsTaking taking → IsFree (seen shard) who act → CanDo (deeds.Acts who shard act taking)
    took_can act marks.Opens takes free = absurd takes
    took_can act marks.Takes takes free = (can_take act free, (tt, tt))
    took_can act marks.Looks takes free = (can_take act free, (tt, tt))
    took_can act marks.Reads takes free = (can_take act free, (tt, tt))
    took_can act marks.Writes takes free = absurd takes

    abbrev MayRowOf : Act → Answer → Type 0
    MayRowOf act Done = MayRowBy act who.group
    MayRowOf act Unchanged = Unit {0}
    MayRowOf act (Rows rows) = Unit {0}
    MayRowOf act (Found key row) = Unit {0}
    MayRowOf act (Held by key) = Unit {0}
    MayRowOf act (Lost why) = Unit {0}
    MayRowOf act Device = Unit {0}
    MayRowOf act (Limit what count) = Unit {0}
    MayRowOf act Memory = Unit {0}

    pub act_can : (act : Act) (answer : Answer) (taking : Mark) (new : View) → IsTaking taking → IsActOn catalog shard act → Acted (seen shard) who act answer new → MayRowOf act answer → CanDo (deed_of who shard act (mark_of taking (outcome_of answer)))
    act_can act Done taking new takes fits (free, can, is) may = (can_take act free, group_written act who.group fits may)
    act_can act Unchanged taking new takes fits (free, nothing, is) may = took_can act taking takes free
    act_can act (Rows rows) taking new takes fits (free, read, is) may = took_can act taking takes free
    act_can act (Found key row) taking new takes fits (free, found, is) may = took_can act taking takes free
    act_can act (Held by key) taking new takes fits acted may = (tt, tt)
    act_can act (Lost why) taking new takes fits acted may = (tt, tt)
    act_can act Device taking new takes fits acted may = (tt, tt)
    act_can act (Limit what count) taking new takes fits acted may = (tt, tt)
    act_can act Memory taking new takes fits acted may = (tt, tt)

-- ---- the laws

module _ (catalog : Catalog) (past : Run) (count : ℕ) (old new : PortView) (who : Who) (shard : ℕ) (act : Act) (shows : Shows catalog past count old.shards) where
  abbrev u : Machine
  u = shown_machine catalog old.shards

  key_may : (key : Option Key) → MayWriteKey catalog past who act key → MayRow catalog shows.keyed (is_broken past) old.shards shard who act key
  key_may None may = tt
  key_may (Some key) may = subst (λ (v : Machine). MayWrite catalog v (is_broken past who.tx) who key (row_left act) (replaced act)) (same_state catalog past old.shards shows.replays) may

  row_may : (group : Option Group) → MayWriteRow catalog past who act group → MayRowBy catalog shows.keyed (is_broken past) old.shards shard who act group
  row_may None may = tt
  row_may (Some Pre) may = tt
  row_may (Some Main) may = key_may (written_key act) may
  row_may (Some Post) may = tt

  answer_may : (answer : Answer) → MayHaveWritten catalog past who act answer → MayRowOf catalog shows.keyed (is_broken past) old.shards shard who act answer
  answer_may Done may = row_may who.group may
  answer_may Unchanged may = tt
  answer_may (Rows rows) may = tt
  answer_may (Found key row) may = tt
  answer_may (Held by key) may = tt
  answer_may (Lost why) may = tt
  answer_may Device may = tt
  answer_may (Limit what count) may = tt
  answer_may Memory may = tt

  -- what may be done of the shards may be done of the run
  of_run : (e : Event) (deed : Deed) (gone : Ends) → e.deed ≡ deed → e.ends ≡ gone → CanStepAll catalog (is_broken past) u (deed_steps catalog (shards_cells catalog old.shards) deed ++ LetGo gone ∷ [])
      → CanStepAll catalog (is_broken past) (state catalog past) (steps_of catalog (cells catalog past) e)
  of_run e deed gone is ends can =
      subst (λ (v : Machine). CanStepAll catalog (is_broken past) v (deed_steps catalog (cells catalog past) e.deed ++ LetGo e.ends ∷ [])) (sym (same_state catalog past old.shards shows.replays))
      (subst (λ (v : Machine). CanStepAll catalog (is_broken past) u (deed_steps catalog v e.deed ++ LetGo e.ends ∷ [])) (sym (same_cells catalog past old.shards shows.replays))
      (subst (λ (d : Deed). CanStepAll catalog (is_broken past) u (deed_steps catalog (shards_cells catalog old.shards) d ++ LetGo e.ends ∷ [])) (sym is)
      (subst (λ (g : Ends). CanStepAll catalog (is_broken past) u (deed_steps catalog (shards_cells catalog old.shards) deed ++ LetGo g ∷ [])) (sym ends) can)))

  pub acted_steps : (answer : Answer) (taking : Mark) (e : Event) → ActsOn catalog count old who shard act answer new → HasComeBack answer → Keeps e who shard act taking answer → MayHaveWritten catalog past who act answer
      → CanStepAll catalog (is_broken past) (state catalog past) (steps_of catalog (cells catalog past) e)
  acted_steps answer taking e acts back keeps may =
      of_run e (deed_of who shard act (mark_of taking (outcome_of answer))) ends.Nobody keeps.deed keeps.ends
      (act_can catalog shows.keyed (is_broken past) old.shards shard who act answer taking (new.shards shard) keeps.takes acts.fits
      (came_back (old.shards shard) (new.shards shard) who act (shows.up shard acts.within) new.way answer back acts.acted.acted) (answer_may answer may))
