-- The action that is due is the next read, or else the next write.
use Rattle.std.proofs.Common.{◌≡◌, ℕ, ◌<◌, ◌⊎◌, inl, inr, List, Option, Some, None, refl, sym, ap, ◌∙◌, subst}
use Rattle.std.specs.Prelude.{Contains, slice_get}
use Rattle.std.specs.Option.{option_map, option_or}
use Rattle.std.proofs.lemmas.Option.{get_or_from_slice_get, same_Some, slice_get_within}
use Rattle.vl_catalog.specs.declared.catalog.Catalog.{Catalog}
use Rattle.vl_values.specs.declared.group.Group.{Group}
use Rattle.vl_values.specs.declared.group.Group.TheVariants.{Main}
use Rattle.vl_port.specs.declared.act.Act.{Act}
use Rattle.vl_port.specs.declared.act.Act.TheVariants.{Insert, Put, Remove, RemoveIf, Find}
use Rattle.vl_port.specs.declared.answer.Answer.TheVariants.{Done, Found, Rows, Unchanged}
use Rattle.vl_port.specs.declared.who.Who.{Who}
use Rattle.vl_port.specs.Acting.{Acted, HasNothing, IsFound, IsReadBy}
use Rattle.vl_port.specs.Placing.{IsActOn}
use Rattle.vl_port.specs.View.{View, Values}
use Rattle.vl_values.specs.declared.key.Key.{Key}
use Rattle.vl_change.specs.declared.action.Action.{Action}
use Rattle.vl_change.specs.Making.{IsMade, IsWrite}
use Rattle.vl_change.specs.Progress.{Progress, due}

pub data IsDue (p : Progress) (action : Action) : Type 0 where
  Reads : slice_get p.search.shards p.search.read ≡ Some action.shard → action.act ≡ p.search.find → action.group ≡ Main → IsDue p action
  Writes : slice_get p.writes p.done ≡ Some action → IsDue p action

by_shard : (o : Option ℕ) (find : Act) (w : Option Action) (action : Action) → option_or (option_map (λ (shard : ℕ). record { group = Main; shard = shard; act = find; old = None }) o) w ≡ Some action
    → ((o ≡ Some action.shard) × (action.act ≡ find) × (action.group ≡ Main)) ⊎ (w ≡ Some action)
by_shard None find w action e = inr e
by_shard (Some shard) find w action e =
    let same = same_Some (record { group = Main; shard = shard; act = find; old = None }) action e in
    inl (ap (λ (d : Action). Some d.shard) same, sym (ap (λ (d : Action). d.act) same), sym (ap (λ (d : Action). d.group) same))

pub due_is : (p : Progress) (action : Action) → due p ≡ Some action → IsDue p action
due_is p action e =
    elim (by_shard (slice_get p.search.shards p.search.read) p.search.find (slice_get p.writes p.done) action e) [
      | inl at ↦ Reads at.0 at.1 at.2
      | inr at ↦ Writes at
    ]

-- ---- an element by its place

pub contains_at : {X : Type 0} (xs : List X) (n : ℕ) (x : X) → slice_get xs n ≡ Some x → Contains xs x
contains_at xs n x at = (n, slice_get_within xs n x at, get_or_from_slice_get xs n x x at)

-- ---- it fits

pub due_fits : (catalog : Catalog) (count limit : ℕ) (p : Progress) (action : Action) → IsMade catalog count limit p → IsDue p action → (action.shard < count) × IsActOn catalog action.shard action.act
due_fits catalog count limit p action made (Reads at same main) =
    let s = made.search in
    (s.within action.shard (contains_at p.search.shards p.search.read action.shard at), subst (λ (a : Act). IsActOn catalog action.shard a) (sym (same ∙ s.find)) s.fits)
due_fits catalog count limit p action made (Writes at) =
    let d = made.writes action (contains_at p.writes p.done action at) in
    (d.shard, d.fits)

-- it goes by the main session
pub due_main : (catalog : Catalog) (count limit : ℕ) (p : Progress) (action : Action) → IsMade catalog count limit p → IsDue p action → action.group ≡ Main
due_main catalog count limit p action made (Reads at same main) = main
due_main catalog count limit p action made (Writes at) = (made.writes action (contains_at p.writes p.done action at)).group

-- ---- which answers it may get

-- `Done` is told of a write alone
pub done_writes : (catalog : Catalog) (count limit : ℕ) (p : Progress) (action : Action) (who : Who) (old new : View) → IsMade catalog count limit p → IsDue p action → Acted old who action.act Done new
    → slice_get p.writes p.done ≡ Some action
done_writes catalog count limit p action who old new made (Reads at same main) acted =
    let s = made.search in
    absurd ((subst (λ (a : Act). Acted old who a Done new) (same ∙ s.find) acted).1)
done_writes catalog count limit p action who old new made (Writes at) acted = at

no_nothing : (view : View) (who : Who) (act : Act) → IsWrite act → HasNothing view who act → ⊥
no_nothing view who (Insert key row) write nothing = write
no_nothing view who (Put key row) write nothing = nothing
no_nothing view who (Remove key) write nothing = nothing
no_nothing view who (RemoveIf key column value) write nothing = write
no_nothing view who (Find pred locking) write nothing = write

pub never_unchanged : (catalog : Catalog) (count limit : ℕ) (p : Progress) (action : Action) (who : Who) (old new : View) → IsMade catalog count limit p → IsDue p action → Acted old who action.act Unchanged new → ⊥
never_unchanged catalog count limit p action who old new made (Reads at same main) acted =
    let s = made.search in
    (subst (λ (a : Act). Acted old who a Unchanged new) (same ∙ s.find) acted).1
never_unchanged catalog count limit p action who old new made (Writes at) acted =
    no_nothing old who action.act (made.writes action (contains_at p.writes p.done action at)).write acted.1

no_found : (view : View) (who : Who) (act : Act) (key : Key) (row : Values) → IsWrite act → IsFound view who act key row → ⊥
no_found view who (Insert own new) key row write found = write
no_found view who (Put own new) key row write found = found
no_found view who (Remove own) key row write found = found
no_found view who (RemoveIf own column value) key row write found = write
no_found view who (Find pred locking) key row write found = write

-- no row is inserted here
pub never_found : (catalog : Catalog) (count limit : ℕ) (p : Progress) (action : Action) (who : Who) (old new : View) (key : Key) (row : Values) → IsMade catalog count limit p → IsDue p action
    → Acted old who action.act (Found key row) new → ⊥
never_found catalog count limit p action who old new key row made (Reads at same main) acted =
    let s = made.search in
    (subst (λ (a : Act). Acted old who a (Found key row) new) (same ∙ s.find) acted).1
never_found catalog count limit p action who old new key row made (Writes at) acted =
    no_found old who action.act key row (made.writes action (contains_at p.writes p.done action at)).write acted.1

no_rows : (view : View) (who : Who) (act : Act) (rows : List (Key × Values)) → IsWrite act → IsReadBy view who act rows → ⊥
no_rows view who (Insert key row) rows write read = write
no_rows view who (Put key row) rows write read = read
no_rows view who (Remove key) rows write read = read
no_rows view who (RemoveIf key column value) rows write read = write
no_rows view who (Find pred locking) rows write read = write

pub record IsReadDue (p : Progress) (action : Action) : Type 0 where
  pub at : slice_get p.search.shards p.search.read ≡ Some action.shard
  pub same : action.act ≡ p.search.find

-- rows are given by a read alone
pub rows_read : (catalog : Catalog) (count limit : ℕ) (p : Progress) (action : Action) (who : Who) (old new : View) (rows : List (Key × Values)) → IsMade catalog count limit p → IsDue p action
    → Acted old who action.act (Rows rows) new → IsReadDue p action
rows_read catalog count limit p action who old new rows made (Reads at same main) acted = record { at = at; same = same }
rows_read catalog count limit p action who old new rows made (Writes at) acted =
    absurd (no_rows old who action.act rows (made.writes action (contains_at p.writes p.done action at)).write acted.1)

-- ---- the action by its parts

pub record IsAt (o : Option Action) (group : Group) (shard : ℕ) (act : Act) : Type 0 where
  pub action : Action
  pub is : o ≡ Some action
  pub group_is : action.group ≡ group
  pub shard_is : action.shard ≡ shard
  pub act_is : action.act ≡ act

pub due_at : (o : Option Action) (group : Group) (shard : ℕ) (act : Act) → option_map {U = Group × ℕ} (λ (a : Action). (a.group, a.shard)) o ≡ Some (group, shard) → option_map (λ (a : Action). a.act) o ≡ Some act → IsAt o group shard act
due_at None group shard act s a = absurd (cc)
due_at (Some action) group shard act s a =
    let session = same_Some (action.group, action.shard) (group, shard) s in
    record {
      action = action;
      is = refl;
      group_is = ap (λ (it : Group × ℕ). it.0) session;
      shard_is = ap (λ (it : Group × ℕ). it.1) session;
      act_is = same_Some action.act act a;
    }

pub none_due : (o : Option Action) → option_map {U = Group × ℕ} (λ (a : Action). (a.group, a.shard)) o ≡ None → o ≡ None
none_due None e = refl
none_due (Some action) e = absurd (cc)
