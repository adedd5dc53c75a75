-- The action that is due, and what is known of it.
use Rattle.std.proofs.Common.{◌≡◌, ℕ, ◌<◌, Bool, false, List, length, Option, Some, None, refl, sym, ap, ◌∙◌, subst}
use Rattle.std.specs.Prelude.{Contains, slice_get}
use Rattle.std.specs.Option.{option_map, option_or}
use Rattle.std.proofs.lemmas.Option.{get_or_from_slice_get, same_Some, slice_get_within}
use Rattle.vl_values.specs.declared.group.Group.{Group}
use Rattle.vl_values.specs.declared.group.Group.TheVariants.{Pre}
use Rattle.vl_values.specs.declared.pred.Pred.{Pred}
use Rattle.vl_catalog.specs.declared.catalog.Catalog.{Catalog}
use Rattle.vl_port.specs.declared.act.Act.{Act}
use Rattle.vl_port.specs.declared.act.Act.TheVariants.{Find}
use Rattle.vl_port.specs.Placing.{IsActOn}
use Rattle.vl_select.specs.declared.entry_read.EntryRead.{EntryRead}
use Rattle.vl_select.specs.Making.{IsMade}
use Rattle.vl_select.specs.Progress.{Action, Progress, due, row_due}

-- ---- what a program says of it

pub record IsAt (o : Option Action) (group : Group) (shard : ℕ) (act : Act) : Type 0 where
  pub action : Action
  pub is : o ≡ Some action
  pub group_is : action.group ≡ group
  pub shard_is : action.shard ≡ shard
  pub act_is : action.act ≡ act

pub due_at : (o : Option Action) (group : Group) (shard : ℕ) (act : Act) → option_map {U = Group × ℕ} (λ (a : Action). (a.group, a.shard)) o ≡ Some (group, shard) → option_map (λ (a : Action). a.act) o ≡ Some act → IsAt o group shard act
due_at None group shard act s a = absurd (cc)
due_at (Some action) group shard act s a =
    let session = same_Some (action.group, action.shard) (group, shard) s in
    record {
      action = action;
      is = refl;
      group_is = ap (λ (it : Group × ℕ). it.0) session;
      shard_is = ap (λ (it : Group × ℕ). it.1) session;
      act_is = same_Some action.act act a;
    }

pub none_due : (o : Option Action) → option_map {U = Group × ℕ} (λ (a : Action). (a.group, a.shard)) o ≡ None → o ≡ None
none_due None e = refl
none_due (Some action) e = absurd (cc)

-- ---- it is the next read of an entry, or else of rows

pub data IsDue (p : Progress) (action : Action) : Type 0 where
  Entry : (entry : EntryRead) → slice_get p.entries p.looked ≡ Some entry → action.group ≡ Pre → action.shard ≡ entry.shard → action.act ≡ entry.find → IsDue p action
  Shard : slice_get p.entries p.looked ≡ None → slice_get p.shards p.read ≡ Some action.shard → action.group ≡ p.group → action.act ≡ p.find → IsDue p action

by_shard : (p : Progress) (o : Option ℕ) (action : Action) → slice_get p.entries p.looked ≡ None → slice_get p.shards p.read ≡ o → option_map {U = Action} (λ shard. record { group = p.group; shard = shard; act = p.find }) o ≡ Some action → IsDue p action
by_shard p None action none is e = absurd (cc)
by_shard p (Some shard) action none is e =
    let same = same_Some (record { group = p.group; shard = shard; act = p.find }) action e in
    Shard none (is ∙ ap (λ (a : Action). Some a.shard) same) (sym (ap (λ (a : Action). a.group) same)) (sym (ap (λ (a : Action). a.act) same))

by_entry : (p : Progress) (o : Option EntryRead) (action : Action) → slice_get p.entries p.looked ≡ o → option_or (option_map {U = Action} (λ (entry : EntryRead). record { group = Pre; shard = entry.shard; act = entry.find }) o) (row_due p) ≡ Some action → IsDue p action
by_entry p None action is e = by_shard p (slice_get p.shards p.read) action is refl e
by_entry p (Some entry) action is e =
    let same = same_Some (record { group = Pre; shard = entry.shard; act = entry.find }) action e in
    Entry entry is (sym (ap (λ (a : Action). a.group) same)) (sym (ap (λ (a : Action). a.shard) same)) (sym (ap (λ (a : Action). a.act) same))

pub due_is : (p : Progress) (action : Action) → due p ≡ Some action → IsDue p action
due_is p action e = by_entry p (slice_get p.entries p.looked) action refl e

-- ---- an element by its place

pub contains_at : {X : Type 0} (xs : List X) (n : ℕ) (x : X) → slice_get xs n ≡ Some x → Contains xs x
contains_at xs n x at = (n, slice_get_within xs n x at, get_or_from_slice_get xs n x x at)

-- where no entry is left, a shard is
pub shard_left : (p : Progress) (action : Action) → IsDue p action → (p.looked < length p.entries → ⊥) → p.read < length p.shards
shard_left p action (Entry entry at group shard act) none = absurd (none (slice_get_within p.entries p.looked entry at))
shard_left p action (Shard none_at at group act) none = slice_get_within p.shards p.read action.shard at

-- ---- it fits

-- a read of the catalog's rows on one of its shards
pub record IsRead (catalog : Catalog) (count : ℕ) (shard : ℕ) (act : Act) : Type 0 where
  pub pred : Pred
  pub locking : Bool
  pub find : act ≡ Find pred locking
  pub within : shard < count
  pub fits : IsActOn catalog shard act

due_reads : (catalog : Catalog) (count limit : ℕ) (p : Progress) (action : Action) → IsMade catalog count limit p → IsDue p action → IsRead catalog count action.shard action.act
due_reads catalog count limit p action made (Entry entry at group shard act) =
    let fits = made.entries entry (contains_at p.entries p.looked entry at) in
    record {
      pred = fits.pred;
      locking = false;
      find = act ∙ fits.find;
      within = subst (λ (s : ℕ). s < count) (sym shard) fits.shard;
      fits = subst (λ (a : Act). IsActOn catalog action.shard a) (sym (act ∙ fits.find)) fits.fits;
    }
due_reads catalog count limit p action made (Shard none at group act) = record {
  pred = made.pred;
  locking = made.locking;
  find = act ∙ made.find;
  within = made.shards action.shard (contains_at p.shards p.read action.shard at);
  fits = subst (λ (a : Act). IsActOn catalog action.shard a) (sym (act ∙ made.find)) made.fits;
}

pub at_reads : (catalog : Catalog) (count limit : ℕ) (p : Progress) (group : Group) (shard : ℕ) (act : Act) → IsMade catalog count limit p → IsAt (due p) group shard act → IsRead catalog count shard act
at_reads catalog count limit p group shard act made at =
    subst (λ (s : ℕ). IsRead catalog count s act) at.shard_is (subst (λ (a : Act). IsRead catalog count at.action.shard a) at.act_is (due_reads catalog count limit p at.action made (due_is p at.action at.is)))

pub at_left : (p : Progress) (group : Group) (shard : ℕ) (act : Act) → IsAt (due p) group shard act → (p.looked < length p.entries → ⊥) → p.read < length p.shards
at_left p group shard act at none = shard_left p at.action (due_is p at.action at.is) none
