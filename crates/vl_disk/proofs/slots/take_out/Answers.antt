use Rattle.std.proofs.Common.{◌≡◌, ◌≢◌, ℕ, List, Option, Some, None, MatchOption, refl, sym, subst, slice_set}
use Rattle.vl_disk.specs.Slots.{found}
use Rattle.vl_disk.proofs.Found.{IsChanged, changed}
use Rattle.vl_disk.specs.declared.sides.Sides.{Sides}
use Rattle.vl_disk.specs.declared.slot.Slot.{Slot}
use Rattle.vl_disk.proofs.slots.take_out.Goals as goal

given : {D : Type 0} (slots after : List (Slot D)) (shard : ℕ) (sides : Option (Sides D)) → found slots shard ≢ Some None
    → IsChanged slots after shard sides None
    → MatchOption sides ((found slots shard ≡ None) × (after ≡ slots)) (λ s. (found slots shard ≡ Some (Some s)) × (found after shard ≡ Some None))
given slots after shard None here change = absurd (here change.was)
given slots after shard (Some sides) here change = (change.was, change.now)

pub returns-clause-given : goal.returns-clause-given
returns-clause-given g c =
    let D : Type 0 = g.row.D.Denot in
    let new : Slot D = record { shard = c.index_mut.result.now.shard; sides = c.take.new.self } in
    let slots = c.args.slots.now.items in
    let after : List (Slot D) = slice_set slots c.in-Some.index new in
    let change : IsChanged slots after c.args.shard c.index_mut.result.now.sides c.take.new.self =
    changed slots c.as_slice.result.now c.args.shard c.in-Some.index c.index_mut.result.now new
    c.as_slice.ensures.value c.in-Some.ensures c.index_mut.ensures.value refl in
    let P : Option (Sides D) → Type 0 = λ o. IsChanged slots after c.args.shard c.index_mut.result.now.sides o in
    let Q : Option (Sides D) → Type 0 = λ o. IsChanged slots after c.args.shard o None in
    given slots after c.args.shard c.take.result c.requires (subst Q (sym c.take.ensures.value) (subst P c.take.ensures.after change))

pub returns-clause-others : goal.returns-clause-others
returns-clause-others g c =
    let D : Type 0 = g.row.D.Denot in
    let new : Slot D = record { shard = c.index_mut.result.now.shard; sides = c.take.new.self } in
    let change = changed c.args.slots.now.items c.as_slice.result.now c.args.shard c.in-Some.index c.index_mut.result.now new
    c.as_slice.ensures.value c.in-Some.ensures c.index_mut.ensures.value refl in
    change.others
