-- An event that ends all of a transaction is the one without that end, and then the end.
use Rattle.std.proofs.Common.{◌≡◌, ◌∙◌, ◌∷◌, ◌++◌, ℕ, Bool, [], List, sym, ap}
use Rattle.vl_values.specs.declared.key.Key.{Key}
use Rattle.vl_catalog.specs.declared.catalog.Catalog.{Catalog}
use Rattle.vl_port.specs.Serving.{Shards}
use Rattle.vl_run.specs.declared.deed.Deed.{Deed}
use Rattle.vl_run.specs.declared.deed.Deed.TheVariants as deeds
use Rattle.vl_run.specs.declared.ends.Ends.{Ends}
use Rattle.vl_run.specs.declared.ends.Ends.TheVariants as ends
use Rattle.vl_run.specs.declared.event.Event.{Event}
use Rattle.vl_run.specs.Deeds.{deed_moves, deed_steps}
use Rattle.vl_run.specs.Machine.{CanStepAll, Machine, Step, after, after_all, key_place, let_go}
use Rattle.vl_run.specs.Machine.Step.{LetGo}
use Rattle.vl_run.specs.Run.{Run, cells, state}
use Rattle.vl_run.specs.Run.Point.{Happened}
use Rattle.vl_run.proofs.Laws.{nobody_goes}
use Rattle.vl_replay.specs.Showing.{Shows}
use Rattle.vl_replay.proofs.Moves.{all_then}

-- the event without its ends, and the ends alone
abbrev pub without_ends : Event → Event
without_ends e = record e { ends = ends.Nobody }

abbrev pub ends_alone : Event → ℕ → Event
ends_alone e tx = record e { deed = deeds.Nothing; ends = ends.Whole tx }

module _ (catalog : Catalog) (tx : ℕ) where
  in_turn : (steps : List Step) (u : Machine) (k : Key) → let_go (ends.Whole tx) (key_place catalog k) (after_all catalog (steps ++ LetGo ends.Nobody ∷ []) u k) ≡ after_all catalog (steps ++ LetGo (ends.Whole tx) ∷ []) u k
  in_turn steps u k =
      ap (λ c. let_go (ends.Whole tx) (key_place catalog k) c) (ap (λ (v : Machine). v k) (all_then catalog steps (LetGo ends.Nobody) u) ∙ nobody_goes catalog (after_all catalog steps u) k)
      ∙ sym (ap (λ (v : Machine). v k) (all_then catalog steps (LetGo (ends.Whole tx)) u))

module _ (catalog : Catalog) (past : Run) (e : Event) (tx : ℕ) (gone : e.ends ≡ ends.Whole tx) where
  same_cells : (k : Key) → cells catalog (Happened e ∷ past) k ≡ cells catalog (Happened (ends_alone e tx) ∷ Happened (without_ends e) ∷ past) k
  same_cells k =
      ap (λ (g : Ends). after_all catalog (deed_moves catalog (cells catalog past) e.deed ++ LetGo g ∷ []) (cells catalog past) k) gone
      ∙ sym (in_turn catalog tx (deed_moves catalog (cells catalog past) e.deed) (cells catalog past) k)

  same_state : (k : Key) → state catalog (Happened e ∷ past) k ≡ state catalog (Happened (ends_alone e tx) ∷ Happened (without_ends e) ∷ past) k
  same_state k =
      ap (λ (g : Ends). after_all catalog (deed_steps catalog (cells catalog past) e.deed ++ LetGo g ∷ []) (state catalog past) k) gone
      ∙ sym (in_turn catalog tx (deed_steps catalog (cells catalog past) e.deed) (state catalog past) k)

  pub whole_shows : (count : ℕ) (seen : Shards) → Shows catalog (Happened (ends_alone e tx) ∷ Happened (without_ends e) ∷ past) count seen → Shows catalog (Happened e ∷ past) count seen
  whole_shows count seen shows = record {
    keyed = shows.keyed;
    replays = record { table = λ k. same_state k ∙ shows.replays.table k; versions = λ k. same_cells k ∙ shows.replays.versions k };
    serves = shows.serves;
    lanes = shows.lanes;
    up = shows.up;
    bare = shows.bare;
  }

-- ---- nothing happens

module _ (catalog : Catalog) (past : Run) (e : Event) (deed : e.deed ≡ deeds.Nothing) (gone : e.ends ≡ ends.Nobody) where
  still_cells : (k : Key) → cells catalog (Happened e ∷ past) k ≡ cells catalog past k
  still_cells k =
      ap (λ (d : Deed). after_all catalog (deed_moves catalog (cells catalog past) d ++ LetGo e.ends ∷ []) (cells catalog past) k) deed
      ∙ ap (λ (g : Ends). after catalog (LetGo g) (cells catalog past) k) gone
      ∙ nobody_goes catalog (cells catalog past) k

  still_state : (k : Key) → state catalog (Happened e ∷ past) k ≡ state catalog past k
  still_state k =
      ap (λ (d : Deed). after_all catalog (deed_steps catalog (cells catalog past) d ++ LetGo e.ends ∷ []) (state catalog past) k) deed
      ∙ ap (λ (g : Ends). after catalog (LetGo g) (state catalog past) k) gone
      ∙ nobody_goes catalog (state catalog past) k

  pub still_shows : (count : ℕ) (seen : Shards) → Shows catalog past count seen → Shows catalog (Happened e ∷ past) count seen
  still_shows count seen shows = record {
    keyed = shows.keyed;
    replays = record { table = λ k. still_state k ∙ shows.replays.table k; versions = λ k. still_cells k ∙ shows.replays.versions k };
    serves = shows.serves;
    lanes = shows.lanes;
    up = shows.up;
    bare = shows.bare;
  }

-- ---- the steps may be made whoever ends

pub can_end : (catalog : Catalog) (broken : ℕ → Bool) (steps : List Step) (u : Machine) (one other : Ends) → CanStepAll catalog broken u (steps ++ LetGo one ∷ []) → CanStepAll catalog broken u (steps ++ LetGo other ∷ [])
can_end catalog broken [] u one other can = (tt, tt)
can_end catalog broken (step ∷ steps) u one other can = (can.0, can_end catalog broken steps (after catalog step u) one other can.1)
