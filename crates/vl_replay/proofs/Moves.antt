-- Where the moves of an event's deed and its ends give what the shards show, the shards replay the run with the event.
use Rattle.std.proofs.Common.{◌≡◌, ◌++◌, List, [], ◌∷◌, refl, sym, ap, ◌∙◌}
use Rattle.vl_values.specs.declared.key.Key.{Key}
use Rattle.vl_catalog.specs.declared.catalog.Catalog.{Catalog}
use Rattle.vl_port.specs.Serving.{Shards}
use Rattle.vl_run.specs.declared.deed.Deed.{Deed}
use Rattle.vl_run.specs.declared.ends.Ends.{Ends}
use Rattle.vl_run.specs.declared.event.Event.{Event}
use Rattle.vl_run.specs.Deeds.{deed_moves, deed_steps}
use Rattle.vl_run.specs.Machine.{Machine, Step, after, after_all}
use Rattle.vl_run.specs.Machine.Step.{LetGo}
use Rattle.vl_run.specs.Replays.{Replays, shards_cells, shown_machine}
use Rattle.vl_run.specs.Run.{Run, cells, state}
use Rattle.vl_run.specs.Run.Point.{Happened}
use Rattle.vl_replay.proofs.Blanks.{IsDeedInLane, after_let_go, blank, deed_blank}

module _ (catalog : Catalog) where
  -- the last of several steps
  pub all_then : (steps : List Step) (last : Step) (u : Machine) → after_all catalog (steps ++ last ∷ []) u ≡ after catalog last (after_all catalog steps u)
  all_then [] last u = refl
  all_then (step ∷ steps) last u = all_then steps last (after catalog step u)

  module _ (past : Run) (old : Shards) (replays : Replays catalog past old) where
    -- what the run says is what the shards show, at all keys at once
    pub same_cells : cells catalog past ≡ shards_cells catalog old
    same_cells = λ i k. replays.versions k i

    pub same_state : state catalog past ≡ shown_machine catalog old
    same_state = λ i k. replays.table k i

    -- the versions after the deed
    abbrev pub moved : Deed → Machine
    moved deed = after_all catalog (deed_moves catalog (shards_cells catalog old) deed) (shards_cells catalog old)

    cells_after : (e : Event) (deed : Deed) (gone : Ends) → e.deed ≡ deed → e.ends ≡ gone → cells catalog (Happened e ∷ past) ≡ after catalog (LetGo gone) (moved deed)
    cells_after e deed gone is ends =
        ap (λ (u : Machine). after_all catalog (deed_moves catalog u e.deed ++ LetGo e.ends ∷ []) u) same_cells
        ∙ ap (λ (d : Deed). after_all catalog (deed_moves catalog (shards_cells catalog old) d ++ LetGo e.ends ∷ []) (shards_cells catalog old)) is
        ∙ ap (λ (g : Ends). after_all catalog (deed_moves catalog (shards_cells catalog old) deed ++ LetGo g ∷ []) (shards_cells catalog old)) ends
        ∙ all_then (deed_moves catalog (shards_cells catalog old) deed) (LetGo gone) (shards_cells catalog old)

    state_after : (e : Event) (deed : Deed) (gone : Ends) → e.deed ≡ deed → e.ends ≡ gone
        → state catalog (Happened e ∷ past) ≡ after catalog (LetGo gone) (after_all catalog (deed_steps catalog (shards_cells catalog old) deed) (shown_machine catalog old))
    state_after e deed gone is ends =
        ap (λ (u : Machine). after_all catalog (deed_steps catalog u e.deed ++ LetGo e.ends ∷ []) (state catalog past)) same_cells
        ∙ ap (λ (u : Machine). after_all catalog (deed_steps catalog (shards_cells catalog old) e.deed ++ LetGo e.ends ∷ []) u) same_state
        ∙ ap (λ (d : Deed). after_all catalog (deed_steps catalog (shards_cells catalog old) d ++ LetGo e.ends ∷ []) (shown_machine catalog old)) is
        ∙ ap (λ (g : Ends). after_all catalog (deed_steps catalog (shards_cells catalog old) deed ++ LetGo g ∷ []) (shown_machine catalog old)) ends
        ∙ all_then (deed_steps catalog (shards_cells catalog old) deed) (LetGo gone) (shown_machine catalog old)

    pub replays_by : (new : Shards) (e : Event) (deed : Deed) (gone : Ends) → e.deed ≡ deed → e.ends ≡ gone → IsDeedInLane catalog (shards_cells catalog old) deed
        → ((k : Key) → shards_cells catalog new k ≡ after catalog (LetGo gone) (moved deed) k) → Replays catalog (Happened e ∷ past) new
    replays_by new e deed gone is ends lane became = record {
      table = λ k. ap (λ (u : Machine). u k) (state_after e deed gone is ends)
          ∙ ap (λ (u : Machine). after catalog (LetGo gone) u k) (λ i j. deed_blank catalog (shards_cells catalog old) deed (shards_cells catalog old) lane j i)
          ∙ after_let_go catalog gone (moved deed) k
          ∙ ap (λ (u : Machine). blank catalog u k) (λ i j. sym (became j) i);
      versions = λ k. ap (λ (u : Machine). u k) (cells_after e deed gone is ends) ∙ sym (became k);
    }
