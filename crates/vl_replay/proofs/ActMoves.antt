-- An act that came back is the deed of its event.
use Rattle.std.proofs.Common.{◌≡◌, ◌≢◌, ℕ, true, false, ◌∷◌, Option, Some, None, refl, sym, ap, subst, ◌∙◌, inl, inr}
use Rattle.std.proofs.lemmas.Bool.{cases_Bool, eq-eqb, eqb-true}
use Rattle.vl_values.specs.declared.key.Key.{Key}
use Rattle.vl_values.specs.declared.lost_why.LostWhy.{LostWhy}
use Rattle.vl_catalog.specs.declared.catalog.Catalog.{Catalog}
use Rattle.vl_port.specs.declared.act.Act.{Act}
use Rattle.vl_port.specs.declared.act.Act.TheVariants.{Insert, Put, Remove, RemoveIf, Find}
use Rattle.vl_port.specs.declared.answer.Answer.{Answer}
use Rattle.vl_port.specs.declared.answer.Answer.TheVariants.{Done, Unchanged, Rows, Found, Held, Lost, Device, Limit, Memory}
use Rattle.vl_port.specs.declared.carried.Carried.{Carried}
use Rattle.vl_port.specs.declared.carried.Carried.TheVariants.{Passed, LostBefore, LostAfter}
use Rattle.vl_port.specs.declared.who.Who.{Who}
use Rattle.vl_port.specs.Acting.{Acted, CanWrite, taken, written}
use Rattle.vl_port.specs.Calls.{PortView}
use Rattle.vl_port.specs.Carrying.{ActsThere, Carries, Does, Uses}
use Rattle.vl_port.specs.Life.{Reaches, loss_of, opened}
use Rattle.vl_port.specs.Outcomes.{outcome_of}
use Rattle.vl_port.specs.Placing.{IsActOn}
use Rattle.vl_port.specs.Serving.{Shards}
use Rattle.vl_port.specs.View.{View}
use Rattle.vl_replay.specs.Calls.{ActsOn, Keeps}
use Rattle.vl_replay.specs.Lanes.{IsActInLane}
use Rattle.vl_replay.specs.Marks.{HasComeBack, IsTaking, deed_of, mark_of}
use Rattle.vl_replay.specs.Showing.{ArePlacedByKey, Shows}
use Rattle.vl_run.specs.declared.deed.Deed.TheVariants as deeds
use Rattle.vl_run.specs.declared.ends.Ends.TheVariants as ends
use Rattle.vl_run.specs.declared.event.Event.{Event}
use Rattle.vl_run.specs.declared.mark.Mark.{Mark}
use Rattle.vl_run.specs.declared.mark.Mark.TheVariants as marks
use Rattle.vl_run.specs.Deeds.{deed_moves}
use Rattle.vl_run.specs.Machine.{Machine, after_all, is_on, key_place}
use Rattle.vl_run.specs.Replays.{Replays, cell_of, shards_cells}
use Rattle.vl_run.specs.Run.{Run}
use Rattle.vl_run.specs.Run.Point.{Happened}
use Rattle.vl_run.proofs.Laws.{nobody_goes}
use Rattle.vl_run.proofs.Replaying.{take_replays, write_replays}
use Rattle.vl_replay.proofs.Blanks.{IsDeedInLane}
use Rattle.vl_replay.proofs.Moves.{moved, replays_by}
use Rattle.vl_replay.proofs.Places.{key_on}

-- ---- what came back was done

never : true ≡ false → ⊥
never same = cc

-- a shard that is up is reached as it is
pub up_there : (old there : View) → old.up ≡ true → Reaches old there → there ≡ old
up_there old there up (inl reached) = reached.1
up_there old there up (inr raised) = absurd (never (sym up ∙ raised.0))

module _ (old new : View) (who : Who) (act : Act) (up : old.up ≡ true) where
  acts_there : (answer : Answer) → ActsThere old who act answer new → Acted old who act answer new
  acts_there answer (there, reached, acted) = subst (λ (v : View). Acted v who act answer new) (up_there old there up reached) acted

  does_there : (answer : Answer) → HasComeBack answer → Does old who act answer new → Acted old who act answer new
  does_there Done back does = acts_there Done does
  does_there Unchanged back does = acts_there Unchanged does
  does_there (Rows rows) back does = acts_there (Rows rows) does
  does_there (Found key row) back does = acts_there (Found key row) does
  does_there (Held by key) back does = acts_there (Held by key) does
  does_there (Lost why) back does = absurd back
  does_there Device back does = absurd back
  does_there (Limit what count) back does = acts_there (Limit what count) does
  does_there Memory back (inl same) = same
  does_there Memory back (inr reached) = up_there old new up reached

  lost_never : (answer : Answer) (why : LostWhy) → HasComeBack answer → answer ≡ Lost why → ⊥
  lost_never answer why back is = subst HasComeBack is back

  uses_there : (loss : Option LostWhy) (answer : Answer) → HasComeBack answer → Uses loss old who act answer new → Acted old who act answer new
  uses_there None answer back uses = does_there answer back uses
  uses_there (Some why) answer back uses = absurd (lost_never answer why back uses.0)

  memory_there : (answer : Answer) → answer ≡ Memory → new ≡ old → Acted old who act answer new
  memory_there answer is same = subst (λ (a : Answer). Acted old who act a new) (sym is) same

  pub came_back : (way : Carried) (answer : Answer) → HasComeBack answer → Carries way old who act answer new → Acted old who act answer new
  came_back Passed answer back carried = uses_there (loss_of old who) answer back carried
  came_back LostBefore answer back (inl room) = memory_there answer room.0 room.1
  came_back LostBefore answer back (inr cut_off) = absurd (lost_never answer _ back cut_off.0)
  came_back LostAfter answer back (inl memory) = subst (λ (a : Answer). Acted old who act a new) (sym memory.0) (uses_there (loss_of old who) Memory tt memory.1)
  came_back LostAfter answer back (inr (inner, there, some, uses, cut_off)) = absurd (lost_never answer _ back cut_off.0)

-- ---- and its moves give what the shards show

module _ (catalog : Catalog) (keyed : ArePlacedByKey catalog) (shard : ℕ) (old new : Shards) (others : (t : ℕ) → t ≢ shard → new t ≡ old t) (who : Who) where
  abbrev moved_by : Act → Mark → Machine
  moved_by act mark = after_all catalog (deed_moves catalog (shards_cells catalog old) (deeds.Acts who shard act mark)) (shards_cells catalog old)

  -- a write
  wrote_moves : (act : Act) → IsActOn catalog shard act → CanWrite (old shard) who act → new shard ≡ written who act (old shard) → (k : Key) → shards_cells catalog new k ≡ moved_by act marks.Writes k
  wrote_moves (Insert key row) fits can is k = write_replays catalog shard old new others who (Insert key row) key None (key_on catalog keyed shard key (row, fits)) (λ v j. refl) is k
  wrote_moves (Put key row) fits can is k = write_replays catalog shard old new others who (Put key row) key (Some key) (key_on catalog keyed shard key (row, fits)) (λ v j. refl) is k
  wrote_moves (Remove key) fits can is k = write_replays catalog shard old new others who (Remove key) key (Some key) (key_on catalog keyed shard key fits) (λ v j. refl) is k
  wrote_moves (RemoveIf key column value) fits can is k = write_replays catalog shard old new others who (RemoveIf key column value) key (Some key) (key_on catalog keyed shard key fits.0) (λ v j. refl) is k
  wrote_moves (Find pred locking) fits can is k = absurd can

  -- the keys alone
  took_moves : (act : Act) (taking : Mark) → IsTaking taking → new shard ≡ taken who act (old shard) → (k : Key) → shards_cells catalog new k ≡ moved_by act taking k
  took_moves act marks.Opens takes is k = absurd takes
  took_moves act marks.Takes takes is k = take_replays catalog shard old new others who act is k
  took_moves act marks.Looks takes is k = take_replays catalog shard old new others who act is k
  took_moves act marks.Reads takes is k = take_replays catalog shard old new others who act is k
  took_moves act marks.Writes takes is k = absurd takes

  off_stays : (k : Key) → is_on catalog shard k ≡ false → shards_cells catalog new k ≡ shards_cells catalog old k
  off_stays k off = ap (λ (v : View). cell_of v k) (others (key_place catalog k) (λ same. never (sym (eq-eqb (key_place catalog k) shard same) ∙ off)))

  -- a shard that shows the same keys
  same_moves : (on : View) → new shard ≡ on → ((k : Key) → cell_of on k ≡ cell_of (old shard) k) → (k : Key) → shards_cells catalog new k ≡ shards_cells catalog old k
  same_moves on is same k = elim (cases_Bool (is_on catalog shard k)) [
    | inl here ↦ let at : key_place catalog k ≡ shard = eqb-true (key_place catalog k) shard here in
        ap (λ (t : ℕ). cell_of (new t) k) at ∙ ap (λ (v : View). cell_of v k) is ∙ same k ∙ ap (λ (t : ℕ). cell_of (old t) k) (sym at)
    | inr off ↦ off_stays k off
  ]

  pub act_moves : (act : Act) (answer : Answer) (taking : Mark) → IsTaking taking → IsActOn catalog shard act → Acted (old shard) who act answer (new shard)
      → (k : Key) → shards_cells catalog new k ≡ after_all catalog (deed_moves catalog (shards_cells catalog old) (deed_of who shard act (mark_of taking (outcome_of answer)))) (shards_cells catalog old) k
  act_moves act Done taking takes fits (free, can, is) k = wrote_moves act fits can is k
  act_moves act Unchanged taking takes fits (free, nothing, is) k = took_moves act taking takes is k
  act_moves act (Rows rows) taking takes fits (free, read, is) k = took_moves act taking takes is k
  act_moves act (Found key row) taking takes fits (free, found, is) k = took_moves act taking takes is k
  act_moves act (Held by key) taking takes fits (held, is) k = same_moves (opened who (old shard)) is (λ j. refl) k
  act_moves act (Lost why) taking takes fits acted k = absurd acted
  act_moves act Device taking takes fits acted k = absurd acted
  act_moves act (Limit what count) taking takes fits (free, can, is) k = same_moves (opened who (old shard)) is (λ j. refl) k
  act_moves act Memory taking takes fits is k = same_moves (old shard) is (λ j. refl) k

  took_lane : (act : Act) (taking : Mark) → IsTaking taking → IsDeedInLane catalog (shards_cells catalog old) (deeds.Acts who shard act taking)
  took_lane act marks.Opens takes = tt
  took_lane act marks.Takes takes = tt
  took_lane act marks.Looks takes = tt
  took_lane act marks.Reads takes = tt
  took_lane act marks.Writes takes = absurd takes

  -- a deed that writes is that of a write
  marked_lane : (act : Act) (answer : Answer) (taking : Mark) → IsTaking taking → IsActInLane catalog who.group act → IsDeedInLane catalog (shards_cells catalog old) (deed_of who shard act (mark_of taking (outcome_of answer)))
  marked_lane act Done taking takes lane = lane
  marked_lane act Unchanged taking takes lane = took_lane act taking takes
  marked_lane act (Rows rows) taking takes lane = took_lane act taking takes
  marked_lane act (Found key row) taking takes lane = took_lane act taking takes
  marked_lane act (Held by key) taking takes lane = tt
  marked_lane act (Lost why) taking takes lane = tt
  marked_lane act Device taking takes lane = tt
  marked_lane act (Limit what count) taking takes lane = tt
  marked_lane act Memory taking takes lane = tt

-- ---- the shards replay the run with its event

pub acted_replays : (catalog : Catalog) (past : Run) (count : ℕ) (old new : PortView) (who : Who) (shard : ℕ) (act : Act) (answer : Answer) (taking : Mark) (e : Event) → Shows catalog past count old.shards
    → ActsOn catalog count old who shard act answer new → HasComeBack answer → Keeps e who shard act taking answer → Replays catalog (Happened e ∷ past) new.shards
acted_replays catalog past count old new who shard act answer taking e shows acts back keeps =
    replays_by catalog past old.shards shows.replays new.shards e (deed_of who shard act (mark_of taking (outcome_of answer))) ends.Nobody keeps.deed keeps.ends
    (marked_lane catalog shows.keyed shard old.shards new.shards acts.acted.others who act answer taking keeps.takes acts.lane)
    (λ k. act_moves catalog shows.keyed shard old.shards new.shards acts.acted.others who act answer taking keeps.takes acts.fits
    (came_back (old.shards shard) (new.shards shard) who act (shows.up shard acts.within) new.way answer back acts.acted.acted) k
    ∙ sym (nobody_goes catalog (moved catalog past old.shards shows.replays (deed_of who shard act (mark_of taking (outcome_of answer)))) k))
