-- Behind its commit the one table has nothing of a transaction, and no event of a commit opens one.
use Rattle.std.proofs.Common.{◌≡◌, ◌∙◌, ◌<◌, ℕ, Bool, true, false, Option, Some, None, sym, ap, refl, inl, inr}
use Rattle.std.proofs.lemmas.Bool.{cases_lt}
use Rattle.vl_values.specs.declared.group.Group.{Group}
use Rattle.vl_values.specs.declared.key.Key.{Key}
use Rattle.vl_catalog.specs.declared.catalog.Catalog.{Catalog}
use Rattle.vl_sql.specs.declared.stmt.Stmt.{Stmt}
use Rattle.vl_port.specs.declared.change.Change.{Change}
use Rattle.vl_port.specs.declared.tx_state.TxState.{TxState}
use Rattle.vl_port.specs.declared.who.Who.{Who}
use Rattle.vl_port.specs.Serving.{Shards}
use Rattle.vl_port.specs.Transaction.{session_of}
use Rattle.vl_port.proofs.Lives.{live_there}
use Rattle.vl_commit.specs.Sessions.{HasNothingLeft}
use Rattle.vl_run.specs.declared.event.Event.{Event}
use Rattle.vl_run.specs.Allowed.{HasNothing, Opens, is_ok}
use Rattle.vl_run.specs.Allowed.Opens.{Later}
use Rattle.vl_run.specs.Machine.{Cell, is_entry, key_place}
use Rattle.vl_run.specs.Progress.{session}
use Rattle.vl_run.specs.Replays.{Replays, changes_of}
use Rattle.vl_run.specs.Run.{Run, state}
use Rattle.vl_run.specs.Session.{Kind, Owned, kind_of, opens_first}
use Rattle.vl_replay.specs.Lanes.{IsLane}
use Rattle.vl_replay.specs.Showing.{IsWhole}
use Rattle.vl_run.specs.Session.Kind.{Begins, Commits, RollsBack, SetsAuto, Stays, Works}

-- a change of the one table is one of the shards
changed_there : (entry : Bool) (pending : Option Change) (change : Change) → changes_of entry pending ≡ Some change → pending ≡ Some change
changed_there true pending change is = absurd (cc)
changed_there false pending change is = is

grouped_by : (g : Option Group) (entry : Bool) → IsLane g entry → (group : Group) × (g ≡ Some group)
grouped_by None entry lane = absurd lane
grouped_by (Some group) entry lane = (group, refl)

module _ (catalog : Catalog) (past : Run) (tx : TxState) (count : ℕ) (seen : Shards) (replays : Replays catalog past seen) (whole : IsWhole catalog tx count seen) (left : HasNothingLeft tx count seen) where
  -- a holder of the transaction is its session of a group
  holder_of : (shard : ℕ) (k : Key) (who : Who) → shard < count → (seen shard).holder k ≡ Some who → who.tx ≡ tx.number → (group : Group) × (who ≡ session_of tx group)
  holder_of shard k who within held own =
      let group = grouped_by who.group (is_entry catalog k) (whole.lanes.holders shard k who within held) in
      let there = live_there (seen shard) who ((whole.serves.each shard within).kept.live k who held) in
      let session : who.session ≡ tx.session = whole.owned.own shard who within there own in
      (group.0, λ i. record { session = session i; tx = own i; group = group.1 i })

  no_hand : (k : Key) (who : Who) → (state catalog past k).holder ≡ Some who → who.tx ≡ tx.number → ⊥
  no_hand k who holds own =
      let held : (seen (key_place catalog k)).holder k ≡ Some who = sym (ap (λ (c : Cell). c.holder) (replays.table k)) ∙ holds in
      elim (cases_lt (key_place catalog k) count) [
        | inl within ↦ let by = holder_of (key_place catalog k) k who within held own in left.locks by.0 (key_place catalog k) k within (held ∙ ap (λ (w : Who). Some w) by.1)
        | inr behind ↦ no_some (sym (whole.bare.holders (key_place catalog k) k behind) ∙ held)
      ]
    where
      no_some : None ≡ Some who → ⊥
      no_some same = cc

  no_change : (k : Key) (change : Change) → (state catalog past k).change ≡ Some change → change.who.tx ≡ tx.number → ⊥
  no_change k change is own =
      let changed = changed_there (is_entry catalog k) ((seen (key_place catalog k)).pending k) change (sym (ap (λ (c : Cell). c.change) (replays.table k)) ∙ is) in
      elim (cases_lt (key_place catalog k) count) [
        | inl within ↦
            let by = holder_of (key_place catalog k) k change.who within ((whole.serves.each (key_place catalog k) within).kept.held k change changed) own in
            left.versions by.0 (key_place catalog k) k change within changed by.1
        | inr behind ↦ no_some (sym (whole.bare.changes (key_place catalog k) k behind) ∙ changed)
      ]
    where
      no_some : None ≡ Some change → ⊥
      no_some same = cc

  pub nothing_left : HasNothing (state catalog past) tx.number
  nothing_left = record { hand = no_hand; own = no_change }

-- ---- none opens

opens_later : (kind : Kind) (own : Owned) → opens_first kind (Some own) ≡ false
opens_later Works own = refl
opens_later Begins own = refl
opens_later Commits own = refl
opens_later RollsBack own = refl
opens_later (SetsAuto on) own = refl
opens_later Stays own = refl

pub none_opens : (past : Run) (e : Event) (stmt : Stmt) (own : Owned) → (session past e.session).owned ≡ Some own → (kind_of stmt ≡ Begins → is_ok e.told ≡ false) → Opens past e stmt (session past e.session).owned None
none_opens past e stmt own owned goes = Later (ap (opens_first (kind_of stmt)) owned ∙ opens_later (kind_of stmt) own) goes
