-- Where the sessions of a transaction that are left were closed, the transaction is over on all shards.
use Rattle.std.proofs.Common.{◌≡◌, ◌==◌, ◌≤◌, ◌<◌, ◌+◌, ◌-◌, if◌then◌else◌, ℕ, zero, suc, Bool, true, false, length, Option, Some, None, refl, sym, ap, subst, ◌∙◌, inl, inr}
use Rattle.std.proofs.lemmas.Bool.{cases_lt}
use Rattle.std.specs.Prelude.{slice_get}
use Rattle.vl_values.specs.declared.group.Group.{Group}
use Rattle.vl_values.specs.declared.key.Key.{Key}
use Rattle.vl_catalog.specs.declared.catalog.Catalog.{Catalog}
use Rattle.vl_port.specs.declared.change.Change.{Change}
use Rattle.vl_port.specs.declared.tx_state.TxState.{TxState}
use Rattle.vl_port.specs.declared.who.Who.{Who}
use Rattle.vl_port.specs.Calls.{PortView}
use Rattle.vl_port.specs.Life.{closed}
use Rattle.vl_port.specs.Serving.{Serves, Shards}
use Rattle.vl_port.specs.Transaction.{session_of}
use Rattle.vl_port.proofs.Lives.{live_there}
use Rattle.vl_commit.specs.Closing.{AreClosed, with_all_closed, with_closed}
use Rattle.vl_commit.specs.Sessions.{AreLeft, HasNothingLeft, Session, sessions}
use Rattle.vl_commit.proofs.Closings.{all_closed}
use Rattle.vl_replay.specs.Ending.{EndsWhole, Frees, FreesAll}
use Rattle.vl_replay.specs.Lanes.{IsLane}
use Rattle.vl_replay.specs.Showing.{IsWhole}
use Rattle.vl_run.specs.Machine.{is_entry}
use Rattle.vl_replay.proofs.Frees.{ends_whole, freed_before, frees_closed, frees_none, frees_then, undone_before}

-- ---- closes free

one_frees : (tx : TxState) (o : Option Session) (seen : Shards) (shard : ℕ) → Frees tx.number (seen shard) (with_closed tx o seen shard)
one_frees tx None seen shard = frees_none tx.number (seen shard)
one_frees tx (Some session) seen shard = by_shard (shard == session.1)
  where
    by_shard : (b : Bool) → Frees tx.number (seen shard) (if b then closed (session_of tx session.0) (seen shard) else seen shard)
    by_shard true = frees_closed (session_of tx session.0) (seen shard)
    by_shard false = frees_none tx.number (seen shard)

all_free : (tx : TxState) (from count : ℕ) (seen : Shards) (shard : ℕ) → Frees tx.number (seen shard) (with_all_closed tx from count seen shard)
all_free tx from zero seen shard = frees_none tx.number (seen shard)
all_free tx from (suc count) seen shard =
    frees_then tx.number (seen shard) (with_all_closed tx from count seen shard) (with_all_closed tx from (suc count) seen shard) (all_free tx from count seen shard)
    (one_frees tx (slice_get (sessions tx) (from + count)) (with_all_closed tx from count seen) shard)

pub closed_free : (tx : TxState) (from count : ℕ) (old new : PortView) → AreClosed tx from count old new → FreesAll tx.number old.shards new.shards
closed_free tx from count old new are = λ shard. subst (Frees tx.number (old.shards shard)) (sym (are.closed shard)) (all_free tx from count old.shards shard)

-- ---- who is the transaction's session

grouped_by : (g : Option Group) (entry : Bool) → IsLane g entry → (group : Group) × (g ≡ Some group)
grouped_by None entry lane = absurd lane
grouped_by (Some group) entry lane = (group, refl)

module _ (catalog : Catalog) (tx : TxState) (count : ℕ) (old : Shards) (is : IsWhole catalog tx count old) where
  -- a holder of the transaction is its session of a group
  holder_of : (shard : ℕ) (k : Key) (who : Who) → shard < count → (old shard).holder k ≡ Some who → who.tx ≡ tx.number → (group : Group) × (who ≡ session_of tx group)
  holder_of shard k who within held own =
      let group = grouped_by who.group (is_entry catalog k) (is.lanes.holders shard k who within held) in
      let there = live_there (old shard) who ((is.serves.each shard within).kept.live k who held) in
      let session : who.session ≡ tx.session = is.owned.own shard who within there own in
      (group.0, λ i. record { session = session i; tx = own i; group = group.1 i })

  module _ (new : Shards) (frees : FreesAll tx.number old new) (nothing : HasNothingLeft tx count new) where
    none_held : (shard : ℕ) (k : Key) (who : Who) → (new shard).holder k ≡ Some who → who.tx ≡ tx.number → ⊥
    none_held shard k who held own =
        let before : (old shard).holder k ≡ Some who = freed_before tx.number ((old shard).holder k) ((new shard).holder k) who ((frees shard).holder k) held in
        elim (cases_lt shard count) [
          | inl within ↦ let of_ = holder_of shard k who within before own in nothing.locks of_.0 shard k within (held ∙ ap (λ (w : Who). Some w) of_.1)
          | inr behind ↦ no_some (sym (is.bare.holders shard k behind) ∙ before)
        ]
      where
        no_some : None ≡ Some who → ⊥
        no_some same = cc

    none_changed : (shard : ℕ) (k : Key) (change : Change) → (new shard).pending k ≡ Some change → change.who.tx ≡ tx.number → ⊥
    none_changed shard k change changed own =
        let before : (old shard).pending k ≡ Some change = undone_before tx.number ((old shard).pending k) ((new shard).pending k) change ((frees shard).pending k) changed in
        elim (cases_lt shard count) [
          | inl within ↦ let of_ = holder_of shard k change.who within ((is.serves.each shard within).kept.held k change before) own in nothing.versions of_.0 shard k change within changed of_.1
          | inr behind ↦ no_some (sym (is.bare.changes shard k behind) ∙ before)
        ]
      where
        no_some : None ≡ Some change → ⊥
        no_some same = cc

    pub over_whole : EndsWhole tx.number old new
    over_whole = ends_whole tx.number old new frees none_held none_changed

-- the sessions from a place on were closed, behind a call that freed some of the transaction's keys or none
pub closed_whole : (catalog : Catalog) (tx : TxState) (count from : ℕ) (old : Shards) (mid new : PortView) → IsWhole catalog tx count old → FreesAll tx.number old mid.shards → from ≤ length (sessions tx) → AreLeft tx from count mid.shards
    → Serves catalog count mid.shards → AreClosed tx from (length (sessions tx) - from) mid new → EndsWhole tx.number old new.shards
closed_whole catalog tx count from old mid new is frees within left serves are =
    over_whole catalog tx count old is new.shards
    (λ shard. frees_then tx.number (old shard) (mid.shards shard) (new.shards shard) (frees shard) (closed_free tx from (length (sessions tx) - from) mid new are shard))
    (all_closed catalog catalog count count tx from mid new within left serves are (record { serves = refl; counts = refl })).nothing
