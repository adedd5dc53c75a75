-- Each call leaves the shards showing what the run says with its event.
use Rattle.std.proofs.Common.{◌≡◌, ◌≢◌, ◌==◌, ◌≤◌, ◌<◌, ◌+◌, ◌-◌, if◌then◌else◌, ℕ, zero, suc, Bool, true, false, length, Option, Some, None, refl, sym, ap, subst, ◌∙◌, arith}
use Rattle.std.specs.Prelude.{◌∷◌, slice_get}
use Rattle.vl_values.specs.declared.group.Group.{Group}
use Rattle.vl_values.specs.declared.group.Group.TheVariants.{Pre, Main, Post}
use Rattle.vl_values.specs.declared.key.Key.{Key}
use Rattle.vl_catalog.specs.declared.catalog.Catalog.{Catalog}
use Rattle.vl_port.specs.declared.act.Act.{Act}
use Rattle.vl_port.specs.declared.act.Act.TheVariants.{Insert, Put, Remove, RemoveIf, Find}
use Rattle.vl_port.specs.declared.answer.Answer.{Answer}
use Rattle.vl_port.specs.declared.change.Change.{Change}
use Rattle.vl_port.specs.declared.committed.Committed.{Committed}
use Rattle.vl_port.specs.declared.fate.Fate.{Fate}
use Rattle.vl_port.specs.declared.tx_state.TxState.{TxState}
use Rattle.vl_port.specs.declared.who.Who.{Who}
use Rattle.vl_port.specs.Calls.{HasCommitted, PortView}
use Rattle.vl_port.specs.Life.{closed, is_alive, loss_of, lost_as}
use Rattle.vl_port.specs.Serving.{IsServed, Serves, Shards}
use Rattle.vl_port.specs.Transaction.{session_of}
use Rattle.vl_port.specs.View.{Values, View, has_group}
use Rattle.vl_port.proofs.Keeps.{IsGrouped}
use Rattle.vl_port.proofs.Served.{served_lost, serves_acted, serves_changed, serves_committed}
use Rattle.vl_commit.specs.Closing.{AreClosed, with_all_closed, with_closed}
use Rattle.vl_commit.specs.Sessions.{AreLeft, Session, sessions}
use Rattle.vl_commit.proofs.Closings.{all_closed}
use Rattle.vl_model.specs.Entries.{is_lookup_table}
use Rattle.vl_replay.specs.Calls.{ActsOn, Keeps}
use Rattle.vl_replay.specs.Ending.{EndsWhole, FreesAll, IsIdle, committed_deed, committed_ends, was_done}
use Rattle.vl_replay.specs.Lanes.{InLanes, IsActInLane, IsLane, IsReadInLane}
use Rattle.vl_replay.specs.Marks.{HasComeBack}
use Rattle.vl_replay.specs.Showing.{AreBare, AreEmpty, AreUp, ArePlacedByKey, IsOwned, IsWhole, Shows}
use Rattle.vl_run.specs.declared.deed.Deed.{Deed}
use Rattle.vl_run.specs.declared.deed.Deed.TheVariants as deeds
use Rattle.vl_run.specs.declared.ends.Ends.TheVariants as ends
use Rattle.vl_run.specs.declared.event.Event.{Event}
use Rattle.vl_run.specs.declared.mark.Mark.{Mark}
use Rattle.vl_run.specs.Machine.{is_entry, key_place}
use Rattle.vl_run.specs.Replays.{Replays, changes_of}
use Rattle.vl_run.specs.Run.{Run, nowhere, rows_of}
use Rattle.vl_run.specs.Run.Point.{Began, Happened}
use Rattle.vl_replay.proofs.ActMoves.{acted_replays, came_back}
use Rattle.vl_replay.proofs.Closed.{closed_free, closed_whole}
use Rattle.vl_replay.proofs.Ends.{commit_leaves, committed_replays, failed_replays, killed_replays, nothing_replays}
use Rattle.vl_replay.proofs.Frees.{freed_before, frees_lost, frees_none, frees_then, undone_before}
use Rattle.vl_replay.proofs.Kept.{IsInLanes, acted_up, bare_changed, lanes_acted, lanes_changed, lanes_freed, lanes_left, up_changed}

never : true ≡ false → ⊥
never same = cc

no_some : {A : Type 0} {a : A} → None ≡ Some a → ⊥
no_some same = cc

-- ---- an act that came back

lane_grouped : (g : Option Group) (entry : Bool) → IsLane g entry → has_group g ≡ true
lane_grouped None entry lane = absurd lane
lane_grouped (Some Pre) entry lane = refl
lane_grouped (Some Main) entry lane = refl
lane_grouped (Some Post) entry lane = refl

read_grouped : (g : Option Group) (locking entry : Bool) → IsReadInLane g locking entry → locking ≡ true → has_group g ≡ true
read_grouped g false entry lane takes = absurd (never (sym takes))
read_grouped g true entry lane takes = lane_grouped g entry lane

-- an act in its lane that takes keys is one of a session
pub act_grouped : (catalog : Catalog) (who : Who) (act : Act) → IsActInLane catalog who.group act → IsGrouped who act
act_grouped catalog who (Insert key row) lane takes = lane_grouped who.group (is_entry catalog key) lane
act_grouped catalog who (Put key row) lane takes = lane_grouped who.group (is_entry catalog key) lane
act_grouped catalog who (Remove key) lane takes = lane_grouped who.group (is_entry catalog key) lane
act_grouped catalog who (RemoveIf key column value) lane takes = lane_grouped who.group (is_entry catalog key) lane
act_grouped catalog who (Find pred locking) lane takes = read_grouped who.group locking (is_lookup_table catalog pred.table) lane takes

pub acted_shows : (catalog : Catalog) (past : Run) (count : ℕ) (old new : PortView) (who : Who) (shard : ℕ) (act : Act) (answer : Answer) (taking : Mark) (e : Event) → Shows catalog past count old.shards
    → ActsOn catalog count old who shard act answer new → HasComeBack answer → Keeps e who shard act taking answer → Shows catalog (Happened e ∷ past) count new.shards
acted_shows catalog past count old new who shard act answer taking e shows acts back keeps =
    let done = came_back (old.shards shard) (new.shards shard) who act (shows.up shard acts.within) new.way answer back acts.acted.acted in
    record {
      keyed = shows.keyed;
      replays = acted_replays catalog past count old new who shard act answer taking e shows acts back keeps;
      serves = serves_acted catalog count old new who shard act answer shows.serves (act_grouped catalog who act acts.lane) acts.fits acts.acted;
      lanes = lanes_changed catalog count old.shards new.shards shard acts.acted.others acts.within shows.lanes (λ is. lanes_acted catalog who act (old.shards shard) acts.lane is answer (new.shards shard) done);
      up = up_changed catalog count old.shards new.shards shard acts.acted.others shows.up (acted_up (old.shards shard) (new.shards shard) who act answer (shows.up shard acts.within) done);
      bare = bare_changed catalog count old.shards new.shards shard acts.acted.others acts.within shows.bare;
    }

-- ---- a commit, where no shard went down

pub committed_shows : (catalog : Catalog) (past : Run) (count : ℕ) (old new : PortView) (who : Who) (shard : ℕ) → Shows catalog past count old.shards → shard < count → has_group who.group ≡ true → (told : Committed)
    → HasCommitted old who shard told new → (new.shards shard).up ≡ true → (e : Event) → e.deed ≡ committed_deed (was_done new.way (loss_of (old.shards shard) who)) who shard
    → e.ends ≡ committed_ends (was_done new.way (loss_of (old.shards shard) who)) who shard → Shows catalog (Happened e ∷ past) count new.shards
committed_shows catalog past count old new who shard shows within grouped told commits up e deed gone = record {
  keyed = shows.keyed;
  replays = committed_replays catalog past count old new who shard shows within grouped told commits up e deed gone;
  serves = serves_committed catalog count old new who shard told shows.serves commits;
  lanes = lanes_changed catalog count old.shards new.shards shard commits.others within shows.lanes
      (lanes_left catalog (was_done new.way (loss_of (old.shards shard) who)) who (old.shards shard) (new.shards shard) (commit_leaves new.way (old.shards shard) (new.shards shard) who told up commits.settled));
  up = up_changed catalog count old.shards new.shards shard commits.others shows.up up;
  bare = bare_changed catalog count old.shards new.shards shard commits.others within shows.bare;
}

-- ---- a shard session that is killed

pub killed_shows : (catalog : Catalog) (past : Run) (count : ℕ) (old new : Shards) (who : Who) (shard : ℕ) (fate : Fate) → Shows catalog past count old → shard < count → has_group who.group ≡ true → is_alive fate ≡ false
    → ((t : ℕ) → t ≢ shard → new t ≡ old t) → new shard ≡ lost_as fate who (old shard) → (e : Event) → e.deed ≡ deeds.Nothing → e.ends ≡ ends.One who shard → Shows catalog (Happened e ∷ past) count new
killed_shows catalog past count old new who shard fate shows within grouped dead others is e deed gone = record {
  keyed = shows.keyed;
  replays = killed_replays catalog past count old shows who shard within grouped fate new e others is deed gone;
  serves = serves_changed catalog count old new shard shows.serves others (λ served. subst (IsServed catalog shard) (sym is) (served_lost catalog shard fate (old shard) who dead served));
  lanes = lanes_changed catalog count old new shard others within shows.lanes
      (λ lanes. subst (IsInLanes catalog) (sym is) (lanes_freed catalog who.tx (old shard) (lost_as fate who (old shard)) (frees_lost fate who (old shard)).pending (frees_lost fate who (old shard)).holder lanes));
  up = up_changed catalog count old new shard others shows.up (ap (λ (v : View). v.up) is ∙ shows.up shard within);
  bare = bare_changed catalog count old new shard others within shows.bare;
}

-- ---- the end of a transaction

module _ (catalog : Catalog) (count tx : ℕ) (old new : Shards) (frees : FreesAll tx old new) where
  pub lanes_free : InLanes catalog count old → InLanes catalog count new
  lanes_free lanes = record {
    holders = λ t k who within held. lanes.holders t k who within (freed_before tx ((old t).holder k) ((new t).holder k) who ((frees t).holder k) held);
    changes = λ t k change within changed. lanes.changes t k change within (undone_before tx ((old t).pending k) ((new t).pending k) change ((frees t).pending k) changed);
  }

  pub bare_free : AreBare count old → AreBare count new
  bare_free bare = record {
    holders = λ t k behind. no_holder t k ((new t).holder k) refl (bare.holders t k behind);
    changes = λ t k behind. no_change t k ((new t).pending k) refl (bare.changes t k behind);
  }
    where
      no_holder : (t : ℕ) (k : Key) (h : Option Who) → (new t).holder k ≡ h → (old t).holder k ≡ None → (new t).holder k ≡ None
      no_holder t k None is none = is
      no_holder t k (Some who) is none = absurd (no_some (sym none ∙ freed_before tx ((old t).holder k) ((new t).holder k) who ((frees t).holder k) is))

      no_change : (t : ℕ) (k : Key) (c : Option Change) → (new t).pending k ≡ c → (old t).pending k ≡ None → (new t).pending k ≡ None
      no_change t k None is none = is
      no_change t k (Some change) is none = absurd (no_some (sym none ∙ undone_before tx ((old t).pending k) ((new t).pending k) change ((frees t).pending k) is))

one_up : (tx : TxState) (o : Option Session) (seen : Shards) (shard : ℕ) → (with_closed tx o seen shard).up ≡ (seen shard).up
one_up tx None seen shard = refl
one_up tx (Some session) seen shard = by_shard (shard == session.1)
  where
    by_shard : (b : Bool) → (if b then closed (session_of tx session.0) (seen shard) else seen shard).up ≡ (seen shard).up
    by_shard true = refl
    by_shard false = refl

pub all_up : (tx : TxState) (from count : ℕ) (seen : Shards) (shard : ℕ) → (with_all_closed tx from count seen shard).up ≡ (seen shard).up
all_up tx from zero seen shard = refl
all_up tx from (suc count) seen shard = one_up tx (slice_get (sessions tx) (from + count)) (with_all_closed tx from count seen) shard ∙ all_up tx from count seen shard

idle_replays : (catalog : Catalog) (past : Run) (count : ℕ) (old : Shards) → Shows catalog past count old → (tx : ℕ) (new : Shards) (e : Event) (deed : Deed) → EndsWhole tx old new → e.deed ≡ deed → IsIdle deed → e.ends ≡ ends.Whole tx → Replays catalog (Happened e ∷ past) new
idle_replays catalog past count old shows tx new e deeds.Nothing whole is idle gone = nothing_replays catalog past count old shows tx new e whole is gone
idle_replays catalog past count old shows tx new e (deeds.Acts who shard act mark) whole is idle gone = absurd idle
idle_replays catalog past count old shows tx new e (deeds.Commits who shard) whole is idle gone = absurd idle
idle_replays catalog past count old shows tx new e (deeds.Fails who shard) whole is idle gone = failed_replays catalog past count old shows tx who shard new e whole is gone

whole_of : (catalog : Catalog) (past : Run) (tx : TxState) (count : ℕ) (seen : Shards) → Shows catalog past count seen → IsOwned tx.number tx.session count seen → IsWhole catalog tx count seen
whole_of catalog past tx count seen shows owned = record { serves = shows.serves; lanes = shows.lanes; bare = shows.bare; owned = owned }

-- its sessions from a place on were closed, behind a call that did nothing but free keys of it
pub closed_shows : (catalog : Catalog) (past : Run) (tx : TxState) (count from : ℕ) (old : Shards) (mid new : PortView) (e : Event) → Shows catalog past count old → IsOwned tx.number tx.session count old
    → FreesAll tx.number old mid.shards → from ≤ length (sessions tx) → AreLeft tx from count mid.shards → Serves catalog count mid.shards → AreUp count mid.shards
    → AreClosed tx from (length (sessions tx) - from) mid new → IsIdle e.deed → e.ends ≡ ends.Whole tx.number → Shows catalog (Happened e ∷ past) count new.shards
closed_shows catalog past tx count from old mid new e shows owned frees within left serves up are idle gone =
    let all : FreesAll tx.number old new.shards = λ shard. frees_then tx.number (old shard) (mid.shards shard) (new.shards shard) (frees shard) (closed_free tx from (length (sessions tx) - from) mid new are shard) in
    record {
      keyed = shows.keyed;
      replays = idle_replays catalog past count old shows tx.number new.shards e e.deed (closed_whole catalog tx count from old mid new (whole_of catalog past tx count old shows owned) frees within left serves are) refl idle gone;
      serves = (all_closed catalog catalog count count tx from mid new within left serves are (record { serves = refl; counts = refl })).serves;
      lanes = lanes_free catalog count tx.number old new.shards all shows.lanes;
      up = λ t below. ap (λ (v : View). v.up) (are.closed t) ∙ all_up tx from (length (sessions tx) - from) mid.shards t ∙ up t below;
      bare = bare_free catalog count tx.number old new.shards all shows.bare;
    }

-- nothing but the close
pub rolled_back_shows : (catalog : Catalog) (past : Run) (tx : TxState) (count : ℕ) (old new : PortView) (e : Event) → Shows catalog past count old.shards → IsOwned tx.number tx.session count old.shards → AreLeft tx 0 count old.shards
    → AreClosed tx 0 (length (sessions tx)) old new → IsIdle e.deed → e.ends ≡ ends.Whole tx.number → Shows catalog (Happened e ∷ past) count new.shards
rolled_back_shows catalog past tx count old new e shows owned left are idle gone =
    closed_shows catalog past tx count 0 old.shards old new e shows owned (λ shard. frees_none tx.number (old.shards shard)) (omega arith) left shows.serves shows.up
    (subst (λ (n : ℕ). AreClosed tx 0 n old new) (omega arith) are) idle gone

-- ---- a cluster that opens on empty shards

pub opened_shows : (catalog : Catalog) (earlier : Run) (count : ℕ) (seen : Shards) → ArePlacedByKey catalog → Serves catalog count seen → AreUp count seen → AreEmpty seen → Shows catalog (Began nowhere ∷ earlier) count seen
opened_shows catalog earlier count seen keyed serves up empty = record {
  keyed = keyed;
  replays = record {
    table = λ k i. record { row = row_of (is_entry catalog k) ((seen (key_place catalog k)).committed k) (empty.committed (key_place catalog k) k) i; change = change_of (is_entry catalog k) ((seen (key_place catalog k)).pending k) (empty.pending (key_place catalog k) k) i; holder = sym (empty.holder (key_place catalog k) k) i };
    versions = λ k i. record { row = sym (empty.committed (key_place catalog k) k) i; change = sym (empty.pending (key_place catalog k) k) i; holder = sym (empty.holder (key_place catalog k) k) i };
  };
  serves = serves;
  lanes = record { holders = λ t k who within held. absurd (no_some (sym (empty.holder t k) ∙ held)); changes = λ t k change within changed. absurd (no_some (sym (empty.pending t k) ∙ changed)) };
  up = up;
  bare = record { holders = λ t k behind. empty.holder t k; changes = λ t k behind. empty.pending t k };
}
  where
    row_of : (entry : Bool) (row : Option Values) → row ≡ None → rows_of entry None ≡ rows_of entry row
    row_of true row none = refl
    row_of false row none = sym none

    change_of : (entry : Bool) (change : Option Change) → change ≡ None → None ≡ changes_of entry change
    change_of true change none = refl
    change_of false change none = sym none
