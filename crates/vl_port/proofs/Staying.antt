-- What a shard session holds stays as it is through the calls of every other one, unless its shard goes down.
use Rattle.std.proofs.Common.{◌≡◌, ◌≤◌, ◌+◌, ℕ, Bool, true, false, cond, not, ◌&&◌, ◌⊎◌, inl, inr, refl, sym, ◌∙◌, ap, subst, arith, Option, Some, None}
use Rattle.vl_values.specs.declared.key.Key.{Key}
use Rattle.vl_values.specs.declared.lost_why.LostWhy.{LostWhy}
use Rattle.vl_port.specs.declared.act.Act.{Act}
use Rattle.vl_port.specs.declared.answer.Answer.{Answer}
use Rattle.vl_port.specs.declared.answer.Answer.TheVariants.{Done, Unchanged, Rows, Found, Held, Lost, Device, Limit, Memory}
use Rattle.vl_port.specs.declared.carried.Carried.{Carried}
use Rattle.vl_port.specs.declared.carried.Carried.TheVariants.{Passed, LostBefore, LostAfter}
use Rattle.vl_port.specs.declared.change.Change.{Change}
use Rattle.vl_port.specs.declared.committed.Committed.{Committed}
use Rattle.vl_port.specs.declared.committed.Committed.TheVariants as outcome
use Rattle.vl_port.specs.declared.fate.Fate.{Fate}
use Rattle.vl_port.specs.declared.fate.Fate.TheVariants as fates
use Rattle.vl_port.specs.declared.opened.Opened.{Opened}
use Rattle.vl_port.specs.declared.who.Who.{Who}
use Rattle.vl_port.specs.View.{View, Values, has_group, is_who, version_for}
use Rattle.vl_port.specs.Holding.{needs, is_held_by_other, IsFree}
use Rattle.vl_port.specs.Acting.{taken, written, row_left, settled, Acted}
use Rattle.vl_port.specs.Carrying.{ActsThere, Carries, Closes, CommitCarries, CommitUses, Commits, Does, Uses}
use Rattle.vl_port.specs.Keeping.{IsKept, Stays}
use Rattle.vl_port.specs.Life.{Reaches, WentDown, closed, cut, downed_in, dropped, lost_as, loss_of, opened, without}
use Rattle.vl_port.proofs.Naming.{no_both}
use Rattle.vl_port.proofs.Lives.{none_down, some_one}
use Rattle.vl_port.proofs.Keeps.{IsGrouped, kept_uses, without_other}

left_false : (a b : Bool) → b ≡ true → (a && b) ≡ false → a ≡ false
left_false true b h k = absurd (no_both b h k)
left_false false b h k = refl

pub stays_same : (view : View) (key : Key) → Stays view view key
stays_same view key = record { holder = refl; pending = refl; committed = refl }

pub stays_trans : (one two three : View) (key : Key) → Stays one two key → Stays two three key → Stays one three key
stays_trans one two three key first then = record {
  holder = then.holder ∙ first.holder;
  pending = then.pending ∙ first.pending;
  committed = then.committed ∙ first.committed;
}

along : (old view new : View) (key : Key) → new ≡ view → Stays old view key → Stays old new key
along old view new key is h = subst (λ (v : View). Stays old v key) (sym is) h

-- ---- a pending version of the key is the holder's

pending_stays : (other : Who) (o : Option Change) → ((change : Change) → o ≡ Some change → is_who change.who other ≡ false) → dropped other o ≡ o
pending_stays other None mine = refl
pending_stays other (Some change) mine = ap (λ (b : Bool). cond b None (Some change)) (mine change refl)

committed_stays : (other : Who) (o : Option Change) (committed : Option Values) → ((change : Change) → o ≡ Some change → is_who change.who other ≡ false) → version_for other o committed ≡ committed
committed_stays other None committed mine = refl
committed_stays other (Some change) committed mine = ap (λ (b : Bool). cond b change.row committed) (mine change refl)

pub stays_on : (b : Bool) (X : Type 0) (x y : X) → x ≡ y → cond b x y ≡ y
stays_on true X x y h = h
stays_on false X x y h = refl

-- ---- the key is held by a session, and another one acts

module _ (view : View) (who other : Who) (key : Key) (held : view.holder key ≡ Some who) (apart : is_who who other ≡ false) where
  -- a free act of another doesn't need the key
  not_needed : (act : Act) → IsFree view other act → needs view act key ≡ false
  not_needed act free =
      let h = subst (λ (o : Option Who). (needs view act key && is_held_by_other other o) ≡ false) held (free key) in
      left_false (needs view act key) (not (is_who who other)) (ap not apart) h

  stays_taken : (act : Act) → IsFree view other act → Stays view (taken other act view) key
  stays_taken act free = record {
    holder = ap (λ (b : Bool). cond b (Some other) (view.holder key)) (not_needed act free);
    pending = refl;
    committed = refl;
  }

  stays_written : (act : Act) → IsFree view other act → Stays view (written other act view) key
  stays_written act free = record {
    holder = ap (λ (b : Bool). cond b (Some other) (view.holder key)) (not_needed act free);
    pending = ap (λ (b : Bool). cond b (Some (record { who = other; row = row_left act })) (view.pending key)) (not_needed act free);
    committed = refl;
  }

  mine : IsKept view → (change : Change) → view.pending key ≡ Some change → is_who change.who other ≡ false
  mine kept change h = subst (λ (w : Who). is_who w other ≡ false) (some_one who change.who (sym held ∙ kept.held key change h)) apart

  holder_stays : without other (view.holder key) ≡ view.holder key
  holder_stays = ap (without other) held ∙ without_other other who apart ∙ sym held

  pub stays_closed : IsKept view → Stays view (closed other view) key
  stays_closed kept = record { holder = holder_stays; pending = pending_stays other (view.pending key) (mine kept); committed = refl }

  stays_settled : IsKept view → Stays view (settled other view) key
  stays_settled kept = record {
    holder = holder_stays;
    pending = pending_stays other (view.pending key) (mine kept);
    committed = committed_stays other (view.pending key) (view.committed key) (mine kept);
  }

  pub stays_lost : (fate : Fate) → IsKept view → Stays view (lost_as fate other view) key
  stays_lost fate kept = record {
    holder = stays_on (has_group other.group) (Option Who) (without other (view.holder key)) (view.holder key) holder_stays;
    pending = stays_on (has_group other.group) (Option Change) (dropped other (view.pending key)) (view.pending key) (pending_stays other (view.pending key) (mine kept));
    committed = refl;
  }

  stays_cut : IsKept view → Stays view (cut other view) key
  stays_cut kept = let h = stays_lost fates.Cut kept in record { holder = h.holder; pending = h.pending; committed = h.committed }

  -- a shard that is down has no holder
  stays_reached : (there : View) → IsKept view → Reaches view there → Stays view there key
  stays_reached there kept (inl same) = along view view there key same.1 (stays_same view key)
  stays_reached there kept (inr raises) = absurd (none_down view who raises.0 (kept.live key who held))

  not_down : IsKept view → view.up ≡ false → ⊥
  not_down kept down = none_down view who down (kept.live key who held)

stays_acted : (old new : View) (who other : Who) (act : Act) (answer : Answer) (key : Key) → old.holder key ≡ Some who → is_who who other ≡ false → Acted old other act answer new → Stays old new key
stays_acted old new who other act Done key held apart h = along old _ new key h.2 (stays_written old who other key held apart act h.0)
stays_acted old new who other act Unchanged key held apart h = along old _ new key h.2 (stays_taken old who other key held apart act h.0)
stays_acted old new who other act (Rows rows) key held apart h = along old _ new key h.2 (stays_taken old who other key held apart act h.0)
stays_acted old new who other act (Found k row) key held apart h = along old _ new key h.2 (stays_taken old who other key held apart act h.0)
stays_acted old new who other act (Held by k) key held apart h = along old _ new key h.1 (record { holder = refl; pending = refl; committed = refl })
stays_acted old new who other act (Lost why) key held apart h = absurd h
stays_acted old new who other act Device key held apart h = absurd h
stays_acted old new who other act (Limit what count) key held apart h = along old _ new key h.2 (record { holder = refl; pending = refl; committed = refl })
stays_acted old new who other act Memory key held apart h = along old old new key h (stays_same old key)

-- ---- an act of another, however carried

module _ (old new : View) (who other : Who) (act : Act) (key : Key) (kept : IsKept old) (held : old.holder key ≡ Some who) (apart : is_who who other ≡ false) where
  stays_there : (answer : Answer) → ActsThere old other act answer new → Stays old new key
  stays_there answer h =
      let first = stays_reached old who other key held apart h.0 kept h.1 in
      stays_trans old h.0 new key first (stays_acted h.0 new who other act answer key (first.holder ∙ held) apart h.2)

  stays_memory : (new ≡ old) ⊎ Reaches old new → Stays old new key
  stays_memory (inl same) = along old old new key same (stays_same old key)
  stays_memory (inr reaches) = stays_reached old who other key held apart new kept reaches

  stays_does : (answer : Answer) → Does old other act answer new → Stays old new key
  stays_does Done h = stays_there Done h
  stays_does Unchanged h = stays_there Unchanged h
  stays_does (Rows rows) h = stays_there (Rows rows) h
  stays_does (Found k row) h = stays_there (Found k row) h
  stays_does (Held by k) h = stays_there (Held by k) h
  stays_does (Limit what count) h = stays_there (Limit what count) h
  stays_does (Lost why) h = absurd h
  stays_does Device h = absurd (not_down old who other key held apart kept h.0)
  stays_does Memory h = stays_memory h

  stays_used : (loss : Option LostWhy) (answer : Answer) → Uses loss old other act answer new → Stays old new key
  stays_used None answer h = stays_does answer h
  stays_used (Some loss) answer h = along old old new key h.1 (stays_same old key)

pub stays_carried : (way : Carried) (old new : View) (who other : Who) (act : Act) (answer : Answer) (key : Key) → IsKept old → IsGrouped other act → old.holder key ≡ Some who → is_who who other ≡ false
    → Carries way old other act answer new → Stays old new key
stays_carried Passed old new who other act answer key kept grouped held apart h = stays_used old new who other act key kept held apart (loss_of old other) answer h
stays_carried LostBefore old new who other act answer key kept grouped held apart (inl full) = along old old new key full.1 (stays_same old key)
stays_carried LostBefore old new who other act answer key kept grouped held apart (inr off) = along old _ new key off.1 (stays_cut old who other key held apart kept)
stays_carried LostAfter old new who other act answer key kept grouped held apart (inl full) = stays_used old new who other act key kept held apart (loss_of old other) Memory full.1
stays_carried LostAfter old new who other act answer key kept grouped held apart (inr lost) =
    let first = stays_used old lost.1 who other act key kept held apart (loss_of old other) lost.0 lost.3 in
    along old _ new key lost.4.1
    (stays_trans old lost.1 (cut other lost.1) key first (stays_cut lost.1 who other key (first.holder ∙ held) apart (kept_uses old lost.1 other act kept grouped lost.0 lost.3)))

-- ---- a commit and a close of another

module _ (old new : View) (who other : Who) (key : Key) (kept : IsKept old) (held : old.holder key ≡ Some who) (apart : is_who who other ≡ false) where
  stays_ends : new ≡ closed other old → Stays old new key
  stays_ends h = along old _ new key h (stays_closed old who other key held apart kept)

  stays_commits : (told : Committed) → Commits old other told new → WentDown old new ⊎ Stays old new key
  stays_commits outcome.Done h = inr (along old _ new key h (stays_settled old who other key held apart kept))
  stays_commits (outcome.Lost why) h = absurd h
  stays_commits outcome.Device h = inl (subst (λ (v : View). WentDown old v) (sym h.1) (omega (arith)))

  stays_commit_uses : (loss : Option LostWhy) (told : Committed) → CommitUses loss old other told new → WentDown old new ⊎ Stays old new key
  stays_commit_uses None told h = stays_commits told h
  stays_commit_uses (Some loss) told h = inr (stays_ends h.1)

  pub stays_commit : (way : Carried) (told : Committed) → CommitCarries way old other told new → WentDown old new ⊎ Stays old new key
  stays_commit Passed told h = stays_commit_uses (loss_of old other) told h
  stays_commit LostBefore told h = inr (stays_ends h.1)
  stays_commit LostAfter told h = stays_commit_uses (loss_of old other) h.1.0 h.1.1

  pub stays_ended : Closes old other new → Stays old new key
  stays_ended h = stays_ends h
