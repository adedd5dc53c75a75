-- An act opens no session but its own, and ends none; a loss, a commit and a close end no other.
use Rattle.std.proofs.Common.{◌≡◌, ◌==◌, ◌⊎◌, ℕ, Bool, true, false, cond, ◌&&◌, Option, None, Some, inl, inr, refl, sym, ap, ◌∙◌, subst, eqb-true}
use Rattle.std.specs.Prelude.{◌↔◌, Contains}
use Rattle.std.specs.Option.{is_some}
use Rattle.std.proofs.lemmas.Bool.{and_parts, cases_Bool}
use Rattle.vl_values.specs.declared.group.Group.{Group}
use Rattle.vl_values.specs.declared.lost_why.LostWhy.{LostWhy}
use Rattle.vl_port.specs.declared.act.Act.{Act}
use Rattle.vl_port.specs.declared.answer.Answer.{Answer}
use Rattle.vl_port.specs.declared.answer.Answer.TheVariants.{Done, Unchanged, Rows, Found, Held, Lost, Device, Limit, Memory}
use Rattle.vl_port.specs.declared.carried.Carried.{Carried}
use Rattle.vl_port.specs.declared.carried.Carried.TheVariants.{Passed, LostBefore, LostAfter}
use Rattle.vl_port.specs.declared.committed.Committed.{Committed}
use Rattle.vl_port.specs.declared.committed.Committed.TheVariants as outcome
use Rattle.vl_port.specs.declared.fate.Fate.{Fate}
use Rattle.vl_port.specs.declared.fate.Fate.TheVariants as fates
use Rattle.vl_port.specs.declared.opened.Opened.{Opened}
use Rattle.vl_port.specs.declared.tx_state.TxState.{TxState}
use Rattle.vl_port.specs.declared.who.Who.{Who}
use Rattle.vl_port.specs.Acting.{Acted}
use Rattle.vl_port.specs.Carrying.{ActsThere, Carries, Closes, CommitCarries, CommitUses, Commits, Does, Uses}
use Rattle.vl_port.specs.Life.{Reaches, closed, cut, lost_as, loss_of, marked, opened, opened_at}
use Rattle.vl_port.specs.Serving.{Shards}
use Rattle.vl_port.specs.Transaction.{IsIn, listed, session_of}
use Rattle.vl_port.specs.View.{View, has_group, is_group, is_who}

pub both_false : (a b : Bool) → b ≡ false → (a && b) ≡ false
both_false true b h = h
both_false false b h = refl

pub opened_other : (view : View) (who other : Who) → is_who who other ≡ false → (opened who view).sessions other ≡ view.sessions other
opened_other view who other apart =
    ap (λ (b : Bool). cond b (opened_at view.incarnation (view.sessions other)) (view.sessions other)) (both_false (has_group who.group) (is_who who other) apart)

pub lost_other : (fate : Fate) (view : View) (who other : Who) → is_who who other ≡ false → (lost_as fate who view).sessions other ≡ view.sessions other
lost_other fate view who other apart = ap (λ (b : Bool). cond b (marked fate (view.sessions other)) (view.sessions other)) (both_false (has_group who.group) (is_who who other) apart)

pub cut_other : (view : View) (who other : Who) → is_who who other ≡ false → (cut who view).sessions other ≡ view.sessions other
cut_other view who other apart = lost_other fates.Cut (opened who view) who other apart ∙ opened_other view who other apart

pub reached_sessions : (old there : View) (other : Who) → Reaches old there → there.sessions other ≡ old.sessions other
reached_sessions old there other (inl same) = ap (λ (v : View). v.sessions other) same.1
reached_sessions old there other (inr raises) = ap (λ (v : View). v.sessions other) raises.1.1

stranger_acted : (old new : View) (who other : Who) (act : Act) (answer : Answer) → is_who who other ≡ false → Acted old who act answer new → new.sessions other ≡ old.sessions other
stranger_acted old new who other act Done apart h = ap (λ (v : View). v.sessions other) h.2 ∙ opened_other old who other apart
stranger_acted old new who other act Unchanged apart h = ap (λ (v : View). v.sessions other) h.2 ∙ opened_other old who other apart
stranger_acted old new who other act (Rows rows) apart h = ap (λ (v : View). v.sessions other) h.2 ∙ opened_other old who other apart
stranger_acted old new who other act (Found key row) apart h = ap (λ (v : View). v.sessions other) h.2 ∙ opened_other old who other apart
stranger_acted old new who other act (Held by key) apart h = ap (λ (v : View). v.sessions other) h.1 ∙ opened_other old who other apart
stranger_acted old new who other act (Lost why) apart h = absurd h
stranger_acted old new who other act Device apart h = absurd h
stranger_acted old new who other act (Limit what count) apart h = ap (λ (v : View). v.sessions other) h.2 ∙ opened_other old who other apart
stranger_acted old new who other act Memory apart h = ap (λ (v : View). v.sessions other) h

module _ (old new : View) (who other : Who) (act : Act) (apart : is_who who other ≡ false) where
  stranger_there : (answer : Answer) → ActsThere old who act answer new → new.sessions other ≡ old.sessions other
  stranger_there answer h = stranger_acted h.0 new who other act answer apart h.2 ∙ reached_sessions old h.0 other h.1

  stranger_memory : (new ≡ old) ⊎ Reaches old new → new.sessions other ≡ old.sessions other
  stranger_memory (inl same) = ap (λ (v : View). v.sessions other) same
  stranger_memory (inr reaches) = reached_sessions old new other reaches

  stranger_does : (answer : Answer) → Does old who act answer new → new.sessions other ≡ old.sessions other
  stranger_does Done h = stranger_there Done h
  stranger_does Unchanged h = stranger_there Unchanged h
  stranger_does (Rows rows) h = stranger_there (Rows rows) h
  stranger_does (Found key row) h = stranger_there (Found key row) h
  stranger_does (Held by key) h = stranger_there (Held by key) h
  stranger_does (Limit what count) h = stranger_there (Limit what count) h
  stranger_does (Lost why) h = absurd h
  stranger_does Device h = ap (λ (v : View). v.sessions other) h.1 ∙ cut_other old who other apart
  stranger_does Memory h = stranger_memory h

  stranger_used : (loss : Option LostWhy) (answer : Answer) → Uses loss old who act answer new → new.sessions other ≡ old.sessions other
  stranger_used None answer h = stranger_does answer h
  stranger_used (Some loss) answer h = ap (λ (v : View). v.sessions other) h.1

pub stranger_carried : (way : Carried) (old new : View) (who other : Who) (act : Act) (answer : Answer) → is_who who other ≡ false → Carries way old who act answer new → new.sessions other ≡ old.sessions other
stranger_carried Passed old new who other act answer apart h = stranger_used old new who other act apart (loss_of old who) answer h
stranger_carried LostBefore old new who other act answer apart (inl full) = ap (λ (v : View). v.sessions other) full.1
stranger_carried LostBefore old new who other act answer apart (inr off) = ap (λ (v : View). v.sessions other) off.1 ∙ cut_other old who other apart
stranger_carried LostAfter old new who other act answer apart (inl full) = stranger_used old new who other act apart (loss_of old who) Memory full.1
stranger_carried LostAfter old new who other act answer apart (inr lost) =
    ap (λ (v : View). v.sessions other) lost.4.1 ∙ cut_other lost.1 who other apart ∙ stranger_used old lost.1 who other act apart (loss_of old who) lost.0 lost.3

-- ---- a commit and a close

ended_other : (view : View) (who other : Who) → is_who who other ≡ false → (closed who view).sessions other ≡ view.sessions other
ended_other view who other apart = ap (λ (b : Bool). cond b None (view.sessions other)) apart

pub stranger_closed : (old new : View) (who other : Who) → is_who who other ≡ false → Closes old who new → new.sessions other ≡ old.sessions other
stranger_closed old new who other apart h = ap (λ (v : View). v.sessions other) h ∙ ended_other old who other apart

stranger_commits : (old new : View) (who other : Who) (told : Committed) → is_who who other ≡ false → Commits old who told new → new.sessions other ≡ old.sessions other
stranger_commits old new who other outcome.Done apart h = ap (λ (v : View). v.sessions other) h ∙ ended_other old who other apart
stranger_commits old new who other (outcome.Lost why) apart h = absurd h
stranger_commits old new who other outcome.Device apart h = ap (λ (v : View). v.sessions other) h.1 ∙ ended_other old who other apart

stranger_commit_uses : (loss : Option LostWhy) (old new : View) (who other : Who) (told : Committed) → is_who who other ≡ false → CommitUses loss old who told new → new.sessions other ≡ old.sessions other
stranger_commit_uses None old new who other told apart h = stranger_commits old new who other told apart h
stranger_commit_uses (Some loss) old new who other told apart h = stranger_closed old new who other apart h.1

pub stranger_commit : (way : Carried) (old new : View) (who other : Who) (told : Committed) → is_who who other ≡ false → CommitCarries way old who told new → new.sessions other ≡ old.sessions other
stranger_commit Passed old new who other told apart h = stranger_commit_uses (loss_of old who) old new who other told apart h
stranger_commit LostBefore old new who other told apart h = stranger_closed old new who other apart h.1
stranger_commit LostAfter old new who other told apart h = stranger_commit_uses (loss_of old who) old new who other h.1.0 apart h.1.1

-- ---- sessions of two transactions are two

pub apart_by_tx : (one other : Who) → (one.tx ≡ other.tx → ⊥) → is_who one other ≡ false
apart_by_tx one other apart =
    elim (cases_Bool (is_who one other)) [
      | inl same ↦
          let rest = (and_parts (one.session == other.session) ((one.tx == other.tx) && is_group one.group other.group) same).1 in
          absurd (apart (eqb-true one.tx other.tx (and_parts (one.tx == other.tx) (is_group one.group other.group) rest).0))
      | inr other_one ↦ other_one
    ]

-- a transaction lists the sessions that it has, also after others have opened or ended theirs
pub in_stranger : (tx : TxState) (count : ℕ) (old new : Shards) → IsIn tx count old → ((shard : ℕ) (group : Group) → (new shard).sessions (session_of tx group) ≡ (old shard).sessions (session_of tx group)) → IsIn tx count new
in_stranger tx count old new isin same = record {
  known = λ g s within. subst (λ (o : Option Opened). Contains (listed tx g) s ↔ (is_some o ≡ true)) (sym (same s g)) (isin.known g s within);
  within = isin.within;
  once = isin.once;
}
