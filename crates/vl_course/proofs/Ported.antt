-- What the answer to an act says of its session, by how the act was carried.
use Rattle.std.proofs.Common.{◌≡◌, ◌∙◌, ◌⊎◌, inl, inr, ℕ, Bool, true, false, Option, Some, None, refl, sym, ap, subst}
use Rattle.std.proofs.lemmas.Bool.{true≢false}
use Rattle.vl_values.specs.declared.limit.Limit.{Limit as Quantity}
use Rattle.vl_values.specs.declared.lost_why.LostWhy.{LostWhy}
use Rattle.vl_values.specs.declared.lost_why.LostWhy.TheVariants as why
use Rattle.vl_catalog.specs.declared.catalog.Catalog.{Catalog}
use Rattle.vl_port.specs.declared.act.Act.{Act}
use Rattle.vl_port.specs.declared.act.Act.TheVariants.{Insert, Put, Remove, RemoveIf, Find}
use Rattle.vl_port.specs.declared.answer.Answer.{Answer}
use Rattle.vl_port.specs.declared.answer.Answer.TheVariants.{Done, Lost, Limit, Memory}
use Rattle.vl_port.specs.declared.carried.Carried.{Carried}
use Rattle.vl_port.specs.declared.carried.Carried.TheVariants.{Passed, LostBefore, LostAfter}
use Rattle.vl_port.specs.declared.who.Who.{Who}
use Rattle.vl_port.specs.Acting.{CanWrite}
use Rattle.vl_port.specs.Calls.{HasActed, PortView}
use Rattle.vl_port.specs.Carrying.{Carries, Uses}
use Rattle.vl_port.specs.Life.{loss_of}
use Rattle.vl_port.specs.Outcomes.{outcome_of}
use Rattle.vl_port.specs.View.{View}
use Rattle.vl_run.specs.Refused.{MayBeLost, is_write}
use Rattle.vl_run.specs.Run.{Run, was_killed}
use Rattle.vl_course.specs.Answered.{AreMarked, IsAnswered, IsShown, is_told}

-- ---- how it came

-- the act was done, or its session was lost before; memory was refused; or the link lost it
data Came (old : View) (who : Who) (act : Act) (answer : Answer) : Type 0 where
  Used : (new : View) → Uses (loss_of old who) old who act answer new → Came old who act answer
  Refused : answer ≡ Memory → Came old who act answer
  Cut : answer ≡ Lost why.Link → Came old who act answer

came : (way : Carried) (old : View) (who : Who) (act : Act) (answer : Answer) (new : View) → Carries way old who act answer new → Came old who act answer
came Passed old who act answer new carried = Used new carried
came LostBefore old who act answer new (inl none) = Refused none.0
came LostBefore old who act answer new (inr cut) = Cut cut.0
came LostAfter old who act answer new (inl none) = Refused none.0
came LostAfter old who act answer new (inr cut) = Cut cut.4.0

no_find : (view : View) (who : Who) (act : Act) → CanWrite view who act → is_write act ≡ true
no_find view who (Insert key row) can = refl
no_find view who (Put key row) can = refl
no_find view who (Remove key) can = refl
no_find view who (RemoveIf key column value) can = refl
no_find view who (Find pred locking) can = absurd can

-- ---- what follows

module _ (old : View) (who : Who) (act : Act) (answer : Answer) where
  -- a write alone is done
  done_by : (loss : Option LostWhy) (new : View) → Uses loss old who act answer new → answer ≡ Done → is_write act ≡ true
  done_by None new uses is =
      let there = subst (λ (a : Answer). Uses None old who act a new) is uses in
      no_find there.0 who act there.2.1
  done_by (Some loss) new uses is = absurd (cc (uses.0))

  done_write : Came old who act answer → answer ≡ Done → is_write act ≡ true
  done_write (Used new uses) is = done_by (loss_of old who) new uses is
  done_write (Refused none) is = absurd (cc)
  done_write (Cut cut) is = absurd (cc)

  -- and a write alone spends a quantity
  spent_by : (what : Quantity) (count : ℕ) (loss : Option LostWhy) (new : View) → Uses loss old who act answer new → answer ≡ Limit what count → is_write act ≡ true
  spent_by what count None new uses is =
      let there = subst (λ (a : Answer). Uses None old who act a new) is uses in
      no_find there.0 who act there.2.1
  spent_by what count (Some loss) new uses is = absurd (cc (uses.0))

  spent_write : (what : Quantity) (count : ℕ) → Came old who act answer → answer ≡ Limit what count → is_write act ≡ true
  spent_write what count (Used new uses) is = spent_by what count (loss_of old who) new uses is
  spent_write what count (Refused none) is = absurd (cc)
  spent_write what count (Cut cut) is = absurd (cc)

  -- a lost session does nothing
  told_by : (loss : LostWhy) (new : View) → Uses (Some loss) old who act answer new → is_told (outcome_of answer) ≡ true → ⊥
  told_by loss new uses told = true≢false (sym told ∙ ap (λ (a : Answer). is_told (outcome_of a)) uses.0)

  told_alive : (loss : LostWhy) → loss_of old who ≡ Some loss → Came old who act answer → is_told (outcome_of answer) ≡ true → ⊥
  told_alive loss lost (Used new uses) told = told_by loss new (subst (λ (o : Option LostWhy). Uses o old who act answer new) lost uses) told
  told_alive loss lost (Refused none) told = true≢false (sym told ∙ ap (λ (a : Answer). is_told (outcome_of a)) none)
  told_alive loss lost (Cut cut) told = true≢false (sym told ∙ ap (λ (a : Answer). is_told (outcome_of a)) cut)

  -- what was lost is told by its cause
  record IsCause (reason : LostWhy) (loss : Option LostWhy) : Type 0 where
    cause : (reason ≡ why.Link) ⊎ (loss ≡ Some reason)

  cause_by : (reason : LostWhy) (loss : Option LostWhy) (new : View) → Uses loss old who act answer new → answer ≡ Lost reason → IsCause reason loss
  cause_by reason None new uses is = absurd (subst (λ (a : Answer). Uses None old who act a new) is uses)
  cause_by reason (Some loss) new uses is =
      let same : Lost reason ≡ Lost loss = sym is ∙ uses.0 in
      record { cause = inr (same_lost loss reason same) }
    where
      same_lost : (a b : LostWhy) → Lost b ≡ Lost a → Some a ≡ Some b
      same_lost a b same = cc

  cause_of : (reason : LostWhy) → Came old who act answer → answer ≡ Lost reason → IsCause reason (loss_of old who)
  cause_of reason (Used new uses) is = cause_by reason (loss_of old who) new uses is
  cause_of reason (Refused none) is = absurd (cc)
  cause_of reason (Cut cut) is = record { cause = inl (same_lost reason why.Link (sym is ∙ cut)) }
    where
      same_lost : (a b : LostWhy) → Lost a ≡ Lost b → a ≡ b
      same_lost a b same = cc

-- ---- the law

module _ (catalog : Catalog) (past : Run) (old new : PortView) (who : Who) (shard : ℕ) (act : Act) (answer : Answer) (acted : HasActed old who shard act answer new) (marks : AreMarked past who.tx old.shards) where
  how : Came (old.shards shard) who act answer
  how = came new.way (old.shards shard) who act answer (new.shards shard) acted.acted

  spared_by : (killed : Bool) → was_killed past who shard ≡ killed → is_told (outcome_of answer) ≡ true → was_killed past who shard ≡ false
  spared_by true is told = absurd (told_alive (old.shards shard) who act answer why.Dropped ((marks who shard refl).killed is) how told)
  spared_by false is told = is

  no_both : (a b : LostWhy) → loss_of (old.shards shard) who ≡ Some a → loss_of (old.shards shard) who ≡ Some b → Some a ≡ Some b
  no_both a b one other = sym one ∙ other

  not_killed : (had current : ℕ) (killed : Bool) → was_killed past who shard ≡ killed → loss_of (old.shards shard) who ≡ Some (why.Restarted had current) → was_killed past who shard ≡ false
  not_killed had current true is lost = absurd (apart (no_both why.Dropped (why.Restarted had current) ((marks who shard refl).killed is) lost))
    where
      apart : Some why.Dropped ≡ Some (why.Restarted had current) → ⊥
      apart same = cc
  not_killed had current false is lost = is

  lost_by : (reason : LostWhy) → loss_of (old.shards shard) who ≡ Some reason → MayBeLost past who shard reason
  lost_by why.Dropped lost = (marks who shard refl).dropped lost
  lost_by why.Link lost = tt
  lost_by (why.Restarted had current) lost = (not_killed had current (was_killed past who shard) refl lost, (marks who shard refl).young had current lost)

  lost_cause : (reason : LostWhy) → (reason ≡ why.Link) ⊎ (loss_of (old.shards shard) who ≡ Some reason) → MayBeLost past who shard reason
  lost_cause reason (inl link) = subst (MayBeLost past who shard) (sym link) tt
  lost_cause reason (inr lost) = lost_by reason lost

  read_cause : (reason : LostWhy) → who.group ≡ None → (reason ≡ why.Link) ⊎ (loss_of (old.shards shard) who ≡ Some reason) → reason ≡ why.Link
  read_cause reason plain (inl link) = link
  read_cause reason plain (inr lost) = absurd (apart (sym lost ∙ (marks who shard refl).plain plain))
    where
      apart : Some reason ≡ None → ⊥
      apart same = cc

  pub answered : IsShown catalog past who shard act answer → IsAnswered catalog past who shard act answer
  answered shows = record {
    rows = shows.rows;
    held = shows.held;
    spent = λ what count k is. shows.spent what count k is (spent_write (old.shards shard) who act answer what count how is);
    wrote = done_write (old.shards shard) who act answer how;
    spared = spared_by (was_killed past who shard) refl;
    lost = λ reason is. lost_cause reason (cause_of (old.shards shard) who act answer reason how is).cause;
    lost_read = λ reason is plain. read_cause reason plain (cause_of (old.shards shard) who act answer reason how is).cause;
  }
