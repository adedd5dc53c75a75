-- An act that came back loses no shard session, and so leaves the mark of each.
use Rattle.std.proofs.Common.{◌≡◌, ◌==◌, ◌∙◌, ◌∷◌, ◌||◌, ◌&&◌, if◌then◌else◌, inl, inr, ℕ, Bool, true, false, Option, Some, None, refl, sym, ap, subst}
use Rattle.std.proofs.lemmas.Bool.{cases_Bool, eq-eqb, eqb-false, eqb-true}
use Rattle.vl_values.specs.declared.lost_why.LostWhy.{LostWhy}
use Rattle.vl_values.specs.declared.lost_why.LostWhy.TheVariants as why
use Rattle.vl_sql.specs.declared.stmt.Stmt.{Stmt}
use Rattle.vl_port.specs.declared.act.Act.{Act}
use Rattle.vl_port.specs.declared.answer.Answer.{Answer}
use Rattle.vl_port.specs.declared.answer.Answer.TheVariants.{Done, Unchanged, Rows, Found, Held, Lost, Device, Limit, Memory}
use Rattle.vl_port.specs.declared.opened.Opened.{Opened}
use Rattle.vl_port.specs.declared.who.Who.{Who}
use Rattle.vl_port.specs.Acting.{Acted}
use Rattle.vl_port.specs.Calls.{HasActed, PortView}
use Rattle.vl_port.specs.Life.{loss_in, loss_of, opened_at}
use Rattle.vl_port.specs.Serving.{Shards}
use Rattle.vl_port.specs.View.{View, has_group, is_who}
use Rattle.vl_run.specs.declared.event.Event.{Event}
use Rattle.vl_run.specs.declared.request.Request.{Request}
use Rattle.vl_run.specs.declared.request.Request.TheVariants as requests
use Rattle.vl_run.specs.Run.{Run, kills, was_killed}
use Rattle.vl_run.specs.Run.Point.{Happened}
use Rattle.vl_replay.specs.Marks.{HasComeBack}
use Rattle.vl_replay.proofs.ActMoves.{came_back}
use Rattle.vl_course.specs.Answered.{AreMarked, IsMarkedAs}
use Rattle.vl_course.specs.Turning.{IsOfStmt}

-- ---- no session is lost

loss_opened : (current : ℕ) (b : Bool) (o : Option Opened) → loss_in current (if b then opened_at current o else o) ≡ loss_in current o
loss_opened current true None = ap (λ (b : Bool). if b then None else Some (why.Restarted current current)) (eq-eqb current current refl)
loss_opened current true (Some session) = refl
loss_opened current false o = refl

module _ (old new : View) (who w : Who) (act : Act) where
  opens : loss_in old.incarnation (if has_group who.group && is_who who w then opened_at old.incarnation (old.sessions w) else old.sessions w) ≡ loss_of old w
  opens = loss_opened old.incarnation (has_group who.group && is_who who w) (old.sessions w)

  loss_acted : (answer : Answer) → Acted old who act answer new → loss_of new w ≡ loss_of old w
  loss_acted Done acted = ap (λ (v : View). loss_of v w) acted.2 ∙ opens
  loss_acted Unchanged acted = ap (λ (v : View). loss_of v w) acted.2 ∙ opens
  loss_acted (Rows rows) acted = ap (λ (v : View). loss_of v w) acted.2 ∙ opens
  loss_acted (Found key row) acted = ap (λ (v : View). loss_of v w) acted.2 ∙ opens
  loss_acted (Held by key) acted = ap (λ (v : View). loss_of v w) acted.1 ∙ opens
  loss_acted (Limit what count) acted = ap (λ (v : View). loss_of v w) acted.2 ∙ opens
  loss_acted (Lost reason) acted = absurd acted
  loss_acted Device acted = absurd acted
  loss_acted Memory acted = ap (λ (v : View). loss_of v w) acted

pub loss_stays : (old new : PortView) (who : Who) (shard : ℕ) (act : Act) (answer : Answer) → HasActed old who shard act answer new → (old.shards shard).up ≡ true → HasComeBack answer → (t : ℕ) (w : Who) → loss_of (new.shards t) w ≡ loss_of (old.shards t) w
loss_stays old new who shard act answer acted up back t w = elim (cases_Bool (t == shard)) [
  | inl here ↦ subst (λ (n : ℕ). loss_of (new.shards n) w ≡ loss_of (old.shards n) w) (sym (eqb-true t shard here))
      (loss_acted (old.shards shard) (new.shards shard) who w act answer (came_back (old.shards shard) (new.shards shard) who act up new.way answer back acted.acted))
  | inr apart ↦ ap (λ (v : View). loss_of v w) (acted.others t (eqb-false t shard apart))
]

-- ---- the marks

not_kill : (r : Request) (stmt : Stmt) → IsOfStmt r stmt → (shard : ℕ) (w : Who) → kills r shard w ≡ false
not_kill (requests.Say said) stmt is shard w = refl
not_kill requests.Step stmt is shard w = refl
not_kill requests.Join stmt is shard w = absurd is
not_kill requests.Reset stmt is shard w = absurd is
not_kill requests.Leave stmt is shard w = absurd is
not_kill (requests.Kill who at) stmt is shard w = absurd is

pub killed_stays : (e : Event) (past : Run) (stmt : Stmt) → IsOfStmt e.request stmt → (w : Who) (shard : ℕ) → was_killed (Happened e ∷ past) w shard ≡ was_killed past w shard
killed_stays e past stmt is w shard = ap (λ (b : Bool). b || was_killed past w shard) (not_kill e.request stmt is shard w)

marked_by : (now after : Run) (w : Who) (shard : ℕ) (old new : Option LostWhy) → was_killed after w shard ≡ was_killed now w shard → new ≡ old → IsMarkedAs now w shard old → IsMarkedAs after w shard new
marked_by now after w shard old new same loss mark = record {
  killed = λ killed. loss ∙ mark.killed (sym same ∙ killed);
  dropped = λ dropped. same ∙ mark.dropped (sym loss ∙ dropped);
  young = λ had current lost. mark.young had current (sym loss ∙ lost);
  plain = λ none. loss ∙ mark.plain none;
}

pub marks_stay : (e : Event) (past : Run) (stmt : Stmt) (tx : ℕ) (old new : Shards) → IsOfStmt e.request stmt → ((t : ℕ) (w : Who) → loss_of (new t) w ≡ loss_of (old t) w) → AreMarked past tx old → AreMarked (Happened e ∷ past) tx new
marks_stay e past stmt tx old new is same marks = λ w shard own. marked_by past (Happened e ∷ past) w shard (loss_of (old shard) w) (loss_of (new shard) w) (killed_stays e past stmt is w shard) (same shard w) (marks w shard own)
