-- A step of a commit opens a transaction where a BEGIN is answered, and else none.
use Rattle.std.proofs.Common.{◌≡◌, ◌∙◌, ◌≤◌, nat_lt, ℕ, Bool, true, false, length, Option, Some, None, refl, sym, ap, subst, arith}
use Rattle.std.proofs.lemmas.Bool.{ltb-false}
use Rattle.vl_values.specs.declared.reply.Reply.{Reply}
use Rattle.vl_catalog.specs.declared.catalog.Catalog.{Catalog}
use Rattle.vl_sql.specs.declared.stmt.Stmt.{Stmt}
use Rattle.vl_port.specs.declared.limits.Limits.{Limits}
use Rattle.vl_port.specs.declared.tx_state.TxState.{TxState}
use Rattle.vl_port.specs.Transaction.{last_tx}
use Rattle.vl_plan.specs.declared.plan.Plan.{Plan}
use Rattle.vl_commit.specs.declared.commit_told.CommitTold.{CommitTold}
use Rattle.vl_commit.specs.declared.commit_told.CommitTold.TheVariants as told
use Rattle.vl_commit.specs.Stepping.{Committing}
use Rattle.vl_run.specs.declared.event.Event.{Event}
use Rattle.vl_run.specs.declared.what.What.TheVariants as whats
use Rattle.vl_run.specs.Allowed.{IsAsked, Opens, is_ok, now_of, tag_of}
use Rattle.vl_run.specs.Allowed.Opens.{Begun}
use Rattle.vl_run.specs.Progress.{session}
use Rattle.vl_run.specs.Run.{Run, next_tx}
use Rattle.vl_run.specs.Session.{Owned, kind_of}
use Rattle.vl_run.specs.Session.Kind.{Begins}
use Rattle.vl_course_commit.specs.Committing.{completed}
use Rattle.vl_course_commit.proofs.Nothing.{none_opens}
use Rattle.vl_session.specs.declared.purpose.Purpose.{Purpose}
use Rattle.vl_session.specs.declared.purpose.Purpose.TheVariants as purposes
use Rattle.vl_session.specs.Standing.{IsCommittingAt}
use Rattle.vl_session.specs.Turning.{IsTurn}
use Rattle.vl_committing.specs.declared.dealt.Dealt.{Dealt}
use Rattle.vl_committing.specs.Telling.{begins, counted, ended, told_as}
use Rattle.vl_committing.proofs.Parts.{asks_of, begins_by, counts, no_begin_auto, no_begin_commit, no_begin_statement, not_begins, owned_before}

module _ (catalog : Catalog) (limits : Limits) (past : Run) (e : Event) (stmt : Stmt) (plan : Plan) (own : Owned) (c new : Committing) (reply : Reply) (next : ℕ) (dealt : Dealt) (asked : IsAsked (session past e.session) e.request stmt) (is_next : next ≡ next_tx past) where
  abbrev Stands : Purpose → Type 0
  Stands purpose = IsCommittingAt catalog limits (now_of e past) e.session stmt plan own c reply purpose

  abbrev IsOpening : Type 0
  IsOpening = Opens past e stmt (session past e.session).owned e.opens

  none_opened : (purpose : Purpose) → Stands purpose → e.opens ≡ None → (kind_of stmt ≡ Begins → is_ok e.told ≡ false) → IsOpening
  none_opened purpose at none goes =
      subst (λ (o : Option ℕ). Opens past e stmt (session past e.session).owned o) (sym none)
      (none_opens past e stmt own (owned_before e past stmt own e.request refl (asks_of (session past e.session) e.request stmt asked) none at.at.owned) goes)

  -- no BEGIN
  other_opens : (purpose : Purpose) → Stands purpose → (purpose ≡ purposes.Begin → ⊥) → e.opens ≡ None → IsOpening
  other_opens purpose at apart none =
      none_opened purpose at none (λ kind. absurd (not_begins catalog limits (now_of e past) e.session (kind_of stmt) purpose at.purpose_is apart kind))

  begin_opens : (b : Bool) (tx : TxState) (count : ℕ) → nat_lt last_tx next ≡ b → Stands purposes.Begin → IsTurn e (begins b dealt tx next count reply) → IsOpening
  begin_opens true tx count above at turn = none_opened purposes.Begin at turn.opens (λ kind. ap is_ok turn.told)
  begin_opens false tx count below at turn =
      let kind : kind_of stmt ≡ Begins = begins_by catalog limits (now_of e past) e.session (kind_of stmt) at.purpose_is in
      let so_many = counts catalog (now_of e past) e.session stmt plan reply kind at.reply_is in
      subst (λ (o : Option ℕ). Opens past e stmt (session past e.session).owned o) (sym (turn.opens ∙ ap (λ (n : ℕ). Some n) is_next))
      (Begun so_many.affected so_many.found count true tx.auto kind (turn.told ∙ ap (λ (r : Reply). tag_of (whats.Reply (completed count true tx.auto r))) so_many.is)
      (subst (λ (n : ℕ). n ≤ last_tx) is_next (omega (arith, ltb-false last_tx next below))))

  ended_opens : (purpose : Purpose) (count : ℕ) → Stands purpose → IsTurn e (ended purpose dealt new.tx next count reply) → IsOpening
  ended_opens purposes.Statement count at turn = other_opens purposes.Statement at no_begin_statement turn.opens
  ended_opens purposes.Commit count at turn = other_opens purposes.Commit at no_begin_commit turn.opens
  ended_opens purposes.Begin count at turn = begin_opens (nat_lt last_tx next) new.tx count refl at turn
  ended_opens purposes.Autocommit count at turn = other_opens purposes.Autocommit at no_begin_auto turn.opens

  pub opening : (purpose : Purpose) (tells : CommitTold) → Stands purpose → IsTurn e (told_as catalog next reply purpose dealt new tells) → IsOpening
  opening purpose told.More at turn = none_opened purpose at turn.opens (λ kind. ap is_ok turn.told)
  opening purpose (told.Ok warnings) at turn = ended_opens purpose (counted (length warnings)) at turn
  opening purpose (told.Failed group done of_ shard why) at turn = none_opened purpose at turn.opens (λ kind. ap is_ok turn.told)
