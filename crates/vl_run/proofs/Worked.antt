-- A run that is one: a session joins, begins, commits and leaves, over any catalog.
use Rattle.std.proofs.Common.{ℕ, true, false, List, [], ◌∷◌, Option, Some, None, refl, ap, arith}
use Rattle.vl_values.specs.declared.reply.Reply.TheVariants as replies
use Rattle.vl_values.specs.declared.key.Key.{Key}
use Rattle.vl_port.specs.View.{Values}
use Rattle.vl_statement.specs.Tallies.{first_over}
use Rattle.vl_run.specs.Refused.{nothing_read}
use Rattle.vl_sql.specs.declared.stmt.Stmt.TheVariants as stmts
use Rattle.vl_catalog.specs.declared.catalog.Catalog.{Catalog}
use Rattle.vl_port.specs.declared.limits.Limits.{Limits}
use Rattle.vl_plan.specs.declared.plan.Plan.TheVariants as plans
use Rattle.vl_run.specs.declared.deed.Deed.TheVariants as deeds
use Rattle.vl_run.specs.declared.ends.Ends.TheVariants as ends
use Rattle.vl_run.specs.declared.event.Event.{Event}
use Rattle.vl_run.specs.declared.request.Request.{Request}
use Rattle.vl_run.specs.declared.request.Request.TheVariants as requests
use Rattle.vl_run.specs.declared.tag.Tag.{Tag}
use Rattle.vl_run.specs.declared.tag.Tag.TheVariants as tags
use Rattle.vl_run.specs.declared.what.What.TheVariants as whats
use Rattle.vl_run.specs.Allowed.{Follows, IsRun}
use Rattle.vl_run.specs.Allowed.IsDone.{DidNothing}
use Rattle.vl_run.specs.Allowed.IsVisit.{Nowhere}
use Rattle.vl_run.specs.Allowed.Opens.{Begun, Later}
use Rattle.vl_run.specs.Run.{Run, nowhere}
use Rattle.vl_run.specs.Run.Point.{Began, Happened}

abbrev pub quiet : Request → Option ℕ → Tag → Event
quiet request opens told = record { session = 1; request = request; opens = opens; visits = None; deed = deeds.Nothing; fault = None; ends = ends.Nobody; told = told }

abbrev pub joined_run : Run
joined_run = Happened (quiet requests.Join None tags.Nothing) ∷ Began nowhere ∷ []

abbrev pub begin : Event
begin = quiet (requests.Say stmts.Begin) (Some 1) (tags.Ok 0 0 0 true true)

abbrev pub begun_run : Run
begun_run = Happened begin ∷ joined_run

abbrev pub commit : Event
commit = quiet (requests.Say stmts.Commit) None (tags.Ok 0 0 0 false true)

abbrev pub committed_run : Run
committed_run = Happened commit ∷ begun_run

pub joins : (catalog : Catalog) (limits : Limits) → Follows catalog limits (Began nowhere ∷ []) (quiet requests.Join None tags.Nothing) whats.More
joins catalog limits = record {
  still = record { deed = refl; fault = refl; visits = refl; opens = refl };
  few = omega arith;
  number = (0, refl, λ has. absurd (omega (arith, has.1)), λ k less. absurd (omega (arith, less)));
  ends = refl;
  told = refl;
}

begins : (catalog : Catalog) (limits : Limits) → Follows catalog limits joined_run begin (whats.Reply (replies.Ok 0 0 0 true true))
begins catalog limits = (
  record { joined = refl; below = omega arith },
  record {
    stmt = stmts.Begin;
    asked = (refl, refl);
    opens = Begun 0 0 0 true true refl refl (omega arith);
    done = DidNothing;
    may = tt;
    visit = Nowhere;
    ends = refl;
    steps = (tt, tt);
    told = refl;
    allowed = record {
      plan = plans.Begin;
      over = record { planned = refl; worked = refl; committed = refl };
      counted = (refl, refl);
      warned = refl;
      rowless = refl;
      within = λ rows counts gathered. ap (λ (r : List (Key × Values)). first_over limits nothing_read r) gathered;
      proceeds = record { sound = refl; come = tt };
    };
    true_ = (refl, refl);
    left = λ own owned gone. absurd (cc);
  },
)

commits : (catalog : Catalog) (limits : Limits) → Follows catalog limits begun_run commit (whats.Reply (replies.Ok 0 0 0 false true))
commits catalog limits = (
  record { joined = refl; below = omega arith },
  record {
    stmt = stmts.Commit;
    asked = (refl, refl);
    opens = Later refl (λ same. cc);
    done = DidNothing;
    may = tt;
    visit = Nowhere;
    ends = refl;
    steps = (tt, tt);
    told = refl;
    allowed = record {
      plan = plans.Commit;
      over = record { planned = refl; worked = refl; committed = refl };
      counted = (refl, refl);
      warned = refl;
      rowless = refl;
      within = λ rows counts gathered. ap (λ (r : List (Key × Values)). first_over limits nothing_read r) gathered;
      proceeds = record { sound = refl; come = tt };
    };
    true_ = (refl, refl);
    left = λ own owned gone. record { hand = λ k who held same. absurd (cc); own = λ k change changed same. absurd (cc) };
  },
)

abbrev pub left_run : Run
left_run = Happened (quiet requests.Leave None tags.Nothing) ∷ committed_run

leaves : (catalog : Catalog) (limits : Limits) → Follows catalog limits committed_run (quiet requests.Leave None tags.Nothing) whats.More
leaves catalog limits = record { still = record { deed = refl; fault = refl; visits = refl; opens = refl }; joined = refl; ends = refl; told = refl }

pub begins_and_commits : (catalog : Catalog) (limits : Limits) → IsRun catalog limits left_run
begins_and_commits catalog limits =
    (((((tt, refl), (whats.More, joins catalog limits)), (whats.Reply (replies.Ok 0 0 0 true true), begins catalog limits)), (whats.Reply (replies.Ok 0 0 0 false true), commits catalog limits)), (whats.More, leaves catalog limits))
