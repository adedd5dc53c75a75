-- Two runs that say the same of an INSERT have its program at one place.
use Rattle.std.proofs.Common.{◌≡◌, ◌∙◌, ◌-◌, ◌∷◌, ℕ, List, [], Option, length, sym, ap, subst}
use Rattle.std.specs.Prelude.{slice_get}
use Rattle.vl_values.specs.declared.group.Group.TheVariants.{Pre}
use Rattle.vl_values.specs.declared.key.Key.{Key}
use Rattle.vl_catalog.specs.declared.catalog.Catalog.{Catalog}
use Rattle.vl_catalog.specs.declared.lookup.Lookup.{Lookup}
use Rattle.vl_port.specs.declared.act.Act.TheVariants.{Insert}
use Rattle.vl_port.specs.declared.limits.Limits.{Limits}
use Rattle.vl_port.specs.View.{Values}
use Rattle.vl_plan.specs.declared.insert_plan.InsertPlan.{InsertPlan}
use Rattle.vl_lookup.specs.declared.stage.Stage.{Stage}
use Rattle.vl_lookup.specs.declared.stage.Stage.TheVariants as stages
use Rattle.vl_lookup.specs.Progress.{Progress as Claiming}
use Rattle.vl_insert.specs.declared.task.Task.{Task}
use Rattle.vl_insert.specs.Progress.{Progress}
use Rattle.vl_run.specs.declared.deed.Deed.TheVariants as deeds
use Rattle.vl_run.specs.declared.mark.Mark.TheVariants as marks
use Rattle.vl_run.specs.Gathered.{Gathered, Met, Rows}
use Rattle.vl_run.specs.Machine.{Machine, key_place, of_tx}
use Rattle.vl_run.specs.Named.{IsAt, IsClaimOver, IsRedirected, Names}
use Rattle.vl_run.specs.Named.IsClaimOver.{Kept, None_, Written}
use Rattle.vl_run.specs.Named.IsRedirected.{NamesNone, NamesOther}
use Rattle.vl_run.specs.Progress.{claimed_now, last_deed, wrote}
use Rattle.vl_run.specs.Run.{Run}
use Rattle.vl_course_insert.specs.Inserting.{AreLeft, IsClaimAt, IsClaimed, IsInsertAt, IsReady, IsStageAt, IsTaskAt, open_tx}

-- what two runs say alike of the rows and claims of a session's INSERT
pub record SaysSame (catalog : Catalog) (now after : Run) (n : ℕ) : Type 0 where
  pub wrote : wrote after n ≡ wrote now n
  pub claimed : claimed_now after n ≡ claimed_now now n
  pub last : last_deed after n ≡ last_deed now n
  pub met : (entry : Key × Values) → Met catalog now n entry → Met catalog after n entry
  pub rows : (rows : Rows) → Gathered catalog now n rows → Gathered catalog after n rows

module _ (catalog : Catalog) (now after : Run) (n : ℕ) (says : SaysSame catalog now after n) where
  names_stay : (lookup : Lookup) (key : Key) (named : Option (List ℕ)) → Names catalog now n lookup key named → Names catalog after n lookup key named
  names_stay lookup key named names = record { found = names.found; met = says.met (key, names.found) names.met; to = names.to; has_to = names.has_to; names = names.names }

  at_stays : (number : ℕ) (rows : List Values) (place : ℕ) (lookup : Lookup) (row : Values) → IsAt catalog now n number rows place lookup row → IsAt catalog after n number rows place lookup row
  at_stays number rows place lookup row at = record {
    is_row = ap (λ (it : List (Key × Option Values)). slice_get rows (length it)) says.wrote ∙ at.is_row;
    l = at.l;
    is_next = at.is_next;
    is_lookup = at.is_lookup;
  }

  last_place : length (claimed_now after n) - 1 ≡ length (claimed_now now n) - 1
  last_place = ap (λ (keys : List Key). length keys - 1) says.claimed

  last_key : (key : Option Key) → slice_get (claimed_now now n) (length (claimed_now now n) - 1) ≡ key → slice_get (claimed_now after n) (length (claimed_now after n) - 1) ≡ key
  last_key key is = ap (λ (keys : List Key). slice_get keys (length keys - 1)) says.claimed ∙ is

  pub over_stays : (u : Machine) (tx number : ℕ) (rows : List Values) → IsClaimOver catalog u now n tx number rows → IsClaimOver catalog u after n tx number rows
  over_stays u tx number rows (None_ none) = None_ (says.claimed ∙ none)
  over_stays u tx number rows (Written who shard act last) = Written who shard act (says.last ∙ last)
  over_stays u tx number rows (Kept who shard pred lookup row key ksid last at key_is names ksid_is) =
      Kept who shard pred lookup row key ksid (says.last ∙ last)
      (subst (λ (place : ℕ). IsAt catalog after n number rows place lookup row) (sym last_place) (at_stays number rows (length (claimed_now now n) - 1) lookup row at))
      (last_key _ key_is) (names_stay lookup key _ names) ksid_is

  redirected_stays : (u : Machine) (tx number : ℕ) (lookup : Lookup) (row : Values) (entry : Key × Values) → IsRedirected catalog u now n tx number lookup row entry → IsRedirected catalog u after n tx number lookup row entry
  redirected_stays u tx number lookup row entry (NamesNone last names) = NamesNone (says.last ∙ last) (names_stay lookup entry.0 _ names)
  redirected_stays u tx number lookup row entry (NamesOther who shard pred ksid last key_is names other) = NamesOther who shard pred ksid (says.last ∙ last) (last_key _ key_is) (names_stay lookup entry.0 _ names) other

  claimed_stays : (before : ℕ) (key : Key) → IsClaimed now n before key → IsClaimed after n before key
  claimed_stays before key is = record { front = is.front; all = says.claimed ∙ is.all; many = is.many }

  module _ (plan : InsertPlan) where
    ready_stays : (before : ℕ) → IsReady catalog now n plan before → IsReady catalog after n plan before
    ready_stays before is = record { claimed = ap length says.claimed ∙ is.claimed; over = λ u tx. over_stays u tx plan.table plan.rows (is.over u tx) }

    module _ (same : open_tx after n ≡ open_tx now n) where
      stage_stays : (stage : Stage) (before : ℕ) (lookup : Lookup) (row : Values) (claim : Claiming) → IsStageAt catalog now n plan stage before lookup row claim → IsStageAt catalog after n plan stage before lookup row claim
      stage_stays stages.First before lookup row claim is = ready_stays before is
      stage_stays (stages.Check ksid shard) before lookup row claim is = record {
        claimed = claimed_stays before claim.key is.claimed;
        met = says.last ∙ is.met ∙ ap (λ (tx : ℕ). deeds.Acts (of_tx n tx Pre) (key_place catalog claim.key) (Insert claim.key claim.row) marks.Takes) (sym same);
        names = names_stay lookup claim.key _ is.names;
        placed = is.placed;
      }
      stage_stays stages.Put before lookup row claim is = record {
        claimed = claimed_stays before claim.key is.claimed;
        redirected = λ u.
            subst (λ (tx : ℕ). IsRedirected catalog u after n tx plan.table lookup row (claim.key, claim.row)) (sym same)
            (redirected_stays u (open_tx now n) plan.table lookup row (claim.key, claim.row) (is.redirected u));
      }

      claim_stays : (before l : ℕ) (row : Values) (claim : Claiming) → IsClaimAt catalog now n plan before l row claim → IsClaimAt catalog after n plan before l row claim
      claim_stays before l row claim is = record { made = is.made; stage = stage_stays claim.stage before is.made.lookup row claim is.stage }

      module _ (p q : Progress) (task : q.task ≡ p.task) (later : q.later ≡ p.later) where
        task_stays : (row : Values) (before : ℕ) (lookups : List ℕ) (rest : List Task) → IsTaskAt catalog now n plan row before lookups rest p → IsTaskAt catalog after n plan row before lookups rest q
        task_stays row before [] rest is = (task ∙ is.0, later ∙ is.1, ready_stays before is.2)
        task_stays row before (l ∷ lookups) rest is = (is.0, is.1, task ∙ is.2, later ∙ is.3, claim_stays before l row is.0 is.4, is.5)

        left_stays : (left : List Values) → AreLeft catalog now n plan left p → AreLeft catalog after n plan left q
        left_stays [] is = task ∙ is
        left_stays (row ∷ rows) is = record {
          before = is.before;
          lookups = is.lookups;
          all = is.all;
          rest = is.rest;
          later = is.later;
          task = task_stays row (length is.before) is.lookups is.rest is.task;
        }

-- another count of tries, say, is no part of that
pub insert_stays : {catalog : Catalog} {limits : Limits} {now after : Run} {n : ℕ} {plan : InsertPlan} {p : Progress} → SaysSame catalog now after n → open_tx after n ≡ open_tx now n → (q : Progress) → q.task ≡ p.task
    → q.later ≡ p.later → q.rows ≡ p.rows
    → IsInsertAt catalog limits now n plan p → IsInsertAt catalog limits after n plan q
insert_stays {catalog} {now} {after} {n} {plan} {p} says same q task later counted at = record {
  written = at.written;
  left = at.left;
  rows = at.rows;
  wrote = says.wrote ∙ at.wrote;
  counted = counted ∙ at.counted;
  unread = says.rows [] at.unread;
  stands = left_stays catalog now after n says plan same p q task later at.left at.stands;
}
