-- Where an INSERT's program stands behind an act that was done.
use Rattle.std.proofs.Common.{◌≡◌, ◌∙◌, ◌-◌, ◌+◌, ◌++◌, ◌∷◌, ℕ, true, List, [], length, drop, Option, Some, None, refl, sym, ap, subst}
use Rattle.std.specs.Prelude.{slice_get}
use Rattle.std.proofs.lemmas.List.{append-nil, append_assoc, length-append, map-append}
use Rattle.vl_values.specs.declared.group.Group.{Group}
use Rattle.vl_values.specs.declared.group.Group.TheVariants.{Main, Pre}
use Rattle.vl_values.specs.declared.key.Key.{Key}
use Rattle.vl_values.specs.declared.pred.Pred.{Pred}
use Rattle.vl_catalog.specs.declared.catalog.Catalog.{Catalog}
use Rattle.vl_catalog.specs.Place.{ksid_of}
use Rattle.vl_catalog.specs.declared.lookup.Lookup.{Lookup}
use Rattle.vl_port.specs.declared.act.Act.{Act}
use Rattle.vl_port.specs.declared.act.Act.TheVariants.{Find, Insert, Put}
use Rattle.vl_port.specs.declared.limits.Limits.{Limits}
use Rattle.vl_port.specs.declared.who.Who.{Who}
use Rattle.vl_port.specs.View.{Values}
use Rattle.vl_model.specs.Entries.{named_by}
use Rattle.vl_plan.specs.declared.insert_plan.InsertPlan.{InsertPlan}
use Rattle.vl_lookup.specs.declared.stage.Stage.{Stage}
use Rattle.vl_lookup.specs.declared.stage.Stage.TheVariants as stages
use Rattle.vl_lookup.specs.Answering.{at_stage}
use Rattle.vl_lookup.specs.Progress.{Progress as Claiming, stage_for}
use Rattle.vl_insert.specs.declared.insertion.Insertion.{Insertion}
use Rattle.vl_insert.specs.declared.task.Task.{Task}
use Rattle.vl_insert.specs.declared.task.Task.TheVariants as tasks
use Rattle.vl_insert.specs.Progress.{Progress}
use Rattle.vl_run.specs.declared.deed.Deed.TheVariants as deeds
use Rattle.vl_run.specs.declared.event.Event.{Event}
use Rattle.vl_run.specs.declared.mark.Mark.TheVariants as marks
use Rattle.vl_run.specs.Allowed.{now_of}
use Rattle.vl_run.specs.Gathered.{Gathered, Met, MetAct, shown}
use Rattle.vl_run.specs.Machine.{key_place, of_tx, view}
use Rattle.vl_run.specs.Named.{IsAt, Names, key_in, needed}
use Rattle.vl_run.specs.Named.IsClaimOver.{Kept, None_, Written}
use Rattle.vl_run.specs.Named.IsRedirected.{NamesNone, NamesOther}
use Rattle.vl_run.specs.Progress.{changes_by, claim_by, claimed_now, last_deed, wrote}
use Rattle.vl_run.specs.Run.{Run}
use Rattle.vl_run.specs.Run.Point.{Happened}
use Rattle.vl_course_insert.specs.Inserting.{IsChecking, IsClaimed, IsInsertAt, IsReady, IsStageAt, IsTaskAt, open_tx}
use Rattle.vl_course_insert.proofs.Here.{IsClaimHere, IsHand, IsRowHere, behind, key_claimed, last_claimed, row_at}
use Rattle.vl_course_insert.proofs.Moves.{acted_claimed, acted_last, acted_met, acted_rows, acted_wrote}
use Rattle.vl_course_insert.proofs.Tasks.{left_next, task_next}

module _ {catalog : Catalog} {limits : Limits} (e : Event) (past : Run) {plan : InsertPlan} {p : Progress} (at : IsInsertAt catalog limits (now_of e past) e.session plan p) where
  abbrev now : Run
  now = now_of e past

  abbrev after : Run
  after = Happened e ∷ past

  abbrev n : ℕ
  n = e.session

  -- the program with its task behind it
  pub record IsPast (q : Progress) : Type 0 where
    pub task : q.task ≡ slice_get p.later 0
    pub later : q.later ≡ drop 1 p.later
    pub rows : q.rows ≡ p.rows

  module _ {claim : Claiming} (here : IsClaimHere catalog now n plan p claim) where
    abbrev before : ℕ
    before = length here.before

    abbrev lookup : Lookup
    lookup = here.at.made.lookup

    -- its claim is over
    claim_over : (q : Progress) → IsPast q → wrote after n ≡ wrote now n → Gathered catalog after n [] → IsReady catalog after n plan (before + 1) → IsInsertAt catalog limits after n plan q
    claim_over q over same unread ready =
        let task = task_next catalog after n plan here.row (before + 1) here.lookups here.claims here.hand.rest q here.made ready (over.task ∙ ap (λ (ts : List Task). slice_get ts 0) here.later) (over.later ∙ ap (drop 1) here.later) in
        record {
          written = here.hand.written;
          left = here.row ∷ here.hand.rows;
          rows = here.hand.all;
          wrote = same ∙ here.hand.wrote;
          counted = over.rows ∙ at.counted;
          unread = unread;
          stands = record {
            before = here.before ++ here.l ∷ [];
            lookups = here.lookups;
            all = here.needed ∙ sym (append_assoc here.before (here.l ∷ []) here.lookups);
            rest = here.hand.rest;
            later = here.hand.tasks;
            task = subst (λ (k : ℕ). IsTaskAt catalog after n plan here.row k here.lookups here.hand.rest q) (sym (length-append here.before (here.l ∷ []))) task;
          };
        }

    -- or goes on
    claim_on : (stage : Stage) (q : Progress) → q.task ≡ Some (tasks.Claim (at_stage stage claim)) → q.later ≡ p.later → q.rows ≡ p.rows → wrote after n ≡ wrote now n → Gathered catalog after n []
        → IsStageAt catalog after n plan stage before lookup here.row (at_stage stage claim)
        → IsInsertAt catalog limits after n plan q
    claim_on stage q task later rows same unread stands = record {
      written = here.hand.written;
      left = here.row ∷ here.hand.rows;
      rows = here.hand.all;
      wrote = same ∙ here.hand.wrote;
      counted = rows ∙ at.counted;
      unread = unread;
      stands = record {
        before = here.before;
        lookups = here.l ∷ here.lookups;
        all = here.needed;
        rest = here.hand.rest;
        later = here.hand.tasks;
        task = (at_stage stage claim, here.claims, task, later ∙ here.later, record { made = here.at.made; stage = stands }, here.made);
      };
    }

    module _ (who : Who) (shard : ℕ) where
      -- ---- an act of pre

      module _ (pre : who.group ≡ Some Pre) where
        module _ (deed : e.deed ≡ deeds.Acts who shard (Insert claim.key claim.row) marks.Writes) (ready : IsReady catalog now n plan before) where
          inserted_claims : claimed_now after n ≡ claimed_now now n ++ claim.key ∷ []
          inserted_claims =
              acted_claimed catalog e past who shard (Insert claim.key claim.row) marks.Writes deed ∙ ap (λ (g : Option Group). claim_by marks.Writes g (Insert claim.key claim.row) (claimed_now now n)) pre

          -- the entry was inserted
          pub claim_inserted : (q : Progress) → IsPast q → IsInsertAt catalog limits after n plan q
          claim_inserted q over =
              claim_over q over
              (acted_wrote catalog e past who shard (Insert claim.key claim.row) marks.Writes deed ∙ ap (λ (g : Option Group). wrote now n ++ changes_by marks.Writes g (Insert claim.key claim.row)) pre ∙ append-nil (wrote now n))
              (acted_rows catalog e past who shard (Insert claim.key claim.row) marks.Writes deed [] refl at.unread)
              (record {
                claimed = ap length inserted_claims ∙ length-append (claimed_now now n) (claim.key ∷ []) ∙ ap (λ (k : ℕ). k + 1) ready.claimed;
                over = λ u tx. Written who shard (Insert claim.key claim.row) (acted_last catalog e past who shard (Insert claim.key claim.row) marks.Writes deed);
              })

        -- it was redirected
        pub claim_put : e.deed ≡ deeds.Acts who shard (Put claim.key claim.row) marks.Writes → IsClaimed now n before claim.key → (q : Progress) → IsPast q → IsInsertAt catalog limits after n plan q
        claim_put deed is q over =
            claim_over q over
            (acted_wrote catalog e past who shard (Put claim.key claim.row) marks.Writes deed ∙ ap (λ (g : Option Group). wrote now n ++ changes_by marks.Writes g (Put claim.key claim.row)) pre ∙ append-nil (wrote now n))
            (acted_rows catalog e past who shard (Put claim.key claim.row) marks.Writes deed [] refl at.unread)
            (record {
              claimed =
                  ap length
                  (acted_claimed catalog e past who shard (Put claim.key claim.row) marks.Writes deed ∙ ap (λ (g : Option Group). claim_by marks.Writes g (Put claim.key claim.row) (claimed_now now n)) pre ∙ is.all)
                  ∙ length-append is.front (claim.key ∷ []) ∙ ap (λ (k : ℕ). k + 1) is.many;
              over = λ u tx. Written who shard (Put claim.key claim.row) (acted_last catalog e past who shard (Put claim.key claim.row) marks.Writes deed);
            })

        -- it was found
        module _ (deed : e.deed ≡ deeds.Acts who shard (Insert claim.key claim.row) marks.Takes) (ready : IsReady catalog now n plan before) (by : who ≡ of_tx n (open_tx after n) Pre)
            (placed : shard ≡ key_place catalog claim.key)
            (found : Values) (seen : view (shown catalog past) who claim.key ≡ Some found) (to : lookup.to ≡ Some claim.to) where
          found_claims : IsClaimed after n before claim.key
          found_claims = record {
            front = claimed_now now n;
            all = acted_claimed catalog e past who shard (Insert claim.key claim.row) marks.Takes deed ∙ ap (λ (g : Option Group). claim_by marks.Takes g (Insert claim.key claim.row) (claimed_now now n)) pre;
            many = ready.claimed;
          }

          found_last : last_deed after n ≡ deeds.Acts (of_tx n (open_tx after n) Pre) (key_place catalog claim.key) (Insert claim.key claim.row) marks.Takes
          found_last =
              acted_last catalog e past who shard (Insert claim.key claim.row) marks.Takes deed ∙ ap (λ (w : Who). deeds.Acts w shard (Insert claim.key claim.row) marks.Takes) by
              ∙ ap (λ (s : ℕ). deeds.Acts (of_tx n (open_tx after n) Pre) s (Insert claim.key claim.row) marks.Takes) placed

          found_met : Met catalog after n (claim.key, found)
          found_met =
              acted_met catalog e past who shard (Insert claim.key claim.row) marks.Takes deed (claim.key, found)
              (subst (λ (g : Option Group). MetAct (shown catalog past) who marks.Takes g (Insert claim.key claim.row) (Met catalog now n) (claim.key, found)) (sym pre) (refl, seen))

          found_names : (named : Option (List ℕ)) → named_by claim.to found ≡ named → Names catalog after n lookup claim.key named
          found_names named is = record { found = found; met = found_met; to = claim.to; has_to = to; names = sym is }

          found_stage : (named : Option (List ℕ)) → named_by claim.to found ≡ named → IsStageAt catalog after n plan (stage_for catalog claim named) before lookup here.row (at_stage (stage_for catalog claim named) claim)
          found_stage None is = record { claimed = found_claims; redirected = λ u. NamesNone found_last (found_names None is) }
          found_stage (Some ksid) is = record { claimed = found_claims; met = found_last; names = found_names (Some ksid) is; placed = refl }

          pub claim_found : (q : Progress) → q.task ≡ Some (tasks.Claim (at_stage (stage_for catalog claim (named_by claim.to found)) claim)) → q.later ≡ p.later → q.rows ≡ p.rows → IsInsertAt catalog limits after n plan q
          claim_found q task later rows =
              claim_on (stage_for catalog claim (named_by claim.to found)) q task later rows
              (acted_wrote catalog e past who shard (Insert claim.key claim.row) marks.Takes deed ∙ append-nil (wrote now n))
              (acted_rows catalog e past who shard (Insert claim.key claim.row) marks.Takes deed [] refl at.unread) (found_stage (named_by claim.to found) refl)

      -- ---- an owner check that gave no row

      module _ (main : who.group ≡ Some Main) (pred : Pred) (deed : e.deed ≡ deeds.Acts who shard (Find pred true) marks.Takes) (ksid : List ℕ) (at_shard : ℕ)
          (is : IsChecking catalog now n plan before lookup claim ksid at_shard) where
        checked_wrote : wrote after n ≡ wrote now n
        checked_wrote = acted_wrote catalog e past who shard (Find pred true) marks.Takes deed ∙ append-nil (wrote now n)

        checked_rows : Gathered catalog after n []
        checked_rows = acted_rows catalog e past who shard (Find pred true) marks.Takes deed [] refl at.unread

        checked_claims : IsClaimed after n before claim.key
        checked_claims = record {
          front = is.claimed.front;
          all = acted_claimed catalog e past who shard (Find pred true) marks.Takes deed ∙ ap (λ (g : Option Group). claim_by marks.Takes g (Find pred true) (claimed_now now n)) main ∙ is.claimed.all;
          many = is.claimed.many;
        }

        checked_names : Names catalog after n lookup claim.key (Some ksid)
        checked_names = record {
          found = is.names.found;
          met = acted_met catalog e past who shard (Find pred true) marks.Takes deed (claim.key, is.names.found)
              (subst (λ (g : Option Group). MetAct (shown catalog past) who marks.Takes g (Find pred true) (Met catalog now n) (claim.key, is.names.found)) (sym main) is.names.met);
          to = is.names.to;
          has_to = is.names.has_to;
          names = is.names.names;
        }

        checked_last : last_deed after n ≡ deeds.Acts who shard (Find pred true) marks.Takes
        checked_last = acted_last catalog e past who shard (Find pred true) marks.Takes deed

        hand_after : IsHand catalog after n plan p here.row
        hand_after = record { written = here.hand.written; rows = here.hand.rows; all = here.hand.all; wrote = checked_wrote ∙ here.hand.wrote; rest = here.hand.rest; tasks = here.hand.tasks }

        at_after : (place : ℕ) → place ≡ before → IsAt catalog after n plan.table plan.rows place lookup here.row
        at_after place same = record {
          is_row = row_at hand_after;
          l = here.l;
          is_next = ap (slice_get (needed catalog plan.table here.row)) same ∙ ap (λ (ls : List ℕ). slice_get ls before) here.needed ∙ behind here.before here.l here.lookups;
          is_lookup = here.at.made.owned.is_lookup;
        }

        -- the entry is kept
        pub claim_kept : ksid_of catalog plan.table here.row ≡ Some ksid → (q : Progress) → IsPast q → IsInsertAt catalog limits after n plan q
        claim_kept own q over =
            claim_over q over checked_wrote checked_rows
            (record {
              claimed = ap length checked_claims.all ∙ length-append checked_claims.front (claim.key ∷ []) ∙ ap (λ (k : ℕ). k + 1) checked_claims.many;
              over = λ u tx.
                  Kept who shard pred lookup here.row claim.key ksid checked_last (at_after (length (claimed_now after n) - 1) (last_claimed checked_claims)) (key_claimed checked_claims)
                  checked_names own;
            })

        -- it is to be redirected
        pub claim_other : (ksid_of catalog plan.table here.row ≡ Some ksid → ⊥) → (q : Progress) → q.task ≡ Some (tasks.Claim (at_stage stages.Put claim)) → q.later ≡ p.later → q.rows ≡ p.rows
            → IsInsertAt catalog limits after n plan q
        claim_other other q task later rows =
            claim_on stages.Put q task later rows checked_wrote checked_rows
            (record { claimed = checked_claims; redirected = λ u. NamesOther who shard pred ksid checked_last (key_claimed checked_claims) checked_names other })

  -- ---- a row

  pub row_written : {insertion : Insertion} (here : IsRowHere catalog now n plan p insertion) (who : Who) (shard : ℕ) → who.group ≡ Some Main
      → e.deed ≡ deeds.Acts who shard (Insert (key_in catalog plan.table here.row) here.row) marks.Writes → (q : Progress) → IsPast q
      → IsInsertAt catalog limits after n plan q
  row_written here who shard main deed q over =
      let act : Act = Insert (key_in catalog plan.table here.row) here.row in
      let claimed : claimed_now after n ≡ [] = acted_claimed catalog e past who shard act marks.Writes deed ∙ ap (λ (g : Option Group). claim_by marks.Writes g act (claimed_now now n)) main in
      record {
        written = here.hand.written ++ here.row ∷ [];
        left = here.hand.rows;
        rows = here.hand.all ∙ sym (append_assoc here.hand.written (here.row ∷ []) here.hand.rows);
        wrote = acted_wrote catalog e past who shard act marks.Writes deed ∙ ap (λ (g : Option Group). wrote now n ++ changes_by marks.Writes g act) main
            ∙ ap (λ (its : List (Key × Option Values)). its ++ (key_in catalog plan.table here.row, Some here.row) ∷ []) here.hand.wrote
            ∙ sym (map-append (λ row. (key_in catalog plan.table row, Some row)) here.hand.written (here.row ∷ []));
        counted = over.rows ∙ at.counted;
        unread = acted_rows catalog e past who shard act marks.Writes deed [] refl at.unread;
        stands = left_next catalog after n plan here.hand.rows here.hand.rest q here.hand.tasks (record { claimed = ap length claimed; over = λ u tx. None_ claimed })
            (over.task ∙ ap (λ (ts : List Task). slice_get ts 0) here.later) (over.later ∙ ap (drop 1) here.later);
      }
