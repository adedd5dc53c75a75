-- The act that is due in an INSERT's program is the one that the run names next.
use Rattle.std.proofs.Common.{◌≡◌, ◌∙◌, ◌-◌, ℕ, true, List, length, Option, Some, refl, sym, ap, subst}
use Rattle.std.specs.Prelude.{slice_get}
use Rattle.std.specs.Option.{option_map_or}
use Rattle.vl_values.specs.declared.group.Group.{Group}
use Rattle.vl_values.specs.declared.group.Group.TheVariants.{Main, Pre}
use Rattle.vl_values.specs.declared.key.Key.{Key}
use Rattle.vl_catalog.specs.declared.catalog.Catalog.{Catalog}
use Rattle.vl_catalog.specs.Place.{shard_in}
use Rattle.vl_rules.specs.Order.{Checked}
use Rattle.vl_sql.specs.declared.stmt.Stmt.{Stmt}
use Rattle.vl_port.specs.declared.act.Act.{Act}
use Rattle.vl_port.specs.declared.act.Act.TheVariants.{Find, Insert, Put}
use Rattle.vl_port.specs.declared.limits.Limits.{Limits}
use Rattle.vl_port.specs.declared.tx_state.TxState.{TxState}
use Rattle.vl_port.specs.declared.who.Who.{Who}
use Rattle.vl_port.specs.Transaction.{session_of}
use Rattle.vl_port.specs.View.{Values}
use Rattle.vl_plan.specs.declared.insert_plan.InsertPlan.{InsertPlan}
use Rattle.vl_plan.specs.declared.plan.Plan.TheVariants as plans
use Rattle.vl_plan.specs.Planned.{IsPlanned}
use Rattle.vl_lookup.specs.Making.{IsClaim}
use Rattle.vl_lookup.specs.Progress.{Progress as Claiming}
use Rattle.vl_insert.specs.declared.insertion.Insertion.{Insertion}
use Rattle.vl_insert.specs.Making.{IsInsertion}
use Rattle.vl_insert.specs.Progress.{Progress}
use Rattle.vl_run.specs.declared.deed.Deed.TheVariants as deeds
use Rattle.vl_run.specs.declared.mark.Mark.TheVariants as marks
use Rattle.vl_run.specs.Machine.{Machine, key_place, of_tx}
use Rattle.vl_run.specs.Named.{IsAt, IsCheckDue, IsClaimDue, IsDue, IsNext, IsRedirectDue, IsRedirected, IsRowDue, Purpose, key_in, needed}
use Rattle.vl_run.specs.Progress.{claimed_now, session}
use Rattle.vl_run.specs.Run.{Run}
use Rattle.vl_run.specs.Session.{Owned}
use Rattle.vl_course.specs.Course.{IsTx}
use Rattle.vl_course.proofs.Named.{session_as}
use Rattle.vl_course_insert.specs.Inserting.{IsChecking, IsReady, IsRedirecting, open_tx}
use Rattle.vl_course_insert.proofs.Claims.{IsClaimOf, claim_of, row_placed}
use Rattle.vl_course_insert.proofs.Here.{IsClaimHere, IsRowHere, behind, last_claimed, row_at}

-- ---- what is known of a claim

module _ {catalog : Catalog} {now : Run} {n count : ℕ} {plan : InsertPlan} {p : Progress} {claim : Claiming} (checked : Checked catalog) (here : IsClaimHere catalog now n plan p claim)
    (ready : IsClaim catalog count claim) where
  pub known : IsClaimOf catalog plan.table here.row here.at.made.lookup claim
  known = claim_of catalog checked here.l count here.row claim here.at.made ready plan.table (length here.before) (ap (λ (ls : List ℕ). slice_get ls (length here.before)) here.needed ∙ behind here.before here.l here.lookups)

  pub entry_placed : key_place catalog claim.key ≡ claim.shard
  entry_placed = row_placed catalog checked claim.shard claim.key claim.row ready.entry

-- the row at hand and its lookup
abbrev pub is_at : {catalog : Catalog} {now : Run} {n : ℕ} {plan : InsertPlan} {p : Progress} {claim : Claiming} (here : IsClaimHere catalog now n plan p claim) (place : ℕ) → place ≡ length here.before
    → IsAt catalog now n plan.table plan.rows place here.at.made.lookup here.row
is_at {catalog} {plan} here place same = record {
  is_row = row_at here.hand;
  l = here.l;
  is_next = ap (slice_get (needed catalog plan.table here.row)) same ∙ ap (λ (ls : List ℕ). slice_get ls (length here.before)) here.needed ∙ behind here.before here.l here.lookups;
  is_lookup = here.at.made.owned.is_lookup;
}

-- ---- the act that is due

same_key : (a b : Key) (x y : Values) (act : Act) → act ≡ Insert a x → act ≡ Insert b y → a ≡ b
same_key a b x y act one other = cc

module _ {limits : Limits} {now : Run} {n : ℕ} {own : Owned} {tx : TxState} (owned : (session now n).owned ≡ Some own) (is_tx : IsTx limits now n own tx) where
  pub by : (group : Group) → session_of tx group ≡ of_tx n own.number group
  by group = session_as limits now n own tx is_tx group

  pub is_open : open_tx now n ≡ own.number
  is_open = ap (λ (o : Option Owned). option_map_or (λ (it : Owned). it.number) o 0) owned

  module _ {catalog : Catalog} (checked : Checked catalog) (u : Machine) {count : ℕ} {plan : InsertPlan} {p : Progress} where
    -- of a claim
    module _ {claim : Claiming} (here : IsClaimHere catalog now n plan p claim) (ready : IsClaim catalog count claim) where
      abbrev pub first_due : IsReady catalog now n plan (length here.before) → IsClaimDue catalog u now n own.number plan.table plan.rows (session_of tx Pre) claim.shard (Insert claim.key claim.row)
      first_due is = record {
        lookup = here.at.made.lookup;
        row = here.row;
        entry = (claim.key, claim.row);
        next = is_at here (length (claimed_now now n)) is.claimed;
        over = is.over u own.number;
        needs = (known checked here ready).needs;
        by = by Pre;
        placed = sym (entry_placed checked here ready);
        inserts = refl;
      }

      abbrev pub check_due : (ksid : List ℕ) (shard : ℕ) → IsChecking catalog now n plan (length here.before) here.at.made.lookup claim ksid shard
          → IsCheckDue catalog u now n own.number plan.table plan.rows (session_of tx Main) shard (Find claim.pred true)
      check_due ksid shard is = record {
        lookup = here.at.made.lookup;
        row = here.row;
        entry = (claim.key, claim.row);
        pred = claim.pred;
        ksid = ksid;
        owner = (known checked here ready).owner;
        at = is_at here (length (claimed_now now n) - 1) (last_claimed is.claimed);
        met = is.met ∙ ap (λ (number : ℕ). deeds.Acts (of_tx n number Pre) (key_place catalog claim.key) (Insert claim.key claim.row) marks.Takes) is_open;
        names = is.names;
        is_owner = (known checked here ready).is_owner;
        by = by Main;
        placed = is.placed ∙ ap (λ (k : ℕ). shard_in catalog.rings k ksid) (known checked here ready).keyspace;
        finds = refl;
        of_owner = (known checked here ready).pred;
        matched = (known checked here ready).matched;
      }

      pub redirect_due : IsRedirecting catalog now n plan (length here.before) here.at.made.lookup here.row claim
          → IsRedirectDue catalog u now n own.number plan.table plan.rows (session_of tx Pre) claim.shard (Put claim.key claim.row)
      redirect_due is = record {
        lookup = here.at.made.lookup;
        row = here.row;
        entry = (claim.key, claim.row);
        at = is_at here (length (claimed_now now n) - 1) (last_claimed is.claimed);
        redirected = subst (λ (number : ℕ). IsRedirected catalog u now n number plan.table here.at.made.lookup here.row (claim.key, claim.row)) is_open (is.redirected u);
        needs = (known checked here ready).needs;
        by = by Pre;
        placed = sym (entry_placed checked here ready);
        puts = refl;
      }

    -- of a row
    pub row_due : {insertion : Insertion} → IsRowHere catalog now n plan p insertion → IsInsertion catalog count insertion
        → IsRowDue catalog u now n own.number plan.table plan.rows (session_of tx Main) insertion.shard insertion.act
    row_due {insertion} here it =
        let inserts : insertion.act ≡ Insert (key_in catalog plan.table here.row) here.row = ap (λ (i : Insertion). i.act) here.is in
        let key : it.key ≡ key_in catalog plan.table here.row = same_key it.key (key_in catalog plan.table here.row) it.row here.row insertion.act it.inserts inserts in
        record {
          row = here.row;
          is_row = row_at here.hand;
          claimed = here.ready.claimed;
          over = here.ready.over u own.number;
          by = by Main;
          placed = sym (ap (key_place catalog) (sym key) ∙ row_placed catalog checked insertion.shard it.key it.row it.placed);
          inserts = inserts;
        }

-- ---- the next act

pub is_next : {catalog : Catalog} {u : Machine} {now : Run} {n : ℕ} {plan : InsertPlan} {stmt : Stmt} {purpose : Purpose} {who : Who} {shard : ℕ} {act : Act} (own : Owned) → IsPlanned catalog stmt (plans.Insert plan)
    → IsDue catalog u now n own.number (plans.Insert plan) purpose who shard act → IsNext catalog u now n stmt (Some own) purpose who shard act
is_next {plan} own planned due = record { own = own; owns = refl; plan = plans.Insert plan; planned = planned; due = due }
