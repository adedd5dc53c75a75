-- The read that is due in a program is the act that the run names next.
use Rattle.std.proofs.Common.{◌≡◌, ◌∙◌, ◌==◌, if◌then◌else◌, ℕ, Bool, true, false, List, length, Option, Some, None, refl, sym, ap, subst, arith}
use Rattle.std.specs.Prelude.{slice_get}
use Rattle.std.specs.List.{list_any}
use Rattle.std.specs.Option.{option_map}
use Rattle.std.proofs.lemmas.Bool.{le-ltb, lt-ltb}
use Rattle.std.proofs.lemmas.Option.{same_Some, slice_get-map, slice_get_within}
use Rattle.vl_values.specs.declared.group.Group.{Group}
use Rattle.vl_values.specs.declared.group.Group.TheVariants.{Pre}
use Rattle.vl_values.specs.declared.pred.Pred.{Pred}
use Rattle.vl_catalog.specs.declared.catalog.Catalog.{Catalog}
use Rattle.vl_sql.specs.declared.stmt.Stmt.{Stmt}
use Rattle.vl_port.specs.declared.act.Act.{Act}
use Rattle.vl_port.specs.declared.act.Act.TheVariants.{Find}
use Rattle.vl_port.specs.declared.limits.Limits.{Limits}
use Rattle.vl_port.specs.declared.tx_state.TxState.{TxState}
use Rattle.vl_port.specs.Asking.{reader_in}
use Rattle.vl_port.specs.Taking.{takes_keys}
use Rattle.vl_port.specs.Transaction.{listed, session_of}
use Rattle.vl_model.specs.Visiting.{entry_reads}
use Rattle.vl_plan.specs.declared.plan.Plan.TheVariants as plans
use Rattle.vl_plan.specs.declared.select_plan.SelectPlan.{SelectPlan}
use Rattle.vl_plan.specs.Planned.{IsPlanned}
use Rattle.vl_select.specs.declared.entry_read.EntryRead.{EntryRead}
use Rattle.vl_select.specs.Begun.{entry_read}
use Rattle.vl_select.specs.Making.{IsMade}
use Rattle.vl_select.specs.Progress.{Action, Progress, due}
use Rattle.vl_select.proofs.Dues.{Entry, IsDue, Shard, due_is}
use Rattle.vl_run.specs.declared.mark.Mark.TheVariants as marks
use Rattle.vl_run.specs.Machine.{Machine, of_tx}
use Rattle.vl_run.specs.Named.{ComesTo, IsNext, Looking, Looks, Purpose, Reading, Selects, read_by, read_group, reader}
use Rattle.vl_run.specs.Run.{Run}
use Rattle.vl_run.specs.Session.{Owned}
use Rattle.vl_course.specs.Course.{IsTx}
use Rattle.vl_course.specs.Selecting.{IsSelectAt, mark_of, reader_of}
use Rattle.vl_course.proofs.Reading.{is_routed, none_at}

-- ---- who reads

module _ (limits : Limits) (now : Run) (n : ℕ) (own : Owned) (tx : TxState) (is : IsTx limits now n own tx) where
  pub session_as : (group : Group) → session_of tx group ≡ of_tx n own.number group
  session_as group = ap (λ (s : ℕ). record { session = s; tx = tx.number; group = Some group }) is.session ∙ ap (λ (t : ℕ). record { session = n; tx = t; group = Some group }) is.number

  reader_as : (group : Group) (there : Bool) → reader_in tx group there ≡ (if there then of_tx n own.number group else record { session = n; tx = own.number; group = None })
  reader_as group true = session_as group
  reader_as group false = ap (λ (s : ℕ). record { session = s; tx = tx.number; group = None }) is.session ∙ ap (λ (t : ℕ). record { session = n; tx = t; group = None }) is.number

  -- a plain read goes by the session that the run knows
  pub reader_named : (group : Group) (shard : ℕ) → reader_in tx group (list_any (λ other. other == shard) (listed tx group)) ≡ reader now n own.number group shard
  reader_named group shard =
      reader_as group (list_any (λ other. other == shard) (listed tx group))
      ∙ ap (λ (shards : List ℕ). if list_any (λ other. other == shard) shards then of_tx n own.number group else record { session = n; tx = own.number; group = None }) (sym (is.used group))

  read_as : (group : Group) (locking : Bool) (shard : ℕ) → (if locking then session_of tx group else reader_in tx group (list_any (λ other. other == shard) (listed tx group))) ≡ read_by now n own.number group locking shard
  read_as group true shard = session_as group
  read_as group false shard = reader_named group shard

  -- a read goes by whom the run says
  pub reader_is : (action : Action) (group : Group) (pred : Pred) (locking : Bool) → action.group ≡ group → action.act ≡ Find pred locking → reader_of tx action ≡ read_by now n own.number group locking action.shard
  reader_is action group pred locking by finds =
      ap (λ (a : Act). if takes_keys a then session_of tx action.group else reader_in tx action.group (list_any (λ other. other == action.shard) (listed tx action.group))) finds
      ∙ ap (λ (g : Group). if locking then session_of tx g else reader_in tx g (list_any (λ other. other == action.shard) (listed tx g))) by
      ∙ read_as group locking action.shard

-- ---- what is read

-- an entry's read is one that the route begins with
pub record IsEntryOf (reads : List (ℕ × Pred)) (looked : ℕ) (entry : EntryRead) : Type 0 where
  pub read : ℕ × Pred
  pub at : slice_get reads looked ≡ Some read
  pub is : entry_read read ≡ entry

entry_of : (o : Option (ℕ × Pred)) (reads : List (ℕ × Pred)) (looked : ℕ) (entry : EntryRead) → slice_get reads looked ≡ o → option_map entry_read o ≡ Some entry → IsEntryOf reads looked entry
entry_of None reads looked entry at is = absurd (cc)
entry_of (Some read) reads looked entry at is = record { read = read; at = at; is = same_Some (entry_read read) entry is }

-- ---- the next act

-- the action is the next act of the statement, a read
pub record IsNamed (catalog : Catalog) (u : Machine) (now : Run) (n : ℕ) (stmt : Stmt) (own : Owned) (tx : TxState) (p : Progress) (action : Action) : Type 0 where
  pub purpose : Purpose
  pub next : IsNext catalog u now n stmt (Some own) purpose (reader_of tx action) action.shard action.act
  pub comes : ComesTo purpose (mark_of p)
  pub pred : Pred
  pub locking : Bool
  pub finds : action.act ≡ Find pred locking

module _ (catalog : Catalog) (limits : Limits) (u : Machine) (now : Run) (n count most : ℕ) (stmt : Stmt) (plan : SelectPlan) (own : Owned) (tx : TxState) (p : Progress)
    (planned : IsPlanned catalog stmt (plans.Select plan)) (is : IsTx limits now n own tx) (at : IsSelectAt catalog limits now n plan p) (made : IsMade catalog count most p) where
  entry_named : (action : Action) (entry : EntryRead) → slice_get p.entries p.looked ≡ Some entry → action.group ≡ Pre → action.shard ≡ entry.shard → action.act ≡ entry.find → IsNamed catalog u now n stmt own tx p action
  entry_named action entry here group shard act =
      let reads = entry_reads catalog plan.route in
      let it = entry_of (slice_get reads p.looked) reads p.looked entry refl (sym (slice_get-map entry_read reads p.looked) ∙ ap (λ (es : List EntryRead). slice_get es p.looked) (sym at.entries) ∙ here) in
      let placed : it.read.0 ≡ action.shard = ap (λ (e : EntryRead). e.shard) it.is ∙ sym shard in
      let finds : action.act ≡ Find it.read.1 false = act ∙ sym (ap (λ (e : EntryRead). e.find) it.is) in
      let looks : mark_of p ≡ marks.Looks = ap (λ b. if b then marks.Looks else marks.Reads) (lt-ltb p.looked (length p.entries) (slice_get_within p.entries p.looked entry here)) in
      record {
        purpose = Looking;
        next = record {
          own = own;
          owns = refl;
          plan = plans.Select plan;
          planned = planned;
          due = Looks plan (reader_of tx action) action.shard action.act
              (record {
                pred = it.read.1;
                due = ap (slice_get reads) at.looked ∙ it.at ∙ ap (λ (s : ℕ). Some (s, it.read.1)) placed;
                by = reader_is limits now n own tx is action Pre it.read.1 false group finds;
                finds = finds;
              });
        };
        comes = subst (ComesTo Looking) (sym looks) tt;
        pred = it.read.1;
        locking = false;
        finds = finds;
      }

  shard_named : (action : Action) → slice_get p.entries p.looked ≡ None → slice_get p.shards p.read ≡ Some action.shard → action.group ≡ p.group → action.act ≡ p.find → IsNamed catalog u now n stmt own tx p action
  shard_named action none here group act =
      let finds : action.act ≡ Find plan.pred plan.locking = act ∙ at.find in
      let all : p.looked ≡ length p.entries = omega (arith, made.looked, none_at p.entries p.looked none) in
      let reads : mark_of p ≡ marks.Reads = ap (λ b. if b then marks.Looks else marks.Reads) (le-ltb p.looked (length p.entries) (omega (arith, all))) in
      record {
        purpose = Reading;
        next = record {
          own = own;
          owns = refl;
          plan = plans.Select plan;
          planned = planned;
          due = Selects plan (reader_of tx action) action.shard action.act
              (record {
                shards = p.shards;
                routed = is_routed catalog limits now n plan p at all;
                due = ap (slice_get p.shards) at.read ∙ here;
                by = reader_is limits now n own tx is action (read_group catalog plan.pred.table) plan.pred plan.locking (group ∙ at.group) finds;
                finds = finds;
              });
        };
        comes = subst (ComesTo Reading) (sym reads) tt;
        pred = plan.pred;
        locking = plan.locking;
        finds = finds;
      }

  by_due : (action : Action) → IsDue p action → IsNamed catalog u now n stmt own tx p action
  by_due action (Entry entry here group shard act) = entry_named action entry here group shard act
  by_due action (Shard none here group act) = shard_named action none here group act

  pub is_named : (action : Action) → due p ≡ Some action → IsNamed catalog u now n stmt own tx p action
  is_named action is_due = by_due action (due_is p action is_due)
