-- The task in progress, with its row and what lies behind it.
use Rattle.std.proofs.Common.{◌≡◌, ◌∙◌, ◌-◌, ◌++◌, ◌∷◌, ℕ, List, [], length, map, Option, Some, None, refl, sym, ap, subst, arith}
use Rattle.std.specs.Prelude.{slice_get}
use Rattle.std.proofs.lemmas.List.{append-nil, length-append, length-map}
use Rattle.vl_values.specs.declared.key.Key.{Key}
use Rattle.vl_catalog.specs.declared.catalog.Catalog.{Catalog}
use Rattle.vl_port.specs.declared.limits.Limits.{Limits}
use Rattle.vl_port.specs.View.{Values}
use Rattle.vl_plan.specs.declared.insert_plan.InsertPlan.{InsertPlan}
use Rattle.vl_lookup.specs.Progress.{Progress as Claiming}
use Rattle.vl_insert.specs.declared.insertion.Insertion.{Insertion}
use Rattle.vl_insert.specs.declared.task.Task.{Task}
use Rattle.vl_insert.specs.declared.task.Task.TheVariants as tasks
use Rattle.vl_insert.specs.Begun.{AreClaimsFor, AreTasks, insertion_of}
use Rattle.vl_insert.specs.Progress.{Progress}
use Rattle.vl_run.specs.Named.{insertions, key_in, needed}
use Rattle.vl_run.specs.Progress.{claimed_now, wrote}
use Rattle.vl_run.specs.Run.{Run}
use Rattle.vl_course_insert.specs.Inserting.{AreLeft, IsClaimAt, IsClaimed, IsInsertAt, IsReady, IsRowAt, IsTaskAt}

-- the element behind those before
pub behind : {A : Type 0} (before : List A) (x : A) (rest : List A) → slice_get (before ++ x ∷ rest) (length before) ≡ Some x
behind [] x rest = refl
behind (y ∷ before) x rest = behind before x rest

-- so many keys were claimed before that of the claim in progress
pub last_claimed : {now : Run} {n before : ℕ} {key : Key} → IsClaimed now n before key → length (claimed_now now n) - 1 ≡ before
last_claimed {key} is = omega (arith, ap length is.all, length-append is.front (key ∷ []), is.many)

pub key_claimed : {now : Run} {n before : ℕ} {key : Key} → IsClaimed now n before key → slice_get (claimed_now now n) (length (claimed_now now n) - 1) ≡ Some key
key_claimed {now} {n} {key} is =
    ap (slice_get (claimed_now now n)) (last_claimed is ∙ sym is.many) ∙ ap (λ (keys : List Key). slice_get keys (length is.front)) is.all ∙ behind is.front key []

module _ (catalog : Catalog) (now : Run) (n : ℕ) (plan : InsertPlan) (p : Progress) where
  -- the row at hand: those before it are written
  pub record IsHand (row : Values) : Type 0 where
    pub written : List Values
    pub rows : List Values
    pub all : plan.rows ≡ written ++ row ∷ rows
    pub wrote : wrote now n ≡ insertions catalog plan.table written
    pub rest : List Task
    pub tasks : AreTasks catalog plan.table rows rest

  -- the claim of its entry in this lookup, with those before and behind it
  pub record IsClaimHere (claim : Claiming) : Type 0 where
    pub row : Values
    pub hand : IsHand row
    pub before : List ℕ
    pub l : ℕ
    pub lookups : List ℕ
    pub needed : needed catalog plan.table row ≡ before ++ l ∷ lookups
    pub claims : List Claiming
    pub later : p.later ≡ map (λ it. tasks.Claim it) claims ++ tasks.Row (insertion_of catalog plan.table row) ∷ hand.rest
    pub at : IsClaimAt catalog now n plan (length before) l row claim
    pub made : AreClaimsFor catalog row lookups claims

  -- the row itself, with all of its entries claimed
  pub record IsRowHere (insertion : Insertion) : Type 0 where
    pub row : Values
    pub hand : IsHand row
    pub is : insertion ≡ insertion_of catalog plan.table row
    pub later : p.later ≡ hand.rest
    pub ready : IsReady catalog now n plan (length (needed catalog plan.table row))

same_claim : (a b : Claiming) (o : Option Task) → o ≡ Some (tasks.Claim a) → o ≡ Some (tasks.Claim b) → a ≡ b
same_claim a b o one other = cc

same_row : (a b : Insertion) (o : Option Task) → o ≡ Some (tasks.Row a) → o ≡ Some (tasks.Row b) → a ≡ b
same_row a b o one other = cc

no_row : (a : Claiming) (b : Insertion) (o : Option Task) → o ≡ Some (tasks.Claim a) → o ≡ Some (tasks.Row b) → ⊥
no_row a b o one other = absurd (cc)

no_task : (task : Task) (o : Option Task) → o ≡ Some task → o ≡ None → ⊥
no_task task o one none = absurd (cc)

-- ---- which row it is

module _ {catalog : Catalog} {now : Run} {n : ℕ} {plan : InsertPlan} {p : Progress} where
  pub row_at : {row : Values} → IsHand catalog now n plan p row → slice_get plan.rows (length (wrote now n)) ≡ Some row
  row_at {row} hand =
      let many : length (insertions catalog plan.table hand.written) ≡ length hand.written = length-map hand.written (λ it. (key_in catalog plan.table it, Some it)) in
      ap (λ (it : List (Key × Option Values)). slice_get plan.rows (length it)) hand.wrote ∙ ap (slice_get plan.rows) many
      ∙ ap (λ (rows : List Values). slice_get rows (length hand.written)) hand.all ∙ behind hand.written row hand.rows

  -- ---- from where the program stands

  module _ (written rows : List Values) (row : Values) (all : plan.rows ≡ written ++ row ∷ rows) (are : wrote now n ≡ insertions catalog plan.table written) (at : IsRowAt catalog now n plan row rows p) where
    abbrev hand_at : IsHand catalog now n plan p row
    hand_at = record { written = written; rows = rows; all = all; wrote = are; rest = at.rest; tasks = at.later }

    claim_by : (claim : Claiming) → p.task ≡ Some (tasks.Claim claim) → (lookups : List ℕ) → needed catalog plan.table row ≡ at.before ++ lookups → IsTaskAt catalog now n plan row (length at.before) lookups at.rest p
        → IsClaimHere catalog now n plan p claim
    claim_by claim is [] needs task = absurd (no_row claim _ p.task is task.0)
    claim_by claim is (l ∷ lookups) needs task =
        let same : task.0 ≡ claim = same_claim task.0 claim p.task task.2 is in
        record {
          row = row;
          hand = hand_at;
          before = at.before;
          l = l;
          lookups = lookups;
          needed = needs;
          claims = task.1;
          later = task.3;
          at = subst (IsClaimAt catalog now n plan (length at.before) l row) same task.4;
          made = task.5;
        }

    row_by : (insertion : Insertion) → p.task ≡ Some (tasks.Row insertion) → (lookups : List ℕ) → needed catalog plan.table row ≡ at.before ++ lookups → IsTaskAt catalog now n plan row (length at.before) lookups at.rest p
        → IsRowHere catalog now n plan p insertion
    row_by insertion is [] needs task = record {
      row = row;
      hand = hand_at;
      is = same_row insertion (insertion_of catalog plan.table row) p.task is task.0;
      later = task.1;
      ready = subst (IsReady catalog now n plan) (sym (ap length needs ∙ ap length (append-nil at.before))) task.2;
    }
    row_by insertion is (l ∷ lookups) needs task = absurd (no_row task.0 insertion p.task task.2 is)

  module _ {limits : Limits} (at : IsInsertAt catalog limits now n plan p) where
    claim_in : (claim : Claiming) → p.task ≡ Some (tasks.Claim claim) → (left : List Values) → plan.rows ≡ at.written ++ left → AreLeft catalog now n plan left p → IsClaimHere catalog now n plan p claim
    claim_in claim is [] all are = absurd (no_task (tasks.Claim claim) p.task is are)
    claim_in claim is (row ∷ rows) all are = claim_by at.written rows row all at.wrote are claim is are.lookups are.all are.task

    pub claim_here : {claim : Claiming} → p.task ≡ Some (tasks.Claim claim) → IsClaimHere catalog now n plan p claim
    claim_here is = claim_in _ is at.left at.rows at.stands

    row_in : (insertion : Insertion) → p.task ≡ Some (tasks.Row insertion) → (left : List Values) → plan.rows ≡ at.written ++ left → AreLeft catalog now n plan left p → IsRowHere catalog now n plan p insertion
    row_in insertion is [] all are = absurd (no_task (tasks.Row insertion) p.task is are)
    row_in insertion is (row ∷ rows) all are = row_by at.written rows row all at.wrote are insertion is are.lookups are.all are.task

    pub row_here : {insertion : Insertion} → p.task ≡ Some (tasks.Row insertion) → IsRowHere catalog now n plan p insertion
    row_here is = row_in _ is at.left at.rows at.stands
