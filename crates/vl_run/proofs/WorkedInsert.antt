-- A run that is one: a session joins and inserts a row into a table without lookups, which is a transaction of its own.
use Rattle.std.proofs.Common.{◌≡◌, ◌&&◌, if◌then◌else◌, nat_lt, length, ℕ, Bool, true, false, List, [], ◌∷◌, Option, Some, None, refl, sym, ap, arith, ◌∙◌}
use Rattle.std.proofs.lemmas.Bool.{eq-eqb}
use Rattle.vl_values.specs.declared.group.Group.TheVariants.{Main}
use Rattle.vl_values.specs.declared.key.Key.{Key}
use Rattle.vl_values.specs.declared.reply.Reply.TheVariants as replies
use Rattle.vl_values.specs.Keyed.{is_key}
use Rattle.vl_values.proofs.KeyOrder.{is_key-true}
use Rattle.vl_sql.specs.declared.stmt.Stmt.TheVariants as stmts
use Rattle.vl_sql.specs.declared.table.TableName.{TableName}
use Rattle.vl_catalog.specs.declared.catalog.Catalog.{Catalog}
use Rattle.vl_port.specs.declared.act.Act.TheVariants.{Insert}
use Rattle.vl_port.specs.declared.change.Change.{Change}
use Rattle.vl_port.specs.declared.limits.Limits.{Limits}
use Rattle.vl_port.specs.declared.who.Who.{Who}
use Rattle.vl_port.specs.View.{Values}
use Rattle.vl_plan.specs.declared.plan.Plan.TheVariants as plans
use Rattle.vl_plan.specs.Planned.{IsPlanned}
use Rattle.vl_statement.specs.Tallies.{first_over}
use Rattle.vl_run.specs.declared.deed.Deed.TheVariants as deeds
use Rattle.vl_run.specs.declared.ends.Ends.TheVariants as ends
use Rattle.vl_run.specs.declared.event.Event.{Event}
use Rattle.vl_run.specs.declared.mark.Mark.TheVariants as marks
use Rattle.vl_run.specs.declared.request.Request.TheVariants as requests
use Rattle.vl_run.specs.declared.tag.Tag.TheVariants as tags
use Rattle.vl_run.specs.declared.what.What.TheVariants as whats
use Rattle.vl_run.specs.Allowed.{Follows, HasNothing, IsRun, owns}
use Rattle.vl_run.specs.Allowed.IsDone.{DidAct, DidCommit}
use Rattle.vl_run.specs.Allowed.IsVisit.{ByAct, ByCommit}
use Rattle.vl_run.specs.Allowed.Opens.{First, Later}
use Rattle.vl_run.specs.Gathered.{shown}
use Rattle.vl_run.specs.Machine.{Cell, Clash, after, is_entry, is_on, key_place, let_go, of_tx, seen_in, settled_cell, taken_by, view}
use Rattle.vl_run.specs.Machine.Clash.{SameKey, SameValue}
use Rattle.vl_run.specs.Machine.Step.{Take}
use Rattle.vl_run.specs.Named.{key_in, needed}
use Rattle.vl_run.specs.Named.IsClaimOver.{None_}
use Rattle.vl_run.specs.Named.IsDue.{Inserts}
use Rattle.vl_run.specs.Named.Purpose.{Inserting}
use Rattle.vl_run.specs.Refused.{nothing_read}
use Rattle.vl_run.specs.Run.{Run, cells, rows_of, state}
use Rattle.vl_run.specs.Run.Point.{Happened}
use Rattle.vl_run.specs.Session.{Owned}
use Rattle.vl_run.proofs.Laws.{insert_takes}
use Rattle.vl_run.proofs.Worked.{joined_run, joins}

-- ---- the run

abbrev pub me : Who
me = of_tx 1 1 Main

abbrev pub own : Owned
own = record { number = 1; single = true }

module _ (catalog : Catalog) (limits : Limits) (t : TableName) (names : List (List ℕ)) (values : List Values) (number : ℕ) (row : Values)
    (planned : IsPlanned catalog (stmts.Insert t names values) (plans.Insert (record { table = number; rows = row ∷ [] })))
    (plain : needed catalog number row ≡ []) (room : nat_lt 0 limits.changes ≡ true) where
  abbrev pub key : Key
  key = key_in catalog number row

  abbrev pub shard : ℕ
  shard = key_place catalog key

  abbrev pub inserted : Event
  inserted = record { session = 1; request = requests.Say (stmts.Insert t names values); opens = Some 1; visits = Some shard; deed = deeds.Acts me shard (Insert key row) marks.Writes; fault = None; ends = ends.Nobody; told = tags.More }

  abbrev pub inserted_run : Run
  inserted_run = Happened inserted ∷ joined_run

  abbrev pub committed : Event
  committed = record { session = 1; request = requests.Step; opens = None; visits = Some shard; deed = deeds.Commits me shard; fault = None; ends = ends.Nobody; told = tags.Ok 1 1 0 false true }

  -- ---- nothing stands before

  none_seen : (who : Who) (b : Bool) → seen_in (if b then record { row = None; change = None; holder = None } else record { row = rows_of b None; change = None; holder = None }) who ≡ None
  none_seen who true = refl
  none_seen who false = refl

  shown_none : (who : Who) (k : Key) → view (shown catalog joined_run) who k ≡ None
  shown_none who k = none_seen who (is_entry catalog k)

  none_in : (who : Who) (b : Bool) → seen_in (record { row = rows_of b None; change = None; holder = None }) who ≡ None
  none_in who true = refl
  none_in who false = refl

  taken_same : (c : Cell) (who : Who) (b : Bool) → seen_in (if b then record c { holder = Some me } else c) who ≡ seen_in c who
  taken_same c who true = refl
  taken_same c who false = refl

  -- the keys that the row's write obtains
  abbrev keys : Key → Bool
  keys = taken_by catalog (cells catalog joined_run) shard (Insert key row)

  taken_none : (k : Key) → view (after catalog (Take me keys) (state catalog joined_run)) me k ≡ None
  taken_none k = taken_same (state catalog joined_run k) me (is_on catalog shard k && is_key key k) ∙ none_in me (is_entry catalog k)

  no_seen : (k : Key) (other : Values) → view (after catalog (Take me keys) (state catalog joined_run)) me k ≡ Some other → ⊥
  no_seen k other seen = absurd (none_some (sym (taken_none k) ∙ seen))
    where
      none_some : None ≡ Some other → ⊥
      none_some same = cc

  no_clash : Clash catalog (after catalog (Take me keys) (state catalog joined_run)) me key row None → ⊥
  no_clash (SameKey k other seen apart same) = no_seen k other seen
  no_clash (SameValue lookup c k other among unique column seen apart indexed other_indexed equal) = no_seen k other seen

  -- ---- the row

  abbrev kept_test : Option Owned → Bool
  kept_test None = true
  kept_test (Some o) = owns (Some own) o.number

  kept_owner : (o : Owned) → Some own ≡ Some o → owns (Some own) o.number ≡ true
  kept_owner o same = sym (ap kept_test same)

  never : true ≡ false → ⊥
  never same = cc

  is_home : is_on catalog shard key ≡ true
  is_home = eq-eqb shard shard refl

  inserts : Follows catalog limits joined_run inserted whats.More
  inserts = (
    record { joined = refl; below = omega arith },
    record {
      stmt = stmts.Insert t names values;
      asked = (refl, refl);
      opens = First refl refl (omega arith);
      done = DidAct Inserting me shard (Insert key row) marks.Writes
          (record {
            own = own;
            owns = refl;
            plan = plans.Insert (record { table = number; rows = row ∷ [] });
            planned = planned;
            due = Inserts (record { table = number; rows = row ∷ [] }) me shard (Insert key row)
                (record { row = row; is_row = refl; claimed = ap (λ (xs : List ℕ). length xs) (sym plain); over = None_ refl; by = refl; placed = refl; inserts = refl });
          })
          tt
          (shown_none me key);
      may = record { spared = refl; within = λ write. room; uncrossed = tt };
      visit = ByAct me shard (Insert key row) marks.Writes;
      ends = refl;
      steps = (λ k taken hand. absurd (cc), (((me, insert_takes catalog 1 1 shard key row (state catalog joined_run) (cells catalog joined_run) is_home, refl), no_clash), (tt, tt)));
      told = refl;
      allowed = (record { sound = refl; come = tt }, λ rows counts gathered. ap (λ (r : List (Key × Values)). first_over limits nothing_read r) gathered, λ plan over. absurd (cc));
      true_ = tt;
      left = λ o owned gone. absurd (never (sym (kept_owner o owned) ∙ gone));
    },
  )

  -- ---- its commit

  -- a cell after the row's write and the commit, by whether its key is on the shard and is the row's
  abbrev cell_after : Bool → Bool → Option Values → Cell
  cell_after on same before = let_go ends.Nobody shard (if on then settled_cell me (let_go ends.Nobody shard (written_cell on same before)) else let_go ends.Nobody shard (written_cell on same before))
    where
      taken_cell : Bool → Bool → Option Values → Cell
      taken_cell on same before = if on && same then record { row = before; change = None; holder = Some me } else record { row = before; change = None; holder = None }

      written_cell : Bool → Bool → Option Values → Cell
      written_cell on same before = if same then record (taken_cell on same before) { change = Some (record { who = me; row = Some row }) } else taken_cell on same before

  holder_goes : (on same : Bool) (before : Option Values) → (cell_after on same before).holder ≡ None
  holder_goes true true before = refl
  holder_goes true false before = refl
  holder_goes false true before = refl
  holder_goes false false before = refl

  change_goes : (on same : Bool) (before : Option Values) → (same ≡ true → on ≡ true) → (cell_after on same before).change ≡ None
  change_goes true true before home = refl
  change_goes true false before home = refl
  change_goes false true before home = absurd (never (sym (home refl)))
  change_goes false false before home = refl

  is_home_of : (k : Key) → is_key key k ≡ true → is_on catalog shard k ≡ true
  is_home_of k same = ap (λ (j : Key). is_on catalog shard j) (sym (is_key-true key k same)) ∙ is_home

  no_holder : {w : Who} → None ≡ Some w → ⊥
  no_holder same = cc

  no_change : {c : Change} → None ≡ Some c → ⊥
  no_change same = cc

  nothing_left : (tx : ℕ) → HasNothing (state catalog (Happened committed ∷ inserted_run)) tx
  nothing_left tx = record {
    hand = λ k who held same. no_holder (sym (holder_goes (is_on catalog shard k) (is_key key k) (rows_of (is_entry catalog k) None)) ∙ held);
    own = λ k change changed same. no_change (sym (change_goes (is_on catalog shard k) (is_key key k) (rows_of (is_entry catalog k) None) (is_home_of k)) ∙ changed);
  }

  commits : Follows catalog limits inserted_run committed (whats.Reply (replies.Ok 1 1 0 false true))
  commits = (
    record { joined = refl; below = omega arith },
    record {
      stmt = stmts.Insert t names values;
      asked = refl;
      opens = Later refl (λ same. absurd (cc));
      done = DidCommit (plans.Insert (record { table = number; rows = row ∷ [] })) own me shard planned refl refl refl (record { group = Main; due = refl; by = refl });
      may = refl;
      visit = ByCommit me shard;
      ends = refl;
      steps = (tt, (tt, tt));
      told = refl;
      allowed = record {
        plan = plans.Insert (record { table = number; rows = row ∷ [] });
        over = record { planned = planned; worked = refl; committed = refl };
        counted = (refl, refl);
        warned = refl;
        rowless = refl;
        within = λ rows counts gathered. ap (λ (r : List (Key × Values)). first_over limits nothing_read r) gathered;
        proceeds = record { sound = tt; come = tt };
      };
      true_ = (refl, refl);
      left = λ o owned gone. nothing_left o.number;
    },
  )

  pub inserts_a_row : IsRun catalog limits (Happened committed ∷ inserted_run)
  inserts_a_row = ((((tt, refl), (whats.More, joins catalog limits)), (whats.More, inserts)), (whats.Reply (replies.Ok 1 1 0 false true), commits))
