-- How an event moves the program of an UPDATE or a DELETE on, as the run has it.
use Rattle.std.proofs.Common.{◌≡◌, ◌∙◌, ◌≤◌, ◌+◌, ◌++◌, if◌then◌else◌, ℕ, suc, Bool, true, false, List, [], ◌∷◌, length, map, take, Option, Some, None, Contains, refl, sym, ap, arith}
use Rattle.std.specs.Prelude.{slice_get}
use Rattle.std.specs.List.{cons_option}
use Rattle.std.specs.Ordering.{is_eq}
use Rattle.std.proofs.lemmas.Bool.{eqb-true}
use Rattle.std.proofs.lemmas.List.{append-nil, length-append, length-map, map-append, take-append-le, take_more}
use Rattle.std.proofs.lemmas.List.Elements.{filter_map-append}
use Rattle.std.proofs.lemmas.Option.{get_or_from_slice_get, slice_get_within}
use Rattle.vl_values.specs.declared.group.Group.{Group}
use Rattle.vl_values.specs.declared.group.Group.TheVariants.{Main}
use Rattle.vl_values.specs.declared.key.Key.{Key}
use Rattle.vl_values.specs.declared.pred.Pred.{Pred}
use Rattle.vl_values.specs.Row.{row_cmp}
use Rattle.vl_catalog.specs.declared.catalog.Catalog.{Catalog}
use Rattle.vl_port.specs.declared.act.Act.{Act}
use Rattle.vl_port.specs.declared.act.Act.TheVariants.{Find, Put, Remove}
use Rattle.vl_port.specs.declared.limits.Limits.{Limits}
use Rattle.vl_port.specs.declared.who.Who.{Who}
use Rattle.vl_port.specs.View.{Values}
use Rattle.vl_model.specs.declared.route.Route.{Route}
use Rattle.vl_statement.specs.declared.tally.Tally.{Tally}
use Rattle.vl_statement.specs.Tallies.{counted, first_over}
use Rattle.vl_change.specs.declared.action.Action.{Action}
use Rattle.vl_change.specs.declared.row_change.RowChange.{RowChange}
use Rattle.vl_change.specs.declared.row_change.RowChange.TheVariants as changes
use Rattle.vl_change.specs.Changes.{writes_of}
use Rattle.vl_change.specs.Progress.{Progress, with_rows, with_try, with_write}
use Rattle.vl_run.specs.declared.deed.Deed.{Deed}
use Rattle.vl_run.specs.declared.deed.Deed.TheVariants as deeds
use Rattle.vl_run.specs.declared.event.Event.{Event}
use Rattle.vl_run.specs.declared.mark.Mark.TheVariants as marks
use Rattle.vl_run.specs.Allowed.{now_of}
use Rattle.vl_run.specs.Gathered.{Gathered, Reads, Rows, shown}
use Rattle.vl_run.specs.Machine.{Machine, key_place}
use Rattle.vl_run.specs.Named.{change_act, removals, set_in, updates, with_settings}
use Rattle.vl_run.specs.Progress.{change_by, changes_by, is_look, is_read, looked_on, read_on, with_changes, with_shard, wrote}
use Rattle.vl_run.specs.Deeds.{written_key}
use Rattle.vl_run.specs.Refused.{nothing_read}
use Rattle.vl_run.specs.Run.{Run}
use Rattle.vl_run.specs.Run.Point.{Happened}
use Rattle.vl_course.specs.Changing.{IsChangeAt, changes_of}
use Rattle.vl_course.proofs.Behind.{given_more, given_still, is_giving, sum_behind}
use Rattle.vl_course.proofs.Moves.{SaysSame, counted_more, over_more, or_none}

-- ---- the writes of rows that were read

changes_more : (change : RowChange) (rows more : Rows) → changes_of change (rows ++ more) ≡ changes_of change rows ++ changes_of change more
changes_more (changes.Set settings) rows more = filter_map-append (set_in settings) rows more
changes_more changes.Remove rows more = map-append (λ (row : Key × Values). (row.0, None)) rows more

-- each row stands on the shard that was read
abbrev pub AreOn : Catalog → ℕ → Rows → Type 0
AreOn catalog shard rows = (row : Key × Values) → Contains rows row → key_place catalog row.0 ≡ shard

pub reads_on : (catalog : Catalog) (u : Machine) (who : Who) (shard : ℕ) (pred : Pred) (rows : Rows) → Reads catalog u who shard pred rows → AreOn catalog shard rows
reads_on catalog u who shard pred rows read row among = eqb-true (key_place catalog row.0) shard (read.sound row among).2

rest_on : (catalog : Catalog) (shard : ℕ) (row : Key × Values) (rows : Rows) → AreOn catalog shard (row ∷ rows) → AreOn catalog shard rows
rest_on catalog shard row rows on other among = on other (suc among.0, omega (arith, among.1), among.2)

first_on : (catalog : Catalog) (shard : ℕ) (row : Key × Values) (rows : Rows) → AreOn catalog shard (row ∷ rows) → key_place catalog row.0 ≡ shard
first_on catalog shard row rows on = on row (0, omega arith, refl)

module _ (catalog : Catalog) (shard : ℕ) where
  abbrev act_of : Action → Act
  act_of action = action.act

  abbrev shard_of : Action → ℕ
  shard_of action = action.shard

  abbrev place_of : Key × Option Values → ℕ
  place_of it = key_place catalog it.0

  put_acts : (same : Bool) (key : Key) (old new : Values) (writes : List Action) (its : List (Key × Option Values)) → map act_of writes ≡ map change_act its
      → map act_of (cons_option (if same then None else Some (record { group = Main; shard = shard; act = Put key new; old = Some old })) writes) ≡ map change_act (cons_option (if same then None else Some (key, Some new)) its)
  put_acts true key old new writes its is = is
  put_acts false key old new writes its is = ap (λ (acts : List Act). Put key new ∷ acts) is

  put_places : (same : Bool) (key : Key) (old new : Values) (writes : List Action) (its : List (Key × Option Values)) → key_place catalog key ≡ shard → map shard_of writes ≡ map place_of its
      → map shard_of (cons_option (if same then None else Some (record { group = Main; shard = shard; act = Put key new; old = Some old })) writes) ≡ map place_of (cons_option (if same then None else Some (key, Some new)) its)
  put_places true key old new writes its on is = is
  put_places false key old new writes its on is = ap (λ (shards : List ℕ). shard ∷ shards) is ∙ ap (λ (k : ℕ). k ∷ map place_of its) (sym on)

  pub acts_as : (change : RowChange) (rows : Rows) → map act_of (writes_of change shard rows) ≡ map change_act (changes_of change rows)
  acts_as (changes.Set settings) [] = refl
  acts_as (changes.Set settings) (row ∷ rows) =
      put_acts (is_eq (row_cmp (with_settings settings row.1) row.1)) row.0 row.1 (with_settings settings row.1) (writes_of (changes.Set settings) shard rows) (updates settings rows) (acts_as (changes.Set settings) rows)
  acts_as changes.Remove [] = refl
  acts_as changes.Remove (row ∷ rows) = ap (λ (acts : List Act). Remove row.0 ∷ acts) (acts_as changes.Remove rows)

  pub places_as : (change : RowChange) (rows : Rows) → AreOn catalog shard rows → map shard_of (writes_of change shard rows) ≡ map place_of (changes_of change rows)
  places_as (changes.Set settings) [] on = refl
  places_as (changes.Set settings) (row ∷ rows) on =
      put_places (is_eq (row_cmp (with_settings settings row.1) row.1)) row.0 row.1 (with_settings settings row.1) (writes_of (changes.Set settings) shard rows) (updates settings rows) (first_on catalog shard row rows on)
      (places_as (changes.Set settings) rows (rest_on catalog shard row rows on))
  places_as changes.Remove [] on = refl
  places_as changes.Remove (row ∷ rows) on =
      ap (λ (shards : List ℕ). shard ∷ shards) (places_as changes.Remove rows (rest_on catalog shard row rows on)) ∙ ap (λ (k : ℕ). k ∷ map place_of (removals rows)) (sym (first_on catalog shard row rows on))

-- ---- two runs that say the same

module _ (catalog : Catalog) (limits : Limits) (now after : Run) (n : ℕ) (change : RowChange) (pred : Pred) (route : Route) (p : Progress) (says : SaysSame catalog now after n) (at : IsChangeAt catalog limits now n change pred route p) where
  pub change_stays : IsChangeAt catalog limits after n change pred route p
  change_stays = record {
    changes = at.changes;
    find = at.find;
    plain = at.plain;
    direct = at.direct;
    unlooked = says.looked ∙ at.unlooked;
    entries = says.entries [] at.entries;
    shards = at.shards;
    read = ap length says.read ∙ at.read;
    rows = at.rows;
    gathered = says.rows at.rows at.gathered;
    tallied = at.tallied;
    within = at.within;
    acts = at.acts;
    placed = at.placed;
    done = says.wrote ∙ at.done;
  }

  -- tries are no part of that
  pub change_tried : IsChangeAt catalog limits after n change pred route (with_try p)
  change_tried = record {
    changes = at.changes;
    find = at.find;
    plain = at.plain;
    direct = at.direct;
    unlooked = says.looked ∙ at.unlooked;
    entries = says.entries [] at.entries;
    shards = at.shards;
    read = ap length says.read ∙ at.read;
    rows = at.rows;
    gathered = says.rows at.rows at.gathered;
    tallied = at.tallied;
    within = at.within;
    acts = at.acts;
    placed = at.placed;
    done = says.wrote ∙ at.done;
  }

-- ---- the events of a session

written_by : (it : Key × Option Values) → change_by (change_act it) (written_key (change_act it)) ≡ it ∷ []
written_by (key, None) = refl
written_by (key, Some row) = refl

module _ (catalog : Catalog) (limits : Limits) (e : Event) (past : Run) (change : RowChange) (pred : Pred) (route : Route) (p : Progress) (at : IsChangeAt catalog limits (now_of e past) e.session change pred route p) (who : Who) (shard : ℕ) (act : Act) where
  -- rows were read
  pub found_more : (rows : Rows) → e.deed ≡ deeds.Acts who shard act marks.Reads → act ≡ Find pred true → Reads catalog (shown catalog past) who shard pred rows → Gathered catalog (Happened e ∷ past) e.session (at.rows ++ rows)
  found_more rows deed finds read =
      given_more e past catalog is_read at.rows rows who shard (Find pred true) marks.Reads (deed ∙ ap (λ (a : Act). deeds.Acts who shard a marks.Reads) finds) refl read at.gathered

  -- which limit they pass
  pub over_by : (rows : Rows) → first_over limits nothing_read (at.rows ++ rows) ≡ first_over limits p.search.tally rows
  over_by rows =
      over_more limits nothing_read at.rows rows ∙ or_none (first_over limits nothing_read at.rows) (first_over limits (counted nothing_read at.rows) rows) at.within
      ∙ ap (λ (t : Tally). first_over limits t rows) (sym at.tallied)

  many_changes : length p.writes ≡ length (changes_of change at.rows)
  many_changes = sym (length-map p.writes (λ (action : Action). action.act)) ∙ ap length at.acts ∙ length-map (changes_of change at.rows) change_act

  pub change_read : (rows : Rows) → e.deed ≡ deeds.Acts who shard act marks.Reads → act ≡ Find pred true → Reads catalog (shown catalog past) who shard pred rows → p.done ≤ length p.writes → first_over limits p.search.tally rows ≡ None
      → IsChangeAt catalog limits (Happened e ∷ past) e.session change pred route (with_rows shard rows p)
  change_read rows deed finds read done none =
      let its = changes_of change at.rows in
      let more = changes_of change rows in
      let writes : writes_of p.search.change shard rows ≡ writes_of change shard rows = ap (λ (c : RowChange). writes_of c shard rows) at.changes in
      record {
        changes = at.changes;
        find = at.find;
        plain = at.plain;
        direct = at.direct;
        unlooked = sum_behind e past [] (with_shard is_look) (λ before. refl) ∙ ap (λ (d : Deed). with_shard is_look d (looked_on (now_of e past) e.session)) deed ∙ at.unlooked;
        entries = given_still e past catalog is_look [] (ap (is_giving is_look) deed) at.entries;
        shards = at.shards;
        read = ap length (sum_behind e past [] (with_shard is_read) (λ before. refl) ∙ ap (λ (d : Deed). with_shard is_read d (read_on (now_of e past) e.session)) deed) ∙ length-append (read_on (now_of e past) e.session) (shard ∷ [])
            ∙ ap (λ (k : ℕ). k + 1) at.read;
        rows = at.rows ++ rows;
        gathered = found_more rows deed finds read;
        tallied = ap (λ (t : Tally). counted t rows) at.tallied ∙ sym (counted_more nothing_read at.rows rows);
        within = over_by rows ∙ none;
        acts = map-append (λ (action : Action). action.act) p.writes (writes_of p.search.change shard rows) ∙ ap (λ (acts : List Act). acts ++ map (λ (action : Action). action.act) (writes_of p.search.change shard rows)) at.acts
            ∙ ap (λ (ws : List Action). map change_act its ++ map (λ (action : Action). action.act) ws) writes ∙ ap (λ (acts : List Act). map change_act its ++ acts) (acts_as catalog shard change rows)
            ∙ sym (ap (map change_act) (changes_more change at.rows rows) ∙ map-append change_act its more);
        placed = map-append (λ (action : Action). action.shard) p.writes (writes_of p.search.change shard rows) ∙ ap (λ (shards : List ℕ). shards ++ map (λ (action : Action). action.shard) (writes_of p.search.change shard rows)) at.placed
            ∙ ap (λ (ws : List Action). map (λ (it : Key × Option Values). key_place catalog it.0) its ++ map (λ (action : Action). action.shard) ws) writes
            ∙ ap (λ (shards : List ℕ). map (λ (it : Key × Option Values). key_place catalog it.0) its ++ shards) (places_as catalog shard change rows (reads_on catalog (shown catalog past) who shard pred rows read))
            ∙ sym (ap (map (λ (it : Key × Option Values). key_place catalog it.0)) (changes_more change at.rows rows) ∙ map-append (λ (it : Key × Option Values). key_place catalog it.0) its more);
        done = sum_behind e past [] with_changes (λ before. refl) ∙ ap (λ (d : Deed). with_changes d (wrote (now_of e past) e.session)) deed ∙ append-nil (wrote (now_of e past) e.session) ∙ at.done
            ∙ sym (ap (take p.done) (changes_more change at.rows rows) ∙ take-append-le p.done its more (omega (arith, done, many_changes)));
      }

  -- a row was written
  pub change_wrote : (it : Key × Option Values) → e.deed ≡ deeds.Acts who shard act marks.Writes → who.group ≡ Some Main → act ≡ change_act it → slice_get (changes_of change at.rows) p.done ≡ Some it
      → IsChangeAt catalog limits (Happened e ∷ past) e.session change pred route (with_write p)
  change_wrote it deed main writes here =
      let its = changes_of change at.rows in
      record {
        changes = at.changes;
        find = at.find;
        plain = at.plain;
        direct = at.direct;
        unlooked = sum_behind e past [] (with_shard is_look) (λ before. refl) ∙ ap (λ (d : Deed). with_shard is_look d (looked_on (now_of e past) e.session)) deed ∙ at.unlooked;
        entries = given_still e past catalog is_look [] (ap (is_giving is_look) deed) at.entries;
        shards = at.shards;
        read = ap length (sum_behind e past [] (with_shard is_read) (λ before. refl) ∙ ap (λ (d : Deed). with_shard is_read d (read_on (now_of e past) e.session)) deed) ∙ at.read;
        rows = at.rows;
        gathered = given_still e past catalog is_read at.rows (ap (is_giving is_read) deed) at.gathered;
        tallied = at.tallied;
        within = at.within;
        acts = at.acts;
        placed = at.placed;
        done = sum_behind e past [] with_changes (λ before. refl) ∙ ap (λ (d : Deed). with_changes d (wrote (now_of e past) e.session)) deed
            ∙ ap (λ (g : Option Group). wrote (now_of e past) e.session ++ changes_by marks.Writes g act) main ∙ ap (λ (a : Act). wrote (now_of e past) e.session ++ change_by a (written_key a)) writes
            ∙ ap (λ (more : List (Key × Option Values)). wrote (now_of e past) e.session ++ more) (written_by it) ∙ ap (λ (before : List (Key × Option Values)). before ++ it ∷ []) at.done
            ∙ sym (take_more its p.done it (slice_get_within its p.done it here) ∙ ap (λ (last : Key × Option Values). take p.done its ++ last ∷ []) (get_or_from_slice_get its p.done it it here));
      }
