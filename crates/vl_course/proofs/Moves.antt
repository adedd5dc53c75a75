-- How an event moves the program of a SELECT on, as the run has it.
use Rattle.std.proofs.Common.{◌≡◌, ◌∙◌, ◌+◌, ◌++◌, ℕ, false, List, [], ◌∷◌, length, Option, Some, None, refl, sym, ap, arith}
use Rattle.std.specs.Prelude.{nat_lt}
use Rattle.std.specs.List.{filter_map}
use Rattle.std.specs.Option.{option_or}
use Rattle.std.proofs.lemmas.List.{append-nil, length-append}
use Rattle.std.proofs.lemmas.List.Elements.{filter_map-append}
use Rattle.vl_values.specs.declared.key.Key.{Key}
use Rattle.vl_values.specs.declared.limit.Limit.{Limit as Quantity}
use Rattle.vl_catalog.specs.declared.catalog.Catalog.{Catalog}
use Rattle.vl_port.specs.declared.act.Act.{Act}
use Rattle.vl_port.specs.declared.limits.Limits.{Limits}
use Rattle.vl_port.specs.declared.who.Who.{Who}
use Rattle.vl_port.specs.View.{Values}
use Rattle.vl_model.specs.declared.route.Route.{Route}
use Rattle.vl_plan.specs.declared.projection.Projection.{Projection}
use Rattle.vl_plan.specs.declared.projection.Projection.TheVariants as projections
use Rattle.vl_plan.specs.declared.select_plan.SelectPlan.{SelectPlan}
use Rattle.vl_statement.specs.declared.tally.Tally.{Tally}
use Rattle.vl_statement.specs.Tallies.{counted, first_over, over, with_row}
use Rattle.vl_select.specs.Progress.{Progress, kept, named_on, passed, shards_known, tallied, with_entries, with_rows, with_try}
use Rattle.vl_run.specs.declared.deed.Deed.{Deed}
use Rattle.vl_run.specs.declared.deed.Deed.TheVariants as deeds
use Rattle.vl_run.specs.declared.event.Event.{Event}
use Rattle.vl_run.specs.declared.mark.Mark.TheVariants as marks
use Rattle.vl_run.specs.Allowed.{now_of}
use Rattle.vl_run.specs.Gathered.{Gathered, Looked, ReadsBy, Rows, shown}
use Rattle.vl_run.specs.Named.{ksid_on}
use Rattle.vl_run.specs.Progress.{is_look, is_read, looked_on, read_on, with_changes, with_shard, wrote}
use Rattle.vl_run.specs.Refused.{nothing_read}
use Rattle.vl_run.specs.Run.{Run}
use Rattle.vl_run.specs.Run.Point.{Happened}
use Rattle.vl_course.specs.Selecting.{HasGathered, HasLooked, IsSelectAt}
use Rattle.vl_course.proofs.Behind.{given_more, given_still, is_giving, no_shard, sum_behind}
use Rattle.vl_course.proofs.Reading.{named_as}

-- ---- rows behind others

kept_more : (what : Projection) (rows more : Rows) → kept what (rows ++ more) ≡ kept what rows ++ kept what more
kept_more projections.All rows more = refl
kept_more projections.Count rows more = refl
kept_more (projections.Columns columns) rows more = refl

pub counted_more : (tally : Tally) (rows more : Rows) → counted tally (rows ++ more) ≡ counted (counted tally rows) more
counted_more tally [] more = refl
counted_more tally (row ∷ rows) more = counted_more (with_row tally row.1) rows more

tallied_more : (what : Projection) (tally : Tally) (rows more : Rows) → tallied what tally (rows ++ more) ≡ tallied what (tallied what tally rows) more
tallied_more projections.All tally rows more = counted_more tally rows more
tallied_more projections.Count tally rows more =
    let same : tally.rows + length (rows ++ more) ≡ tally.rows + length rows + length more = omega (arith, length-append rows more) in
    ap (λ (n : ℕ). record tally { rows = n }) same
tallied_more (projections.Columns columns) tally rows more = counted_more tally rows more

pub or_none : {A : Type 0} (o p : Option A) → o ≡ None → option_or o p ≡ p
or_none o p none = ap (λ (it : Option _). option_or it p) none

or_assoc : {A : Type 0} (o p q : Option A) → option_or (option_or o p) q ≡ option_or o (option_or p q)
or_assoc None p q = refl
or_assoc (Some x) p q = refl

pub over_more : (limits : Limits) (tally : Tally) (rows more : Rows) → first_over limits tally (rows ++ more) ≡ option_or (first_over limits tally rows) (first_over limits (counted tally rows) more)
over_more limits tally [] more = refl
over_more limits tally (row ∷ rows) more =
    ap (λ (o : Option (Quantity × ℕ)). option_or (over limits tally row.1) o) (over_more limits (with_row tally row.1) rows more)
    ∙ sym (or_assoc (over limits tally row.1) (first_over limits (with_row tally row.1) rows) (first_over limits (counted (with_row tally row.1) rows) more))

-- the first row that passes a limit is one of those behind
pub passed_more : (what : Projection) (limits : Limits) (tally : Tally) (rows more : Rows) → passed what limits tally rows ≡ None → passed what limits tally (rows ++ more) ≡ passed what limits (tallied what tally rows) more
passed_more projections.All limits tally rows more none = over_more limits tally rows more ∙ or_none (first_over limits tally rows) (first_over limits (counted tally rows) more) none
passed_more projections.Count limits tally rows more none = refl
passed_more (projections.Columns columns) limits tally rows more none = over_more limits tally rows more ∙ or_none (first_over limits tally rows) (first_over limits (counted tally rows) more) none

-- ---- two runs that say the same of a statement's reads

pub record SaysSame (catalog : Catalog) (now after : Run) (n : ℕ) : Type 0 where
  pub looked : looked_on after n ≡ looked_on now n
  pub read : read_on after n ≡ read_on now n
  pub wrote : wrote after n ≡ wrote now n
  pub entries : (rows : Rows) → Looked catalog now n rows → Looked catalog after n rows
  pub rows : (rows : Rows) → Gathered catalog now n rows → Gathered catalog after n rows

module _ (catalog : Catalog) (limits : Limits) (now after : Run) (n : ℕ) (plan : SelectPlan) (p : Progress) (says : SaysSame catalog now after n) (at : IsSelectAt catalog limits now n plan p) where
  gathered_stays : HasGathered catalog limits after n p
  gathered_stays = record {
    rows = at.gathered.rows;
    gathered = says.rows at.gathered.rows at.gathered.gathered;
    kept = at.gathered.kept;
    tallied = at.gathered.tallied;
    within = at.gathered.within;
  }

  pub select_stays : IsSelectAt catalog limits after n plan p
  select_stays = record {
    table = at.table;
    what = at.what;
    sorts = at.sorts;
    limit = at.limit;
    route = at.route;
    find = at.find;
    group = at.group;
    entries = at.entries;
    looked = ap length says.looked ∙ at.looked;
    ksids = record { entries = at.ksids.entries; looked = says.entries at.ksids.entries at.ksids.looked; named = at.ksids.named };
    shards = at.shards;
    read = ap length says.read ∙ at.read;
    gathered = gathered_stays;
    unwritten = says.wrote ∙ at.unwritten;
  }

  -- tries are no part of that
  pub select_tried : IsSelectAt catalog limits after n plan (with_try p)
  select_tried = record {
    table = at.table;
    what = at.what;
    sorts = at.sorts;
    limit = at.limit;
    route = at.route;
    find = at.find;
    group = at.group;
    entries = at.entries;
    looked = ap length says.looked ∙ at.looked;
    ksids = record { entries = at.ksids.entries; looked = says.entries at.ksids.entries at.ksids.looked; named = at.ksids.named };
    shards = at.shards;
    read = ap length says.read ∙ at.read;
    gathered = record {
      rows = at.gathered.rows;
      gathered = says.rows at.gathered.rows at.gathered.gathered;
      kept = at.gathered.kept;
      tallied = at.gathered.tallied;
      within = at.gathered.within;
    };
    unwritten = says.wrote ∙ at.unwritten;
  }

-- ---- the events of a session

module _ (catalog : Catalog) (e : Event) (past : Run) where
  -- an event that reads and writes nothing
  pub says_same : is_giving is_look e.deed ≡ false → is_giving is_read e.deed ≡ false → ((before : List (Key × Option Values)) → with_changes e.deed before ≡ before) → SaysSame catalog (now_of e past) (Happened e ∷ past) e.session
  says_same looks reads writes = record {
    looked = sum_behind e past [] (with_shard is_look) (λ before. refl) ∙ no_shard is_look e.deed (looked_on (now_of e past) e.session) looks;
    read = sum_behind e past [] (with_shard is_read) (λ before. refl) ∙ no_shard is_read e.deed (read_on (now_of e past) e.session) reads;
    wrote = sum_behind e past [] with_changes (λ before. refl) ∙ writes (wrote (now_of e past) e.session);
    entries = λ rows given. given_still e past catalog is_look rows looks given;
    rows = λ rows given. given_still e past catalog is_read rows reads given;
  }

  pub says_idle : e.deed ≡ deeds.Nothing → SaysSame catalog (now_of e past) (Happened e ∷ past) e.session
  says_idle none = says_same (ap (is_giving is_look) none) (ap (is_giving is_read) none) (λ before. ap (λ (d : Deed). with_changes d before) none)

  pub says_opened : (who : Who) (shard : ℕ) (act : Act) → e.deed ≡ deeds.Acts who shard act marks.Opens → SaysSame catalog (now_of e past) (Happened e ∷ past) e.session
  says_opened who shard act opens =
      says_same (ap (is_giving is_look) opens) (ap (is_giving is_read) opens) (λ before. ap (λ (d : Deed). with_changes d before) opens ∙ append-nil before)

  module _ (limits : Limits) (plan : SelectPlan) (p : Progress) (at : IsSelectAt catalog limits (now_of e past) e.session plan p) (who : Who) (shard : ℕ) (act : Act) where
    one_more : (shards : List ℕ) → length (shards ++ shard ∷ []) ≡ length shards + 1
    one_more shards = length-append shards (shard ∷ [])

    -- entries were read
    looked_more : (entries : Rows) → e.deed ≡ deeds.Acts who shard act marks.Looks → ReadsBy catalog (shown catalog past) who shard act entries → HasLooked catalog (Happened e ∷ past) e.session plan.route (p.ksids ++ filter_map (named_on catalog p.route) entries)
    looked_more entries deed read = record {
      entries = at.ksids.entries ++ entries;
      looked = given_more e past catalog is_look at.ksids.entries entries who shard act marks.Looks deed refl read at.ksids.looked;
      named = ap (λ (ksids : List (List ℕ)). ksids ++ filter_map (named_on catalog p.route) entries) at.ksids.named
          ∙ ap (λ (route : Route). filter_map (ksid_on catalog plan.route) at.ksids.entries ++ filter_map (named_on catalog route) entries) at.route
          ∙ ap (λ (ksids : List (List ℕ)). filter_map (ksid_on catalog plan.route) at.ksids.entries ++ ksids) (named_as catalog plan.route entries)
          ∙ sym (filter_map-append (ksid_on catalog plan.route) at.ksids.entries entries);
    }

    pub select_looked : (entries : Rows) → e.deed ≡ deeds.Acts who shard act marks.Looks → ReadsBy catalog (shown catalog past) who shard act entries → IsSelectAt catalog limits (Happened e ∷ past) e.session plan (with_entries catalog entries p)
    select_looked entries deed read =
        let ksids = p.ksids ++ filter_map (named_on catalog p.route) entries in
        let left = nat_lt (p.looked + 1) (length p.entries) in
        record {
          table = at.table;
          what = at.what;
          sorts = at.sorts;
          limit = at.limit;
          route = at.route;
          find = at.find;
          group = at.group;
          entries = at.entries;
          looked = ap length (sum_behind e past [] (with_shard is_look) (λ before. refl) ∙ ap (λ (d : Deed). with_shard is_look d (looked_on (now_of e past) e.session)) deed) ∙ one_more (looked_on (now_of e past) e.session)
              ∙ ap (λ (k : ℕ). k + 1) at.looked;
          ksids = looked_more entries deed read;
          shards = ap (λ (t : ℕ). shards_known catalog t p.route left ksids) at.table ∙ ap (λ (r : Route). shards_known catalog plan.pred.table r left ksids) at.route;
          read = ap length (sum_behind e past [] (with_shard is_read) (λ before. refl) ∙ ap (λ (d : Deed). with_shard is_read d (read_on (now_of e past) e.session)) deed) ∙ at.read;
          gathered = record {
            rows = at.gathered.rows;
            gathered = given_still e past catalog is_read at.gathered.rows (ap (is_giving is_read) deed) at.gathered.gathered;
            kept = at.gathered.kept;
            tallied = at.gathered.tallied;
            within = at.gathered.within;
          };
          unwritten = sum_behind e past [] with_changes (λ before. refl) ∙ ap (λ (d : Deed). with_changes d (wrote (now_of e past) e.session)) deed ∙ append-nil (wrote (now_of e past) e.session) ∙ at.unwritten;
        }

    -- rows were read
    pub rows_more : (rows : Rows) → e.deed ≡ deeds.Acts who shard act marks.Reads → ReadsBy catalog (shown catalog past) who shard act rows → Gathered catalog (Happened e ∷ past) e.session (at.gathered.rows ++ rows)
    rows_more rows deed read = given_more e past catalog is_read at.gathered.rows rows who shard act marks.Reads deed refl read at.gathered.gathered

    -- which limit they pass
    pub passed_by : (rows : Rows) → passed p.what limits nothing_read (at.gathered.rows ++ rows) ≡ passed p.what limits p.tally rows
    passed_by rows = passed_more p.what limits nothing_read at.gathered.rows rows at.gathered.within ∙ ap (λ (t : Tally). passed p.what limits t rows) (sym at.gathered.tallied)

    pub select_read : (rows : Rows) → e.deed ≡ deeds.Acts who shard act marks.Reads → ReadsBy catalog (shown catalog past) who shard act rows → passed p.what limits p.tally rows ≡ None → IsSelectAt catalog limits (Happened e ∷ past) e.session plan (with_rows rows p)
    select_read rows deed read none = record {
      table = at.table;
      what = at.what;
      sorts = at.sorts;
      limit = at.limit;
      route = at.route;
      find = at.find;
      group = at.group;
      entries = at.entries;
      looked = ap length (sum_behind e past [] (with_shard is_look) (λ before. refl) ∙ ap (λ (d : Deed). with_shard is_look d (looked_on (now_of e past) e.session)) deed) ∙ at.looked;
      ksids = record {
        entries = at.ksids.entries;
        looked = given_still e past catalog is_look at.ksids.entries (ap (is_giving is_look) deed) at.ksids.looked;
        named = at.ksids.named;
      };
      shards = at.shards;
      read = ap length (sum_behind e past [] (with_shard is_read) (λ before. refl) ∙ ap (λ (d : Deed). with_shard is_read d (read_on (now_of e past) e.session)) deed) ∙ one_more (read_on (now_of e past) e.session)
          ∙ ap (λ (k : ℕ). k + 1) at.read;
      gathered = record {
        rows = at.gathered.rows ++ rows;
        gathered = rows_more rows deed read;
        kept = ap (λ (rs : Rows). rs ++ kept p.what rows) at.gathered.kept ∙ sym (kept_more p.what at.gathered.rows rows);
        tallied = ap (λ (t : Tally). tallied p.what t rows) at.gathered.tallied ∙ sym (tallied_more p.what nothing_read at.gathered.rows rows);
        within = passed_by rows ∙ none;
      };
      unwritten = sum_behind e past [] with_changes (λ before. refl) ∙ ap (λ (d : Deed). with_changes d (wrote (now_of e past) e.session)) deed ∙ append-nil (wrote (now_of e past) e.session) ∙ at.unwritten;
    }
