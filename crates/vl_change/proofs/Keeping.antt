-- A program stays one that was made from its plan, through each step after which it goes on.
use Rattle.std.proofs.Common.{◌≡◌, ℕ, ◌+◌, ◌<◌, ◌≤◌, inl, inr, Bool, true, List, [], ◌∷◌, length, get_or, Some, sym, ◌∙◌, subst, arith, length-append}
use Rattle.std.specs.Prelude.{Contains, ◌&&◌, ◌==◌, slice_get}
use Rattle.std.proofs.lemmas.Bool.{and_parts, eqb-true}
use Rattle.std.proofs.lemmas.List.Elements.{Contains-append_cases}
use Rattle.std.proofs.lemmas.Option.{get_or_from_slice_get, slice_get_within}
use Rattle.vl_values.specs.declared.key.Key.{Key}
use Rattle.vl_values.specs.Pred.{matches}
use Rattle.vl_catalog.specs.declared.catalog.Catalog.{Catalog}
use Rattle.vl_rules.specs.Order.{Checked}
use Rattle.vl_port.specs.declared.answer.Answer.{Answer}
use Rattle.vl_port.specs.declared.answer.Answer.TheVariants.{Rows}
use Rattle.vl_port.specs.declared.act.Act.{Act}
use Rattle.vl_port.specs.declared.who.Who.{Who}
use Rattle.vl_port.specs.Acting.{Acted}
use Rattle.vl_port.specs.Placing.{ArePlaced}
use Rattle.vl_port.specs.Reading.{IsRead}
use Rattle.vl_port.specs.View.{View, Values}
use Rattle.vl_port.proofs.Placed.{read_placed}
use Rattle.vl_change.specs.declared.action.Action.{Action}
use Rattle.vl_change.specs.declared.search.Search.{Search}
use Rattle.vl_statement.specs.declared.tally.Tally.{Tally}
use Rattle.vl_statement.specs.Tallies.{counted, with_row}
use Rattle.vl_change.specs.Changes.{writes_of}
use Rattle.vl_change.specs.Making.{IsAction, IsMade, IsSearch}
use Rattle.vl_change.specs.Progress.{Progress, with_rows, with_try, with_write}
use Rattle.vl_change.proofs.Dues.{IsDue, done_writes, rows_read}
use Rattle.vl_change.proofs.Finding.{pairs_append, write_fits, write_from, write_is, writes_few, writes_ordered}
use Rattle.vl_change.proofs.Goings.{Read, Waited, Went, Wrote}

-- ---- a write, and a try

written_keeps : (catalog : Catalog) (count limit : ℕ) (p : Progress) (action : Action) → IsMade catalog count limit p → slice_get p.writes p.done ≡ Some action → IsMade catalog count limit (with_write p)
written_keeps catalog count limit p action made at = record {
  writes = made.writes;
  done = omega (arith, slice_get_within p.writes p.done action at);
  search = made.search;
  tries = omega (arith, made.tries);
}

tried_keeps : (catalog : Catalog) (count limit : ℕ) (p : Progress) → IsMade catalog count limit p → p.tries + 1 < limit → IsMade catalog count limit (with_try p)
tried_keeps catalog count limit p made below = record { writes = made.writes; done = made.done; search = made.search; tries = below }

-- ---- a read

-- the rows that a read gave are counted
tally_counts : (tally : Tally) (rows : List (Key × Values)) → (counted tally rows).rows ≡ tally.rows + length rows
tally_counts tally [] = omega arith
tally_counts tally (row ∷ rows) = omega (arith, tally_counts (with_row tally row.1) rows)

-- the rows of a read that was due
pub record HasRead (catalog : Catalog) (count : ℕ) (p : Progress) (view : View) (who : Who) (shard : ℕ) (rows : List (Key × Values)) : Type 0 where
  pub at : slice_get p.search.shards p.search.read ≡ Some shard
  pub find : (is : IsSearch catalog count p.search p.writes) → IsRead view who is.pred rows

table_is : (number : ℕ) (table : ℕ) (b : Bool) → ((table == number) && b) ≡ true → table ≡ number
table_is number table b h = eqb-true table number (and_parts (table == number) b h).0

read_keeps : (catalog : Catalog) (count limit : ℕ) (p : Progress) (view : View) (who : Who) (shard : ℕ) (rows : List (Key × Values)) → Checked catalog → ArePlaced catalog shard view
    → IsMade catalog count limit p → HasRead catalog count p view who shard rows → IsMade catalog count limit (with_rows shard rows p)
read_keeps catalog count limit p view who shard rows checked placed made read =
    let search = p.search in
    let s = made.search in
    let given = read.find s in
    let within = slice_get_within search.shards search.read shard read.at in
    let in_count = s.within shard (search.read, within, get_or_from_slice_get search.shards search.read shard shard read.at) in
    let fits : (action : Action) → Contains (writes_of search.change shard rows) action → IsAction catalog count action =
    λ action among.
    let from = write_from search.change shard rows action among in
    let sound = given.sound from.found from.among in
    write_fits catalog count s.pred.table search.change shard from.found action checked in_count s.change (table_is s.pred.table from.found.0.table (matches s.pred from.found.1) sound.1)
    (read_placed catalog shard view who s.pred rows from.found placed given from.among) from.gives in
    let on_shard : (action : Action) → Contains (writes_of search.change shard rows) action → action.shard ≡ shard =
    λ action among. let from = write_from search.change shard rows action among in (write_is search.change shard from.found action from.gives).shard_is in
    let before : (action : Action) → Contains p.writes action → action.shard < shard = λ action among. s.behind action search.read shard among (omega arith) read.at in
    let ascends : (n other : ℕ) → search.read + 1 ≤ n → slice_get search.shards n ≡ Some other → shard < other =
    λ n other from at.
    let far = slice_get_within search.shards n other at in
    let lower : get_or search.shards search.read 0 ≡ shard = get_or_from_slice_get search.shards search.read shard 0 read.at in
    let upper : get_or search.shards n 0 ≡ other = get_or_from_slice_get search.shards n other 0 at in
    omega (arith, s.ascending search.read n 0 (omega (arith, from)) far, lower, upper) in
    record {
      writes = λ action among. elim (Contains-append_cases p.writes (writes_of search.change shard rows) action among) [ inl it ↦ made.writes action it | inr it ↦ fits action it ];
      done = omega (arith, made.done, length-append p.writes (writes_of search.change shard rows));
      search = record {
        pred = s.pred;
        find = s.find;
        fits = s.fits;
        change = s.change;
        within = s.within;
        ascending = s.ascending;
        read = omega (arith, within);
        counted = omega (arith, s.counted, length-append p.writes (writes_of search.change shard rows), writes_few search.change shard rows, tally_counts search.tally rows);
        behind = λ action n other among from at. elim (Contains-append_cases p.writes (writes_of search.change shard rows) action among) [
          | inl it ↦ s.behind action n other it (omega (arith, from)) at
          | inr it ↦ omega (arith, on_shard action it, ascends n other from at)
        ];
        ordered = pairs_append p.writes (writes_of search.change shard rows) s.ordered (writes_ordered search.change shard rows given.ordered)
            (λ one other a b. inl (omega (arith, before one a, on_shard other b)));
      };
      tries = omega (arith, made.tries);
    }

-- the rows of a locking read are those that it gave
pub read_given : (catalog : Catalog) (count : ℕ) (search : Search) (old new : View) (who : Who) (act : Act) (rows : List (Key × Values)) (writes : List Action) (is : IsSearch catalog count search writes)
    → act ≡ search.find → Acted old who act (Rows rows) new → IsRead old who is.pred rows
read_given catalog count search old new who act rows writes is same acted = (subst (λ (a : Act). Acted old who a (Rows rows) new) (same ∙ is.find) acted).1

-- ---- the whole

pub went_keeps : (catalog : Catalog) (count limit : ℕ) (p new : Progress) (action : Action) (answer : Answer) (view after : View) (who : Who) → Checked catalog → ArePlaced catalog action.shard view → IsMade catalog count limit p
    → IsDue p action → Acted view who action.act answer after → Went p action limit new answer → IsMade catalog count limit new
went_keeps catalog count limit p new action answer view after who checked placed made is_due acted (Wrote is) =
    subst (IsMade catalog count limit) (sym is) (written_keeps catalog count limit p action made (done_writes catalog count limit p action who view after made is_due acted))
went_keeps catalog count limit p new action answer view after who checked placed made is_due acted (Read rows is) =
    let due = rows_read catalog count limit p action who view after rows made is_due acted in
    subst (IsMade catalog count limit) (sym is)
    (read_keeps catalog count limit p view who action.shard rows checked placed made
    (record { at = due.at; find = λ it. read_given catalog count p.search view after who action.act rows p.writes it due.same acted }))
went_keeps catalog count limit p new action answer view after who checked placed made is_due acted (Waited by key is below) = subst (IsMade catalog count limit) (sym is) (tried_keeps catalog count limit p made below)
