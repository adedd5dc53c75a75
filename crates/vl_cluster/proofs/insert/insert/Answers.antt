-- Each way to answer is one of the table's steps.
use Rattle.std.proofs.Common.{◌≡◌, ℕ, ◌<◌, ◌⊎◌, List, length, sym, ◌∙◌, ap, subst, inl, inr, false, true, codes, length-set, Contains, refl, Option, Some, None}
use Rattle.std.specs.Option.{is_some, IfSome, IfNone}
use Rattle.vl_model.specs.CatalogA.{numeric}
use Rattle.vl_cluster.proofs.Finding.{shard_exists}
use Rattle.vl_values.specs.declared.reply.Reply.{Reply}
use Rattle.vl_values.specs.declared.cause.Cause.TheVariants.{OutOfMemory}
use Rattle.vl_values.specs.Reply.{refusal, done}
use Rattle.vl_model.specs.Steps.{Rows, t1_row, Inserts, IsFreeU, IsFreeId, duplicate, Done, HasU, HasId, NoRoom}
use Rattle.vl_cluster.specs.declared.line.Line.{Line}
use Rattle.vl_cluster.specs.Lists.{Lists, HasRow, with_row, with_entry, place_of, entry_for, all_rows}
use Rattle.vl_cluster.specs.Kept.{IsKept}
use Rattle.vl_cluster.proofs.Keeping.{kept_written}
use Rattle.vl_cluster.proofs.OneTable.{row_there, free_u, free_id, gains, rows_same}
use Rattle.vl_cluster.proofs.insert.insert.Goals as goal

-- a refusal told, or want of memory
refused : (old : Rows) (id u : ℕ) (why reply : Reply) → ((reply ≡ why) ⊎ (reply ≡ refusal OutOfMemory false)) → Inserts old id u old why → Inserts old id u old reply
refused old id u why reply (inl is) step = subst (Inserts old id u old) (sym is) step
refused old id u why reply (inr is) step = subst (Inserts old id u old) (sym is) (NoRoom refl)

step_u : (shards : List Lists) (s id u : ℕ) (row : Line) → HasRow shards s row → row.u ≡ u → Inserts (all_rows shards) id u (all_rows shards) (duplicate u (codes "t1_u") row.id)
step_u shards s id u row h is = HasU row.id (subst (λ (n : ℕ). Contains (all_rows shards) (t1_row row.id n)) is (row_there shards s row h)) refl

step_id : (shards : List Lists) (s id u : ℕ) (row : Line) → IsFreeU (all_rows shards) u → HasRow shards s row → row.id ≡ id → Inserts (all_rows shards) id u (all_rows shards) (duplicate id (codes "PRIMARY") id)
step_id shards s id u row free h is = HasId row.u free (subst (λ (n : ℕ). Contains (all_rows shards) (t1_row n row.u)) is (row_there shards s row h)) refl

pub returns-in-Some-clause-step : goal.returns-in-Some-clause-step
returns-in-Some-clause-step c =
    let found = c.in-Some.ensures.some in
    refused _ _ _ _ _ c.duplicate.ensures (step_u c.args.shards.now _ c.args.id c.args.u c.in-Some.row found.0 found.1)

-- where a row was found by its primary key
id_taken : (shards : List Lists) (id u : ℕ) (found : Option Line) → is_some found ≡ true → IsFreeU (all_rows shards) u
    → IfSome found (λ row. HasRow shards (place_of row.id) row × (row.id ≡ id)) → Inserts (all_rows shards) id u (all_rows shards) (duplicate id (codes "PRIMARY") id)
id_taken shards id u None some free h = absurd (cc)
id_taken shards id u (Some row) some free h = step_id shards (place_of row.id) id u row free h.0 h.1

no_row : (P : Type 0) (found : Option Line) → is_some found ≡ false → IfNone found P → P
no_row P None none h = h
no_row P (Some row) none h = absurd (cc)

pub returns-then-is_some-clause-step : goal.returns-then-is_some-clause-step
returns-then-is_some-clause-step c =
    refused _ _ _ _ _ c.duplicate-then-is_some.ensures
    (id_taken c.args.shards.now c.args.id c.args.u c.row_with_id.result (sym c.is_some.ensures ∙ c.if-is_some.true)
    (free_u c.args.shards.now c.args.u c.in_default.ensures.none) c.row_with_id.ensures.some)

place_within : (shards : List Lists) (n : ℕ) → IsKept shards → place_of n < length shards
place_within shards n kept = subst (λ (k : ℕ). place_of n < k) (sym kept.two) (shard_exists (numeric n))

-- the row was written with its entry
done_step : (shards new : List Lists) (row : Line) (reply : Reply) → IsKept shards → IsFreeU (all_rows shards) row.u → IsFreeId (all_rows shards) row.id
    → new ≡ with_row (with_entry shards (place_of row.u) (entry_for row)) (place_of row.id) row → reply ≡ done 1 false true → Inserts (all_rows shards) row.id row.u (all_rows new) reply
done_step shards new row reply kept u_free id_free is told =
    let e = with_entry shards (place_of row.u) (entry_for row) in
    let within : place_of row.id < length e = subst (λ (k : ℕ). place_of row.id < k) (sym (length-set shards (place_of row.u) _)) (place_within shards row.id kept) in
    let added = gains e (place_of row.id) row within in
    let same = rows_same shards (place_of row.u) (entry_for row) in
    subst (Inserts (all_rows shards) row.id row.u (all_rows new)) (sym told)
    (Done u_free id_free (added.0, added.1, sym same ∙ added.2, ap all_rows is ∙ added.3))

pub returns-in-Ok-clause-kept : goal.returns-in-Ok-clause-kept
returns-in-Ok-clause-kept c =
    subst IsKept (sym c.in-Ok.ensures.ok)
    (kept_written c.args.shards.now (record { id = c.args.id; u = c.args.u }) (place_within c.args.shards.now c.args.u c.requires) (place_within c.args.shards.now c.args.id c.requires) c.requires
    c.in_default.ensures.none (no_row _ c.row_with_id.result (sym c.is_some.ensures ∙ c.if-is_some.false) c.row_with_id.ensures.none))

pub returns-in-Ok-clause-step : goal.returns-in-Ok-clause-step
returns-in-Ok-clause-step c =
    done_step c.args.shards.now c.write.new.shards (record { id = c.args.id; u = c.args.u }) c.done.result c.requires
    (free_u c.args.shards.now c.args.u c.in_default.ensures.none)
    (free_id c.args.shards.now c.args.id (no_row _ c.row_with_id.result (sym c.is_some.ensures ∙ c.if-is_some.false) c.row_with_id.ensures.none))
    c.in-Ok.ensures.ok c.done.ensures

-- nothing was written for want of memory
no_room : (old new : List Lists) (id u : ℕ) (reply : Reply) → new ≡ old → reply ≡ refusal OutOfMemory false → Inserts (all_rows old) id u (all_rows new) reply
no_room old new id u reply same told = subst (Inserts (all_rows old) id u (all_rows new)) (sym told) (NoRoom (ap all_rows same))

pub returns-in-Err-clause-step : goal.returns-in-Err-clause-step
returns-in-Err-clause-step c = no_room c.args.shards.now c.write.new.shards c.args.id c.args.u c.refusal.result c.in-Err.ensures.err c.refusal.ensures
