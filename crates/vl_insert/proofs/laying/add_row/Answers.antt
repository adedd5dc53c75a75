use Rattle.std.proofs.Common.{List, [], ◌∷◌, ◌++◌, Some, ℕ, ap, sym, subst, ◌∙◌}
use Rattle.std.specs.Prelude.{Contains, filter}
use Rattle.vl_insert.specs.declared.outline.Outline.TheVariants as outlines
use Rattle.vl_insert.specs.declared.target.Target.{Target}
use Rattle.vl_insert.specs.Begun.{is_indexed_by, lookups_of}
use Rattle.vl_insert.specs.Laying.{LaysClaims}
use Rattle.vl_insert.proofs.Beginning.{lookups_found, whole_key}
use Rattle.vl_insert.proofs.Laid.{row_laid}
use Rattle.vl_insert.proofs.laying.add_row.Goals as goal

pub add_claims-requires-clause-indexed : goal.add_claims-requires-clause-indexed
add_claims-requires-clause-indexed c = λ l listed is.
    c.requires.indexed
    (whole_key c.args.catalog.now c.args.number c.args.row.now c.as_slice.result.now c.in-Some.table.now c.as_slice-2.result.now c.as_slice.ensures c.in-Some.ensures.lookup.3.0 c.in-Some.ensures.lookup.1 c.as_slice-2.ensures
    (sym c.lacks_one.ensures ∙ c.if-lacks_one.false)) l
    (subst (λ (ls : List ℕ). Contains ls l)
    (c.as_slice-3.ensures ∙ sym (lookups_found c.as_slice.result.now c.args.catalog.now c.args.number c.in-Some.table.now c.as_slice.ensures c.in-Some.ensures.lookup.3.0 c.in-Some.ensures.lookup.1)) listed) is

pub returns : goal.returns
returns c =
    row_laid c.args.catalog.now c.args.number c.args.row.now c.args.list.now.items c.add_claims.new.list.items c.push.new.self.items
    (subst (λ (ls : List ℕ). LaysClaims c.args.catalog.now c.args.row.now (filter (is_indexed_by c.args.catalog.now c.args.row.now) ls) c.args.list.now.items c.add_claims.new.list.items)
    (c.as_slice-3.ensures ∙ sym (lookups_found c.as_slice.result.now c.args.catalog.now c.args.number c.in-Some.table.now c.as_slice.ensures c.in-Some.ensures.lookup.3.0 c.in-Some.ensures.lookup.1)) c.in_ok-add_claims.ensures)
    (c.in_ok-push.ensures.items ∙ ap (λ (t : Target). c.add_claims.new.list.items ++ outlines.Row t ∷ []) c.in_ok-target.ensures)
