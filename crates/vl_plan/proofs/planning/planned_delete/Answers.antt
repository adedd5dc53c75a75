use Rattle.std.proofs.Common.{sym, ◌∙◌}
use Rattle.std.proofs.lemmas.Result.{IfErr-weaker, IfOk-weaker}
use Rattle.vl_sql.specs.declared.stmt.Stmt.TheVariants as stmts
use Rattle.vl_plan.proofs.Composing.{few_columns, few_tables, no_table, with_table}
use Rattle.vl_plan.proofs.Firsts.{first_same, handed_on}
use Rattle.vl_plan.proofs.planning.planned_delete.Goals as goal

pub table_of-requires : goal.table_of-requires
table_of-requires c = few_tables c.args.catalog.now c.requires.checked

pub delete-requires : goal.delete-requires
delete-requires c = few_columns c.args.catalog.now c.in_ok-number.number c.in_ok-number.table.now c.requires.checked c.in_ok-number.ensures.found.1

pub returns-in_err-number-clause-refused : goal.returns-in_err-number-clause-refused
returns-in_err-number-clause-refused c =
    handed_on c.from_residual.result c.in_err-number.field-0.0 _ c.from_residual.ensures.1
    (no_table c.args.catalog.now (stmts.Delete c.args.name.now c.args.tests.now) c.args.name.now c.in_err-number.field-0.0 c.in_err-number.ensures.unknown)

pub returns-clause-refused : goal.returns-clause-refused
returns-clause-refused c =
    IfErr-weaker c.delete.result _ _
    (λ cause h. first_same cause _ _
    (with_table c.args.catalog.now (stmts.Delete c.args.name.now c.args.tests.now) c.args.name.now c.in_ok-number.number c.in_ok-number.table.now c.in_ok-number.ensures.found.0 c.in_ok-number.ensures.found.1)
    (h c.args.name.now))
    c.delete.ensures.refused

pub returns-clause-planned : goal.returns-clause-planned
returns-clause-planned c =
    IfOk-weaker c.delete.result _ _
    (λ plan h. (
      sym (with_table c.args.catalog.now (stmts.Delete c.args.name.now c.args.tests.now) c.args.name.now c.in_ok-number.number c.in_ok-number.table.now c.in_ok-number.ensures.found.0 c.in_ok-number.ensures.found.1)
          ∙ (h c.args.name.now).0,
      (c.in_ok-number.number, c.in_ok-number.table.now, c.in_ok-number.ensures.found.0, c.in_ok-number.ensures.found.1, (h c.args.name.now).1),
    ))
    c.delete.ensures.planned
